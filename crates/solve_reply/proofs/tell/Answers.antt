-- `tell` shows the answer for a legal placement: its loads are listed, and the lines are laid.
use Prim.Native.Nat.{ℕ}
use native.Mathlib.Omega.{arith}
use mathlib.Core.Path.{refl, ap, ◌∙◌}
use mathlib.Core.List.{List}
use lib.ListN.{length-replicate}
use Rattle.answer.specs.Text.{answer_text}
use Rattle.answer.proofs.Laying.{laid_as}
use Rattle.reply.proofs.Showing.{shown}
use Rattle.solve_reply.proofs.Listing.{drives_listed, heard}
use Rattle.solve_reply.proofs.tell.Goals as goal

pub unwrap-listed-requires : goal.unwrap-listed-requires
unwrap-listed-requires c = let (e, _) = drives_listed c.requires.given c.list_drives.ensures (omega (arith, length-replicate {A = ℕ} 4096 0)) in rw e refl

pub returns : goal.returns
returns c =
    let h = heard c.requires.given c.list_drives.ensures c.unwrap-listed.ensures in
    let told = ap (λ (l : List ℕ). answer_text c.args.placement.now.wires.now c.args.placement.now.offsets.now l c.unwrap-listed.result.source) h.loads ∙ ap (answer_text c.args.placement.now.wires.now c.args.placement.now.offsets.now _) h.last in
    shown (laid_as told c.put_answer.ensures.laid) (omega (arith, c.put_answer.ensures.upper_bound, c.requires.given.few, c.requires.most_text_in_bounds))
