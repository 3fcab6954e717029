-- `list` shows what is listed.
use Prim.Native.Nat.{ℕ, ◌≤◌}
use native.Mathlib.Omega.{arith}
use lib.ListN.{length, replicate, length-replicate}
use Rattle.rules.specs.Figures.{most_entries}
use Rattle.answer.proofs.Laying.{laid_as}
use Rattle.reply.proofs.Showing.{shown}
use Rattle.reply.proofs.Judged.{answers}
use Rattle.check_reply.proofs.Answers.{listed_text, list_passes}
use Rattle.check_reply.proofs.list.Goals as goal

pub returns-in-Ok : goal.returns-in-Ok
returns-in-Ok c =
    let room : most_entries ≤ length {A = ℕ} (replicate 4096 0) = omega (arith, length-replicate {A = ℕ} 4096 0) in
    let l = list_passes _ c.args.placement.now.wires.now c.args.placement.now.offsets.now _ c.list_drives.ensures room c.in-Ok.listed c.in-Ok.is in
    answers l.begins (shown (laid_as (listed_text l) c.put_loads-text.ensures.laid) (omega (arith, c.put_loads-text.ensures.upper_bound, l.placed.few, c.requires)))
