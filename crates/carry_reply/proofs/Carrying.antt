-- What the carry's outcome says between two sound nets: the refusal that is shown, or columns that can be written.
use Rattle.std.specs.Prelude.{Ok, Err}
use Prim.Native.Nat.{ℕ}
use native.Mathlib.Omega.{arith}
use mathlib.Core.Path.{◌≡◌, refl, sym, ap, subst, ◌∙◌}
use mathlib.Core.List.{List}
use lib.ListN.{length}
use Rattle.rules.specs.declared.Entry.{Entry}
use Rattle.rules.specs.Judged.{Judged}
use Rattle.rules.specs.Net.{Net}
use Rattle.rules.specs.Load.{entries}
use Rattle.rules.specs.Legal.{start}
use Rattle.rules.specs.Judge.{then_judge, judged}
use Rattle.rules.specs.Checked.{checked}
use Rattle.rules.specs.Ease.{carried, ease_judged}
use Rattle.rules.proofs.Tests.{then_met}
use Rattle.rules.proofs.SoundSays.{sound_says}
use Rattle.checker.specs.Verdict.{LegalColumns}
use Rattle.checker.proofs.CheckedIsLegal.{checked_is_legal}
use Rattle.checker.proofs.VerdictSays.{columns_even, columns_few}
use Rattle.carry.specs.Carry.{Outcome, offsets_of, placement_of, column_after, CarriedIs}
use Rattle.carry.proofs.Cut.{cut_entries}
use Rattle.carry.proofs.CarriedIsLegal.{carried_is_legal}
use Rattle.placement_file.specs.File.{placement_bytes}
use Rattle.placement_file.proofs.Listing.{length_entries}
use Rattle.placement_file.proofs.RoundTrip.{Placed, split}
use Rattle.answer.specs.Text.{counted_text}
use Rattle.reply.specs.declared.Reply.{Reply}
use Rattle.reply.specs.Said.{Said, answered, or_refusal, Replies}
use Rattle.reply.proofs.Writing.{stands_placed, columns_fit_lem}
use Rattle.carry_reply.specs.Carries.{carried_word, carried_text, carried_file, carry_said, Fit}

-- the columns of a legal placement of a sound net can be written
pub legal_placed : {m : Net} {ws os : List ℕ} → LegalColumns m ws os → Placed (entries ws os)
legal_placed {m} {ws} {os} l =
    let long = length_entries ws os (columns_even l) in
    stands_placed start (entries ws os) (sound_says m l.sound) l.legal.stands (omega (arith, columns_few l))

legal_fit : {m : Net} {ws os : List ℕ} → LegalColumns m ws os → Fit ws os
legal_fit {m} {ws} {os} l =
    let (w, o) = split ws os (columns_even l) in
    record { even = columns_even l; few = columns_few l; written = (columns_fit_lem ws os (entries ws os) w o (legal_placed l)).1 }

-- the two judgements that decide
abbrev pub judgement : Net → Net → List ℕ → List ℕ → Judged
judgement n m ws os = then_judge (ease_judged n m) (checked n ws os)

carried_all : {o : Outcome} {k : ℕ} (j : Judged) (count : ℕ) → o ≡ placement_of j count → o ≡ Ok k → j ≡ Ok tt
carried_all (Ok _) count e f = refl
carried_all (Err r) count e f = absurd (let z : ◌≡◌ {A = ℕ} 0 1 = cc in omega arith)

module _ {n m : Net} (ws os : List ℕ) {after : List ℕ} {r : Outcome} (a : judged n ≡ Ok tt) (b : judged m ≡ Ok tt) (is : CarriedIs n m ws os r after) where
  -- the nets' own refusals do not come
  sound_nets : r ≡ placement_of (judgement n m ws os) (length ws)
  sound_nets = is.answer ∙ rw (a, b)

  pub carry_passes : (count : ℕ) → r ≡ Ok count → judgement n m ws os ≡ Ok tt
  carry_passes count e = carried_all (judgement n m ws os) (length ws) sound_nets e

  module _ (passed : judgement n m ws os ≡ Ok tt) where
    all_carried : r ≡ Ok (length ws)
    all_carried = sound_nets ∙ ap (λ (j : Judged). placement_of j (length ws)) passed

    pub carry_legal : LegalColumns m ws after
    carry_legal = carried_is_legal is (length ws) all_carried

    pub carry_fit : Fit ws after
    carry_fit = legal_fit carry_legal

    cut : after ≡ offsets_of (carried m (entries ws os))
    cut = is.column ∙ ap (λ (o : Outcome). column_after o m ws os) (sym is.answer ∙ all_carried)

    whole : entries ws after ≡ carried m (entries ws os)
    whole =
        let first = (checked_is_legal n ws os).0 (then_met (ease_judged n m) (checked n ws os) passed).1 in
        ap (entries ws) cut ∙ cut_entries m ws os (columns_even first)

    pub carry_said_lem : answered (counted_text carried_word ws after) (placement_bytes (entries ws after)) ≡ carry_said n m ws os
    carry_said_lem =
        ap (λ (l : List ℕ). answered (counted_text carried_word ws l) (placement_bytes (entries ws after))) cut
        ∙ ap (λ (p : List Entry). answered (carried_text m ws os) (placement_bytes p)) whole
        ∙ sym (ap (λ (j : Judged). or_refusal j (answered (carried_text m ws os) (carried_file m ws os))) passed)

    pub carry_tells : {out file : List ℕ} {x : Reply}
        → Replies (answered (counted_text carried_word ws after) (placement_bytes (entries ws after))) out file x
        → Replies (carry_said n m ws os) out file x
    carry_tells {out} {file} {x} t = subst (λ (s : Said). Replies s out file x) carry_said_lem t
