-- What `carry` writes is legal on the second net: where it answers, between two sound nets, its file is read as the entries that it prints,
-- and `check` says of them `legal N`, with the N of `carried N`.
use Rattle.std.specs.Prelude.{Ok}
use Prim.Native.Nat.{ℕ}
use mathlib.Core.Path.{◌≡◌, refl, sym, ap, subst, ◌∙◌}
use mathlib.Core.List.{List, [], map}
use Rattle.rules.specs.declared.Entry.{Entry}
use Rattle.rules.specs.Net.{Net}
use Rattle.rules.specs.Load.{entries}
use Rattle.rules.specs.Judge.{judged}
use Rattle.checker.proofs.VerdictSays.{columns_even}
use Rattle.carry.specs.Carry.{outcome, column_after, CarriedIs}
use Rattle.placement_file.specs.File.{wire, offset, placement, placement_of}
use Rattle.placement_file.proofs.RoundTrip.{split, bytes_file}
use Rattle.answer.specs.Text.{counted_text}
use Rattle.reply.specs.Said.{Said, answered}
use Rattle.reply.proofs.Judged.{answered_passed}
use Rattle.check_reply.specs.Checks.{legal_text, check_said}
use Rattle.check_reply.proofs.Says.{legal_says}
use Rattle.carry_reply.specs.Carries.{carried_word, carried_text, carried_file, carry_said}
use Rattle.carry_reply.proofs.Carrying.{judgement, legal_placed, carry_legal, carry_said_lem}

-- the file's entries, what is printed of them and what `check` says of them on the second net
pub record Written (n m : Net) (ws os : List ℕ) : Type 0 where
  pub placed : List Entry
  pub read : placement_of (carry_said n m ws os).file ≡ placement placed
  pub printed : (carry_said n m ws os).text ≡ counted_text carried_word (map wire placed) (map offset placed)
  pub legal : check_said m (map wire placed) (map offset placed) ≡ answered (legal_text m (map wire placed) (map offset placed)) []

module _ (n m : Net) (ws os : List ℕ) (a : judged n ≡ Ok tt) (b : judged m ≡ Ok tt) where
  pub carry_written : (carry_said n m ws os).status ≡ 48 → Written n m ws os
  carry_written e =
      let after = column_after (outcome n m ws os) m ws os in
      let is : CarriedIs n m ws os (outcome n m ws os) after = record { answer = refl; column = refl } in
      let passed = answered_passed (judgement n m ws os) (carried_text m ws os) (carried_file m ws os) e in
      let said = sym (carry_said_lem ws os a b is passed) in
      let legal = carry_legal ws os a b is passed in
      let p = entries ws after in
      let (w, o) = split ws after (columns_even legal) in
      record {
        placed = p;
        read = ap (λ (s : Said). placement_of s.file) said ∙ bytes_file p (legal_placed legal);
        printed = ap (λ (s : Said). s.text) said
            ∙ ap (λ (l : List ℕ). counted_text carried_word l after) w ∙ ap (counted_text carried_word (map wire p)) o;
        legal =
            subst (λ (l : List ℕ). check_said m (map wire p) l ≡ answered (legal_text m (map wire p) l) []) o
            (subst (λ (l : List ℕ). check_said m l after ≡ answered (legal_text m l after) []) w (legal_says m ws after legal));
      }
