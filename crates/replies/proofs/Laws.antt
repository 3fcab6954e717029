-- What a verb writes, `check` calls legal: for whatever bytes, and for any replies that the definitions allow. `solve` and `carry` print the
-- count that `check` finds in their file; where the whole of `finish` fits in a file, that file is legal.
use Rattle.std.specs.Prelude.{Ok}
use Prim.Native.Nat.{ℕ, ◌≤◌}
use native.Mathlib.Omega.{arith}
use mathlib.Core.Path.{◌≡◌, refl, sym, ap, ◌∙◌}
use mathlib.Core.Bool.{Bool, true, false}
use mathlib.Core.List.{List, [], ◌++◌, map}
use lib.ListN.{length}
use lib.Dec.{leb}
use borrow.Author.Tests.{eq-eqb, le-leb, leb-true}
use Rattle.rules.specs.declared.Entry.{Entry}
use Rattle.rules.specs.Judged.{Judged}
use Rattle.rules.specs.Figures.{most_entries}
use Rattle.rules.specs.Choose.{pick}
use Rattle.rules.specs.Net.{Net}
use Rattle.rules.specs.Load.{entries, offsets_on, source_drives}
use Rattle.rules.specs.Judge.{judged}
use Rattle.rules.proofs.Tests.{both_true}
use Rattle.field.proofs.Numbers.{AreBytes}
use Rattle.net_file.specs.NetFile.{net_of, read}
use Rattle.net_file.proofs.ReadWrite.{same_bytes}
use Rattle.placement_file.specs.File.{wire, offset, placement, placement_of, placement_bytes}
use Rattle.placement_file.proofs.RoundTrip.{split, bytes_file}
use Rattle.checker.specs.Verdict.{LegalColumns}
use Rattle.answer.specs.Text.{least, legal, count_line, source_line, answer_text, counted_text}
use Rattle.reply.specs.Said.{Said, answered, or_refusal}
use Rattle.check_reply.specs.Checks.{legal_text, check_said}
use Rattle.check_reply.proofs.Says.{legal_says}
use Rattle.solve_reply.specs.Solves.{SolvesNet, none, full, placed, Solves, unread, net}
use Rattle.carry_reply.specs.Carries.{carried_word, carry_said}
use Rattle.carry_reply.proofs.Carrying.{legal_placed}
use Rattle.carry_reply.proofs.Says.{carry_written}
use Rattle.finish_reply.proofs.ReadBack.{ReadsBack, reads_back}
use Rattle.replies.specs.declared.Verb.TheVariants.{Check, Finish}
use Rattle.replies.specs.Replies.{SaysFiles, CarriesFiles}
use Rattle.replies.specs.Replies as say

-- an answer of `check`: `legal N`, and what the source drives
pub record SaidLegal (k : ℕ) (b : Said) : Type 0 where
  pub status : b.status ≡ 48
  pub load : ℕ
  pub text : b.text ≡ count_line legal k ++ source_line load

-- an answer that prints a count after a word, and `legal` of the same count for its file
pub record SameCount (word : List ℕ) (a b : Said) : Type 0 where
  pub count : ℕ
  pub more : List ℕ
  pub printed : a.text ≡ count_line word count ++ more
  pub legal : SaidLegal count b

-- what `check` says of a net and of a placement that were read
checks : {net file : List ℕ} {b : Said} (n : Net) (p : List Entry) → net_of net ≡ read n → placement_of file ≡ placement p → SaysFiles Check net file b → b ≡ check_said n (map wire p) (map offset p)
checks n p e f (say.OfNet.unread r o t) = absurd (let z : ◌≡◌ {A = ℕ} 0 1 = cc in omega arith)
checks n p e f (say.OfNet.read m o (say.OfPlacement.unread r g t)) = absurd (let z : ◌≡◌ {A = ℕ} 0 1 = cc in omega arith)
checks n p e f (say.OfNet.read m o (say.OfPlacement.read q g t)) =
    let same : m ≡ n = cc in
    let placed : q ≡ p = cc in
    t ∙ ap (λ (x : Net). check_said x (map wire q) (map offset q)) same ∙ ap (λ (x : List Entry). check_said n (map wire x) (map offset x)) placed

-- and of one that is legal
said_legal : {b : Said} (n : Net) (ws os : List ℕ) → b ≡ answered (legal_text n ws os) [] → SaidLegal (length ws) b
said_legal n ws os e = record { status = ap (λ (s : Said). s.status) e; load = source_drives n (offsets_on (entries ws os)); text = ap (λ (s : Said). s.text) e }

-- ---- solve

module _ {bytes : List ℕ} {a b : Said} (by : AreBytes bytes) (answer : a.status ≡ 48) (checked : SaysFiles Check bytes a.file b) where
  least_legal : (n : Net) → net_of bytes ≡ read n → SolvesNet n a → SameCount least a b
  unfolding answer_text
  least_legal n o (none x e) = absurd (omega (arith, ap (λ (s : Said). s.status) e))
  least_legal n o (full k l m e) = absurd (omega (arith, ap (λ (s : Said). s.status) e))
  least_legal n o (placed ws os even few legal l e) =
      let columns : LegalColumns n ws os = record {
        sound = (same_bytes bytes n by o).sound;
        fit = both_true (eq-eqb (length os) (length ws) even) (le-leb (length ws) most_entries few);
        legal = legal;
      } in
      let p = entries ws os in
      let (w, v) = split ws os even in
      let is = checks n p o (ap (λ (s : Said). placement_of s.file) e ∙ bytes_file p (legal_placed columns)) checked in
      let back : b ≡ check_said n ws os = is ∙ sym (ap (λ (x : List ℕ). check_said n x os) w ∙ ap (check_said n (map wire p)) v) in
      record { count = length ws; more = _; printed = ap (λ (s : Said). s.text) e; legal = said_legal n ws os (back ∙ legal_says n ws os columns) }

  pub solved_is_legal : Solves bytes a → SameCount least a b
  solved_is_legal (unread r o e) = absurd (omega (arith, ap (λ (s : Said). s.status) e))
  solved_is_legal (net n o s) = least_legal n o s

-- ---- finish, where the whole has at most 4,096 entries and so there is a file

few : {n : Net} {g : List Entry} {a : Said} → (a.file ≡ [] → ⊥) → (r : ReadsBack n g a) → length r.whole ≤ most_entries
few {n} {g} {a} written r = by (leb (length r.whole) most_entries) refl
  where
    by : (t : Bool) → leb (length r.whole) most_entries ≡ t → length r.whole ≤ most_entries
    by true e = leb-true (length r.whole) most_entries e
    by false e = absurd (written (r.file ∙ ap (λ (t : Bool). pick t (placement_bytes r.whole) []) e))

module _ {bytes given : List ℕ} {a b : Said} (answer : a.status ≡ 48) (written : a.file ≡ [] → ⊥) (checked : SaysFiles Check bytes a.file b) where
  pub finished_is_legal : SaysFiles Finish bytes given a → (k : ℕ) × SaidLegal k b
  finished_is_legal (say.OfNet.unread r o e) = absurd (omega (arith, ap (λ (s : Said). s.status) e))
  finished_is_legal (say.OfNet.read n o (say.OfPlacement.unread r g e)) = absurd (omega (arith, ap (λ (s : Said). s.status) e))
  finished_is_legal (say.OfNet.read n o (say.OfPlacement.read p g f)) =
      let r = reads_back n (map wire p) (map offset p) answer f in
      let ws = map wire r.whole in
      let os = map offset r.whole in
      let short = few written r in
      let is = checks n r.whole o (r.read short) checked in
      (length ws, said_legal n ws os (is ∙ ap (λ (j : Judged). or_refusal j (answered (legal_text n ws os) [])) (r.checks short)))

-- ---- carry

module _ {second : List ℕ} {a b : Said} (answer : a.status ≡ 48) (checked : SaysFiles Check second a.file b) where
  carried : (n m : Net) (ws os : List ℕ) → judged n ≡ Ok tt → judged m ≡ Ok tt → net_of second ≡ read m → a ≡ carry_said n m ws os → SameCount carried_word a b
  unfolding counted_text
  carried n m ws os sound sound2 o e =
      let w = carry_written n m ws os sound sound2 (sym (ap (λ (s : Said). s.status) e) ∙ answer) in
      let vs = map wire w.placed in
      let is = checks m w.placed o (ap (λ (s : Said). placement_of s.file) e ∙ w.read) checked in
      record { count = length vs; more = _; printed = ap (λ (s : Said). s.text) e ∙ w.printed; legal = said_legal m vs (map offset w.placed) (is ∙ w.legal) }

  pub carried_is_legal : {first file : List ℕ} → AreBytes first → AreBytes second → CarriesFiles first second file a → SameCount carried_word a b
  carried_is_legal by by2 (say.OfNet.unread r o e) = absurd (omega (arith, ap (λ (s : Said). s.status) e))
  carried_is_legal by by2 (say.OfNet.read n o (say.OfNet.unread r q e)) = absurd (omega (arith, ap (λ (s : Said). s.status) e))
  carried_is_legal by by2 (say.OfNet.read n o (say.OfNet.read m q (say.OfPlacement.unread r g e))) = absurd (omega (arith, ap (λ (s : Said). s.status) e))
  carried_is_legal {first} by by2 (say.OfNet.read n o (say.OfNet.read m q (say.OfPlacement.read p g e))) =
      carried n m (map wire p) (map offset p) (same_bytes first n by o).sound (same_bytes second m by2 q).sound q e
