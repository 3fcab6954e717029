-- Two replies that conform are the same refusal, or both add the same number of entries and have files of the same length: which entries are added is all that is
-- left open.
use Rattle.std.specs.Prelude.{Ok, Err}
use Prim.Native.Nat.{ℕ, ◌+◌, ◌*◌}
use native.Mathlib.Omega.{arith}
use mathlib.Core.Path.{◌≡◌, refl, sym, ap, ◌∙◌}
use mathlib.Core.Bool.{Bool, true, false}
use mathlib.Core.List.{List, [], ◌++◌, map}
use lib.ListN.{length, length-map}
use lib.Dec.{leb}
use Rattle.rules.specs.declared.Entry.{Entry}
use Rattle.rules.specs.declared.Refusal.TheVariants.{NoRoom}
use Rattle.rules.specs.Judged.{Judged}
use Rattle.rules.specs.Figures.{most_entries}
use Rattle.rules.specs.Choose.{pick}
use Rattle.rules.specs.Net.{Net}
use Rattle.rules.specs.Load.{entries}
use Rattle.rules.proofs.Completing.{one_least_added, joins_length}
use Rattle.placement_file.specs.File.{wire, placement_bytes}
use Rattle.placement_writer.proofs.Writing.{length_bytes}
use Rattle.finish.specs.Answer.{half_judged}
use Rattle.answer.specs.Text.{count_line, counted_text}
use Rattle.reply.specs.Said.{Said, answered, refusal}
use Rattle.finish_reply.specs.Finishes.{added_word, file_of, FinishesNet, none, full, finished, FinishesBy, Finishes}

pub data Agree (s s' : Said) : Type 0 where
  same : s ≡ s' → Agree s s'
  counted : (k j : ℕ) (more more' file file' : List ℕ) → k ≡ j → length file ≡ length file' → s ≡ answered (count_line added_word k ++ more) file → s' ≡ answered (count_line added_word j ++ more') file' → Agree s s'

pub one_status : {s s' : Said} → Agree s s' → s.status ≡ s'.status
one_status (same e) = ap (λ (s : Said). s.status) e
one_status (counted k j more more' file file' q l e f) = ap (λ (s : Said). s.status) e ∙ sym (ap (λ (s : Said). s.status) f)

file_long : (p q : List Entry) → length p ≡ length q → length (file_of p) ≡ length (file_of q)
file_long p q e = ap (λ (k : ℕ). length (pick (leb k most_entries) (placement_bytes p) [])) e ∙ by (leb (length q) most_entries)
  where
    by : (b : Bool) → length (pick b (placement_bytes p) []) ≡ length (pick b (placement_bytes q) [])
    by true = length_bytes p ∙ ap (λ (k : ℕ). 8 + 9 * k) e ∙ sym (length_bytes q)
    by false = refl

module _ {n : Net} {g : List Entry} {s s' : Said} where
  net_agree : FinishesNet n g s → FinishesNet n g s' → Agree s s'
  unfolding counted_text
  net_agree (none h e) (none h' e') = same (e ∙ sym e')
  net_agree (none h e) (full k l m e') = absurd (h l.entries l.completes)
  net_agree (none h e) (finished a w j legal l m e') = absurd (h l.entries l.completes)
  net_agree (full k l m e) (none h e') = absurd (h l.entries l.completes)
  net_agree (full k l m e) (full k' l' m' e') = same (e ∙ ap (λ (x : ℕ). refusal [] (NoRoom x)) (one_least_added l l') ∙ sym e')
  net_agree (full k l m e) (finished a w j legal l' m' e') = absurd (omega (arith, one_least_added l l'))
  net_agree (finished a w j legal l m e) (none h e') = absurd (h l.entries l.completes)
  net_agree (finished a w j legal l m e) (full k l' m' e') = absurd (omega (arith, one_least_added l l'))
  net_agree (finished a w j legal l m e) (finished a' w' j' legal' l' m' e') =
      let q = one_least_added l l' in
      counted (length (map wire a)) (length (map wire a')) _ _ _ _ (length-map a wire ∙ q ∙ sym (length-map a' wire)) (file_long w w' (omega (arith, joins_length j, joins_length j'))) e e'

pub agree : (n : Net) (ws os : List ℕ) {s s' : Said} → Finishes n ws os s → Finishes n ws os s' → Agree s s'
agree n ws os {s} {s'} = by (half_judged n ws os)
  where
    by : (j : Judged) → FinishesBy j n (entries ws os) s → FinishesBy j n (entries ws os) s' → Agree s s'
    by (Ok _) a b = net_agree a b
    by (Err r) a b = same (a ∙ sym b)
