-- What the judgements that passed say where the cut begins.
use Rattle.std.specs.Prelude.{Result, Ok, Err}
use Rattle.std.specs.Result.{MatchResult}
use Prim.Native.Nat.{ℕ}
use mathlib.Core.Path.{◌≡◌, sym, ap}
use mathlib.Core.List.{List}
use native.Mathlib.Omega.{arith}
use lib.ListN.{length}
use Rattle.rules.specs.declared.Refusal.{Refusal}
use Rattle.rules.specs.Net.{Net, places}
use Rattle.rules.specs.Load.{entries, offsets_on, source_drives}
use Rattle.rules.specs.Judge.{judged}
use Rattle.rules.specs.Checked.{checked}
use Rattle.rules.specs.Ease.{ease_judged}
use Rattle.rules.proofs.SoundSays.{sound_says}
use Rattle.rules.proofs.Eased.{eased_says}
use Rattle.checker.specs.Verdict.{Weighed, LegalColumns, verdict}
use Rattle.checker.proofs.CheckedIsLegal.{checked_is_legal}
use Rattle.checker.proofs.VerdictSays.{verdict_legal, columns_even, columns_within}
use Rattle.carry.specs.declared.NotCarried.{NotCarried}
use Rattle.carry.specs.Carry.{OnWires}

-- what a `map_err` passed on is the value
pub mapped_ok : {A : Type 0} (j : Result A Refusal) (y : A) → MatchResult j (λ x. ◌≡◌ {A = Result A NotCarried} (Ok y) (Ok x)) (λ e. ⊥) → Ok y ≡ j
mapped_ok (Ok x) y m = let q : y ≡ x = cc in ap Ok q
mapped_ok (Err e) y m = absurd m

-- the entries are on wires of the second net, which has the places of the first
pub on_wires_lem : (n m : Net) (vs os : List ℕ) → Ok tt ≡ judged n → Ok tt ≡ judged m → Ok tt ≡ ease_judged n m → (w : Weighed) → Ok w ≡ verdict n vs os → OnWires m.wires vs os
on_wires_lem n m vs os first second eased w legal =
    let passed : checked n vs os ≡ Ok tt = verdict_legal (checked n vs os) (length vs) (source_drives n (offsets_on (entries vs os))) w.count w.source (sym legal) in
    let columns : LegalColumns n vs os = (checked_is_legal n vs os).0 passed in
    let same_places : places m ≡ places n = ap length (eased_says n m (sym first) (sym second) (sym eased)).parents in
    record { even = columns_even columns; on = λ k h. omega (arith, columns_within columns k h, same_places, (sound_says m (sym second)).wires_long) }
