-- The answer by what is marked, counted and written.
use Rattle.std.specs.Prelude.{Err, Result}
use Rattle.rules.specs.declared.Refusal.{Refusal}
use Prim.Native.Nat.{ℕ}
use mathlib.Core.Path.{refl}
use mathlib.Core.List.{List}
use lib.ListN.{length}
use Rattle.rules.specs.declared.Entry.{Entry}
use Rattle.rules.specs.declared.Refusal.TheVariants.{NoLegalPlacement}
use Rattle.rules.specs.Net.{Net}
use Rattle.rules.specs.Complete.{Completes, LeastAdded, NoneCompletes}
use Rattle.finish.specs.Given.{Placed, short, fits}
use Rattle.finish.specs.Answer.{Outcome, none, full, finished}

-- 9, or the entries
pub placed_answer : {n : Net} {g a : List Entry} {vs us vs' us' : List ℕ} {r : Result ℕ Refusal} → Completes n g a → LeastAdded n g (length a) → Placed a vs us vs' us' r → Outcome n g vs us vs' us' r
placed_answer {a = a} c l (short o e q) = full (length a) l o e q
placed_answer {a = a} c l (fits o e q) = finished a c l o e q

pub none_answer : {n : Net} {g : List Entry} (vs us : List ℕ) → NoneCompletes n g → Outcome n g vs us vs us (Err NoLegalPlacement)
none_answer vs us h = none h refl (record { wires = refl; offsets = refl })
