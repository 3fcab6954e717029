-- What the given columns hold is within a cleared table of leads.
use Rattle.std.specs.Prelude.{Option, None}
use Prim.Native.Nat.{ℕ, zero, suc, ◌<◌}
use mathlib.Core.Path.{◌≡◌}
use mathlib.Core.List.{List, [], ◌∷◌}
use lib.ListN.{length, get_or, replicate, length-replicate}
use native.Mathlib.Omega.{arith}
use Rattle.rules.specs.declared.Entry.{Entry}
use Rattle.rules.specs.Figures.{most_places}
use Rattle.rules.specs.Net.{Net}
use Rattle.rules.specs.Load.{entries}
use Rattle.rules.specs.Legal.{InOrder, Stands, start}
use Rattle.rules.specs.Sound.{SoundNet}
use Rattle.buffers.proofs.Clearing.{none_in}
use Rattle.adding.specs.Given.{Stood}
use Rattle.finish.specs.Given.{Fresh}

stands_at : (n : Net) (d : Entry) (ws os : List ℕ) (e : ℕ) → InOrder n d (entries ws os) → length os ≡ length ws → e < length ws → Stands n (record { wire = get_or ws e 0; offset = get_or os e 0 })
unfolding entries
stands_at n d [] os e o s h = absurd (omega arith)
stands_at n d (v ∷ ws) [] e o s h = absurd (omega arith)
stands_at n d (v ∷ ws) (x ∷ os) zero o s h = o.1
stands_at n d (v ∷ ws) (x ∷ os) (suc e) o s h = stands_at n (record { wire = v; offset = x }) ws os e o.2 (omega arith) (omega arith)

pub fresh : (n : Net) {ws os : List ℕ} → SoundNet n → Stood n ws os → Fresh ws os (replicate most_places None)
fresh n {ws} {os} sound s = record {
  same = s.same;
  few = s.few;
  long = omega (arith, length-replicate {A = Option ℕ} most_places None);
  wires = λ e h. let x = stands_at n start ws os e s.order s.same h in omega (arith, x.within, sound.few, length-replicate {A = Option ℕ} most_places None);
  clear = none_in None most_places;
}
