-- The order of the checker's refusals: how the answers of its parts make up the verdict.
use Rattle.std.specs.Prelude.{Ok, Err}
use Prim.Native.Nat.{ℕ, ◌+◌}
use mathlib.Core.Path.{◌≡◌, sym, ◌∙◌}
use mathlib.Core.List.{List}
use native.Mathlib.Omega.{arith}
use lib.Dec.{leb}
use lib.ListN.{length}
use Rattle.rules.specs.Judged.{Judged}
use Rattle.rules.specs.declared.Refusal.{Refusal}
use Rattle.rules.specs.declared.Refusal.TheVariants.{WrongColumns, Overloaded}
use Rattle.rules.specs.Net.{Net}
use Rattle.rules.specs.Load.{entries, offsets_on, driven, source_drives, drivers}
use Rattle.rules.specs.Legal.{start}
use Rattle.rules.specs.Judge.{unless, then_judge, judged}
use Rattle.rules.specs.Checked.{placement_fits, placed_from, within_limit, one_sense, placement_judged, checked}
use Rattle.rules.proofs.Judging.{then_assoc}
use Rattle.load.specs.Asks.{Placed}
use Rattle.load.proofs.Wire.{driven_length}
use Rattle.standing.specs.Stands.{stood, begun}
use Rattle.checker.specs.Verdict.{verdict_of, settled, weighed, verdict}
use Rattle.checker.proofs.Walk.{within_both}

-- ---- 11 and 12
module _ {n : Net} {vs os : List ℕ} (p : Placed n vs os) where
  parts : weighed n vs os ≡ verdict_of
      (then_judge
      (then_judge (within_limit n.limits.limit 0 (driven n (offsets_on (entries vs os)))) (unless (leb (source_drives n (offsets_on (entries vs os))) n.limits.limit) (Overloaded (length vs))))
      (one_sense n (offsets_on (entries vs os))))
      (length vs) (source_drives n (offsets_on (entries vs os)))
  parts =
      let e : 0 + length (driven n (offsets_on (entries vs os))) ≡ length vs = omega (arith, driven_length p) in
      rw (within_both n.limits.limit 0 (driven n (offsets_on (entries vs os))) (source_drives n (offsets_on (entries vs os))), e)

  pub loads_over : (r : Refusal) → Err r ≡ within_limit n.limits.limit 0 (driven n (offsets_on (entries vs os))) → Err r ≡ weighed n vs os
  loads_over r e = sym (parts ∙ rw (← e))

  pub loads_within : Ok tt ≡ within_limit n.limits.limit 0 (driven n (offsets_on (entries vs os))) → settled n vs os ≡ weighed n vs os
  loads_within e = sym (parts ∙ rw (← e))

-- ---- the whole
module _ (n : Net) (vs os : List ℕ) where
  whole : checked n vs os ≡ then_judge (begun n vs os) (then_judge (within_limit n.limits.limit 0 (drivers n (entries vs os))) (one_sense n (offsets_on (entries vs os))))
  unfolding checked placement_judged
  whole =
      let last : Judged = then_judge (within_limit n.limits.limit 0 (drivers n (entries vs os))) (one_sense n (offsets_on (entries vs os))) in
      rw (then_assoc (judged n) (stood n vs os) last, then_assoc (unless (placement_fits vs os) WrongColumns) (placed_from n start 0 (entries vs os)) last)

  pub begun_refused : (r : Refusal) → Err r ≡ begun n vs os → Err r ≡ verdict n vs os
  begun_refused r e = rw (whole, ← e)

  pub weighed_last : Ok tt ≡ begun n vs os → weighed n vs os ≡ verdict n vs os
  weighed_last e = rw (whole, ← e)
