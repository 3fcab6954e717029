-- The walk over the sinks, and the sense that all are held against: that of the lowest-numbered sink.
use Rattle.std.specs.Prelude.{Ok, Err}
use Prim.Native.Nat.{ℕ, ◌+◌, ◌-◌, ◌≤◌, ◌<◌}
use mathlib.Core.Path.{◌≡◌, refl}
use mathlib.Core.List.{List}
use native.Mathlib.Omega.{arith}
use lib.ListN.{length}
use borrow.Author.Tests.{eq-eqb, ne_eqb}
use Rattle.rules.specs.declared.Refusal.TheVariants.{WrongParity}
use Rattle.rules.specs.Net.{Net, kind}
use Rattle.rules.specs.Legal.{sense}
use Rattle.rules.specs.Sound.{SoundNet}
use Rattle.rules.specs.Judge.{judge_each}
use Rattle.rules.specs.Checked.{has_sense, one_sense}
use Rattle.std.specs.Prelude.{Some, None, position}
use Rattle.rules.proofs.Each.{Going, going_stop, going_next, going_end}
use Rattle.rules.proofs.LegalJudged.{no_sinks}
use Rattle.senses.proofs.Sinks.{is_sink, sink_found, sink_none}

-- the loop over m nodes has come to node i: each sink is held against s
pub record Senses (n : Net) (offs : ℕ → List ℕ) (s m i : ℕ) : Type 0 where
  pub going : Going (has_sense n offs s) (m - 1) 1 i

module _ {n : Net} {offs : ℕ → List ℕ} {s m i : ℕ} (g : Senses n offs s m i) where
  pub senses_other : i < m → (kind n i ≡ 1 → ⊥) → Senses n offs s m (i + 1)
  senses_other h z = record { going = going_next g.going (omega arith) (rw (ne_eqb (kind n i) 1 z)) }

  pub senses_same : i < m → kind n i ≡ 1 → sense n offs i ≡ s → Senses n offs s m (i + 1)
  senses_same h z e = record { going = going_next g.going (omega arith) (rw (eq-eqb (kind n i) 1 z, eq-eqb (sense n offs i) s e)) }

  pub senses_differ : i < m → kind n i ≡ 1 → (sense n offs i ≡ s → ⊥) → Err (WrongParity i) ≡ judge_each (has_sense n offs s) (m - 1) 1
  senses_differ h z e = going_stop g.going (omega arith) (Err (WrongParity i)) (WrongParity i) refl (rw (eq-eqb (kind n i) 1 z, ne_eqb (sense n offs i) s e))

  pub senses_end : m ≤ i → 1 ≤ m → Ok tt ≡ judge_each (has_sense n offs s) (m - 1) 1
  senses_end h o = going_end g.going (omega arith)

module _ {n : Net} (offs : ℕ → List ℕ) (s : SoundNet n) where
  pub none_to_judge : position is_sink n.kinds ≡ None → one_sense n offs ≡ Ok tt
  none_to_judge e = no_sinks n offs s.some (sink_none s e)

  pub against_lowest : (lowest : ℕ) → position is_sink n.kinds ≡ Some lowest → one_sense n offs ≡ judge_each (has_sense n offs (sense n offs lowest)) (length n.kinds - 1) 1
  against_lowest lowest e = rw (s.kinds_long, (sink_found s lowest e).0)
