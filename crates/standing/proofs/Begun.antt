-- The order of the first refusals: how the answers of the parts make up the first judgement, and what it says where it is passed.
use Rattle.std.specs.Prelude.{Ok}
use Prim.Native.Nat.{ℕ}
use mathlib.Core.Path.{◌≡◌, refl, sym, ◌∙◌}
use mathlib.Core.List.{List}
use Rattle.rules.specs.Judged.{Judged}
use Rattle.rules.specs.declared.Refusal.TheVariants.{WrongColumns}
use Rattle.rules.specs.Net.{Net}
use Rattle.rules.specs.Load.{entries}
use Rattle.rules.specs.Legal.{start}
use Rattle.rules.specs.Sound.{SoundNet}
use Rattle.rules.specs.Judge.{unless, judged}
use Rattle.rules.specs.Checked.{placement_fits, placed_from}
use Rattle.rules.proofs.Tests.{then_met}
use Rattle.rules.proofs.SoundSays.{sound_says}
use Rattle.rules.proofs.LegalJudged.{placed_order}
use Rattle.rules.proofs.Numbers.{columns_tested}
use Rattle.load.specs.Asks.{Placed}
use Rattle.standing.specs.Stands.{stood, begun, HasWires}

module _ (n : Net) (vs os : List ℕ) where
  -- the net's judgement comes first
  pub then_stood : Ok tt ≡ judged n → (b : Judged) → b ≡ stood n vs os → b ≡ begun n vs os
  then_stood ok b eb = rw (← ok) eb

  pub begun_says : (b : Judged) → b ≡ begun n vs os → b ≡ Ok tt → Placed n vs os
  begun_says b eb sb =
      let (s, x) = then_met (judged n) (stood n vs os) (sym eb ∙ sb) in
      let (a, p) = then_met (unless (placement_fits vs os) WrongColumns) (placed_from n start 0 (entries vs os)) x in
      let fit = (columns_tested vs os).exactly.0 a in
      record { sound = sound_says n s; even = fit.even; few = fit.few; order = placed_order n start 0 (entries vs os) p }

pub has_wires : {n : Net} → SoundNet n → HasWires n n.wires
has_wires s = record { column = refl; long = s.wires_long }
