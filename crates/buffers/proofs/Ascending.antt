-- The way up as the loop keeps it.
use Rattle.std.specs.Prelude.{Ok, Err}
use Prim.Native.Nat.{ℕ, suc, ◌<◌}
use mathlib.Core.Path.{◌≡◌, refl, sym, subst}
use Rattle.rules.specs.declared.Refusal.{Refusal}
use Rattle.rules.specs.declared.Refusal.TheVariants.{NoLegalPlacement}
use Rattle.rules.specs.Judged.{Judged}
use Rattle.rules.specs.Net.{Net, places}
use Rattle.frontier.specs.Cell.{Cell}
use Rattle.buffers.specs.declared.Tables.{Tables}
use Rattle.rules.specs.Sound.{SoundNet}
use Rattle.buffers.specs.Going.{Going, Lost, Tried, can, cannot, AtNode}

module _ {τ : Cell} {n : Net} {L : ℕ → ℕ} {t : Tables} {b i : ℕ} where
  pub tried_ok : {r : Judged} → Tried τ n L t b i r → r ≡ Ok tt → Going τ n L t b i
  tried_ok h e = go (subst (Tried τ n L t b i) e h)
    where
      go : Tried τ n L t b i (Ok tt) → Going τ n L t b i
      go (can g) = g

  pub tried_err : {r : Judged} {x : Refusal} → Tried τ n L t b i r → r ≡ Err x → Lost τ n L × (x ≡ NoLegalPlacement)
  tried_err h e = go (subst (Tried τ n L t b i) e h)
    where
      go : {x : Refusal} → Tried τ n L t b i (Err x) → Lost τ n L × (x ≡ NoLegalPlacement)
      go (cannot l) = (l, refl)

-- before node i, after which the wires are joined
pub node_at : {τ : Cell} {n : Net} {L : ℕ → ℕ} {t : Tables} {i j : ℕ} → SoundNet n → Going τ n L t j j → suc i ≡ j → i < places n → AtNode τ n L t i
node_at {τ} {n} {L} {t} sound g e h = record { sound = sound; within = h; going = subst (λ (k : ℕ). Going τ n L t k k) (sym e) g }
