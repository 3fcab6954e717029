-- The offsets that the marks stand for are good, and the wires hand up with them what the marks say.
use Prim.Native.Nat.{ℕ, suc, ◌+◌, ◌≤◌, ◌<◌}
use mathlib.Core.Path.{◌≡◌, refl, sym, subst, ◌∙◌}
use mathlib.Core.List.{List}
use native.Mathlib.Omega.{arith}
use Rattle.rules.specs.Net.{Net, wire}
use Rattle.rules.specs.Tree.{Hanging, none, sink, branch}
use Rattle.rules.specs.Sound.{SoundNet}
use Rattle.rules.proofs.Order.{Rising}
use Rattle.frontier.specs.Cell.{Cell}
use Rattle.frontier.specs.Plan.{plan_of, load, Good}
use Rattle.frontier.specs.Cert.{sum}
use Rattle.frontier.proofs.Hangs.{Hangs, WireAt}
use Rattle.relief.specs.Pieces.{lead_of}
use Rattle.relief.specs.Marks.{Each, Divides, light, heavy, Relieved, Marks, hands, out, whole_at, Marked}
use Rattle.relief.proofs.Pieces.{Stand, stands}
use Rattle.relief.proofs.Lower.{later}

module _ (τ : Cell) (eq : τ.cu ≡ τ.cb + τ.D) (pos : 1 ≤ τ.D) where
  on_few : {x a k : ℕ} → Divides τ x a k → k ≤ 1
  on_few (light h) = omega arith
  on_few (heavy h) = omega arith

  module _ {n : Net} (sound : SoundNet n) (G : ℕ → List ℕ) (m : Marks) (stand : (i : ℕ) → Rising (wire n i) 0 (G i)) where
    abbrev W : ℕ → List ℕ
    W i = whole_at τ n G m i

    abbrev lead : ℕ → ℕ
    lead i = lead_of (G i)

    -- one wire, over the load b
    one : (v i w k x b : ℕ) → WireAt n v i w k → v < i → Marked τ n lead m (suc v) → Divides τ x (hands τ n lead m i) (m.on i) → m.load i ≡ b → Stand τ eq pos w 0 b (W i) (out τ n lead m i)
    one v i w k x b at lo mk d e =
        subst (λ (y : ℕ). Stand τ eq pos y 0 b (W i) (out τ n lead m i)) at.size
        (subst (λ (y : ℕ). Stand τ eq pos (wire n i) 0 y (W i) (out τ n lead m i)) e (stands τ eq pos (wire n i) (m.on i) (m.load i) (G i) (stand i) (mk.fits i lo at.within) (on_few d)))

    pub reached : (f : Hanging) (v : ℕ) → Hangs n v f → Marked τ n lead m (suc v) → (x : ℕ) → Each (λ j. Divides τ x (hands τ n lead m j) (m.on j)) f → Good τ f (plan_of W f) × (load τ f (plan_of W f) ≡ sum (out τ n lead m) f)
    reached none v h mk x d = (tt, refl)
    reached (sink i w c z r) v h mk x d =
        let lo : v < i = let q = h.0.up in omega (arith, sound.lower i h.0.above h.0.within) in
        let s = one v i w 1 x c h.0 lo mk d.0 (mk.sinks i lo h.0.within h.0.end ∙ h.1) in
        let (gr, tr) = reached r v h.3 mk x d.1 in
        ((s.good, gr), omega (arith, s.top, tr))
    reached (branch i w f r) v h mk x d =
        let lo : v < i = let q = h.0.up in omega (arith, sound.lower i h.0.above h.0.within) in
        let rel : Relieved τ (hands τ n lead m) m.on f (m.load i) = subst (λ (y : Hanging). Relieved τ (hands τ n lead m) m.on y (m.load i)) h.1 (mk.nodes i lo h.0.within h.0.end) in
        let (gf, tf) = reached f i h.2 (later mk (omega arith)) rel.x rel.each in
        let s = one v i w 0 x (load τ f (plan_of W f)) h.0 lo mk d.0 (sym (tf ∙ rel.load)) in
        let (gr, tr) = reached r v h.3 mk x d.1 in
        ((s.good, gf, gr), omega (arith, s.top, tr))
