-- Going through a chain for its heaviest wire.
use Rattle.std.specs.Prelude.{Option, Some, None}
use Prim.Native.Nat.{ℕ, ◌≤◌, ◌<◌}
use mathlib.Core.Path.{◌≡◌, refl, sym, subst}
use mathlib.Core.List.{List, [], ◌∷◌}
use lib.ListN.{length, get_or}
use native.Mathlib.Omega.{arith}
use Rattle.rules.specs.Legal.{Each}
use Rattle.buffers.specs.Chain.{Chain, Among, here, there, Heaviest, no_more, is_at}

pub data Found (tops : List ℕ) (pin : ℕ) (js : List ℕ) (most : ℕ) : Option ℕ → Type 0 where
  nothing : most ≡ pin → Found tops pin js most None
  something : {j : ℕ} → Among j js → pin < most → most ≡ get_or tops j 0 → Found tops pin js most (Some j)

-- js has been looked at up to j, and the heaviest so far is best
pub record Part (links tops : List ℕ) (pin : ℕ) (js : List ℕ) (best : Option ℕ) (most j : ℕ) : Type 0 where
  pub rest : List ℕ
  pub chain : Chain (length tops) links j rest
  pub bound : (m : ℕ) → most ≤ m → Each (λ i. get_or tops i 0 ≤ m) rest → Each (λ i. get_or tops i 0 ≤ m) js
  pub found : Found tops pin js most best
  pub sub : (i : ℕ) → Among i rest → Among i js

pub record Scan (links tops : List ℕ) (first pin : ℕ) (best : Option ℕ) (most j : ℕ) : Type 0 where
  pub part : (js : List ℕ) → Chain (length tops) links first js → Part links tops pin js best most j

pub scan_start : (links tops : List ℕ) (first pin : ℕ) → Scan links tops first pin None pin first
scan_start links tops first pin = record { part = λ js c. record { rest = js; chain = c; bound = λ m h e. e; found = nothing refl; sub = λ i a. a } }

-- the next of the chain is further on
pub chain_on : (links : List ℕ) (N j : ℕ) (rest : List ℕ) → Chain N links j rest → j < N → j < get_or links j 0
chain_on links N j [] c h = absurd (omega arith)
chain_on links N j (i ∷ rest) c h = let e : i ≡ j = omega (arith, c.0) in subst (λ (x : ℕ). x < get_or links x 0) e c.2

module _ {links tops : List ℕ} {first pin : ℕ} {best : Option ℕ} {most j : ℕ} where
  -- no heavier than the heaviest so far
  pub scan_past : Scan links tops first pin best most j → j < length tops → get_or tops j 0 ≤ most → Scan links tops first pin best most (get_or links j 0)
  scan_past s h le = record { part = λ js c. by js (s.part js c) }
    where
      by : (js : List ℕ) → Part links tops pin js best most j → Part links tops pin js best most (get_or links j 0)
      by js p = go p.rest p.chain p.bound p.sub
        where
          go : (rest : List ℕ) → Chain (length tops) links j rest → ((m : ℕ) → most ≤ m → Each (λ i. get_or tops i 0 ≤ m) rest → Each (λ i. get_or tops i 0 ≤ m) js) → ((i : ℕ) → Among i rest → Among i js) → Part links tops pin js best most (get_or links j 0)
          go [] c b u = absurd (omega arith)
          go (i ∷ rest) c b u =
              let e : i ≡ j = omega (arith, c.0) in
              record {
                rest = rest;
                chain = subst (λ (x : ℕ). Chain (length tops) links (get_or links x 0) rest) e c.3;
                bound = λ m l r. b m l (subst (λ (x : ℕ). get_or tops x 0 ≤ m) (sym e) (omega arith), r);
                found = p.found;
                sub = λ i a. u i (there a);
              }

  -- heavier
  pub scan_take : Scan links tops first pin best most j → j < length tops → most < get_or tops j 0 → Scan links tops first pin (Some j) (get_or tops j 0) (get_or links j 0)
  scan_take s h lt = record { part = λ js c. by js (s.part js c) }
    where
      over : {js : List ℕ} {best : Option ℕ} → Found tops pin js most best → pin < get_or tops j 0
      over (nothing q) = omega arith
      over (something p q r) = omega arith

      by : (js : List ℕ) → Part links tops pin js best most j → Part links tops pin js (Some j) (get_or tops j 0) (get_or links j 0)
      by js p = go p.rest p.chain p.bound p.sub
        where
          go : (rest : List ℕ) → Chain (length tops) links j rest → ((m : ℕ) → most ≤ m → Each (λ i. get_or tops i 0 ≤ m) rest → Each (λ i. get_or tops i 0 ≤ m) js) → ((i : ℕ) → Among i rest → Among i js) → Part links tops pin js (Some j) (get_or tops j 0) (get_or links j 0)
          go [] c b u = absurd (omega arith)
          go (i ∷ rest) c b u =
              let e : i ≡ j = omega (arith, c.0) in
              record {
                rest = rest;
                chain = subst (λ (x : ℕ). Chain (length tops) links (get_or links x 0) rest) e c.3;
                bound = λ m l r. b m (omega arith) (subst (λ (x : ℕ). get_or tops x 0 ≤ m) (sym e) l, r);
                found = something (subst (λ (x : ℕ). Among x js) e (u i here)) (over p.found) refl;
                sub = λ i a. u i (there a);
              }

  pub scan_end : Scan links tops first pin best most j → length tops ≤ j → (js : List ℕ) → Chain (length tops) links first js → Heaviest tops pin js best
  scan_end s h js c = let p = s.part js c in go p.rest p.chain p.bound p.found
    where
      go : {best : Option ℕ} (rest : List ℕ) → Chain (length tops) links j rest → ((m : ℕ) → most ≤ m → Each (λ i. get_or tops i 0 ≤ m) rest → Each (λ i. get_or tops i 0 ≤ m) js) → Found tops pin js most best → Heaviest tops pin js best
      go (i ∷ rest) c b f = absurd (omega (arith, c.0, c.1))
      go [] c b (nothing q) = no_more (b pin (omega arith) tt)
      go [] c b (something {j} a p q) = is_at a (omega arith) (b (get_or tops j 0) (omega arith) tt)
