-- An overfull node: its heaviest wires get a buffer on top, one after the other, until the load fits or none is heavier than the pin.
use Rattle.std.specs.Prelude.{ℕ, ◌+◌, ◌≤◌, ◌<◌, ◌≡◌, List, length, get_or}
use Rattle.rules.specs.Legal.{Each}
use Rattle.frontier.specs.Cell.{Cell}
use Rattle.relief.specs.Pieces.{topped}
use Rattle.relief.specs.Marks.{Divides}
use Rattle.buffers.specs.Chain.{Among, sum_l, Chained}

-- none of js is topped, and what they hand up together is load
pub record Fresh (τ : Cell) (tops on js : List ℕ) (load : ℕ) : Type 0 where
  pub within : Each (λ j. get_or tops j 0 ≤ τ.cu) js
  pub clear : Each (λ j. get_or on j 0 ≡ 0) js
  pub sum : sum_l (λ j. get_or tops j 0) js ≡ load

pub record Loaded (τ : Cell) (links tops on : List ℕ) (first load : ℕ) : Type 0 where
  pub chained : Chained links tops first
  pub on_long : length on ≡ length tops
  pub fresh : Fresh τ tops on chained.js load

-- some of js are topped, the heaviest first, and they hand up h together; nothing else has changed
pub record Easing (τ : Cell) (tops₀ on₀ tops on js : List ℕ) (h : ℕ) : Type 0 where
  pub x : ℕ
  pub small : x ≤ τ.D
  pub each : Each (λ j. Divides τ x (get_or tops₀ j 0) (get_or on j 0)) js
  pub tight : 1 ≤ sum_l (λ j. get_or on j 0) js → τ.cu < h + x
  pub load : sum_l (λ j. get_or tops j 0) js ≡ h
  pub tops_are : Each (λ j. get_or tops j 0 ≡ topped τ (get_or on j 0) (get_or tops₀ j 0)) js
  pub tops_kept : (j : ℕ) → (Among j js → ⊥) → get_or tops j 0 ≡ get_or tops₀ j 0
  pub on_kept : (j : ℕ) → (Among j js → ⊥) → get_or on j 0 ≡ get_or on₀ j 0
  pub tops_long : length tops ≡ length tops₀
  pub on_long : length on ≡ length on₀

-- the load fits, or none of js is heavier than the pin
pub data Ended (τ : Cell) (tops js : List ℕ) (h : ℕ) : Type 0 where
  within : h ≤ τ.cu → Ended τ tops js h
  stuck : τ.cu < h → Each (λ j. get_or tops j 0 ≤ τ.cb) js → Ended τ tops js h

pub record Eased (τ : Cell) (tops₀ on₀ tops on js : List ℕ) (h : ℕ) : Type 0 where
  pub easing : Easing τ tops₀ on₀ tops on js h
  pub ended : Ended τ tops js h
