-- The entries of all wires, wire after wire: what is written so far and what is still to be written make the whole of them.
use Prim.Native.Nat.{ℕ, suc, ◌+◌, ◌-◌, ◌≤◌, ◌<◌}
use mathlib.Core.Path.{◌≡◌, refl, sym, ap, ◌∙◌}
use mathlib.Core.List.{List, [], ◌∷◌, ◌++◌, append_assoc, append-nil, map}
use native.Mathlib.Omega.{arith}
use lib.ListN.{length, replicate, length-append}
use lib.Seq.{sets, length-sets}
use Rattle.rules.specs.declared.Entry.{Entry}
use Rattle.frontier.specs.Placed.{on_wire, on_wires}
use Rattle.columns.specs.Columns.{wire_column, offset_column}
use Rattle.columns.proofs.Spacing.{sets_append}

map_both : (f : Entry → ℕ) (p q : List Entry) → map f (p ++ q) ≡ map f p ++ map f q
map_both f [] q = refl
map_both f (e ∷ p) q = ap (λ (xs : List ℕ). f e ∷ xs) (map_both f p q)

on_wires_lem : (i : ℕ) (os : List ℕ) → wire_column (on_wire i os) ≡ replicate (length os) i
unfolding on_wire
on_wires_lem i [] = refl
on_wires_lem i (o ∷ os) = ap (λ (xs : List ℕ). i ∷ xs) (on_wires_lem i os)

on_offsets : (i : ℕ) (os : List ℕ) → offset_column (on_wire i os) ≡ os
unfolding on_wire
on_offsets i [] = refl
on_offsets i (o ∷ os) = ap (λ (xs : List ℕ). o ∷ xs) (on_offsets i os)

pub on_length : (i : ℕ) (os : List ℕ) → length (on_wire i os) ≡ length os
unfolding on_wire
on_length i [] = refl
on_length i (o ∷ os) = ap suc (on_length i os)

pub column_length : (f : Entry → ℕ) (p : List Entry) → length (map f p) ≡ length p
column_length f [] = refl
column_length f (e ∷ p) = ap suc (column_length f p)

-- of the wires from 1 on, fewer than N
pub record Listing (N : ℕ) (offs : ℕ → List ℕ) (ws₀ ws os₀ os : List ℕ) (i at : ℕ) : Type 0 where
  pub lo : 1 ≤ i
  pub done : List Entry
  pub long : length done ≡ at
  pub all : on_wires offs (N - 1) 1 ≡ done ++ on_wires offs (N - i) i
  pub wires : ws ≡ sets ws₀ 0 (wire_column done)
  pub offsets : os ≡ sets os₀ 0 (offset_column done)

pub listing_none : (N : ℕ) (offs : ℕ → List ℕ) (ws os : List ℕ) → Listing N offs ws ws os os 1 0
listing_none N offs ws os = record { lo = omega arith; done = []; long = refl; all = refl; wires = refl; offsets = refl }

module _ {N : ℕ} {offs : ℕ → List ℕ} {ws₀ ws os₀ os : List ℕ} {i at : ℕ} (s : Listing N offs ws₀ ws os₀ os i at) (h : i < N) where
  step : on_wires offs (N - i) i ≡ on_wire i (offs i) ++ on_wires offs (N - suc i) (suc i)
  unfolding on_wires
  step = let e : N - i ≡ suc (N - suc i) = omega arith in rw e

  -- there is room for wire i
  pub listing_room : at + length (offs i) ≤ length (on_wires offs (N - 1) 1)
  listing_room =
      let a : length (on_wires offs (N - 1) 1) ≡ length s.done + length (on_wires offs (N - i) i) = ap length s.all ∙ length-append s.done (on_wires offs (N - i) i) in
      let b : length (on_wires offs (N - i) i) ≡ length (on_wire i (offs i)) + length (on_wires offs (N - suc i) (suc i)) = ap length step ∙ length-append (on_wire i (offs i)) (on_wires offs (N - suc i) (suc i)) in
      omega (arith, s.long, on_length i (offs i))

  pub listing_more : {ws' os' : List ℕ} (at' : ℕ) → at' ≡ at + length (offs i) → ws' ≡ sets ws at (replicate (length (offs i)) i) → os' ≡ sets os at (offs i) → Listing N offs ws₀ ws' os₀ os' (i + 1) at'
  listing_more {ws'} {os'} at' ea ew eo = record {
    lo = omega arith;
    done = s.done ++ on_wire i (offs i);
    long = length-append s.done (on_wire i (offs i)) ∙ omega (arith, s.long, on_length i (offs i));
    all = s.all ∙ ap (λ (p : List Entry). s.done ++ p) step ∙ sym (append_assoc s.done (on_wire i (offs i)) (on_wires offs (N - suc i) (suc i))) ∙ ap (λ (k : ℕ). (s.done ++ on_wire i (offs i)) ++ on_wires offs (N - k) k) (let e : suc i ≡ i + 1 = omega arith in e);
    wires =
        ew ∙ ap (λ (l : List ℕ). sets l at (replicate (length (offs i)) i)) s.wires ∙ ap (λ (xs : List ℕ). sets (sets ws₀ 0 (wire_column s.done)) at xs) (sym (on_wires_lem i (offs i)))
        ∙ joined (λ e. e.wire) ws₀;
    offsets =
        eo ∙ ap (λ (l : List ℕ). sets l at (offs i)) s.offsets ∙ ap (λ (xs : List ℕ). sets (sets os₀ 0 (offset_column s.done)) at xs) (sym (on_offsets i (offs i)))
        ∙ joined (λ e. e.offset) os₀;
  }
    where
      joined : (f : Entry → ℕ) (l : List ℕ) → sets (sets l 0 (map f s.done)) at (map f (on_wire i (offs i))) ≡ sets l 0 (map f (s.done ++ on_wire i (offs i)))
      joined f l =
          let e : at ≡ 0 + length (map f s.done) = omega (arith, s.long, column_length f s.done) in
          ap (λ (k : ℕ). sets (sets l 0 (map f s.done)) k (map f (on_wire i (offs i)))) e ∙ sym (sets_append l 0 (map f s.done) (map f (on_wire i (offs i)))) ∙ ap (sets l 0) (sym (map_both f s.done (on_wire i (offs i))))

pub listing_all : {N : ℕ} {offs : ℕ → List ℕ} {ws₀ ws os₀ os : List ℕ} {i at : ℕ} → Listing N offs ws₀ ws os₀ os i at → N ≤ i → (ws ≡ sets ws₀ 0 (wire_column (on_wires offs (N - 1) 1))) × (os ≡ sets os₀ 0 (offset_column (on_wires offs (N - 1) 1)))
unfolding on_wires
listing_all {N} {offs} {ws₀} {ws} {os₀} {os} {i} s h =
    let e : N - i ≡ 0 = omega arith in
    let a : on_wires offs (N - 1) 1 ≡ s.done = s.all ∙ rw e (append-nil s.done) in
    (s.wires ∙ ap (λ (p : List Entry). sets ws₀ 0 (wire_column p)) (sym a), s.offsets ∙ ap (λ (p : List Entry). sets os₀ 0 (offset_column p)) (sym a))

pub wires_long : {N : ℕ} {offs : ℕ → List ℕ} {ws₀ ws os₀ os : List ℕ} {i at : ℕ} → Listing N offs ws₀ ws os₀ os i at → length ws ≡ length ws₀
wires_long {ws₀ = ws₀} s = ap length s.wires ∙ length-sets ws₀ 0 (wire_column s.done)

pub offsets_long : {N : ℕ} {offs : ℕ → List ℕ} {ws₀ ws os₀ os : List ℕ} {i at : ℕ} → Listing N offs ws₀ ws os₀ os i at → length os ≡ length os₀
offsets_long {os₀ = os₀} s = ap length s.offsets ∙ length-sets os₀ 0 (offset_column s.done)
