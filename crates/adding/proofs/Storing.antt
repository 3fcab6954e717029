-- What is stored into the lent columns, run after run.
use Prim.Native.Nat.{ℕ, suc, ◌+◌, ◌-◌, ◌≤◌, ◌<◌, min}
use mathlib.Core.Path.{◌≡◌, refl, sym, subst, ap, ◌∙◌}
use mathlib.Core.List.{List, [], ◌∷◌, ◌++◌}
use lib.ListN.{length, get_or, replicate, length-append, length-replicate}
use lib.Seq.{sets, length-sets}
use native.Mathlib.Omega.{arith}
use Rattle.rules.specs.Load.{offsets_on}
use Rattle.rules.specs.Figures.{most_limit}
use Rattle.frontier.specs.Cell.{Cell}
use Rattle.frontier.specs.Frontier.{ceil}
use Rattle.frontier.specs.Spaced.{spread, steps}
use Rattle.frontier.proofs.Attained.{spread_length, spread_steps}
use Rattle.columns.proofs.Spacing.{sets_append, steps_still, both_wires}
use Rattle.relief.specs.Pieces.{added_from}
use Rattle.relief.specs.Runs.{from}
use Rattle.relief.proofs.Runs.{here}
use Rattle.adding.specs.declared.Wire.{Wire}
use Rattle.adding.specs.declared.Walked.{Walked}
use Rattle.adding.specs.Walks.{Begins, Passed, Stores, Wrote, WroteAll, Room}
use Rattle.adding.proofs.Walking.{entry_at, Walking, walking_start, walking_more, passed_all, passed_other}

-- ---- none, and one run after the other
pub stores_none : (i to : ℕ) (wires offs : List ℕ) → Stores [] i to wires offs wires offs
stores_none i to wires offs = record { wires_are = refl; offs_are = refl }

pub stores_both : {vs us : List ℕ} {i to at : ℕ} {a b a' b' a'' b'' : List ℕ} → at ≡ to + length vs → Stores vs i to a b a' b' → Stores us i at a' b' a'' b'' → Stores (vs ++ us) i to a b a'' b''
stores_both {vs} {us} {i} {to} {at} {a} {b} {a'} {b'} q x y =
    let n : length (vs ++ us) ≡ length vs + length us = length-append vs us in
    record {
      wires_are = both_wires a to i (length vs) (length us) x.wires_are (y.wires_are ∙ ap (λ (k : ℕ). sets a' k (replicate (length us) i)) q) ∙ ap (λ (k : ℕ). sets a to (replicate k i)) (sym n);
      offs_are = y.offs_are ∙ ap (λ (k : ℕ). sets b' k us) q ∙ ap (λ (l : List ℕ). sets l (to + length vs) us) x.offs_are ∙ sym (sets_append b to vs us);
    }

pub stores_long : {vs : List ℕ} {i to : ℕ} {a b a' b' : List ℕ} → Stores vs i to a b a' b' → (length a' ≡ length a) × (length b' ≡ length b)
stores_long {vs} {i} {to} {a} {b} x = (ap length x.wires_are ∙ length-sets a to (replicate (length vs) i), ap length x.offs_are ∙ length-sets b to vs)

-- ---- by spacing, and at the upper end
module _ (τ : Cell) (eq : τ.cu ≡ τ.cb + τ.D) (pos : 1 ≤ τ.D) where
  pub none_stored : (w at load i to : ℕ) (a b : List ℕ) → ceil τ ((w - at) + load) ≡ 0 → (to ≡ to + ceil τ ((w - at) + load)) × Stores (spread τ w at load (ceil τ ((w - at) + load))) i to a b a b
  unfolding spread
  none_stored w at load i to a b z = rw z (omega arith, stores_none i to a b)

  pub stored_room : (w at load r : ℕ) {to : ℕ} {a b : List ℕ} → r ≡ ceil τ ((w - at) + load) → Room (spread τ w at load (ceil τ ((w - at) + load))) to a b → (to + r ≤ length a) × (to + r ≤ length b)
  stored_room w at load r er m = let n = spread_length τ eq pos w at load (ceil τ ((w - at) + load)) in (omega (arith, m.in_wires), omega (arith, m.in_offs))

  pub piece_stored : (w at load i to o r : ℕ) {a b a' b' : List ℕ} → o ≡ min w (at + (τ.cu - load)) → r ≡ ceil τ ((w - at) + load) → a' ≡ sets a to (replicate r i) → b' ≡ sets b to (steps w τ.D o r)
      → (to + r ≡ to + ceil τ ((w - at) + load)) × Stores (spread τ w at load (ceil τ ((w - at) + load))) i to a b a' b'
  piece_stored w at load i to o r {a} {b} eo er ea eb =
      let n : length (spread τ w at load (ceil τ ((w - at) + load))) ≡ r = spread_length τ eq pos w at load (ceil τ ((w - at) + load)) ∙ sym er in
      let s : spread τ w at load (ceil τ ((w - at) + load)) ≡ steps w τ.D o r = spread_steps τ eq w at load (ceil τ ((w - at) + load)) ∙ sym (λ ι. steps w τ.D (eo ι) (er ι)) in (
        ap (λ (k : ℕ). to + k) er,
        record { wires_are = ea ∙ ap (λ (k : ℕ). sets a to (replicate k i)) (sym n); offs_are = eb ∙ ap (sets b to) (sym s) },
      )

pub top_stored : (w i to k : ℕ) {a b a' b' : List ℕ} → a' ≡ sets a to (replicate k i) → b' ≡ sets b to (steps w 0 w k) → Stores (replicate k w) i to a b a' b'
top_stored w i to k {a} {b} ea eb = record { wires_are = ea ∙ ap (λ (j : ℕ). sets a to (replicate j i)) (sym (length-replicate {A = ℕ} k w)); offs_are = eb ∙ ap (sets b to) (steps_still w k) }

-- both: all of a wire from `at` on, where `load` hangs and nothing is given above
module _ (τ : Cell) (eq : τ.cu ≡ τ.cb + τ.D) (pos : 1 ≤ τ.D) (w k at load : ℕ) where
  abbrev piece : List ℕ
  piece = spread τ w at load (ceil τ ((w - at) + load))

  pub above_long : length (added_from τ w k at load []) ≡ ceil τ ((w - at) + load) + k
  unfolding added_from
  above_long = length-append piece (replicate k w) ∙ omega (arith, spread_length τ eq pos w at load (ceil τ ((w - at) + load)), length-replicate {A = ℕ} k w)

  module _ {to : ℕ} {a b : List ℕ} (r : Room (added_from τ w k at load []) to a b) where
    pub room_piece : Room (spread τ w at load (ceil τ ((w - at) + load))) to a b
    room_piece = let n = spread_length τ eq pos w at load (ceil τ ((w - at) + load)) in record { in_wires = omega (arith, r.in_wires, above_long); in_offs = omega (arith, r.in_offs, above_long) }

    pub room_top : {i : ℕ} {a' b' : List ℕ} (next : ℕ) → next ≡ to + ceil τ ((w - at) + load) → Stores (spread τ w at load (ceil τ ((w - at) + load))) i to a b a' b' → (next + k ≤ length a') × (next + k ≤ length b')
    room_top next en s = let (l, m) = stores_long s in (omega (arith, r.in_wires, above_long), omega (arith, r.in_offs, above_long))

  pub above_stored : {i to : ℕ} {a b a' b' a'' b'' : List ℕ} (next : ℕ) → next ≡ to + ceil τ ((w - at) + load) → Stores (spread τ w at load (ceil τ ((w - at) + load))) i to a b a' b' → Stores (replicate k w) i next a' b' a'' b''
      → (next + k ≡ to + length (added_from τ w k at load [])) × Stores (added_from τ w k at load []) i to a b a'' b''
  unfolding added_from
  above_stored {to = to} next en s t =
      (omega (arith, above_long), stores_both (en ∙ ap (λ (j : ℕ). to + j) (sym (spread_length τ eq pos w at load (ceil τ ((w - at) + load))))) s t)

-- ---- the given entries of one wire passed and what is added below them written
pub record Writing (τ : Cell) (ws os : List ℕ) (first : ℕ) (x : Wire) (to : ℕ) (wires₀ offs₀ : List ℕ) (e k at load : ℕ) (wires offs done : List ℕ) : Type 0 where
  pub walking : Walking τ ws os first x to e k at load done
  pub stores : Stores done x.number to wires₀ offs₀ wires offs

-- what is to be added to the wire
abbrev pub whole : Cell → List ℕ → List ℕ → ℕ → Wire → List ℕ
whole τ ws os e x = added_from τ x.size x.top 0 x.below (offsets_on (from ws os e) x.number)

module _ {τ : Cell} {ws os : List ℕ} {first : ℕ} {x : Wire} {to : ℕ} {wires₀ offs₀ : List ℕ} (eq : τ.cu ≡ τ.cb + τ.D) (pos : 1 ≤ τ.D) (small : τ.cu ≤ most_limit) (b : Begins τ ws os first x) where
  pub writing_start : Writing τ ws os first x to wires₀ offs₀ first to 0 x.below wires₀ offs₀ []
  writing_start = record { walking = walking_start eq pos small b; stores = stores_none x.number to wires₀ offs₀ }

  module _ {e k at load : ℕ} {wires offs done : List ℕ} (g : Writing τ ws os first x to wires₀ offs₀ e k at load wires offs done) where
    -- the room for all of the wire has room for what comes next
    room_next : (vs us : List ℕ) → Room (whole τ ws os first x) to wires₀ offs₀ → whole τ ws os first x ≡ done ++ (vs ++ us) → Room vs k wires offs
    room_next vs us r q =
        let n : length (whole τ ws os first x) ≡ length done + (length vs + length us) = ap length q ∙ length-append done (vs ++ us) ∙ ap (λ (k : ℕ). length done + k) (length-append vs us) in
        let (l, m) = stores_long g.stores in
        record { in_wires = omega (arith, r.in_wires, g.walking.place); in_offs = omega (arith, r.in_offs, g.walking.place) }

    module _ (h : e < length ws) (on : get_or ws e 0 ≡ x.number) where
      pub room_between : (o : ℕ) → o ≡ get_or os e 0 → Room (whole τ ws os first x) to wires₀ offs₀ → Room (spread τ o at load (ceil τ ((o - at) + load))) k wires offs
      unfolding added_from
      room_between o eo r =
          let z = entry_at ws os e b.same h in
          room_next (spread τ o at load (ceil τ ((o - at) + load))) (added_from τ x.size x.top o τ.cb (offsets_on (from ws os (suc e)) x.number)) r
          (g.walking.through.left x.size x.top ∙ ap (λ (gs : List ℕ). done ++ added_from τ x.size x.top at load gs) (ap (λ es. offsets_on es x.number) z ∙ here x.number _ (from ws os (suc e)) on ∙ ap (λ (o : ℕ). o ∷ offsets_on (from ws os (suc e)) x.number) (sym eo)))

      pub writing_more : (o r : ℕ) → o ≡ get_or os e 0 → {wires' offs' : List ℕ} → r ≡ k + ceil τ ((o - at) + load) → Stores (spread τ o at load (ceil τ ((o - at) + load))) x.number k wires offs wires' offs'
          → Writing τ ws os first x to wires₀ offs₀ (e + 1) r o τ.cb wires' offs' (done ++ spread τ o at load (ceil τ ((o - at) + load)))
      writing_more o r eo {wires'} {offs'} er s = rw er (record { walking = walking_more eq pos small b g.walking h on o (ceil τ ((o - at) + load)) eo refl; stores = stores_both g.walking.place g.stores s })

    pub wrote_all : length ws ≤ e → Wrote τ ws os first x to (record { next = e; to = k; at = at; load = load }) wires₀ offs₀ wires offs
    wrote_all h = (done, passed_all eq pos small b g.walking h, g.stores)

    pub wrote_other : e < length ws → (get_or ws e 0 ≡ x.number → ⊥) → Wrote τ ws os first x to (record { next = e; to = k; at = at; load = load }) wires₀ offs₀ wires offs
    wrote_other h ne = (done, passed_other eq pos small b g.walking h ne, g.stores)

-- ---- and what is above the last of them
module _ {τ : Cell} {ws os : List ℕ} {e : ℕ} {x : Wire} {to : ℕ} {p : Walked} {done : List ℕ} (eq : τ.cu ≡ τ.cb + τ.D) (pos : 1 ≤ τ.D) (g : Passed τ ws os e x to p done) where
  whole_is : whole τ ws os e x ≡ done ++ added_from τ x.size x.top p.at p.load []
  whole_is = g.through.left x.size x.top ∙ ap (λ (gs : List ℕ). done ++ added_from τ x.size x.top p.at p.load gs) g.clear

  whole_both : length (whole τ ws os e x) ≡ length done + length (added_from τ x.size x.top p.at p.load [])
  whole_both = ap length whole_is ∙ length-append done (added_from τ x.size x.top p.at p.load [])

  pub whole_long : length (whole τ ws os e x) ≡ (length done + ceil τ ((x.size - p.at) + p.load)) + x.top
  whole_long = omega (arith, whole_both, above_long τ eq pos x.size x.top p.at p.load)

  -- there is room for it
  pub room_above : {a b a' b' : List ℕ} → Room (whole τ ws os e x) to a b → Stores done x.number to a b a' b' → Room (added_from τ x.size x.top p.at p.load []) p.to a' b'
  room_above r s = let (l, m) = stores_long s in record { in_wires = omega (arith, r.in_wires, whole_both, g.to); in_offs = omega (arith, r.in_offs, whole_both, g.to) }

  pub wrote : {r : Walked} {a b a' b' a'' b'' : List ℕ} → Stores done x.number to a b a' b' → Stores (added_from τ x.size x.top p.at p.load []) x.number p.to a' b' a'' b''
      → r.to ≡ p.to + length (added_from τ x.size x.top p.at p.load []) → r.next ≡ p.next → WroteAll τ ws os e x to r a b a'' b''
  wrote {r} {a} {b} {a'' = a''} {b''} s t er ex = record {
    to = omega (arith, g.to, whole_both);
    next = ap (from ws os) ex ∙ g.next;
    within = omega (arith, g.within);
    stores = subst (λ (vs : List ℕ). Stores vs x.number to a b a'' b'') (sym whole_is) (stores_both g.to s t);
  }
