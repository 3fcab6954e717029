-- Through the given entries of one wire: what is left decides what is added.
use Prim.Native.Nat.{ℕ, zero, suc, ◌+◌, ◌-◌, ◌*◌, ◌≤◌, ◌<◌}
use mathlib.Core.Path.{◌≡◌, refl, sym, subst, ap, ◌∙◌}
use mathlib.Core.List.{List, [], ◌∷◌, ◌++◌, append_assoc}
use lib.ListN.{length, get_or, drop, length-append}
use lib.Seq.{drop-cons}
use native.Mathlib.Omega.{arith}
use native.Mathlib.Nat.{mul-le-mul_left}
use Rattle.rules.specs.declared.Entry.{Entry}
use Rattle.rules.specs.Load.{entries, offsets_on}
use Rattle.rules.proofs.Order.{Rising}
use Rattle.rules.specs.Figures.{most_limit}
use Rattle.frontier.specs.Cell.{Cell}
use Rattle.frontier.specs.Frontier.{ceil}
use Rattle.frontier.specs.Spaced.{spread}
use Rattle.frontier.proofs.Lower.{ceil_least}
use Rattle.frontier.proofs.Attained.{spread_length}
use Rattle.relief.specs.Pieces.{most_piece, added_from}
use Rattle.relief.specs.Runs.{from, Sorted, past}
use Rattle.relief.proofs.Runs.{sorted_on, here, none_lower, elsewhere, past_here, past_other, past_none}
use Rattle.adding.specs.declared.Wire.{Wire}
use Rattle.adding.specs.Walks.{Begins, Through, Passed}

-- ---- one entry more, or none
pub entry_at : (ws os : List ℕ) (e : ℕ) → length os ≡ length ws → e < length ws → from ws os e ≡ record { wire = get_or ws e 0; offset = get_or os e 0 } ∷ from ws os (suc e)
unfolding entries
entry_at ws os e same h = rw (drop-cons ws e 0 h, drop-cons os e 0 (let z : e < length os = omega arith in z))

drop_all : (l : List ℕ) (e : ℕ) → length l ≤ e → drop e l ≡ []
drop_all [] zero h = refl
drop_all [] (suc e) h = refl
drop_all (x ∷ l) zero h = absurd (omega arith)
drop_all (x ∷ l) (suc e) h = drop_all l e (omega arith)

pub entry_none : (ws os : List ℕ) (e : ℕ) → length ws ≤ e → from ws os e ≡ []
unfolding entries
entry_none ws os e h = ap (λ (l : List ℕ). entries l (drop e os)) (drop_all ws e h)

rising_low : (w at : ℕ) (os : List ℕ) → Rising w at os → at ≤ w
rising_low w at [] r = r
rising_low w at (o ∷ os) r = omega (arith, r.0, rising_low w o os r.1)

pub ceil_few : (τ : Cell) → τ.cu ≡ τ.cb + τ.D → 1 ≤ τ.D → (v : ℕ) → v ≤ most_piece → ceil τ v ≤ most_piece
ceil_few τ eq pos v h = let m : most_piece * 1 ≤ most_piece * τ.D = mul-le-mul_left most_piece pos in omega (arith, ceil_least τ eq pos v most_piece (omega arith))

module _ {τ : Cell} (eq : τ.cu ≡ τ.cb + τ.D) (pos : 1 ≤ τ.D) {x : Wire} {all : List Entry} where
  pub through_start : Sorted x.number all → Rising x.size 0 (offsets_on all x.number) → x.below ≤ τ.cu → Through τ x all [] 0 x.below all
  through_start s r f = record { left = λ w k. refl; rest = refl; rises = r; sorted = s; fits = f }

  pub low : {done : List ℕ} {at b : ℕ} {es : List Entry} → Through τ x all done at b es → at ≤ x.size
  low {at = at} {es = es} t = rising_low x.size at (offsets_on es x.number) t.rises

  module _ {done : List ℕ} {at b : ℕ} {d : Entry} {es : List Entry} (t : Through τ x all done at b (d ∷ es)) (on : d.wire ≡ x.number) where
    own : offsets_on (d ∷ es) x.number ≡ d.offset ∷ offsets_on es x.number
    own = here x.number d es on

    rises_now : Rising x.size at (d.offset ∷ offsets_on es x.number)
    rises_now = subst (Rising x.size at) own t.rises

    pub between : (at ≤ d.offset) × (d.offset ≤ x.size)
    between = (rises_now.0, rising_low x.size d.offset (offsets_on es x.number) rises_now.1)

    pub through_more : Through τ x all (done ++ spread τ d.offset at b (ceil τ ((d.offset - at) + b))) d.offset τ.cb es
    unfolding added_from
    through_more = record {
      left = λ w k. t.left w k ∙ ap (λ (gs : List ℕ). done ++ added_from τ w k at b gs) own ∙ step w k;
      rest = sym (past_here x.number d es on) ∙ t.rest;
      rises = rises_now.1;
      sorted = sorted_on es (omega (arith, t.sorted.0)) t.sorted.1;
      fits = omega arith;
    }
      where
        step : (w k : ℕ) → done ++ added_from τ w k at b (d.offset ∷ offsets_on es x.number) ≡ (done ++ spread τ d.offset at b (ceil τ ((d.offset - at) + b))) ++ added_from τ w k d.offset τ.cb (offsets_on es x.number)
        step w k = sym (append_assoc done (spread τ d.offset at b (ceil τ ((d.offset - at) + b))) (added_from τ w k d.offset τ.cb (offsets_on es x.number)))

-- ---- in the columns
-- the walk at entry e: what is added so far stands up to the place k
pub record Walking (τ : Cell) (ws os : List ℕ) (first : ℕ) (x : Wire) (to e k at load : ℕ) (done : List ℕ) : Type 0 where
  pub through : Through τ x (from ws os first) done at load (from ws os e)
  pub place : k ≡ to + length done
  pub within : e ≤ length ws
  pub few : k ≤ to + e * most_piece

module _ {τ : Cell} {ws os : List ℕ} {first : ℕ} {x : Wire} {to : ℕ} (eq : τ.cu ≡ τ.cb + τ.D) (pos : 1 ≤ τ.D) (small : τ.cu ≤ most_limit) (b : Begins τ ws os first x) where
  pub walking_start : Walking τ ws os first x to first to 0 x.below []
  walking_start = record { through = through_start eq pos b.sorted b.rises b.fits; place = omega arith; within = b.within; few = omega arith }

  module _ {e k at load : ℕ} {done : List ℕ} (g : Walking τ ws os first x to e k at load done) where
    module _ (h : e < length ws) (on : get_or ws e 0 ≡ x.number) where
      at_head : Through τ x (from ws os first) done at load (record { wire = get_or ws e 0; offset = get_or os e 0 } ∷ from ws os (suc e))
      at_head = subst (Through τ x (from ws os first) done at load) (entry_at ws os e b.same h) g.through

      pub next_piece : (at ≤ get_or os e 0) × (get_or os e 0 ≤ x.size)
      next_piece = between eq pos at_head on

      -- with the pieces that the next entry shuts
      pub walking_more : (o r : ℕ) → o ≡ get_or os e 0 → r ≡ ceil τ ((o - at) + load) → Walking τ ws os first x to (e + 1) (k + r) o τ.cb (done ++ spread τ o at load (ceil τ ((o - at) + load)))
      walking_more o r eo er =
          let q : e + 1 ≡ suc e = omega arith in
          let n : length (spread τ o at load (ceil τ ((o - at) + load))) ≡ r = spread_length τ eq pos o at load (ceil τ ((o - at) + load)) ∙ sym er in
          record {
            through = rw q (subst (λ (o : ℕ). Through τ x (from ws os first) (done ++ spread τ o at load (ceil τ ((o - at) + load))) o τ.cb (from ws os (suc e))) (sym eo) (through_more eq pos at_head on));
            place = omega (arith, g.place, length-append done (spread τ o at load (ceil τ ((o - at) + load))));
            within = omega arith;
            few = omega (arith, g.few, ceil_few τ eq pos ((o - at) + load) (omega (arith, b.size, g.through.fits, next_piece.1)));
          }

    -- past the last of the wire
    passed : offsets_on (from ws os e) x.number ≡ [] → past x.number (from ws os e) ≡ from ws os e → Passed τ ws os first x to (record { next = e; to = k; at = at; load = load }) done
    passed c p = record { through = g.through; clear = c; next = sym p ∙ g.through.rest; to = g.place; within = g.within; few = g.few }

    pub passed_all : length ws ≤ e → Passed τ ws os first x to (record { next = e; to = k; at = at; load = load }) done
    unfolding offsets_on
    passed_all h = let z = entry_none ws os e h in passed (ap (λ (es : List Entry). offsets_on es x.number) z) (ap (past x.number) z ∙ past_none x.number ∙ sym z)

    pub passed_other : e < length ws → (get_or ws e 0 ≡ x.number → ⊥) → Passed τ ws os first x to (record { next = e; to = k; at = at; load = load }) done
    passed_other h ne =
        let d : Entry = record { wire = get_or ws e 0; offset = get_or os e 0 } in
        let z = entry_at ws os e b.same h in
        let s : Sorted x.number (d ∷ from ws os (suc e)) = subst (Sorted x.number) z g.through.sorted in
        passed (ap (λ (es : List Entry). offsets_on es x.number) z ∙ elsewhere x.number d (from ws os (suc e)) ne ∙ none_lower x.number (get_or ws e 0) (from ws os (suc e)) (omega (arith, s.0, above s)) s.1)
        (ap (past x.number) z ∙ past_other x.number d (from ws os (suc e)) ne ∙ sym z)
      where
        above : Sorted x.number (record { wire = get_or ws e 0; offset = get_or os e 0 } ∷ from ws os (suc e)) → x.number < get_or ws e 0
        above s = go (get_or ws e 0 - x.number) refl
          where
            go : (r : ℕ) → get_or ws e 0 - x.number ≡ r → x.number < get_or ws e 0
            go zero q = absurd (ne (omega (arith, s.0)))
            go (suc r) q = omega arith
