-- What each wire hands up by itself, and whether it asks further down. One pass over the nodes and one over the entries fill the tables: after k entries
-- they are right for a placement of just these.
use Prim.Native.Nat.{ℕ, zero, suc, ◌+◌, ◌-◌, ◌≤◌, ◌<◌}
use mathlib.Core.Path.{◌≡◌, refl, sym, ◌∙◌}
use mathlib.Core.Bool.{Bool, true, false}
use mathlib.Core.List.{List, [], ◌∷◌, ◌++◌}
use native.Mathlib.Omega.{arith}
use native.Mathlib.Numerals.{add-one}
use native.Mathlib.Decide.{ℕ_discrete, dec_lt}
use borrow.Author.Tests.{eq-eqb, ne_eqb, eqb-true}
use lib.Dec.{eqb}
use lib.ListN.{length, get_or, set, length-set, take}
use lib.Seq.{get_or-set_same, get_or-set_other, take-length}
use Rattle.rules.specs.Figures.{most_places}
use Rattle.rules.specs.Choose.{pick}
use Rattle.rules.specs.Net.{Net, places, wire, kind, pin}
use Rattle.rules.specs.Load.{entries, offsets_on, hands_up, handed_up, load_below}
use Rattle.rules.specs.Sound.{SoundNet}
use Rattle.load.specs.Tables.{own_part, shut_by, Parts}
use Rattle.rules.proofs.Tests.{never}
use Rattle.load.proofs.Bound.{hands_up_most}
use Rattle.load.proofs.Scan.{load_sink}

-- ---- what the parts say

module _ (n : Net) (i : ℕ) where
  shut_part : (xs : List ℕ) (load : ℕ) → (kind n i ≡ 1 → load ≡ pin n i) → shut_by n i xs ≡ true → hands_up n.limits.pin (wire n i) 0 load xs ≡ own_part n i xs
  unfolding hands_up own_part shut_by
  shut_part [] load l z = rw z (omega (arith, l (eqb-true (kind n i) 1 z)))
  shut_part (o ∷ os) load l z = refl

  open_part : (xs : List ℕ) (load : ℕ) → shut_by n i xs ≡ false → hands_up n.limits.pin (wire n i) 0 load xs ≡ own_part n i xs + load
  unfolding hands_up own_part shut_by
  open_part [] load z = rw z (omega arith)
  open_part (o ∷ os) load z = never z

  branch_part : (xs : List ℕ) → shut_by n i xs ≡ false → kind n i ≡ 1 → ⊥
  unfolding shut_by
  branch_part [] z k = never (sym (eq-eqb (kind n i) 1 k) ∙ z)
  branch_part (o ∷ os) z k = never z

  own_bare : (s : SoundNet n) (z : Bool) → pick z (wire n i + pin n i) (wire n i) ≤ 11000000
  own_bare s true = omega (arith, s.wire_most i, s.pin_most i)
  own_bare s false = omega (arith, s.wire_most i)

  own_part_most : SoundNet n → (xs : List ℕ) → own_part n i xs ≤ 11000000
  unfolding own_part
  own_part_most s [] = own_bare s (eqb (kind n i) 1)
  own_part_most s (o ∷ os) = omega (arith, hands_up_most n.limits.pin (wire n i) 0 0 (o ∷ os), s.wire_most i, s.half, s.limit_most)

module _ {n : Net} {offs : ℕ → List ℕ} {own : List ℕ} {shut : List Bool} (p : Parts n offs own shut) (i : ℕ) where
  pub handed_shut : get_or shut i false ≡ true → handed_up n offs i ≡ get_or own i 0
  unfolding handed_up
  handed_shut z = shut_part n i (offs i) (load_below n offs i) (load_sink n offs i) (sym (p.shut_is i) ∙ z) ∙ sym (p.own_is i)

  pub handed_open : get_or shut i false ≡ false → handed_up n offs i ≡ get_or own i 0 + load_below n offs i
  unfolding handed_up
  handed_open z = rw (p.own_is i) (open_part n i (offs i) (load_below n offs i) (sym (p.shut_is i) ∙ z))

  pub open_branch : get_or shut i false ≡ false → kind n i ≡ 1 → ⊥
  open_branch z = branch_part n i (offs i) (sym (p.shut_is i) ∙ z)

  pub own_most : SoundNet n → get_or own i 0 ≤ 11000000
  own_most s = rw (p.own_is i) (own_part_most n i s (offs i))

-- ---- the pass over the nodes

-- the nodes before i are done, and the others' places are clear
pub record Bare (ws ks ps own : List ℕ) (shut : List Bool) (i : ℕ) : Type 0 where
  pub own_long : length own ≡ most_places
  pub shut_long : length shut ≡ most_places
  pub own_done : (j : ℕ) → j < i → get_or own j 0 ≡ pick (eqb (get_or ks j 0) 1) (get_or ws j 0 + get_or ps j 0) (get_or ws j 0)
  pub shut_done : (j : ℕ) → j < i → get_or shut j false ≡ eqb (get_or ks j 0) 1
  pub own_clear : (j : ℕ) → i ≤ j → get_or own j 0 ≡ 0
  pub shut_clear : (j : ℕ) → i ≤ j → get_or shut j false ≡ false

module _ {n : Net} {own : List ℕ} {shut : List Bool} {i : ℕ} (b : Bare n.wires n.kinds n.pins own shut i) where
  pub bare_all : SoundNet n → places n ≤ i → Parts n (offsets_on []) own shut
  unfolding own_part shut_by offsets_on
  bare_all s h = record {
    own_long = b.own_long;
    shut_long = b.shut_long;
    own_is = λ j. elim (dec_lt j i) [
      | yes l ↦ b.own_done j l
      | no l ↦ b.own_clear j (omega arith) ∙ sym (rw (past n.kinds j (omega (arith, s.kinds_long)), past n.wires j (omega (arith, s.wires_long))))
    ];
    shut_is = λ j. elim (dec_lt j i) [
      | yes l ↦ b.shut_done j l
      | no l ↦ b.shut_clear j (omega arith) ∙ sym (rw (past n.kinds j (omega (arith, s.kinds_long))))
    ];
  }
    where
      past : (xs : List ℕ) (j : ℕ) → length xs ≤ j → get_or xs j 0 ≡ 0
      past [] zero l = refl
      past [] (suc j) l = refl
      past (x ∷ xs) zero l = absurd (omega arith)
      past (x ∷ xs) (suc j) l = past xs j (omega arith)

-- ---- the pass over the entries

-- the offsets of the first k entries
abbrev pub offsets_to : List ℕ → List ℕ → ℕ → ℕ → List ℕ
offsets_to vs os k = offsets_on (entries (take k vs) (take k os))

swap : (a b : Bool) (o x : ℕ) (l : List ℕ) → pick a (o ∷ pick b (l ++ (x ∷ [])) l) (pick b (l ++ (x ∷ [])) l) ≡ pick b (pick a (o ∷ l) l ++ (x ∷ [])) (pick a (o ∷ l) l)
swap true true o x l = refl
swap true false o x l = refl
swap false true o x l = refl
swap false false o x l = refl

offsets_step : (i : ℕ) (vs os : List ℕ) (k : ℕ) → length os ≡ length vs → k < length vs
    → offsets_to vs os (suc k) i ≡ pick (eqb (get_or vs k 0) i) (offsets_to vs os k i ++ (get_or os k 0 ∷ [])) (offsets_to vs os k i)
unfolding entries offsets_on
offsets_step i [] os k e h = absurd (omega arith)
offsets_step i (v ∷ vs) [] k e h = absurd (omega arith)
offsets_step i (v ∷ vs) (o ∷ os) zero e h = refl
offsets_step i (v ∷ vs) (o ∷ os) (suc k) e h = rw (offsets_step i vs os k (omega arith) (omega arith)) (swap (eqb v i) (eqb (get_or vs k 0) i) o (get_or os k 0) (offsets_to vs os k i))

module _ (vs os : List ℕ) (k : ℕ) (e : length os ≡ length vs) (h : k < length vs) (i : ℕ) where
  pub offsets_more : get_or vs k 0 ≡ i → offsets_to vs os (k + 1) i ≡ offsets_to vs os k i ++ (get_or os k 0 ∷ [])
  offsets_more q = rw add-one (offsets_step i vs os k e h ∙ rw (eq-eqb (get_or vs k 0) i q))

  pub offsets_same : (get_or vs k 0 ≡ i → ⊥) → offsets_to vs os (k + 1) i ≡ offsets_to vs os k i
  offsets_same q = rw add-one (offsets_step i vs os k e h ∙ rw (ne_eqb (get_or vs k 0) i q))

pub offsets_all : (vs os : List ℕ) (k : ℕ) → length os ≡ length vs → k ≡ length vs → offsets_to vs os k ≡ offsets_on (entries vs os)
offsets_all vs os k e q = let f : length vs ≡ length os = sym e in rw (q, take-length, f, take-length)

module _ (n : Net) (i : ℕ) where
  hands_end : (from load : ℕ) (xs : List ℕ) (o : ℕ) → hands_up n.limits.pin (wire n i) from load (xs ++ (o ∷ [])) ≡ (wire n i - o) + n.limits.pin
  unfolding hands_up
  hands_end from load [] o = refl
  hands_end from load (x ∷ xs) o = hands_end x n.limits.pin xs o

  own_end : (xs : List ℕ) (o : ℕ) → own_part n i (xs ++ (o ∷ [])) ≡ (wire n i - o) + n.limits.pin
  unfolding own_part
  own_end [] o = hands_end 0 0 [] o
  own_end (x ∷ xs) o = hands_end 0 0 (x ∷ xs) o

  shut_end : (xs : List ℕ) (o : ℕ) → shut_by n i (xs ++ (o ∷ [])) ≡ true
  unfolding shut_by
  shut_end [] o = refl
  shut_end (x ∷ xs) o = refl

module _ {n : Net} {own : List ℕ} {shut : List Bool} (vs os : List ℕ) (k : ℕ) (p : Parts n (offsets_to vs os k) own shut) (e : length os ≡ length vs) (h : k < length vs) (w : get_or vs k 0 < most_places) where
  pub parts_cut : (x : ℕ) → x ≡ (wire n (get_or vs k 0) - get_or os k 0) + n.limits.pin → Parts n (offsets_to vs os (k + 1)) (set own (get_or vs k 0) x) (set shut (get_or vs k 0) true)
  parts_cut x ex =
      let on : ℕ = get_or vs k 0 in
      record {
        own_long = simp length-set p.own_long;
        shut_long = simp length-set p.shut_long;
        own_is = λ i. elim (ℕ_discrete on i) [
          | yes q ↦ rw (← q) (get_or-set_same own on x 0 (omega (arith, p.own_long)) ∙ ex ∙ sym (rw (offsets_more vs os k e h on refl) (own_end n on (offsets_to vs os k on) (get_or os k 0))))
          | no q ↦ get_or-set_other own on i x 0 (λ z. q (sym z)) ∙ p.own_is i ∙ sym (rw (offsets_same vs os k e h i q))
        ];
        shut_is = λ i. elim (ℕ_discrete on i) [
          | yes q ↦ rw (← q) (get_or-set_same shut on true false (omega (arith, p.shut_long)) ∙ sym (rw (offsets_more vs os k e h on refl) (shut_end n on (offsets_to vs os k on) (get_or os k 0))))
          | no q ↦ get_or-set_other shut on i true false (λ z. q (sym z)) ∙ p.shut_is i ∙ sym (rw (offsets_same vs os k e h i q))
        ];
      }
