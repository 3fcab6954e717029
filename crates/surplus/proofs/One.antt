-- A surplus of 1 along the chain: before a wire takes it, no part is changed.
use Prim.Native.Nat.{ℕ, ◌-◌, suc}
use mathlib.Core.Path.{◌≡◌, refl, sym, subst, ◌∙◌}
use mathlib.Core.Logic.{inl, inr}
use mathlib.Core.List.{List}
use mathlib.Core.Bool.{true, false}
use native.Mathlib.Omega.{arith}
use lib.ListN.{length, set, length-set}
use lib.Seq.{get_or-set_same, get_or-set_other}
use Rattle.rules.specs.Figures.{most_places}
use Rattle.rules.specs.Tree.{Hanging, none, sink, branch}
use Rattle.frontier.specs.Cell.{Cell}
use Rattle.frontier.specs.Frontier.{all, acc}
use Rattle.surplus.specs.declared.Slot.{Slot}
use Rattle.surplus.specs.Wires.{More, first, rest, tip, Each, On}
use Rattle.surplus.specs.Pairs.{PairOf}
use Rattle.surplus.specs.Dealt.{Takes}
use Rattle.surplus.specs.Tables.{next_at, zero_at, one_at}
use Rattle.surplus.specs.Asks.{part_at, PairIs, Paired, Runs, Asks, Out, Gains}
use Rattle.surplus.proofs.Chains.{each_first}
use Rattle.surplus.proofs.Dealing.{Dealing, dealing_start, dealing_more, dealing_end, dealing_stop, takes_1, takes_1_not}
use Rattle.surplus.proofs.Tails.{runs_low, runs_none, more, is_first, tail_runs, worth, own}

-- each is one of them
pub each_on : (P : ℕ → Type 0) (x : Hanging) → ((j : ℕ) → On j x → P j) → Each P x
each_on P none f = tt
each_on P (sink i w c s r) f = (f i (inl refl), each_on P r (λ j y. f j (inr y)))
each_on P (branch i w g r) f = (f i (inl refl), each_on P r (λ j y. f j (inr y)))

paired_rest : (τ : Cell) (links : List ℕ) (slots : List Slot) (p k : ℕ) (x : Hanging) → More x → Paired τ links slots p k x → Paired τ links slots p (next_at links (first x)) (rest x)
paired_rest τ links slots p k none h d = absurd h
paired_rest τ links slots p k (sink i w c s r) h d = d.1
paired_rest τ links slots p k (branch i w f r) h d = d.1

paired_here : (τ : Cell) (links : List ℕ) (slots : List Slot) (p k : ℕ) (x : Hanging) → Paired τ links slots p k x → PairIs slots p k (acc τ x p)
paired_here τ links slots p k none d = d
paired_here τ links slots p k (sink i w c s r) d = d.0
paired_here τ links slots p k (branch i w f r) d = d.0

-- under way at wire j
pub record Way (τ : Cell) (links : List ℕ) (slots : List Slot) (parts₀ parts : List ℕ) (p e : ℕ) (f : Hanging) (j left : ℕ) : Type 0 where
  pub x : Hanging
  pub lo : ℕ
  pub long : length parts ≡ most_places
  pub dealing : Dealing τ (λ j. On j f) (part_at parts₀) (part_at parts) p e f lo left x
  pub runs : Runs τ links slots p j x
  pub paired : Paired τ links slots p j x

unfoldable pub way_start : {τ : Cell} {links : List ℕ} {slots : List Slot} {parts : List ℕ} {p k : ℕ} {f : Hanging} (e : ℕ) → Asks τ links slots parts p k f → Way τ links slots parts parts p e f k e
way_start {τ} {links} {slots} {parts} {p} {k} {f} e a = record {
  x = f;
  lo = 1;
  long = a.long;
  dealing = dealing_start τ (λ j. On j f) (part_at parts) p e f 1 a.runs.order (each_on (λ j. On j f) f (λ j y. y)) a.runs.live;
  runs = a.runs;
  paired = a.paired;
}

module _ {τ : Cell} {links : List ℕ} {slots : List Slot} {parts₀ parts : List ℕ} {p e : ℕ} {f : Hanging} {j left : ℕ} (w : Way τ links slots parts₀ parts p e f j left) where
  pub way_out : j ≡ 0 → Out τ parts₀ parts p e f
  way_out q = record { long = w.long; dealt = dealing_end τ (λ j. On j f) w.dealing (runs_none w.runs q); kept = w.dealing.kept }

  module _ (ne : j ≡ 0 → ⊥) where
    pub next_paired : Paired τ links slots p (next_at links j) (rest w.x)
    next_paired = subst (λ (k : ℕ). Paired τ links slots p (next_at links k) (rest w.x)) (is_first w.runs ne) (paired_rest τ links slots p j w.x (more w.runs ne) w.paired)

    -- wire j takes s, and no other part is changed
    unfoldable pub way_on : (parts' : List ℕ) (s : ℕ) → Takes τ (tip τ p w.x) (acc τ (rest w.x) p) left s → length parts' ≡ most_places → part_at parts' j ≡ s → ((k : ℕ) → (k ≡ j → ⊥) → part_at parts' k ≡ part_at parts k)
        → Way τ links slots parts₀ parts' p e f (next_at links j) (left - s)
    way_on parts' s t l q other =
        let is = is_first w.runs ne in
        record {
          x = rest w.x;
          lo = suc (first w.x);
          long = l;
          dealing = dealing_more τ (λ j. On j f) w.dealing (more w.runs ne) s t (rw is q) (λ k nk. other k (λ z. nk (z ∙ sym is)));
          runs = tail_runs w.runs ne (next_at links j) refl;
          paired = next_paired;
        }

    unfoldable pub way_take : (s : ℕ) → Takes τ (tip τ p w.x) (acc τ (rest w.x) p) left s → Way τ links slots parts₀ (set parts j s) p e f (next_at links j) (left - s)
    way_take s t = way_on (set parts j s) s t (simp length-set w.long) (get_or-set_same parts j s 0 (omega (arith, runs_low w.runs, w.long))) (λ k nk. get_or-set_other parts j k s 0 nk)

    -- what the slot of the wires after it says
    next_pair : PairOf (suc (worth w.runs ne).M) (zero_at slots p (next_at links j)) (one_at slots p (next_at links j)) (acc τ (rest w.x) p)
    next_pair =
        let u = worth w.runs ne in
        let h : PairIs slots p (next_at links j) (all u.M u.g) = subst (PairIs slots p (next_at links j)) u.after (paired_here τ links slots p (next_at links j) (rest w.x) next_paired) in
        subst (PairOf (suc u.M) (zero_at slots p (next_at links j)) (one_at slots p (next_at links j))) (sym u.after) (refl, h.0, h.1)

    one_takes : Gains slots p j (next_at links j) true → Takes τ (tip τ p w.x) (acc τ (rest w.x) p) 1 1
    one_takes h =
        let u = worth w.runs ne in
        takes_1 τ (suc u.M) (zero_at slots p (next_at links j)) (one_at slots p (next_at links j)) u.m u.a u.b _ _ u.own (λ q. omega arith) next_pair (omega (arith, own w.runs ne))

    one_not : Gains slots p j (next_at links j) false → Takes τ (tip τ p w.x) (acc τ (rest w.x) p) 1 0
    one_not h =
        let u = worth w.runs ne in
        takes_1_not τ (suc u.M) (zero_at slots p (next_at links j)) (one_at slots p (next_at links j)) u.m u.a u.b _ _ u.own (λ q. omega arith) next_pair (omega (arith, own w.runs ne))

-- ---- each turn of the loop
module _ {τ : Cell} {links : List ℕ} {slots : List Slot} {parts : List ℕ} {p k : ℕ} {f : Hanging} (a : Asks τ links slots parts p k f) {j : ℕ} (w : Way τ links slots parts parts p 1 f j 1) (ne : j ≡ 0 → ⊥) where
  none_yet : part_at parts j ≡ 0
  none_yet = a.clear j (subst (λ (i : ℕ). On i f) (is_first w.runs ne) (each_first (λ i. On i f) w.x (more w.runs ne) w.dealing.ours))

  -- l is the next
  module _ (l : ℕ) (q : l ≡ next_at links j) where
    pub one_on : Gains slots p j l false → Way τ links slots parts parts p 1 f l 1
    one_on g = rw q (way_on w ne parts 0 (one_not w ne (rw q at g)) w.long none_yet (λ k nk. refl))

    pub one_out : Gains slots p j l true → Out τ parts (set parts j 1) p 1 f
    one_out g =
        let v = way_take w ne 1 (one_takes w ne (rw q at g)) in
        record { long = v.long; dealt = dealing_stop τ (λ i. On i f) v.dealing (omega arith) a.clear; kept = v.dealing.kept }
