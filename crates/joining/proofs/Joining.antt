-- Two lists that join to one that rises: the entry that may stand before the other list's first is the first of the whole, and the rest joins to the rest of it.
use Prim.Native.Nat.{ℕ, zero, suc, ◌+◌, ◌≤◌, ◌<◌}
use native.Mathlib.Numerals.{add-one}
use native.Mathlib.Omega.{arith}
use mathlib.Core.Path.{◌≡◌, refl, sym, ap, subst, ◌∙◌}
use mathlib.Core.List.{List, [], ◌∷◌, ◌++◌, map, map-append, append_assoc, append-nil}
use lib.ListN.{length, get_or, set, drop, length-append, length-set, length-drop, drop_of_length-le}
use lib.Seq.{sets}
use mathlib.Core.Bool.{Bool, true, false}
use Rattle.rules.proofs.Tests.{never}
use Rattle.rules.specs.declared.Entry.{Entry}
use Rattle.rules.specs.Load.{entries, column_entry}
use Rattle.rules.specs.Legal.{After, higher, further, start}
use Rattle.rules.specs.Complete.{Joins, end, given, added}
use Rattle.rules.proofs.Order.{after_after}
use Rattle.rules.proofs.Completing.{joins_length}
use Rattle.columns.specs.Columns.{Holds}
use Rattle.columns.proofs.Spacing.{sets_append}
use Rattle.columns.proofs.Listing.{column_length}
use Rattle.joining.specs.Joined.{Rising, Even, Left, Next, Laying, OneMore}
use Rattle.joining.specs.Joined.{given as given-next, added as Added-next}

-- ---- one step

abbrev at : ℕ → ℕ → Entry
at w o = record { wire = w; offset = o }

turned : {A : Type 0} {g a w : List A} → Joins g a w → Joins a g w
turned end = end
turned (given h) = added (turned h)
turned (added h) = given (turned h)

-- each is after the one before all
ahead : (d : Entry) {x : Entry} {g a w : List Entry} → Joins (x ∷ g) a w → Rising d w → After d x
ahead d (given h) r = r.0
ahead d (added {x = y} h) r = after_after r.0 (ahead y h r.1)

same : {x y : Entry} → After x y → After y x → x ≡ y
same (higher p) (higher q) = absurd (omega arith)
same (higher p) (further q o) = absurd (omega arith)
same (further p o) (higher q) = absurd (omega arith)
same {x} {y} (further p o) (further q o') = ap (λ (w : ℕ). at w x.offset) p ∙ ap (at y.wire) (let f : x.offset ≡ y.offset = omega arith in f)

-- an entry that is not after any of the whole may be taken for a given or for an added one
swap : {x : Entry} {g a w : List Entry} → Joins (x ∷ g) a w → Rising x w → Joins g (x ∷ a) w
swap (given h) r = added h
swap {x} (added {x = y} h) r = let e : y ≡ x = same (ahead y h r.1) r.0 in rw e (added (swap h (rw e at r.1)))

-- what is left after the first
pub record First (x : Entry) (g a w : List Entry) : Type 0 where
  pub others : List Entry
  pub is : w ≡ x ∷ others
  pub joins : Joins g a others
  pub rises : Rising x others

pub first : (d : Entry) {x : Entry} {g a w : List Entry} → Joins (x ∷ g) a w → ((y : Entry) (a' : List Entry) → a ≡ y ∷ a' → After x y) → Rising d w → First x g a w
first d (given {whole = w} h) p r = record { others = w; is = refl; joins = h; rises = r.1 }
first d {x} (added {x = y} {a = a} {whole = w} h) p r =
    let e : y ≡ x = same (ahead y h r.1) (p y a refl) in
    record { others = w; is = ap (λ (z : Entry). z ∷ w) e; joins = rw e (swap h (rw e at r.1)); rises = rw e at r.1 }

-- ---- which is next, by the entries' columns

on_from : (vs os : List ℕ) (k : ℕ) → length os ≡ length vs → k < length vs → drop k (entries vs os) ≡ column_entry vs os k ∷ drop (suc k) (entries vs os)
unfolding entries
on_from [] os k e h = absurd (omega arith)
on_from (v ∷ vs) [] k e h = absurd (omega arith)
on_from (v ∷ vs) (o ∷ os) zero e h = refl
on_from (v ∷ vs) (o ∷ os) (suc k) e h = on_from vs os k (omega arith) (omega arith)

pub entries_long : (vs os : List ℕ) → length os ≡ length vs → length (entries vs os) ≡ length vs
unfolding entries
entries_long [] os e = refl
entries_long (v ∷ vs) [] e = absurd (omega arith)
entries_long (v ∷ vs) (o ∷ os) e = ap suc (entries_long vs os (omega arith))

module _ (vs os : List ℕ) (even : length os ≡ length vs) where
  taken : (k : ℕ) → k < length vs → drop k (entries vs os) ≡ column_entry vs os k ∷ drop (k + 1) (entries vs os)
  taken k h = rw add-one (on_from vs os k even h)

  -- past the end there is none
  all_taken : (k : ℕ) → length vs ≤ k → drop k (entries vs os) ≡ []
  all_taken k h = drop_of_length-le (entries vs os) {i = k} (omega (arith, entries_long vs os even))

  one_left : (k : ℕ) (x : Entry) (es : List Entry) → drop k (entries vs os) ≡ x ∷ es → k < length vs
  one_left k x es e = omega (arith, ap length e, length-drop k (entries vs os), entries_long vs os even)

  -- the one that is next, and those after it
  next_is : (k : ℕ) (x : Entry) (es : List Entry) → drop k (entries vs os) ≡ x ∷ es → (x ≡ column_entry vs os k) × (es ≡ drop (k + 1) (entries vs os))
  next_is k x es e = let t = taken k (one_left k x es e) in (cc, cc)

nothing_first : {A : Type 0} {x : Entry} {es es' : List Entry} → es ≡ [] → es ≡ x ∷ es' → A
nothing_first e f = never (cc)

-- i given and j added ones have been taken
module _ {gw go aw ao : List ℕ} {i j : ℕ} (l : Left gw go aw ao i j) where
  pub none_given : i ≡ length gw → Next (drop i (entries gw go)) (drop j (entries aw ao)) false
  none_given h = Added-next _ _ (taken aw ao l.even.added j (omega arith)) (λ z es e. nothing_first (all_taken gw go l.even.given i (omega arith)) e) refl

  pub none_added : j ≡ length aw → Next (drop i (entries gw go)) (drop j (entries aw ao)) true
  none_added h = given-next _ _ (taken gw go l.even.given i (omega arith)) (λ z es e. nothing_first (all_taken aw ao l.even.added j (omega arith)) e) refl

  module _ (some : i < length gw) (more : j < length aw) where
    -- by the order of the first two
    pub by_first : (r : Bool) → (r ≡ true → After (column_entry gw go i) (column_entry aw ao j)) × (r ≡ false → After (column_entry aw ao j) (column_entry gw go i)) → Next (drop i (entries gw go)) (drop j (entries aw ao)) r
    by_first true h = given-next _ _ (taken gw go l.even.given i some) (λ z es e. rw (next_is aw ao l.even.added j z es e).0 (h.0 refl)) refl
    by_first false h = Added-next _ _ (taken aw ao l.even.added j more) (λ z es e. rw (next_is gw go l.even.given i z es e).0 (h.1 refl)) refl

  pub given_left : Next (drop i (entries gw go)) (drop j (entries aw ao)) true → i < length gw
  given_left (given-next x g' e p q) = one_left gw go l.even.given i x g' e
  given_left (Added-next y a' e p q) = never q

  pub added_left : Next (drop i (entries gw go)) (drop j (entries aw ao)) false → j < length aw
  added_left (given-next x g' e p q) = never (sym q)
  added_left (Added-next y a' e p q) = one_left aw ao l.even.added j y a' e

-- ---- what is laid

put : (f : Entry → ℕ) (done : List Entry) (x : Entry) (k : ℕ) (l₀ : List ℕ) {l : List ℕ} → l ≡ sets l₀ 0 (map f done) → length done ≡ k → set l k (f x) ≡ sets l₀ 0 (map f (done ++ (x ∷ [])))
put f done x k l₀ e m =
    let n : 0 + length (map f done) ≡ k = omega (arith, column_length f done) in
    ap (λ (l : List ℕ). set l k (f x)) e ∙ sym (ap (sets l₀ 0) (map-append f done (x ∷ [])) ∙ sets_append l₀ 0 (map f done) (f x ∷ []) ∙ ap (λ (m : ℕ). set (sets l₀ 0 (map f done)) m (f x)) n)

module _ {g a whole : List Entry} {i j : ℕ} {ws₀ os₀ ws os : List ℕ} (s : Laying g a whole i j ws₀ os₀ ws os) where
  lay : (x : Entry) (i' j' : ℕ) (others : List Entry) → i' + j' ≡ i + j + 1 → s.rest ≡ x ∷ others → Joins (drop i' g) (drop j' a) others → Rising x others
      → Laying g a whole i' j' ws₀ os₀ (set ws (i + j) x.wire) (set os (i + j) x.offset)
  lay x i' j' others n e joins rises = record {
    done = s.done ++ (x ∷ []);
    rest = others;
    last = x;
    all = s.all ∙ ap (λ (r : List Entry). s.done ++ r) e ∙ sym (append_assoc s.done (x ∷ []) others);
    many = length-append s.done (x ∷ []) ∙ omega (arith, s.many);
    left = joins;
    rises = rises;
    holds = record { wires = put (λ z. z.wire) s.done x (i + j) ws₀ s.holds.wires s.many; offsets = put (λ z. z.offset) s.done x (i + j) os₀ s.holds.offsets s.many };
  }

module _ {gw go aw ao : List ℕ} {i j : ℕ} (l : Left gw go aw ao i j) (ws os : List ℕ) where
  pub lay_given : Next (drop i (entries gw go)) (drop j (entries aw ao)) true → OneMore gw go aw ao i j ws os (set ws (i + j) (get_or gw i 0)) (set os (i + j) (get_or go i 0)) true
  lay_given (Added-next y a' e p q) = never q
  lay_given (given-next x g' e p q) =
      let (is, after) = next_is gw go l.even.given i x g' e in
      let t = one_left gw go l.even.given i x g' e in
      record {
        given = omega arith;
        added = omega (arith, l.added);
        wires = length-set ws (i + j) (get_or gw i 0);
        offsets = length-set os (i + j) (get_or go i 0);
        lays = λ whole ws₀ os₀ s.
            let f = first s.last (rw e at s.left) p s.rises in
            let z : j + 0 ≡ j = omega arith in
            rw z (rw is at (lay s x (i + 1) j f.others (omega arith) f.is (subst (λ (z : List Entry). Joins z (drop j (entries aw ao)) f.others) after f.joins) f.rises));
      }

  pub lay_added : Next (drop i (entries gw go)) (drop j (entries aw ao)) false → OneMore gw go aw ao i j ws os (set ws (i + j) (get_or aw j 0)) (set os (i + j) (get_or ao j 0)) false
  lay_added (given-next x g' e p q) = never (sym q)
  lay_added (Added-next y a' e p q) =
      let (is, after) = next_is aw ao l.even.added j y a' e in
      let t = one_left aw ao l.even.added j y a' e in
      record {
        given = omega (arith, l.given);
        added = omega arith;
        wires = length-set ws (i + j) (get_or aw j 0);
        offsets = length-set os (i + j) (get_or ao j 0);
        lays = λ whole ws₀ os₀ s.
            let f = first s.last (turned (rw e at s.left)) p s.rises in
            let u : i + 0 ≡ i = omega arith in
            rw u (rw is at (lay s y i (j + 1) f.others (omega arith) f.is (turned (subst (λ (z : List Entry). Joins z (drop i (entries gw go)) f.others) after f.joins)) f.rises));
      }

-- before the first, and after the last
pub lay_none : {g a whole : List Entry} (ws os : List ℕ) → Joins g a whole → Rising start whole → Laying g a whole 0 0 ws os ws os
lay_none {whole = whole} ws os h r = record { done = []; rest = whole; last = start; all = refl; many = refl; left = h; rises = r; holds = record { wires = refl; offsets = refl } }

pub laid : {gw go aw ao ws os ws' os' : List ℕ} {whole : List Entry} {i j : ℕ} → Even gw go aw ao → length gw + length aw ≤ i + j → i ≤ length gw → j ≤ length aw
    → Laying (entries gw go) (entries aw ao) whole i j ws os ws' os' → Holds whole ws os ws' os'
laid {gw} {go} {aw} {ao} {whole = whole} {i} {j} even h a b s =
    let n : length s.rest ≡ 0 = joins_length s.left ∙ omega (arith, ap length (all_taken gw go even.given i (omega arith)), ap length (all_taken aw ao even.added j (omega arith))) in
    let e : whole ≡ s.done = s.all ∙ ap (λ (r : List Entry). s.done ++ r) (none_left s.rest n) ∙ append-nil s.done in
    rw e s.holds
  where
    none_left : (r : List Entry) → length r ≡ 0 → r ≡ []
    none_left [] m = refl
    none_left (x ∷ r) m = absurd (omega arith)
