-- All the wires: the given entries are passed wire by wire, and what is left decides how many are added and which.
use Prim.Native.Nat.{ℕ, zero, suc, ◌+◌, ◌-◌, ◌*◌, ◌≤◌, ◌<◌}
use mathlib.Core.Path.{◌≡◌, refl, sym, subst, ap, ◌∙◌}
use mathlib.Core.List.{List, [], ◌∷◌, ◌++◌, append-nil}
use lib.ListN.{length, length-append}
use lib.Seq.{sets}
use native.Mathlib.Omega.{arith}
use Rattle.rules.specs.declared.Entry.{Entry}
use Rattle.rules.specs.Load.{entries, offsets_on}
use Rattle.rules.specs.Figures.{most_limit}
use Rattle.frontier.specs.Cell.{Cell}
use Rattle.frontier.specs.Frontier.{ceil}
use Rattle.frontier.specs.Placed.{on_wire, on_wires}
use Rattle.columns.specs.Columns.{wire_column, offset_column, Holds}
use Rattle.columns.proofs.Listing.{on_length, Listing, listing_none, listing_room, listing_more, wires_long, offsets_long}
use Rattle.relief.specs.Pieces.{most_piece, added_from}
use Rattle.relief.specs.Runs.{from, Sorted, past}
use Rattle.relief.proofs.Runs.{past_sorted, past_offsets}
use Rattle.adding.specs.declared.Wire.{Wire}
use Rattle.adding.specs.declared.Walked.{Walked}
use Rattle.adding.specs.Walks.{added_on, all_added, Ready, IsWire, Begins, Passed, WroteAll, Room}
use Rattle.adding.proofs.Walking.{ceil_few, low}
use Rattle.adding.proofs.Storing.{whole, whole_long}

none_long : (p : List Entry) → length p ≤ 0 → p ≡ []
none_long [] h = refl
none_long (e ∷ p) h = absurd (omega arith)

-- the entries from e on are those of the wires from i on
pub record Lined (ws os : List ℕ) (i e : ℕ) : Type 0 where
  pub within : e ≤ length ws
  pub sorted : Sorted i (from ws os e)
  pub left : (j : ℕ) → i ≤ j → offsets_on (from ws os e) j ≡ offsets_on (entries ws os) j

pub lined_next : {ws os : List ℕ} {i e : ℕ} → Lined ws os i e → (e' : ℕ) → e' ≤ length ws → from ws os e' ≡ past i (from ws os e) → Lined ws os (i + 1) e'
lined_next {ws} {os} {i} {e} l e' h q =
    let z : suc i ≡ i + 1 = omega arith in
    record {
      within = h;
      sorted = rw q (subst (λ (j : ℕ). Sorted j (past i (from ws os e))) z (past_sorted i (from ws os e) l.sorted));
      left = λ j le. ap (λ (es : List Entry). offsets_on es j) q ∙ past_offsets i j (from ws os e) (λ z. omega arith) ∙ l.left j (omega arith);
    }

module _ {τ : Cell} {sizes below on ws os : List ℕ} (ready : Ready τ sizes below on ws os) where
  abbrev A : ℕ → List ℕ
  A = added_on τ sizes below on (entries ws os)

  pub lined_start : Lined ws os 1 0
  lined_start = record { within = omega arith; sorted = ready.sorted; left = λ j h. refl }

  module _ {i e : ℕ} {x : Wire} (l : Lined ws os i e) (lo : 1 ≤ i) (hi : i < length sizes) (is : IsWire sizes below on i x) where
    same_offsets : offsets_on (from ws os e) x.number ≡ offsets_on (entries ws os) i
    same_offsets = ap (offsets_on (from ws os e)) is.number ∙ l.left i (omega arith)

    pub begins : Begins τ ws os e x
    begins = record {
      same = ready.same;
      few = ready.few;
      within = l.within;
      size = omega (arith, is.size, ready.size i);
      fits = omega (arith, is.below, ready.fits i lo hi);
      sorted = subst (λ (j : ℕ). Sorted j (from ws os e)) (sym is.number) l.sorted;
      rises = rw (same_offsets, is.size) (ready.rises i);
    }

    pub whole_same : whole τ ws os e x ≡ added_on τ sizes below on (entries ws os) i
    whole_same = λ ι. added_from τ (is.size ι) (is.top ι) 0 (is.below ι) (same_offsets ι)

  -- ---- how many
  pub record Counting (i e to : ℕ) : Type 0 where
    pub lo : 1 ≤ i
    pub lined : Lined ws os i e
    pub left : to + length (on_wires (added_on τ sizes below on (entries ws os)) (length sizes - i) i) ≡ length (all_added τ sizes below on (entries ws os))
    pub few : to ≤ i * 50000000000

  pub counting_start : Counting 1 0 0
  counting_start = record { lo = omega arith; lined = lined_start; left = omega arith; few = omega arith }

  module _ (eq : τ.cu ≡ τ.cb + τ.D) (pos : 1 ≤ τ.D) (small : τ.cu ≤ most_limit) {i e to : ℕ} {x : Wire} {p : Walked} {done : List ℕ} (c : Counting i e to) (hi : i < length sizes) (is : IsWire sizes below on i x) (g : Passed τ ws os e x to p done) where
    -- the uppermost piece
    pub last_low : p.at ≤ x.size
    last_low = low eq pos g.through

    pub last_few : (x.size - p.at) + p.load ≤ most_piece
    last_few = omega (arith, is.size, ready.size i, g.through.fits)

    pub place_few : p.to ≤ i * 50000000000 + 45056000000
    place_few = omega (arith, g.few, c.few, g.within, ready.few)

    step : length (on_wires A (length sizes - i) i) ≡ length (A i) + length (on_wires A (length sizes - (i + 1)) (i + 1))
    unfolding on_wires
    step =
        let q : length sizes - i ≡ suc (length sizes - (i + 1)) = omega arith in
        let z : suc i ≡ i + 1 = omega arith in
        rw q (length-append (on_wire i (A i)) (on_wires A (length sizes - (i + 1)) (suc i)) ∙ ap (λ (k : ℕ). k + length (on_wires A (length sizes - (i + 1)) (suc i))) (on_length i (A i)) ∙ ap (λ (j : ℕ). length (A i) + length (on_wires A (length sizes - (i + 1)) j)) z)

    pub counting_next : (r : ℕ) → r ≡ ceil τ ((x.size - p.at) + p.load) → Counting (i + 1) p.next ((p.to + r) + x.top)
    counting_next r er =
        let n : length (A i) ≡ (length done + r) + x.top = ap length (sym (whole_same c.lined c.lo hi is)) ∙ whole_long eq pos g ∙ ap (λ (k : ℕ). (length done + k) + x.top) (sym er) in
        record {
          lo = omega arith;
          lined = lined_next c.lined p.next g.within (g.next ∙ ap (λ (j : ℕ). past j (from ws os e)) is.number);
          left = omega (arith, c.left, step, g.to);
          few = omega (arith, place_few, is.few, ceil_few τ eq pos ((x.size - p.at) + p.load) last_few);
        }

  pub counting_end : {i e to : ℕ} → Counting i e to → length sizes ≤ i → to ≡ length (all_added τ sizes below on (entries ws os))
  unfolding on_wires
  counting_end {i} c h = let z : length sizes - i ≡ 0 = omega arith in let l = c.left in omega (arith, rw z at l)

  -- ---- which
  pub record Written (wires₀ offs₀ : List ℕ) (i e to : ℕ) (wires offs : List ℕ) : Type 0 where
    pub lined : Lined ws os i e
    pub listing : Listing (length sizes) (added_on τ sizes below on (entries ws os)) wires₀ wires offs₀ offs i to

  pub written_start : (wires offs : List ℕ) → Written wires offs 1 0 0 wires offs
  written_start wires offs = record { lined = lined_start; listing = listing_none (length sizes) A wires offs }

  module _ {wires₀ offs₀ : List ℕ} {i e to : ℕ} {wires offs : List ℕ} {x : Wire} (g : Written wires₀ offs₀ i e to wires offs) (hi : i < length sizes) (is : IsWire sizes below on i x) where
    pub room : length (all_added τ sizes below on (entries ws os)) ≤ length wires₀ → length (all_added τ sizes below on (entries ws os)) ≤ length offs₀ → Room (whole τ ws os e x) to wires offs
    room a b =
        let n : length (whole τ ws os e x) ≡ length (A i) = ap length (whole_same g.lined g.listing.lo hi is) in
        record { in_wires = omega (arith, listing_room g.listing hi, wires_long g.listing); in_offs = omega (arith, listing_room g.listing hi, offsets_long g.listing) }

    pub written_next : {r : Walked} {wires' offs' : List ℕ} → WroteAll τ ws os e x to r wires offs wires' offs' → Written wires₀ offs₀ (i + 1) r.next r.to wires' offs'
    written_next {r} {wires'} {offs'} w =
        let q : whole τ ws os e x ≡ A i = whole_same g.lined g.listing.lo hi is in
        record {
          lined = lined_next g.lined r.next w.within (w.next ∙ ap (λ (j : ℕ). past j (from ws os e)) is.number);
          listing = listing_more g.listing hi r.to (w.to ∙ ap (λ (vs : List ℕ). to + length vs) q)
              (w.stores.wires_are ∙ (λ ι. lib.Seq.sets wires to (lib.ListN.replicate (length (q ι)) (is.number ι)))) (w.stores.offs_are ∙ ap (lib.Seq.sets offs to) q);
        }

  module _ {wires₀ offs₀ : List ℕ} {i e to : ℕ} {wires offs : List ℕ} (g : Written wires₀ offs₀ i e to wires offs) where
    all_long : length (all_added τ sizes below on (entries ws os)) ≡ to + length (on_wires A (length sizes - i) i)
    all_long = ap length g.listing.all ∙ length-append g.listing.done (on_wires A (length sizes - i) i) ∙ ap (λ (k : ℕ). k + length (on_wires A (length sizes - i) i)) g.listing.long

    -- while some are left so is a wire
    pub wire_left : to < length (all_added τ sizes below on (entries ws os)) → i < length sizes
    unfolding on_wires
    wire_left h = go (length sizes - i) refl
      where
        go : (k : ℕ) → length sizes - i ≡ k → i < length sizes
        go zero z = let l = all_long in absurd (omega (arith, rw z at l))
        go (suc k) z = omega arith

    pub written_end : length (all_added τ sizes below on (entries ws os)) ≤ to → Holds (all_added τ sizes below on (entries ws os)) wires₀ offs₀ wires offs
    written_end h =
        let z : on_wires A (length sizes - i) i ≡ [] = none_long (on_wires A (length sizes - i) i) (omega (arith, all_long)) in
        let q : all_added τ sizes below on (entries ws os) ≡ g.listing.done = g.listing.all ∙ ap (λ (p : List Entry). g.listing.done ++ p) z ∙ append-nil g.listing.done in
        record { wires = g.listing.wires ∙ ap (λ (p : List Entry). sets wires₀ 0 (wire_column p)) (sym q); offsets = g.listing.offsets ∙ ap (λ (p : List Entry). sets offs₀ 0 (offset_column p)) (sym q) }
