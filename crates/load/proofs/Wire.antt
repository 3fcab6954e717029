-- What the entries of one wire drive, told by where they begin in the list.
use Prim.Native.Nat.{ℕ, zero, suc, ◌-◌, ◌<◌, ◌≤◌, ◌+◌}
use mathlib.Core.Path.{◌≡◌, refl, ap, ◌∙◌}
use mathlib.Core.Bool.{true, false}
use mathlib.Core.List.{List}
use native.Mathlib.Omega.{arith}
use native.Mathlib.Decide.{dec_lt}
use lib.ListN.{length, get_or}
use lib.Seq.{slice, length-slice}
use Rattle.rules.specs.Figures.{most_wire}
use Rattle.rules.specs.Net.{Net, places}
use Rattle.rules.specs.declared.Entry.{Entry}
use Rattle.rules.specs.Load.{column_entry, entries, offsets_on, load_below, driven_on, driven}
use Rattle.rules.specs.Legal.{start, Stands}
use Rattle.load.specs.declared.Tables.{Tables}
use Rattle.load.specs.Tables.{TablesOf}
use Rattle.load.specs.Asks.{Placed, AsksNode, Stacked}
use Rattle.load.proofs.Order.{at, stands_at, further_up, rising}
use Rattle.load.proofs.Begins.{Begins, begin as beginOf, begins as beginsOf}
use Rattle.load.proofs.Offsets.{begins_rise, offsets_slice, length_drives, lowest_drives, next_drives, Counts, joined_length, joined_at}

-- the source, which is no sink
pub source_asked : {n : Net} {offs : ℕ → List ℕ} {t : Tables} → TablesOf n offs t → AsksNode n offs n.parents t 0
source_asked w = record { asks = record { column = refl; tables = w; within = w.sound.some }; branch = λ e. omega (arith, w.sound.source) }

module _ {n : Net} {vs os : List ℕ} (p : Placed n vs os) where
  -- where the entries of wire i begin
  abbrev begin : ℕ → ℕ
  begin i = beginOf vs i

  begins : (i : ℕ) → Begins vs i (begin i)
  begins i = beginsOf vs (rising n start vs os p.order p.even) i

  stands : (k : ℕ) → k < length vs → Stands n (at (get_or vs k 0) (get_or os k 0))
  stands k h = stands_at n start vs os p.order p.even k h

  module _ (i : ℕ) where
    rise : begin i ≤ begin (suc i)
    rise = begins_rise (begins i) (begins (suc i))

    end : begin (suc i) ≤ length os
    end = omega (arith, (begins (suc i)).within, p.even)

    on_wire_lem : offsets_on (entries vs os) i ≡ slice (begin i) (begin (suc i)) os
    on_wire_lem = offsets_slice (begins i) (begins (suc i)) os p.even

    -- an entry of wire i
    mine : (k : ℕ) → begin i ≤ k → k < begin (suc i) → get_or vs k 0 ≡ i
    mine k l u = omega (arith, (begins i).from k l (omega (arith, end, p.even)), (begins (suc i)).before k u)

    count : begin (suc i) ≡ begin i + length (driven_on n (offsets_on (entries vs os)) i)
    unfolding driven_on
    count = rw (length_drives, on_wire_lem, length-slice (begin i) (begin (suc i)) os end) (omega (arith, rise))

  -- the first wire's entries begin the list, and after the last wire's it ends
  begin_one : begin 1 ≡ 0
  begin_one = go (begin 1) (begins 1)
    where
      go : (c : ℕ) → Begins vs 1 c → c ≡ 0
      go zero b = refl
      go (suc c) b = absurd (omega (arith, b.before 0 (omega arith), (stands 0 (omega (arith, b.within))).above))

  begin_last : begin (places n) ≡ length vs
  begin_last = elim (dec_lt (begin (places n)) (length vs)) [
    | yes h ↦ absurd (omega (arith, (begins (places n)).from (begin (places n)) (omega arith) h, (stands (begin (places n)) h).within))
    | no h ↦ omega (arith, (begins (places n)).within)
  ]

  counts : Counts (driven_on n (offsets_on (entries vs os))) begin (places n - 1) 1
  counts j lo hi = count j

  pub driven_length : length (driven n (offsets_on (entries vs os))) ≡ length vs
  unfolding driven
  driven_length =
      let e : 1 + (places n - 1) ≡ places n = omega (arith, p.sound.some) in
      omega (arith, rw e at (joined_length (driven_on n (offsets_on (entries vs os))) begin (places n - 1) 1 counts), begin_one, begin_last)

  -- entry k, by its name in the code
  pub entry_on : (k : ℕ) → k < length vs → {e : Entry} → e ≡ column_entry vs os k → Stands n e
  entry_on k h q = rw q (stands k h)

  module _ (k : ℕ) (h : k < length vs) where
    pub wire_within : get_or vs k 0 < places n
    wire_within = (stands k h).within

    pub offset_most : get_or os k 0 ≤ most_wire
    offset_most = omega (arith, (stands k h).offset, p.sound.wire_most (get_or vs k 0))

    -- where the entries of its wire begin and end
    pub since : begin (get_or vs k 0) ≤ k
    since = elim (dec_lt k (begin (get_or vs k 0))) [
      | yes l ↦ absurd (omega (arith, (begins (get_or vs k 0)).before k l))
      | no l ↦ omega arith
    ]

    until : k < begin (suc (get_or vs k 0))
    until = elim (dec_lt k (begin (suc (get_or vs k 0)))) [
      | yes l ↦ l
      | no l ↦ absurd (omega (arith, (begins (suc (get_or vs k 0))).from k (omega arith) h))
    ]

    driven_at : get_or (driven n (offsets_on (entries vs os))) k 0 ≡ get_or (driven_on n (offsets_on (entries vs os)) (get_or vs k 0)) (k - begin (get_or vs k 0)) 0
    unfolding driven
    driven_at =
        let i : ℕ = get_or vs k 0 in
        let e : begin i - begin 1 + (k - begin i) ≡ k = omega (arith, begin_one, since) in
        rw e at (joined_at (driven_on n (offsets_on (entries vs os))) begin (places n - 1) 1 counts i (k - begin i) (stands k h).above (omega (arith, wire_within)) (omega (arith, count i, since, until)))

    -- the entry before it is on another wire, or there is none
    lowest : Stacked vs k false → k ≤ begin (get_or vs k 0)
    lowest f = elim (dec_lt (begin (get_or vs k 0)) k) [
      | yes l ↦ absurd (f (omega arith) (mine (get_or vs k 0) (k - 1) (omega arith) (omega (arith, until))))
      | no l ↦ omega arith
    ]

    -- or on the same
    upper : Stacked vs k true → begin (get_or vs k 0) < k
    upper f = elim (dec_lt (begin (get_or vs k 0)) k) [
      | yes l ↦ l
      | no l ↦ absurd (omega (arith, f.0, (begins (get_or vs k 0)).before (k - 1) (omega (arith, f.0)), f.1))
    ]

    pub drives_lowest : Stacked vs k false → get_or (driven n (offsets_on (entries vs os))) k 0 ≡ get_or os k 0 + load_below n (offsets_on (entries vs os)) (get_or vs k 0)
    unfolding driven_on
    drives_lowest f =
        let l : k ≤ begin (get_or vs k 0) = lowest f in
        let i : ℕ = get_or vs k 0 in
        let e : begin i ≡ k = omega (arith, since) in
        let z : k - begin i ≡ 0 = omega arith in
        driven_at ∙ rw (z, on_wire_lem i) (lowest_drives n.limits.pin (load_below n (offsets_on (entries vs os)) i) (begin i) (begin (suc i)) os (omega (arith, until)) (end i)
        ∙ ap (λ (x : ℕ). get_or os x 0 + load_below n (offsets_on (entries vs os)) i) e)

    pub drives_next : Stacked vs k true → get_or (driven n (offsets_on (entries vs os))) k 0 ≡ (get_or os k 0 - get_or os (k - 1) 0) + n.limits.pin
    unfolding driven_on
    drives_next f =
        let i : ℕ = get_or vs k 0 in
        driven_at ∙ rw (on_wire_lem i) (next_drives n.limits.pin (load_below n (offsets_on (entries vs os)) i) (begin i) (begin (suc i)) k os (upper f) until (end i))

    pub before_lower : Stacked vs k true → get_or os (k - 1) 0 ≤ get_or os k 0
    before_lower f =
        let i : ℕ = get_or vs k 0 in
        let e : suc (k - 1) ≡ k = omega (arith, f.0) in
        rw e at (further_up n start vs os p.order p.even (k - 1) (omega arith) (rw e (mine i (k - 1) (omega (arith, upper f)) (omega (arith, until)))))
