-- A net file that is read and written again gives the same bytes. Field by field: what was read stands in the file byte for byte, so the bytes of the
-- nodes from node i on are those of the file from its place on; and a net that was read is sound, since each field was judged as its node is.
use Rattle.std.specs.Prelude.{Some, Option, None, Ok, Err, Result}
use Rattle.rules.specs.declared.Refusal.{Refusal}
use Prim.Native.Nat.{ℕ, zero, suc, ◌+◌, ◌-◌, ◌≤◌}
use native.Mathlib.Omega.{arith}
use mathlib.Core.Path.{◌≡◌, refl, sym, ap, ◌∙◌}
use mathlib.Core.Bool.{Bool, true, false}
use mathlib.Core.List.{List, [], ◌∷◌, ◌++◌, map}
use lib.ListN.{length, get_or, take, drop, length-map, drop_of_length-le}
use lib.Seq.{sets, sets-eq, take-append_seam}
use lib.Dec.{ltb, leb}
use borrow.Author.Tests.{eq-eqb, lt-ltb, le-ltb, le-leb, leb-true, ltb-false}
use Rattle.rules.specs.declared.Limits.{Limits}
use Rattle.rules.specs.declared.Node.{Node}
use Rattle.rules.specs.declared.Refusal.TheVariants.{OutOfRange, BytesAfterEnd, NoRoom}
use Rattle.rules.specs.Judged.{Judged}
use Rattle.rules.specs.Figures.{most_places}
use Rattle.rules.specs.Choose.{pick}
use Rattle.rules.specs.Net.{Net, places, node}
use Rattle.rules.specs.Judge.{unless, limits_in_range, columns_fit, source_clear, node_judged, nodes_judged, judged}
use Rattle.rules.proofs.Tests.{never, unless_met, then_met}
use Rattle.field.specs.declared.Value.{Value}
use Rattle.field.specs.declared.Value.TheVariants.{Limits as LimitsField, Branch, Sink, Count, Entry, End}
use Rattle.field.specs.declared.Field.{Field}
use Rattle.field.specs.declared.NoField.{NoField}
use Rattle.field.specs.declared.NoField.TheVariants.{Cut, Refused as Unfound}
use Rattle.field.specs.Format.{field_at, due_at, bytes_of}
use Rattle.field.proofs.Due.{found}
use Rattle.field.proofs.Numbers.{AreBytes}
use Rattle.field.proofs.RoundTrip.{written_read, begins}
use Rattle.net_file.specs.declared.Taken.{Taken}
use Rattle.net_file.specs.NetFile.{one_node, read_as, front_value, front_of, taken_value, taken_of, taken_at, follow, fields_from, nodes_of, columns_of, source, fields_judged, Outcome, read, refused, net_with, fields_of, net_of, room, laid_over, answered, filled, ReadNet, first_places, field_of, bytes_from, net_bytes, written, left_in, WroteNet}
use Rattle.net_file.proofs.Nodes.{node_is, places_are, Heads, heads}
use Rattle.net_file.proofs.FieldsJudged.{columns_judged_lem}
use Rattle.net_file.proofs.Said.{same_read, same_node}
use Rattle.net_file.proofs.WasRead.{WasRead, was_read, read_places_lem}

-- ---- one field

front_value_lem : (at : ℕ) (l : Limits) (v : Value) → front_value at v ≡ Ok l → (v ≡ LimitsField l) × (limits_in_range l ≡ true)
front_value_lem at l (LimitsField l') e = by (limits_in_range l') refl e
  where
    by : (b : Bool) → limits_in_range l' ≡ b → pick b (Ok l') (Err (OutOfRange at)) ≡ Ok l → (LimitsField l' ≡ LimitsField l) × (limits_in_range l ≡ true)
    by true q h = let same : l' ≡ l = cc in (ap LimitsField same, rw same at q)
    by false q h = never (cc)
front_value_lem at l (Branch p w) e = never (cc)
front_value_lem at l (Sink p w c q) e = never (cc)
front_value_lem at l (Count n) e = never (cc)
front_value_lem at l (Entry x) e = never (cc)
front_value_lem at l End e = never (cc)

node_value : (at : ℕ) (d : Node) (next : ℕ) (v : Value) → taken_value at v ≡ one_node d next → (v ≡ field_of d) × (next ≡ at + length (bytes_of v))
node_value at d next (Branch p w) e = let (same, after) = same_node e in (ap field_of same, sym after)
node_value at d next (Sink p w c q) e = let (same, after) = same_node e in (ap field_of same, sym after)
node_value at d next (LimitsField l) e = never (cc)
node_value at d next (Count n) e = never (cc)
node_value at d next (Entry x) e = never (cc)
node_value at d next End e = never (cc)

end_value : (at : ℕ) (v : Value) → taken_value at v ≡ Ok None → v ≡ End
end_value at End e = refl
end_value at (LimitsField l) e = never (cc)
end_value at (Branch p w) e = never (cc)
end_value at (Sink p w c q) e = never (cc)
end_value at (Count n) e = never (cc)
end_value at (Entry x) e = never (cc)

front_field : (l : Limits) (d : Result Field Refusal) → front_of d ≡ Ok l → (f : Field) × (d ≡ Ok f) × (f.value ≡ LimitsField l) × (limits_in_range l ≡ true)
front_field l (Ok f) e = let (v, r) = front_value_lem f.at l f.value e in (f, refl, v, r)
front_field l (Err r) e = never (cc)

node_field : (d : Node) (next : ℕ) (g : Result Field NoField) → taken_of g ≡ one_node d next → (f : Field) × (g ≡ Ok f) × (f.value ≡ field_of d) × (next ≡ f.at + length (bytes_of f.value))
node_field d next (Ok f) e = let (v, n) = node_value f.at d next f.value e in (f, refl, v, n)
node_field d next (Err (Cut t place)) e = never (cc)
node_field d next (Err (Unfound r)) e = never (cc)

end_field : (g : Result Field NoField) → taken_of g ≡ Ok None → (f : Field) × (g ≡ Ok f) × (f.value ≡ End)
end_field (Ok f) e = (f, refl, end_value f.at f.value e)
end_field (Err (Cut t place)) e = never (cc)
end_field (Err (Unfound r)) e = never (cc)

-- ---- a file's bytes
module _ (s : List ℕ) (by : AreBytes s) where
  -- an end that was read lies inside the file
  pub end_inside : (at : ℕ) → taken_at s at ≡ Ok None → at + 3 ≤ length s
  unfolding taken_at
  end_inside at e =
      let (f, got, v) = end_field (field_at s at) e in
      omega (arith, (written_read s at f by got).inside, ap (λ (x : Value). length (bytes_of x)) v)

  module _ (l : Limits) (ds : List Node) where
    abbrev N : Net
    N = columns_of l ds

    node_bytes : (at i : ℕ) (d : Node) (next k : ℕ) → taken_at s at ≡ one_node d next → get_or ds i source ≡ d → bytes_from (node N) k (suc i) ≡ drop next s → bytes_from (node N) (suc k) i ≡ drop at s
    unfolding taken_at bytes_from
    node_bytes at i d next k e h later =
        let (f, got, v, n) = node_field d next (field_at s at) e in
        let next_is : next ≡ at + length (bytes_of (field_of d)) = n ∙ rw ((written_read s at f by got).place, v) in
        ap (λ (x : Node). bytes_of (field_of x) ++ bytes_from (node N) k (suc i)) (node_is l ds i ∙ h)
        ∙ ap (λ (x : List ℕ). bytes_of (field_of d) ++ x) (later ∙ ap (λ (x : ℕ). drop x s) next_is)
        ∙ sym (begins s by at f (field_of d) got v)

    end_bytes : (at : ℕ) → taken_at s at ≡ Ok None → length s ≤ at + 3 → bytes_of End ≡ drop at s
    unfolding taken_at
    end_bytes at e h =
        let (f, got, v) = end_field (field_at s at) e in
        let none : drop (at + 3) s ≡ [] = drop_of_length-le s {i = at + 3} (omega arith) in
        sym (rw none at (begins s by at f End got v))

    bytes_back : (k at i : ℕ) → fields_judged N (length s) i (fields_from k s at) ≡ Ok tt → drop i ds ≡ nodes_of (fields_from k s at) → bytes_from (node N) (length (nodes_of (fields_from k s at))) i ≡ drop at s
    unfolding fields_from fields_judged nodes_of bytes_from
    bytes_back zero at i e h = never (cc)
    bytes_back (suc k) at i e h = on (taken_at s at) refl e h (λ next. bytes_back k next (suc i))
      where
        on : (t : Result (Option Taken) Refusal) → taken_at s at ≡ t → fields_judged N (length s) i (follow at t (fields_from k s)) ≡ Ok tt → drop i ds ≡ nodes_of (follow at t (fields_from k s))
            → ((next : ℕ) → fields_judged N (length s) (suc i) (fields_from k s next) ≡ Ok tt → drop (suc i) ds ≡ nodes_of (fields_from k s next) → bytes_from (node N) (length (nodes_of (fields_from k s next))) (suc i) ≡ drop next s)
            → bytes_from (node N) (length (nodes_of (follow at t (fields_from k s)))) i ≡ drop at s
        on (Ok (Some t)) q j left later =
            let head : Heads ds i t.node (nodes_of (fields_from k s t.next)) = heads i left in
            node_bytes at i t.node t.next (length (nodes_of (fields_from k s t.next))) q head.first (later t.next (then_met (node_judged N i at) _ j).1 head.others)
        on (Ok None) q j left later =
            end_bytes at q (leb-true (length s) (at + 3) (unless_met _ (BytesAfterEnd (at + 3)) (then_met (unless (leb (length s) (at + 3)) (BytesAfterEnd (at + 3))) _ j).0))
        on (Err r) q j left later = never (cc)

-- ---- the columns of a list of nodes

columns_fit_lem : (l : Limits) (ds : List Node) → 1 ≤ length ds → length ds ≤ most_places → columns_fit (columns_of l ds) ≡ true
columns_fit_lem l ds lo hi = rw (
  length-map ds (λ (d : Node). d.parent),
  length-map ds (λ (d : Node). d.wire),
  length-map ds (λ (d : Node). d.kind),
  length-map ds (λ (d : Node). d.pin),
  length-map ds (λ (d : Node). d.polarity),
  eq-eqb (length ds) (length ds) refl,
  lt-ltb 0 (length ds) lo,
  le-leb (length ds) most_places hi,
)

-- ---- a file that was read

pub record Same (s : List ℕ) (n : Net) : Type 0 where
  pub sound : judged n ≡ Ok tt
  pub bytes : net_bytes n ≡ s

pub same_bytes : (s : List ℕ) (n : Net) → AreBytes s → net_of s ≡ read n → Same s n
unfolding judged
same_bytes s n by e =
    let w : WasRead s n = was_read s n e in
    let (f, due, v, r) = front_field n.limits (due_at 1 s 0) w.front in
    let front = sym (begins s by 0 f (LimitsField n.limits) (found 1 (field_at s 0) due).0 v) in
    let (m, few) = read_places_lem w in
    let k : places n - 1 ≡ length (nodes_of (fields_of s)) = omega (arith, m) in
    let (nodes, c) = columns_judged_lem n (length s) 1 (fields_of s) w.sound in
    let fit : columns_fit n ≡ true = ap columns_fit w.is ∙ columns_fit_lem n.limits (source ∷ nodes_of (fields_of s)) (omega arith) (omega (arith, m, few)) in
    let clear : source_clear n ≡ true = ap source_clear w.is in
    let all : nodes_judged n ≡ Ok tt = rw k nodes in
    let back : bytes_from (node n) (length (nodes_of (fields_of s))) 1 ≡ drop 12 s
    = ap (λ (x : Net). bytes_from (node x) (length (nodes_of (fields_of s))) 1) w.is
    ∙ bytes_back s by n.limits (source ∷ nodes_of (fields_of s)) 1025 12 1 (rw w.is at w.sound) refl in
    record { sound = rw (fit, r, clear, all, c); bytes = rw (k, back) front }

-- ---- read, and written again: RULES 3.13

pub answered_read : (lent : Net) (o : Outcome) (l : Limits) (m : ℕ) → read_as l m ≡ answered (room lent) o → (n : Net) × (o ≡ read n) × (m ≤ room lent) × (n.limits ≡ l) × (places n ≡ m) × (filled lent o ≡ laid_over lent 0 n)
answered_read lent (refused r) l m e = never (cc)
answered_read lent (read n) l m e = by (ltb (room lent) (places n)) refl e
  where
    by : (b : Bool) → ltb (room lent) (places n) ≡ b → read_as l m ≡ pick b (Err (NoRoom (places n))) (read_as n.limits (places n))
        → (x : Net) × (◌≡◌ {A = Outcome} (read n) (read x)) × (m ≤ room lent) × (x.limits ≡ l) × (places x ≡ m) × (pick b lent (laid_over lent 0 n) ≡ laid_over lent 0 x)
    by true q h = never (cc)
    by false q h = let (l_is, m_is) = same_read h in (n, refl, rw (← m_is) at (ltb-false (room lent) (places n) q), sym l_is, sym m_is, refl)

pub front_is : (col vs : List ℕ) (m : ℕ) → length vs ≡ m → m ≤ length col → take m (sets col 0 vs) ≡ vs
front_is col vs m e h = rw (← e) (ap (take (length vs)) (sets-eq vs col 0 (omega arith)) ∙ take-append_seam vs (drop (0 + length vs) col))

module _ (s : List ℕ) (by : AreBytes s) (lent left : Net) (l : Limits) (m : ℕ) (reads : ReadNet s lent left (read_as l m)) where
  -- what was read, in the first m places of the columns
  pub read_net : (n : Net) × (net_of s ≡ read n) × (first_places m l left ≡ n)
  read_net =
      let (n, o, fits, limits, k, over) = answered_read lent (net_of s) l m reads.answer in
      let w : WasRead s n = was_read s n o in
      let ds : List Node = source ∷ nodes_of (fields_of s) in
      let c : left ≡ laid_over lent 0 (net_with n.limits (fields_of s)) = reads.columns ∙ over ∙ ap (laid_over lent 0) w.is in
      let long : length ds ≡ m = sym (places_are n.limits ds) ∙ sym (ap places w.is) ∙ k in
      let cut : (f : Node → ℕ) (col : List ℕ) → m ≤ length col → take m (sets col 0 (map f ds)) ≡ map f ds = λ f col h. front_is col (map f ds) m (length-map ds f ∙ long) h in (
        n,
        o,
        ap (first_places m l) c
            ∙ rw (cut (λ (d : Node). d.parent) lent.parents (omega arith), cut (λ (d : Node). d.wire) lent.wires (omega arith), cut (λ (d : Node). d.kind) lent.kinds (omega arith), cut (λ (d : Node). d.pin) lent.pins (omega arith), cut (λ (d : Node). d.polarity) lent.polarities (omega arith))
            (ap (λ (x : Limits). net_with x (fields_of s)) (sym limits) ∙ sym w.is),
      )

  -- into a buffer that is long enough
  pub read_then_written : (out after : List ℕ) (r : Result ℕ Refusal) → length s ≤ length out → WroteNet (first_places m l left) out after r → (r ≡ Ok (length s)) × (after ≡ sets out 0 s) × (take (length s) after ≡ s)
  read_then_written out after r h wrote =
      let (n, o, is) = read_net in
      let same : Same s n = same_bytes s n by o in
      let t = le-ltb (length out) (length s) h in
      let a : r ≡ Ok (length s)
      = wrote.answer
      ∙ ap (λ (x : Net). written (judged x) (net_bytes x) out) is
      ∙ ap (λ (j : Judged). written j (net_bytes n) out) same.sound
      ∙ ap (λ (bs : List ℕ). written (Ok tt) bs out) same.bytes
      ∙ rw t in
      let b : after ≡ sets out 0 s
      = wrote.buffer
      ∙ ap (λ (x : Net). left_in (judged x) (net_bytes x) out) is
      ∙ ap (λ (j : Judged). left_in j (net_bytes n) out) same.sound
      ∙ ap (λ (bs : List ℕ). left_in (Ok tt) bs out) same.bytes
      ∙ rw t in
      (a, b, ap (take (length s)) b ∙ front_is out s (length s) refl h)
