-- A net that is written and read again is the same net. Node by node: the bytes of a sound node's field are read as that node, so the fields of the
-- file are the nodes of the columns, and each is judged as it was in the columns.
use Rattle.rules.specs.declared.Refusal.{Refusal}
use Rattle.std.specs.Prelude.{Option, None, Result, Ok, Err}
use Rattle.field.specs.declared.Field.{Field}
use Prim.Native.Nat.{ℕ, zero, suc, ◌+◌, ◌-◌, ◌<◌, ◌≤◌}
use native.Mathlib.Omega.{arith}
use mathlib.Core.Path.{◌≡◌, refl, sym, ap, ◌∙◌}
use mathlib.Core.Bool.{Bool, true, false}
use mathlib.Core.List.{List, [], ◌∷◌, ◌++◌, map}
use lib.ListN.{length, get_or, take, drop, length-drop}
use lib.Seq.{sets, drop-cons, take_all}
use lib.Dec.{eqb, ltb, leb}
use borrow.Author.Tests.{eqb-true, ltb-false, le-ltb, le-leb}
use Rattle.rules.specs.declared.Limits.{Limits}
use Rattle.rules.specs.declared.Node.{Node}
use Rattle.rules.specs.declared.Refusal.TheVariants.{OutOfRange, WrongColumns, NoRoom}
use Rattle.rules.specs.Judged.{Judged}
use Rattle.rules.specs.Figures.{most_wire, most_pin}
use Rattle.rules.specs.Choose.{pick, both}
use Rattle.rules.specs.Net.{Net, places, parent, wire, kind, pin, polarity, node}
use Rattle.rules.specs.Judge.{unless, limits_in_range, columns_fit, source_clear, end_in_range, children, node_judged, nodes_judged, childed, judged}
use Rattle.rules.specs.Sound.{SoundNet}
use Rattle.rules.proofs.Tests.{never, both_met, unless_met, then_met}
use Rattle.rules.proofs.Each.{each_met}
use Rattle.rules.proofs.SoundSays.{sound_says}
use Rattle.field.specs.declared.Value.TheVariants.{Limits as LimitsField, Branch, Sink, End}
use Rattle.field.specs.declared.NoField.{NoField}
use Rattle.field.specs.Format.{due_in, due_at, bytes_of, Fitting}
use Rattle.field.proofs.RoundTrip.{after, field_back}
use Rattle.net_file.specs.declared.Taken.{Taken}
use Rattle.net_file.specs.declared.NetRead.{NetRead}
use Rattle.net_file.specs.NetFile.{one_node, read_as, front_of, taken_value, taken_of, taken_at, follow, fields_from, nodes_of, columns_of, source, fields_judged, read, when_sound, net_with, fields_of, net_from, from_front, net_of, room, laid_over, ReadNet, first_places, field_of, bytes_from, net_bytes, written, left_in, WroteNet}
use Rattle.field.specs.Listed.{listed}
use Rattle.net_file.proofs.FieldsJudged.{admitted_anywhere, admitted_fits}
use Rattle.net_file.proofs.ReadWrite.{front_is}

-- ---- one node

-- a node in its ranges is what its field is taken for
taken_back : (at : ℕ) (l : Limits) (d : Node) → end_in_range l d ≡ true → taken_value at (field_of d) ≡ one_node d (at + length (bytes_of (field_of d)))
taken_back at l d e = by (eqb d.kind 1) refl e
  where
    by : (b : Bool) → eqb d.kind 1 ≡ b → pick b (both (leb d.pin most_pin) (leb d.polarity l.repeater)) (both (eqb d.kind 0) (both (eqb d.pin 0) (eqb d.polarity 0))) ≡ true
        → taken_value at (pick b (Sink d.parent d.wire d.pin d.polarity) (Branch d.parent d.wire))
        ≡ one_node d (at + length (bytes_of (pick b (Sink d.parent d.wire d.pin d.polarity) (Branch d.parent d.wire))))
    by true k h = let one : d.kind ≡ 1 = eqb-true d.kind 1 k in ap (λ (x : ℕ). one_node (record { parent = d.parent; wire = d.wire; kind = x; pin = d.pin; polarity = d.polarity }) (at + 14)) (sym one)
    by false k h =
        let (a, x) = both_met (eqb d.kind 0) (both (eqb d.pin 0) (eqb d.polarity 0)) h in
        let (b, c) = both_met (eqb d.pin 0) (eqb d.polarity 0) x in
        let kz : d.kind ≡ 0 = eqb-true d.kind 0 a in
        let pz : d.pin ≡ 0 = eqb-true d.pin 0 b in
        let qz : d.polarity ≡ 0 = eqb-true d.polarity 0 c in
        ap (λ (x : ℕ). one_node (record { parent = d.parent; wire = d.wire; kind = x; pin = 0; polarity = 0 }) (at + 9)) (sym kz)
        ∙ ap (λ (x : ℕ). one_node (record { parent = d.parent; wire = d.wire; kind = d.kind; pin = x; polarity = 0 }) (at + 9)) (sym pz)
        ∙ ap (λ (x : ℕ). one_node (record { parent = d.parent; wire = d.wire; kind = d.kind; pin = d.pin; polarity = x }) (at + 9)) (sym qz)

fitting : (d : Node) → d.parent < 65536 → d.wire ≤ 10000000 → d.pin ≤ 1000000 → d.polarity ≤ 1 → Fitting (field_of d)
fitting d p w c q = by (eqb d.kind 1)
  where
    by : (b : Bool) → Fitting (pick b (Sink d.parent d.wire d.pin d.polarity) (Branch d.parent d.wire))
    by true = (omega arith, (omega arith, (omega arith, (omega arith, tt))))
    by false = (omega arith, (omega arith, tt))

-- ---- the nodes of the columns as a list

column_of : (nodes : ℕ → Node) (f : Node → ℕ) (col : List ℕ) → ((i : ℕ) → f (nodes i) ≡ get_or col i 0) → (m i : ℕ) → i + m ≤ length col → map f (listed nodes m i) ≡ take m (drop i col)
unfolding listed
column_of nodes f col h zero i l = refl
column_of nodes f col h (suc m) i l = rw (drop-cons col i 0 (omega arith), h i, column_of nodes f col h m (suc i) (omega arith))

whole_column : (nodes : ℕ → Node) (f : Node → ℕ) (col : List ℕ) → ((i : ℕ) → f (nodes i) ≡ get_or col i 0) → (m : ℕ) → length col ≡ suc m → get_or col 0 0 ≡ f source → map f (source ∷ listed nodes m 1) ≡ col
whole_column nodes f col h m long zero_at_lem =
    let d : drop 0 col ≡ get_or col 0 0 ∷ drop 1 col = drop-cons col 0 0 (omega arith) in
    let t : take m (drop 1 col) ≡ drop 1 col = take_all m (drop 1 col) (rw length-drop (omega arith)) in
    rw (← zero_at_lem, column_of nodes f col h m 1 (omega arith), t) (sym d)

-- ---- a sound net's file
module _ (n : Net) (holds : judged n ≡ Ok tt) where
  facts : SoundNet n
  facts = sound_says n holds

  -- what the judge met
  met : (columns_fit n ≡ true) × (limits_in_range n.limits ≡ true) × (source_clear n ≡ true) × (nodes_judged n ≡ Ok tt) × (childed n ≡ Ok tt)
  unfolding judged
  met =
      let (a, e₁) = then_met (unless (columns_fit n) WrongColumns) _ holds in
      let (b, e₂) = then_met (unless (limits_in_range n.limits) (OutOfRange 0)) _ e₁ in
      let (c, e₃) = then_met (unless (source_clear n) (OutOfRange 0)) _ e₂ in
      let (d, f) = then_met (nodes_judged n) (childed n) e₃ in
      (unless_met _ WrongColumns a, unless_met _ (OutOfRange 0) b, unless_met _ (OutOfRange 0) c, d, f)

  node_met : (i : ℕ) → 1 ≤ i → i < places n → node_judged n i i ≡ Ok tt
  node_met i lo hi = each_met (λ j. node_judged n j j) (places n - 1) 1 met.3 i lo (omega arith)

  in_range : (i : ℕ) → 1 ≤ i → i < places n → end_in_range n.limits (node n i) ≡ true
  in_range i lo hi =
      let (r, f) = admitted_fits n.limits (node n i) i (kind n (parent n i)) (children n (i - 1) (parent n i)) i (node_met i lo hi) in
      (both_met (leb (wire n i) most_wire) (end_in_range n.limits (node n i)) r).1

  module _ (s : List ℕ) where
    node_here : (at i : ℕ) (rest : List ℕ) → 1 ≤ i → i < places n → drop at s ≡ bytes_of (field_of (node n i)) ++ rest → taken_at s at ≡ one_node (node n i) (at + length (bytes_of (field_of (node n i))))
    unfolding taken_at
    node_here at i rest lo hi e =
        let f : SoundNet n = facts in
        let fit : Fitting (field_of (node n i)) = fitting (node n i) (omega (arith, f.lower i lo hi, f.few)) (f.wire_most i) (f.pin_most i) (omega (arith, f.polarity_most i, f.repeater_most)) in
        ap taken_of (field_back s at (field_of (node n i)) rest fit e) ∙ taken_back at n.limits (node n i) (in_range i lo hi)

    end_here : (at : ℕ) → drop at s ≡ bytes_of End → taken_at s at ≡ Ok None
    unfolding taken_at
    end_here at e = ap taken_of (field_back s at End [] tt e)

    -- the fields from a place on, where m nodes from node i on stand there
    record Back (k at m i : ℕ) : Type 0 where
      nodes : nodes_of (fields_from k s at) ≡ listed (node n) m i
      sound : fields_judged n (length s) i (fields_from k s at) ≡ Ok tt

    back : (m k at i : ℕ) → m < k → 1 ≤ i → i + m ≡ places n → drop at s ≡ bytes_from (node n) m i → Back k at m i
    unfolding fields_from fields_judged nodes_of bytes_from listed
    back m zero at i h lo e b = absurd (omega arith)
    back zero (suc k) at i h lo e b =
        let t : taken_at s at ≡ Ok None = end_here at b in
        let long : length s ≤ at + 3 = omega (arith, length-drop at s, ap length b) in
        record { nodes = rw t; sound = rw (t, le-leb (length s) (at + 3) long) met.4 }
    back (suc m) (suc k) at i h lo e b =
        let t : taken_at s at ≡ one_node (node n i) (at + length (bytes_of (field_of (node n i)))) = node_here at i (bytes_from (node n) m (suc i)) lo (omega arith) b in
        let rest : drop (at + length (bytes_of (field_of (node n i)))) s ≡ bytes_from (node n) m (suc i) = after s (bytes_of (field_of (node n i))) (bytes_from (node n) m (suc i)) at b in
        let later : Back k (at + length (bytes_of (field_of (node n i)))) m (suc i) = back m k (at + length (bytes_of (field_of (node n i)))) (suc i) (omega arith) (omega arith) (omega arith) rest in
        let ok : node_judged n i at ≡ Ok tt = admitted_anywhere n.limits (node n i) i (kind n (parent n i)) (children n (i - 1) (parent n i)) i at (node_met i lo (omega arith)) in
        record {
          nodes = ap (λ (x : Result (Option Taken) Refusal). nodes_of (follow at x (fields_from k s))) t ∙ ap (λ (ds : List Node). node n i ∷ ds) later.nodes;
          sound = ap (λ (x : Result (Option Taken) Refusal). fields_judged n (length s) i (follow at x (fields_from k s))) t ∙ rw ok later.sound;
        }

  -- node 0's places
  clear : (parent n 0 ≡ 0) × (wire n 0 ≡ 0) × (kind n 0 ≡ 0) × (pin n 0 ≡ 0) × (polarity n 0 ≡ 0)
  clear =
      let (p, s₁) = both_met (eqb (parent n 0) 0) _ met.2 in
      let (w, s₂) = both_met (eqb (wire n 0) 0) _ s₁ in
      let (k, s₃) = both_met (eqb (kind n 0) 0) _ s₂ in
      let (c, q) = both_met (eqb (pin n 0) 0) (eqb (polarity n 0) 0) s₃ in
      (eqb-true (parent n 0) 0 p, eqb-true (wire n 0) 0 w, eqb-true (kind n 0) 0 k, eqb-true (pin n 0) 0 c, eqb-true (polarity n 0) 0 q)

  columns_back : columns_of n.limits (source ∷ listed (node n) (places n - 1) 1) ≡ n
  columns_back =
      let f : SoundNet n = facts in let z = clear in
      let m : places n ≡ suc (places n - 1) = omega (arith, f.some) in
      let col : (g : Node → ℕ) (c : List ℕ) → ((i : ℕ) → g (node n i) ≡ get_or c i 0) → length c ≡ places n → get_or c 0 0 ≡ g source → map g (source ∷ listed (node n) (places n - 1) 1) ≡ c
      = λ g c h long zero_at_lem. whole_column (node n) g c h (places n - 1) (long ∙ m) zero_at_lem in
      rw (
        col (λ (d : Node). d.parent) n.parents (λ i. refl) refl z.0,
        col (λ (d : Node). d.wire) n.wires (λ i. refl) f.wires_long z.1,
        col (λ (d : Node). d.kind) n.kinds (λ i. refl) f.kinds_long z.2,
        col (λ (d : Node). d.pin) n.pins (λ i. refl) f.pins_long z.3,
        col (λ (d : Node). d.polarity) n.polarities (λ i. refl) f.polarities_long z.4,
      )

  pub read_back : net_of (net_bytes n) ≡ read n
  unfolding net_of net_from
  read_back =
      let f : SoundNet n = facts in
      let fit : Fitting (LimitsField n.limits) = (omega (arith, f.limit_most), (omega (arith, f.limit_most, f.half), (omega (arith, f.repeater_most), tt))) in
      let front : front_of (due_at 1 (net_bytes n) 0) ≡ Ok n.limits
      = ap (λ (g : Result Field NoField). front_of (due_in 1 g)) (field_back (net_bytes n) 0 (LimitsField n.limits) (bytes_from (node n) (places n - 1) 1) fit refl) ∙ rw met.1 in
      let b : Back (net_bytes n) 1025 12 (places n - 1) 1 = back (net_bytes n) (places n - 1) 1025 12 1 (omega (arith, f.few)) (omega arith) (omega (arith, f.some)) refl in
      let is : net_with n.limits (fields_of (net_bytes n)) ≡ n = ap (λ (ds : List Node). columns_of n.limits (source ∷ ds)) b.nodes ∙ columns_back in
      ap (from_front (net_bytes n)) front
      ∙ ap (λ (x : Net). when_sound (fields_judged x (length (net_bytes n)) 1 (fields_of (net_bytes n))) x) is
      ∙ ap (λ (j : Judged). when_sound j n) b.sound

-- ---- written, and read again: RULES 3.13

was_written : (j : Judged) (bs out : List ℕ) (m : ℕ) → Ok m ≡ written j bs out → (j ≡ Ok tt) × (m ≡ length bs) × (length bs ≤ length out) × (left_in j bs out ≡ sets out 0 bs)
was_written (Err r) bs out m e = never (cc)
was_written (Ok _) bs out m e = by (ltb (length out) (length bs)) refl e
  where
    by : (b : Bool) → ltb (length out) (length bs) ≡ b → Ok m ≡ pick b (Err (NoRoom (length bs))) (Ok (length bs)) → (◌≡◌ {A = Judged} (Ok tt) (Ok tt)) × (m ≡ length bs) × (length bs ≤ length out) × (pick b out (sets out 0 bs) ≡ sets out 0 bs)
    by true q h = never (cc)
    by false q h = (refl, cc, ltb-false (length out) (length bs) q, refl)

module _ (n : Net) (out after : List ℕ) (m : ℕ) (wrote : WroteNet n out after (Ok m)) where
  -- what was written, in the first m bytes of the buffer
  pub written_net : (judged n ≡ Ok tt) × (take m after ≡ net_bytes n)
  written_net =
      let (j, k, fits, left) = was_written (judged n) (net_bytes n) out m wrote.answer in
      (j, rw (wrote.buffer, left, k) (front_is out (net_bytes n) (length (net_bytes n)) refl fits))

  -- into columns that are long enough
  pub written_then_read : (lent left : Net) (r : Result NetRead Refusal) → places n ≤ room lent → ReadNet (take m after) lent left r
      → (r ≡ read_as n.limits (places n)) × (left ≡ laid_over lent 0 n) × (first_places (places n) n.limits left ≡ n)
  written_then_read lent left r h reads =
      let (j, bytes) = written_net in
      let f : SoundNet n = sound_says n j in
      let o : net_of (take m after) ≡ read n = ap net_of bytes ∙ read_back n j in
      let t = le-ltb (room lent) (places n) h in
      let c : left ≡ laid_over lent 0 n = reads.columns ∙ rw (o, t) in
      let cut : (col vs : List ℕ) → length vs ≡ places n → places n ≤ length col → take (places n) (sets col 0 vs) ≡ vs = λ col vs long most. front_is col vs (places n) long most in (
        reads.answer ∙ rw (o, t),
        c,
        ap (first_places (places n) n.limits) c
            ∙ rw (cut lent.parents n.parents refl (omega arith), cut lent.wires n.wires f.wires_long (omega arith), cut lent.kinds n.kinds f.kinds_long (omega arith), cut lent.pins n.pins f.pins_long (omega arith), cut lent.polarities n.polarities f.polarities_long (omega arith)),
      )
