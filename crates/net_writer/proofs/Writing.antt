-- The writer's loops: the bytes of the nodes that are left say what is still to be counted, and what the buffer is still to get.
use Prim.Native.Nat.{ℕ, suc, ◌+◌, ◌-◌, ◌*◌, ◌<◌, ◌≤◌}
use native.Mathlib.Omega.{arith}
use native.Mathlib.Numerals.{add-one}
use mathlib.Core.Path.{◌≡◌, sym, ap, ◌∙◌}
use mathlib.Core.Bool.{Bool, true, false}
use mathlib.Core.List.{List, ◌++◌}
use lib.ListN.{length, length-append}
use lib.Seq.{sets, length-sets}
use lib.Dec.{eqb}
use Rattle.rules.specs.declared.Limits.{Limits}
use Rattle.rules.specs.declared.Node.{Node}
use Rattle.rules.specs.Choose.{pick}
use Rattle.field.specs.declared.Value.{Value}
use Rattle.field.specs.declared.Value.TheVariants.{Limits as LimitsField, Branch, Sink, End}
use Rattle.field.specs.Format.{bytes_of}
use Rattle.field.proofs.Numbers.{sets_append}
use Rattle.net_file.specs.NetFile.{field_of, bytes_from}

pub node_size : (d : Node) → length (bytes_of (field_of d)) ≤ 14
node_size d = by (eqb d.kind 1)
  where
    by : (b : Bool) → length (bytes_of (pick b (Sink d.parent d.wire d.pin d.polarity) (Branch d.parent d.wire))) ≤ 14
    by true = omega arith
    by false = omega arith

module _ (nodes : ℕ → Node) (places : ℕ) where
  -- the bytes from node i on
  abbrev pub Left : ℕ → List ℕ
  Left i = bytes_from nodes (places - i) i

  pub left_next : (i : ℕ) → i < places → Left i ≡ bytes_of (field_of (nodes i)) ++ Left (i + 1)
  unfolding bytes_from
  left_next i h = let z : places - i ≡ suc (places - suc i) = omega arith in rw (z, add-one)

  pub left_end : (i : ℕ) → places ≤ i → Left i ≡ bytes_of End
  unfolding bytes_from
  left_end i h = let z : places - i ≡ 0 = omega arith in rw z

  pub left_size : (i : ℕ) → i < places → length (Left i) ≡ length (bytes_of (field_of (nodes i))) + length (Left (i + 1))
  left_size i h = ap length (left_next i h) ∙ length-append (bytes_of (field_of (nodes i))) (Left (i + 1))

  -- ---- counting
  pub record Counting (size i : ℕ) : Type 0 where
    pub few : size ≤ 14 * i + 1
    pub rest : 15 + length (Left 1) ≡ size + length (Left i)

  module _ {size i : ℕ} (c : Counting size i) where
    pub count_next : i < places → {m : ℕ} → m ≡ length (bytes_of (field_of (nodes i))) → Counting (size + m) (i + 1)
    count_next h e = record {
      few = omega (arith, c.few, node_size (nodes i));
      rest = omega (arith, c.rest, left_size i h);
    }

    pub count_end : places ≤ i → size ≡ length (Left 1) + 12
    count_end h = omega (arith, c.rest, ap length (left_end i h))

  -- ---- putting
  module _ (first : List ℕ) where
    pub record Putting (out : List ℕ) (at i : ℕ) : Type 0 where
      pub long : length out ≡ length first
      pub room : at + length (Left i) ≤ length out
      pub rest : sets first 12 (Left 1) ≡ sets out at (Left i)

    module _ {out : List ℕ} {at i : ℕ} (p : Putting out at i) where
      pub room_next : i < places → {v : Value} → v ≡ field_of (nodes i) → at + length (bytes_of v) ≤ length out
      room_next h e = omega (arith, p.room, left_size i h, ap (λ (x : Value). length (bytes_of x)) e)

      pub put_next : i < places → {v : Value} → v ≡ field_of (nodes i) → {m : ℕ} {more : List ℕ} → m ≡ length (bytes_of v) → more ≡ sets out at (bytes_of v) → Putting more (at + m) (i + 1)
      put_next h {v} e {m} {more} hm q =
          let n : m ≡ length (bytes_of (field_of (nodes i))) = hm ∙ ap (λ (x : Value). length (bytes_of x)) e in
          let k : length more ≡ length out = ap length q ∙ length-sets out at (bytes_of v) in
          record {
            long = k ∙ p.long;
            room = omega (arith, p.room, left_size i h);
            rest = p.rest
                ∙ ap (sets out at) (left_next i h)
                ∙ sets_append out at (bytes_of (field_of (nodes i))) (Left (i + 1))
                ∙ rw (q, e, n);
          }

      pub room_end : places ≤ i → at + length (bytes_of End) ≤ length out
      room_end h = omega (arith, p.room, ap length (left_end i h))

      pub put_end : places ≤ i → {more : List ℕ} → more ≡ sets out at (bytes_of End) → more ≡ sets first 12 (Left 1)
      put_end h q = q ∙ sym (p.rest ∙ ap (sets out at) (left_end i h))

-- the limits before them
pub put_all : (out : List ℕ) (l : Limits) (bs : List ℕ) {first more : List ℕ} → first ≡ sets out 0 (bytes_of (LimitsField l)) → more ≡ sets first 12 bs → more ≡ sets out 0 (bytes_of (LimitsField l) ++ bs)
put_all out l bs e f = f ∙ ap (λ (o : List ℕ). sets o 12 bs) e ∙ sym (sets_append out 0 (bytes_of (LimitsField l)) bs)
