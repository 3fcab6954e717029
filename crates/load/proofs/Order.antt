-- What a placement in order says of each entry: it stands on a wire, the wires rise, and so do the offsets of one wire.
use Prim.Native.Nat.{ℕ, zero, suc, ◌≤◌, ◌<◌}
use mathlib.Core.Path.{◌≡◌}
use mathlib.Core.List.{List, [], ◌∷◌}
use native.Mathlib.Omega.{arith}
use lib.ListN.{length, get_or}
use Rattle.rules.specs.declared.Entry.{Entry}
use Rattle.rules.specs.Net.{Net}
use Rattle.rules.specs.Load.{entries}
use Rattle.rules.specs.Legal.{InOrder, After, higher, further, Stands}

-- entries go by wire number (RULES 2.4)
abbrev pub Rising : List ℕ → Type 0
Rising vs = (a b : ℕ) → a ≤ b → b < length vs → get_or vs a 0 ≤ get_or vs b 0

after_wire : {d e : Entry} → After d e → d.wire ≤ e.wire
after_wire (higher h) = omega arith
after_wire (further h l) = omega arith

after_offset : {d e : Entry} → After d e → d.wire ≡ e.wire → d.offset ≤ e.offset
after_offset (higher h) q = omega arith
after_offset (further h l) q = l

abbrev pub at : ℕ → ℕ → Entry
at v o = record { wire = v; offset = o }

module _ (n : Net) where
  pub stands_at : (d : Entry) (vs os : List ℕ) → InOrder n d (entries vs os) → length os ≡ length vs
      → (k : ℕ) → k < length vs → Stands n (at (get_or vs k 0) (get_or os k 0))
  unfolding entries
  stands_at d [] os p e k h = absurd (omega arith)
  stands_at d (v ∷ vs) [] p e k h = absurd (omega arith)
  stands_at d (v ∷ vs) (o ∷ os) p e zero h = p.1
  stands_at d (v ∷ vs) (o ∷ os) p e (suc k) h = stands_at (at v o) vs os p.2 (omega arith) k (omega arith)

  past_first : (d : Entry) (vs os : List ℕ) → InOrder n d (entries vs os) → length os ≡ length vs → (b : ℕ) → b < length vs → d.wire ≤ get_or vs b 0
  unfolding entries
  past_first d [] os p e b h = absurd (omega arith)
  past_first d (v ∷ vs) [] p e b h = absurd (omega arith)
  past_first d (v ∷ vs) (o ∷ os) p e zero h = after_wire p.0
  past_first d (v ∷ vs) (o ∷ os) p e (suc b) h = omega (arith, after_wire p.0, past_first (at v o) vs os p.2 (omega arith) b (omega arith))

  pub rising : (d : Entry) (vs os : List ℕ) → InOrder n d (entries vs os) → length os ≡ length vs → Rising vs
  unfolding entries
  rising d [] os p e a b l h = absurd (omega arith)
  rising d (v ∷ vs) [] p e a b l h = absurd (omega arith)
  rising d (v ∷ vs) (o ∷ os) p e zero zero l h = omega arith
  rising d (v ∷ vs) (o ∷ os) p e zero (suc b) l h = past_first (at v o) vs os p.2 (omega arith) b (omega arith)
  rising d (v ∷ vs) (o ∷ os) p e (suc a) zero l h = absurd (omega arith)
  rising d (v ∷ vs) (o ∷ os) p e (suc a) (suc b) l h = rising (at v o) vs os p.2 (omega arith) a b (omega arith) (omega arith)

  after_first : (d : Entry) (vs os : List ℕ) → InOrder n d (entries vs os) → length os ≡ length vs → 0 < length vs → d.wire ≡ get_or vs 0 0 → d.offset ≤ get_or os 0 0
  unfolding entries
  after_first d [] os p e h q = absurd (omega arith)
  after_first d (v ∷ vs) [] p e h q = absurd (omega arith)
  after_first d (v ∷ vs) (o ∷ os) p e h q = after_offset p.0 q

  pub further_up : (d : Entry) (vs os : List ℕ) → InOrder n d (entries vs os) → length os ≡ length vs
      → (k : ℕ) → suc k < length vs → get_or vs k 0 ≡ get_or vs (suc k) 0 → get_or os k 0 ≤ get_or os (suc k) 0
  unfolding entries
  further_up d [] os p e k h q = absurd (omega arith)
  further_up d (v ∷ vs) [] p e k h q = absurd (omega arith)
  further_up d (v ∷ vs) (o ∷ os) p e zero h q = after_first (at v o) vs os p.2 (omega arith) (omega arith) q
  further_up d (v ∷ vs) (o ∷ os) p e (suc k) h q = further_up (at v o) vs os p.2 (omega arith) k (omega arith) q
