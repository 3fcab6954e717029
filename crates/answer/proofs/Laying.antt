-- Bytes laid one after the other, by field's law of a run of stores.
use Prim.Native.Nat.{ℕ, ◌+◌, ◌≤◌}
use native.Mathlib.Omega.{arith}
use mathlib.Core.Path.{◌≡◌, ap, ◌∙◌}
use mathlib.Core.List.{List, ◌++◌, append_assoc}
use lib.ListN.{length, take, drop, replicate, length-append}
use borrow.Rule.Slice.PartMut.{put_mid}
use lib.Seq.{drop-drop, sets, sets-eq, take-append_seam, length-sets}
use Rattle.field.proofs.Numbers.{sets_append}
use Rattle.answer.specs.declared.Line.{Line}
use Rattle.answer.specs.Text.{Laid, IsLine, Continues}

-- bytes that were copied to the place `at` on
pub copied : (l bs part : List ℕ) (at k : ℕ) → part ≡ bs → k ≡ length bs → at + length bs ≤ length l → put_mid at k l part ≡ sets l at bs
copied l bs part at k is n room = rw (is, n, sets-eq bs l at room, drop-drop, append_assoc)

pub then_laid : {l xs ys l₁ l₂ : List ℕ} {at n₁ n₂ : ℕ} → Laid l at xs l₁ n₁ → Laid l₁ n₁ ys l₂ n₂ → Laid l at (xs ++ ys) l₂ n₂
then_laid {l} {xs} {ys} {at = at} a b = record { ends = simp length-append (omega arith); stands = let g = sets_append l at xs ys in cc }

pub kept : {l bs l₁ : List ℕ} {at n : ℕ} → Laid l at bs l₁ n → length l₁ ≡ length l
kept {l} {bs} {at = at} a = ap length a.stands ∙ length-sets l at bs

-- bytes laid behind what a line holds
pub continues : {bs l : List ℕ} {before : Line} {n : ℕ} → Laid before.text before.bytes bs l n → n ≤ 64 → Continues before bs (record { text = l; bytes = n })
continues {bs} {before = before} {n = n} a room front h =
    let there : Laid (replicate 64 0) 0 front before.text before.bytes = record { ends = omega (arith, ap (λ (r : Line). r.bytes) h.is); stands = ap (λ (r : Line). r.text) h.is } in
    let whole = then_laid there a in
    let long : n ≡ length (front ++ bs) = omega (arith, whole.ends) in
    record { is = cc (whole.stands, long); short = omega arith }

pub laid_as : {l l₁ xs ys : List ℕ} {at n : ℕ} → xs ≡ ys → Laid l at xs l₁ n → Laid l at ys l₁ n
laid_as e a = rw e at a

-- what a line hands over
pub of_line : (bs : List ℕ) {r : Line} → IsLine bs r → take r.bytes r.text ≡ bs
of_line bs a =
    ap (λ (r : Line). take r.bytes r.text) a.is
    ∙ ap (take (length bs)) (sets-eq bs (replicate 64 0) 0 (omega arith))
    ∙ take-append_seam bs (drop (0 + length bs) (replicate 64 0))

-- a line that was laid
pub line_laid : {bs l l₁ : List ℕ} {at n : ℕ} {r : Line} → IsLine bs r → Laid l at (take r.bytes r.text) l₁ n → Laid l at bs l₁ n
line_laid is a = laid_as (of_line _ is) a

pub line_size : (bs : List ℕ) {r : Line} → IsLine bs r → (r.bytes ≡ length bs) × (length r.text ≡ 64)
line_size bs a = (ap (λ (r : Line). r.bytes) a.is, ap (λ (r : Line). length r.text) a.is ∙ length-sets (replicate 64 0) 0 bs)
