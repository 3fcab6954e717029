-- A number and its bytes, at every width, and rows of numbers: by induction on the width, one byte off the low end, and on the row.
use Prim.Native.Nat.{ℕ, zero, suc, ◌+◌, ◌*◌, ◌/◌, ◌%◌, ◌<◌, ◌≤◌, ◌^◌}
use native.Mathlib.Nat.{add-zero, suc-add, add-suc, pow-suc}
use native.Mathlib.Omega.{arith}
use mathlib.Core.Path.{◌≡◌, refl, sym, ap, ◌∙◌}
use mathlib.Core.List.{List, [], ◌∷◌, ◌++◌, append_assoc}
use lib.ListN.{length, get_or, take, drop, set, length-append, length-drop}
use lib.Seq.{sets, get_or-append_seam, get_or-append-add, get_or_at, get_or-drop, take-suc, take-add, drop-drop}
use Rattle.field.specs.Format.{number_at, bytes_in, numbers_at, bytes_of_all, sum, Fit}

-- ---- from the number to the bytes and back

length_bytes_in : (w n : ℕ) → length (bytes_in w n) ≡ w
length_bytes_in zero n = refl
length_bytes_in (suc zero) n = refl
length_bytes_in (suc (suc w)) n = simp (length-append, length_bytes_in (suc w) (n / 256)) (omega arith)

number_back : (w n : ℕ) (p rest : List ℕ) → n < 256 ^ w → number_at w (p ++ (bytes_in w n ++ rest)) (length p) ≡ n
number_back zero n p rest h = omega arith
number_back (suc zero) n p rest h = get_or-append_seam p n rest 0
number_back (suc (suc w)) n p rest h =
    let b = bytes_in (suc w) (n / 256) in
    let e : (b ++ (n % 256 ∷ [])) ++ rest ≡ b ++ (n % 256 ∷ rest) = append_assoc b (n % 256 ∷ []) rest in
    let small : n / 256 < 256 ^ suc w = (let q : n < 256 ^ suc w * 256 = rw pow-suc at h in omega arith) in
    let high : number_at (suc w) (p ++ (b ++ (n % 256 ∷ rest))) (length p) ≡ n / 256 = number_back (suc w) (n / 256) p (n % 256 ∷ rest) small in
    let low : get_or (p ++ (b ++ (n % 256 ∷ rest))) (length p + suc w) 0 ≡ n % 256 = get_or-append-add p (b ++ (n % 256 ∷ rest)) (suc w) 0 ∙ get_or_at b (n % 256) rest 0 (suc w) (length_bytes_in (suc w) (n / 256)) in
    rw e (omega arith)

pub numbers_back : (ws ns p rest : List ℕ) → Fit ws ns → numbers_at ws (p ++ (bytes_of_all ws ns ++ rest)) (length p) ≡ ns
numbers_back [] [] p rest h = refl
numbers_back [] (n ∷ ns) p rest h = absurd h
numbers_back (w ∷ ws) [] p rest h = absurd h
numbers_back (w ∷ ws) (n ∷ ns) p rest h =
    let b = bytes_in w n in
    let e : (b ++ bytes_of_all ws ns) ++ rest ≡ b ++ (bytes_of_all ws ns ++ rest) = append_assoc b (bytes_of_all ws ns) rest in
    let f : p ++ (b ++ (bytes_of_all ws ns ++ rest)) ≡ (p ++ b) ++ (bytes_of_all ws ns ++ rest) = sym (append_assoc p b (bytes_of_all ws ns ++ rest)) in
    let k : length (p ++ b) ≡ length p + w = length-append p b ∙ ap (λ (x : ℕ). length p + x) (length_bytes_in w n) in
    let first : number_at w (p ++ (b ++ (bytes_of_all ws ns ++ rest))) (length p) ≡ n = number_back w n p (bytes_of_all ws ns ++ rest) h.0 in
    let others : numbers_at ws ((p ++ b) ++ (bytes_of_all ws ns ++ rest)) (length (p ++ b)) ≡ ns = numbers_back ws ns (p ++ b) rest h.1 in
    cc

-- ---- from the bytes to the number and back

abbrev pub AreBytes : List ℕ → Type 0
AreBytes l = (k : ℕ) → get_or l k 0 < 256

module _ (l : List ℕ) (by : AreBytes l) where
  one_more : (w k : ℕ) → k + suc w ≤ length l → take (suc w) (drop k l) ≡ take w (drop k l) ++ (get_or l (k + w) 0 ∷ [])
  one_more w k h = take-suc (drop k l) w 0 (simp length-drop (omega arith)) ∙ ap (λ (b : ℕ). take w (drop k l) ++ (b ∷ [])) (get_or-drop k l w 0)

  bytes_back : (w k : ℕ) → k + w ≤ length l → bytes_in w (number_at w l k) ≡ take w (drop k l)
  bytes_back zero k h = refl
  bytes_back (suc zero) k h = sym (one_more 0 k h ∙ ap (λ (i : ℕ). get_or l i 0 ∷ []) (add-zero k))
  bytes_back (suc (suc w)) k h =
      let b = get_or l (k + suc w) 0 in
      let n = number_at (suc w) l k in
      let high : (n * 256 + b) / 256 ≡ n = omega (arith, by (k + suc w)) in
      let low : (n * 256 + b) % 256 ≡ b = omega (arith, by (k + suc w)) in
      rw (high, low, bytes_back (suc w) k (omega arith)) (sym (one_more (suc w) k h))

  pub all_back : (ws : List ℕ) (k : ℕ) → k + sum ws ≤ length l → bytes_of_all ws (numbers_at ws l k) ≡ take (sum ws) (drop k l)
  all_back [] k h = refl
  all_back (w ∷ ws) k h =
      rw (bytes_back w k (omega arith), all_back ws (k + w) (omega arith), take-add w (sum ws) (drop k l), drop-drop w k l)

-- ---- stores, one run after the other

pub sets_append : (l : List ℕ) (i : ℕ) (xs ys : List ℕ) → sets l i (xs ++ ys) ≡ sets (sets l i xs) (i + length xs) ys
sets_append l i [] ys = simp add-zero
sets_append l i (x ∷ xs) ys = sets_append (set l i x) (suc i) xs ys ∙ simp (suc-add, add-suc)
