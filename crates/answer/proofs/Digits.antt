-- The digits that the kit's `decimal` writes, the fewest that hold the number, are the definition's; and 10 to the power of k bounds their number by k.
use Prim.Native.Nat.{ℕ, zero, suc, ◌+◌, ◌-◌, ◌*◌, ◌/◌, ◌%◌, ◌^◌, ◌≤◌, ◌<◌, zero-le}
use native.Mathlib.Nat.{pow-suc, one-le-pow}
use native.Mathlib.Omega.{arith}
use mathlib.Core.Path.{◌≡◌, refl, sym, ap, ◌∙◌}
use mathlib.Core.List.{List, [], ◌∷◌, ◌++◌}
use lib.ListN.{length, length-append}
use borrow.Author.Tests.{lt-ltb}
use Rattle.io.specs.Digits.{hex_digit_ascii, IsDigitCount}
use Rattle.io.specs.Digits.{last_digits as last}
use Rattle.answer.specs.Text.{higher, digits, said}

figure : (n : ℕ) → hex_digit_ascii (n % 10) ≡ 48 + n % 10
figure n = let h : n % 10 < 10 = omega arith in simp (lt-ltb _ _ h)

none : (k : ℕ) → higher k 0 ≡ []
unfolding higher
none zero = refl
none (suc k) = refl

-- 10 to the power of i + 1 leaves 10 to the power of i for the tens
tens : (i : ℕ) {j q : ℕ} → j ≡ suc i → 10 ^ j ≤ q → 10 ^ i ≤ q / 10
tens i {q = q} e h = let f : 10 ^ suc i ≤ q = rw e at h in omega (arith, pow-suc 10 i)

as_higher : (j k q : ℕ) → q ≤ k → q < 10 ^ j → ((i : ℕ) → j ≡ suc i → 10 ^ i ≤ q) → last 10 j q ≡ higher k q
unfolding higher
as_higher zero k zero most below least = sym (none k)
as_higher zero k (suc q) most below least = absurd (omega arith)
as_higher (suc j) k zero most below least = absurd (omega (arith, one-le-pow j 10 (omega arith), least j refl))
as_higher (suc j) zero (suc q) most below least = absurd (omega arith)
as_higher (suc j) (suc k) (suc q) most below least =
    rw (figure (suc q), as_higher j k (suc q / 10) (omega arith) (omega (arith, pow-suc 10 j)) (λ i e. tens i e (least j refl)))

pub as_digits : (n r : ℕ) → IsDigitCount 10 1 n r → last 10 r n ≡ digits n
unfolding digits
as_digits n zero f = absurd (omega arith)
as_digits n (suc j) f =
    let p : suc j - 1 ≡ j = omega arith in
    rw (figure n, as_higher j n (n / 10) (omega arith) (omega (arith, pow-suc 10 j)) (λ i e. tens i e (rw p at (f.2 (omega arith)))))

higher_few : (j k q : ℕ) → q < 10 ^ j → length (higher k q) ≤ j
unfolding higher
higher_few j zero q h = zero-le
higher_few j (suc k) zero h = zero-le
higher_few zero (suc k) (suc q) h = absurd (omega arith)
higher_few (suc j) (suc k) (suc q) h =
    simp length-append (omega (arith, higher_few j k (suc q / 10) (omega (arith, pow-suc 10 j))))

-- a number below 10 to the power of j + 1 has at most j + 1 digits
pub few : (j n : ℕ) → n < 10 ^ suc j → length (digits n) ≤ suc j
unfolding digits
few j n h = simp length-append (omega (arith, higher_few j n (n / 10) (omega (arith, pow-suc 10 j))))

-- a word and a number with at most j + 1 digits
pub said_few : (word : List ℕ) (j n : ℕ) → n < 10 ^ suc j → length (said word n) ≤ length word + suc j
unfolding said
said_few word j n h = simp length-append (omega (arith, few j n h))

-- the most digits that a number of 16, of 32 and of 64 bits has
pub said_in_16 : (word : List ℕ) (n : ℕ) → n < 65536 → length (said word n) ≤ length word + 5
said_in_16 word n h = said_few word 4 n (omega arith)

pub said_in_32 : (word : List ℕ) (n : ℕ) → n < 4294967296 → length (said word n) ≤ length word + 10
said_in_32 word n h = said_few word 9 n (omega arith)

pub said_in_64 : (word : List ℕ) (n : ℕ) → n < 18446744073709551616 → length (said word n) ≤ length word + 20
said_in_64 word n h = said_few word 19 n (omega arith)

-- ---- the digits read back

-- the number that a text of digits stands for, after the number before it
abbrev value : ℕ → List ℕ → ℕ
value before [] = before
value before (d ∷ ds) = value (before * 10 + (d - 48)) ds

value_append : (a : ℕ) (xs ys : List ℕ) → value a (xs ++ ys) ≡ value (value a xs) ys
value_append a [] ys = refl
value_append a (x ∷ xs) ys = value_append (a * 10 + (x - 48)) xs ys

higher_back : (k q : ℕ) → q ≤ k → value 0 (higher k q) ≡ q
unfolding higher
higher_back zero q h = omega arith
higher_back (suc k) zero h = refl
higher_back (suc k) (suc q) h = rw (value_append, higher_back k (suc q / 10) (omega arith)) (omega arith)

digits_back : (n : ℕ) → value 0 (digits n) ≡ n
unfolding digits
digits_back n = rw (value_append, higher_back n (n / 10) (omega arith)) (omega arith)

-- two numbers with the same digits are the same
pub digits_differ : (m n : ℕ) → digits m ≡ digits n → m ≡ n
digits_differ m n e = sym (digits_back m) ∙ ap (value 0) e ∙ digits_back n
