-- RULES 3.13 over the calls' contracts: a placement file read and written again gives the same bytes, a placement written and read again the same placement.
use Rattle.std.specs.Prelude.{Ok, Err, Result}
use Rattle.rules.specs.declared.Refusal.{Refusal}
use Prim.Native.Nat.{ℕ, ◌≤◌, min}
use native.Mathlib.Omega.{arith}
use mathlib.Core.Path.{◌≡◌, refl, sym, ap, ◌∙◌}
use mathlib.Core.List.{List, map}
use mathlib.Core.Bool.{Bool, true, false}
use lib.ListN.{length, length-map, take}
use lib.Seq.{sets, sets-eq, take_at}
use lib.Dec.{ltb}
use borrow.Author.Tests.{ltb-false, le-ltb}
use Rattle.rules.specs.Choose.{pick}
use Rattle.rules.specs.declared.Entry.{Entry}
use Rattle.rules.proofs.Tests.{never}
use Rattle.rules.proofs.Refusals.{numbered}
use Rattle.field.specs.Format.{wrote_number, wrote_count}
use Rattle.field.proofs.Numbers.{AreBytes}
use Rattle.placement_file.specs.File.{wire, offset, Outcome, placement, refused, placement_of, columns_of, answer, ReadAs, read_number, read_count, placement_bytes, written, WroteAs}
use Rattle.placement_file.proofs.RoundTrip.{file_bytes, bytes_file, columns_back, columns_placed}

pub read_zero : (r : Result ℕ Refusal) → read_number r ≡ 0 → r ≡ Ok (read_count r)
read_zero (Ok n) e = refl
read_zero (Err r) e = absurd (omega (arith, numbered r))

pub wrote_zero : (w : Result ℕ Refusal) → wrote_number w ≡ 0 → w ≡ Ok (wrote_count w)
wrote_zero (Ok n) e = refl
wrote_zero (Err r) e = absurd (omega (arith, numbered r))

-- what success says of what was read, and of what was written
other_arm : {A : Type 0} (b : Bool) {x y z : A} → (z ≡ x → ⊥) → z ≡ pick b x y → (b ≡ false) × (z ≡ y)
other_arm true n e = absurd (n e)
other_arm false n e = (refl, e)

read_entries : (room n : ℕ) (o : Outcome) → Ok n ≡ answer room o → (es : List Entry) × (o ≡ placement es) × (length es ≤ room) × (n ≡ length es)
read_entries room n (refused r) e = never (cc)
read_entries room n (placement es) e =
    let (b, q) = other_arm (ltb room (length es)) (λ z. never (cc)) e in (es, refl, ltb-false room (length es) b, cc)

written_entries : (out : List ℕ) (n : ℕ) (o : Outcome) → Ok n ≡ written o out → (es : List Entry) × (o ≡ placement es) × (length (placement_bytes es) ≤ length out) × (n ≡ length (placement_bytes es))
written_entries out n (refused r) e = never (cc)
written_entries out n (placement es) e =
    let (b, q) = other_arm (ltb (length out) (length (placement_bytes es))) (λ z. never (cc)) e in (es, refl, ltb-false (length out) (length (placement_bytes es)) b, cc)

-- with enough room
module _ {o : Outcome} {es : List Entry} (is : o ≡ placement es) where
  read_as : {ws fs ws' fs' : List ℕ} {r : Result ℕ Refusal} → ReadAs o ws fs ws' fs' r → length es ≤ min (length ws) (length fs)
      → (r ≡ Ok (length es)) × (ws' ≡ sets ws 0 (map wire es)) × (fs' ≡ sets fs 0 (map offset es))
  read_as {ws} {fs} a h =
      let b : ltb (min (length ws) (length fs)) (length es) ≡ false = le-ltb (min (length ws) (length fs)) (length es) h in
      (a.answered ∙ rw (is, b), a.wires ∙ rw (is, b), a.offsets ∙ rw (is, b))

  pub wrote_as : {out out' : List ℕ} {w : Result ℕ Refusal} → WroteAs o out out' w → length (placement_bytes es) ≤ length out
      → (w ≡ Ok (length (placement_bytes es))) × (out' ≡ sets out 0 (placement_bytes es))
  wrote_as {out} a h =
      let b : ltb (length out) (length (placement_bytes es)) ≡ false = le-ltb (length out) (length (placement_bytes es)) h in
      (a.answered ∙ rw (is, b), a.bytes ∙ rw (is, b))

-- what was stored at the front stands there
pub stored : (l xs : List ℕ) {l' : List ℕ} {n : ℕ} → l' ≡ sets l 0 xs → n ≡ length xs → length xs ≤ length l → take n l' ≡ xs
stored l xs {l'} {n} e k h = ap (take n) (e ∙ sets-eq xs l 0 (omega arith)) ∙ take_at xs _ n (sym k)

pub read_then_written : (s vs os out : List ℕ) {vs' os' out' : List ℕ} {r : Result ℕ Refusal} {w : Result ℕ Refusal} → AreBytes s
    → ReadAs (placement_of s) vs os vs' os' r → read_number r ≡ 0
    → WroteAs (columns_of (take (read_count r) vs') (take (read_count r) os')) out out' w → length s ≤ length out
    → (w ≡ Ok (length s)) × (out' ≡ sets out 0 s)
read_then_written s vs os out {vs'} {os'} {out'} {r} {w} by a zero b room =
    let (es, is, most, n) = read_entries (min (length vs) (length os)) (read_count r) (placement_of s) (sym (read_zero r zero) ∙ a.answered) in
    let (placed, same) = file_bytes s es by is in
    let (_, filled-vs, filled-os) = read_as is a most in
    let lv : length (map wire es) ≡ length es = length-map es wire in
    let lo : length (map offset es) ≡ length es = length-map es offset in
    let back_vs : take (read_count r) vs' ≡ map wire es = stored vs (map wire es) filled-vs (n ∙ sym lv) (omega arith) in
    let back_os : take (read_count r) os' ≡ map offset es = stored os (map offset es) filled-os (n ∙ sym lo) (omega arith) in
    rw same (wrote_as (rw (back_vs, back_os) (columns_back es placed)) b (rw same at room))

pub written_then_read : (vs os out ws fs : List ℕ) {out' ws' fs' : List ℕ} {w : Result ℕ Refusal} {r : Result ℕ Refusal}
    → WroteAs (columns_of vs os) out out' w → wrote_number w ≡ 0
    → ReadAs (placement_of (take (wrote_count w) out')) ws fs ws' fs' r → length vs ≤ min (length ws) (length fs)
    → (r ≡ Ok (length vs)) × (ws' ≡ sets ws 0 vs) × (fs' ≡ sets fs 0 os)
written_then_read vs os out ws fs {out'} {ws'} {fs'} {w} {r} a zero b room =
    let (es, is, most, n) = written_entries out (wrote_count w) (columns_of vs os) (sym (wrote_zero w zero) ∙ a.answered) in
    let (placed, of-vs, of-os) = columns_placed vs os es is in
    let (_, laid_out) = wrote_as is a most in
    let back : take (wrote_count w) out' ≡ placement_bytes es = stored out (placement_bytes es) laid_out n most in
    let lv : length vs ≡ length es = ap length of-vs ∙ length-map es wire in
    let (answered, of-ws, of-fs) = read_as (ap placement_of back ∙ bytes_file es placed) b (rw lv at room) in
    (answered ∙ ap Ok (sym lv), of-ws ∙ ap (sets ws 0) (sym of-vs), of-fs ∙ ap (sets fs 0) (sym of-os))
