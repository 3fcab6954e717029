-- What the net reader's answer says of the file, where the columns lent have room for every net: 9 is never given, and the columns' first places hold the net.
use Rattle.std.specs.Prelude.{Err, Result, Ok}
use Prim.Native.Nat.{ℕ, ◌≤◌}
use native.Mathlib.Omega.{arith}
use mathlib.Core.Path.{◌≡◌, refl, sym, ap, ◌∙◌}
use mathlib.Core.Bool.{false}
use mathlib.Core.List.{List}
use lib.ListN.{length, replicate, length-replicate}
use lib.Seq.{length-sets}
use lib.Dec.{ltb}
use borrow.Author.Tests.{le-ltb}
use Rattle.rules.specs.declared.Limits.{Limits}
use Rattle.rules.specs.declared.Refusal.{Refusal}
use Rattle.rules.specs.Figures.{most_places}
use Rattle.rules.specs.Net.{Net, net, unlimited, places}
use Rattle.rules.specs.Judge.{judged}
use Rattle.rules.proofs.SoundSays.{sound_says}
use Rattle.field.proofs.Numbers.{AreBytes}
use Rattle.net_file.specs.declared.NetRead.{NetRead}
use Rattle.net_file.specs.NetFile.{read_as, Outcome, read, refused, net_of, room, laid_over, answered, filled, ReadNet, first_places}
use Rattle.net_file.proofs.Said.{same_read}
use Rattle.net_file.proofs.ReadWrite.{same_bytes, read_net}

-- the columns lent have room for every net
pub record Roomy (lent : Net) : Type 0 where
  pub parents : length lent.parents ≡ most_places
  pub wires : length lent.wires ≡ most_places
  pub kinds : length lent.kinds ≡ most_places
  pub pins : length lent.pins ≡ most_places
  pub polarities : length lent.polarities ≡ most_places

-- as columns of zeros have that are as long
pub roomy : Roomy (net unlimited (replicate most_places 0) (replicate most_places 0) (replicate most_places 0) (replicate most_places 0) (replicate most_places 0))
roomy = let e = length-replicate {A = ℕ} most_places 0 in record { parents = e; wires = e; kinds = e; pins = e; polarities = e }

fits : (s : List ℕ) {n lent : Net} → AreBytes s → Roomy lent → net_of s ≡ read n → ltb (room lent) (places n) ≡ false
fits s {n} {lent} by r e = le-ltb (room lent) (places n) (omega (arith, (sound_says n (same_bytes s n by e).sound).few, r.parents))

-- a refusal of the file, or a net in the columns: room is never short
pub data Found (s : List ℕ) (lent left : Net) (r : Result NetRead Refusal) : Type 0 where
  unread : (why : Refusal) → net_of s ≡ refused why → r ≡ Err why → Found s lent left r
  held : (n : Net) → net_of s ≡ read n → r ≡ read_as n.limits (places n) → places n ≤ most_places → left ≡ laid_over lent 0 n → Found s lent left r

pub found : {s : List ℕ} {lent left : Net} {r : Result NetRead Refusal} → AreBytes s → Roomy lent → ReadNet s lent left r → Found s lent left r
found {s} {lent} {left} {r} by roomy reads = cases (net_of s) refl
  where
    cases : (o : Outcome) → net_of s ≡ o → Found s lent left r
    cases (refused why) e = unread why e (reads.answer ∙ ap (answered (room lent)) e)
    cases (read n) e =
        let f : ltb (room lent) (places n) ≡ false = fits s by roomy e in
        held n e (reads.answer ∙ ap (answered (room lent)) e ∙ rw f) (sound_says n (same_bytes s n by e).sound).few (reads.columns ∙ ap (filled lent) e ∙ rw f)

pub unread_says : {s : List ℕ} {lent left : Net} {r : Result NetRead Refusal} (why : Refusal) → Found s lent left r → r ≡ Err why → net_of s ≡ refused why
unread_says why (unread x e f) g = e ∙ ap refused (cc)
unread_says why (held n e f few c) g = absurd (let z : ◌≡◌ {A = ℕ} 0 1 = cc in omega arith)

-- a sound net in the first m places of the columns left
pub record Holds (s : List ℕ) (m : ℕ) (l : Limits) (left : Net) : Type 0 where
  pub few : m ≤ most_places
  pub long : Roomy left
  pub is : net_of s ≡ read (first_places m l left)
  pub sound : judged (first_places m l left) ≡ Ok tt

roomy_still : {lent left : Net} (n : Net) → Roomy lent → left ≡ laid_over lent 0 n → Roomy left
roomy_still {lent} n r e =
    record {
      parents = ap (λ (x : Net). length x.parents) e ∙ length-sets lent.parents 0 n.parents ∙ r.parents;
      wires = ap (λ (x : Net). length x.wires) e ∙ length-sets lent.wires 0 n.wires ∙ r.wires;
      kinds = ap (λ (x : Net). length x.kinds) e ∙ length-sets lent.kinds 0 n.kinds ∙ r.kinds;
      pins = ap (λ (x : Net). length x.pins) e ∙ length-sets lent.pins 0 n.pins ∙ r.pins;
      polarities = ap (λ (x : Net). length x.polarities) e ∙ length-sets lent.polarities 0 n.polarities ∙ r.polarities;
    }

pub holds : {s : List ℕ} {lent left : Net} {r : Result NetRead Refusal} (l : Limits) (m : ℕ) → AreBytes s → Roomy lent → ReadNet s lent left r → r ≡ read_as l m → Holds s m l left
holds {s} {lent} {left} {r} l m by roomy reads g = cases (found by roomy reads)
  where
    cases : Found s lent left r → Holds s m l left
    cases (unread why e f) = absurd (let z : ◌≡◌ {A = ℕ} 0 1 = cc in omega arith)
    cases (held x e f few c) =
        let k : m ≡ places x = (same_read (sym g ∙ f)).1 in
        let (n, o, is) = read_net s by lent left l m (rw g at reads) in
        record {
          few = omega arith;
          long = roomy_still x roomy c;
          is = o ∙ ap read (sym is);
          sound = rw is (same_bytes s n by o).sound;
        }
