-- What the solver's answer says of the reply for a net.
use Rattle.std.specs.Prelude.{Ok, Err, Result}
use Prim.Native.Nat.{ℕ, ◌≤◌}
use native.Mathlib.Omega.{arith}
use mathlib.Core.Path.{◌≡◌, refl, sym, ap, ◌∙◌, subst}
use mathlib.Core.List.{List, []}
use lib.ListN.{length, take, length-map}
use lib.Seq.{length-sets}
use Rattle.rules.specs.declared.Entry.{Entry}
use Rattle.rules.specs.declared.Refusal.{Refusal}
use Rattle.rules.specs.Figures.{most_entries}
use Rattle.rules.specs.Net.{Net}
use Rattle.rules.specs.Load.{entries}
use Rattle.rules.specs.Legal.{Legal, Least, start}
use Rattle.rules.specs.Judge.{judged}
use Rattle.rules.proofs.SoundSays.{sound_says}
use Rattle.field.proofs.Numbers.{AreBytes}
use Rattle.net_file.specs.declared.NetRead.{NetRead}
use Rattle.net_file.specs.NetFile.{ReadNet, blank}
use Rattle.net_file.proofs.Held.{Holds, roomy, holds}
use Rattle.placement_file.specs.File.{placement, columns_of, placement_bytes}
use Rattle.placement_file.proofs.SamePlacement.{stored}
use Rattle.columns.specs.Columns.{wire_column, offset_column}
use Rattle.solution.specs.Answer.{Outcome, none, full, placed}
use Rattle.solution.specs.Answer as solution
use Rattle.reply.specs.declared.Status.TheVariants.{Answered}
use Rattle.reply.specs.Said.{Conveys, refusal, answered, Shows}
use Rattle.reply.proofs.Writing.{stands_placed, columns_fit_lem}
use Rattle.solve_reply.specs.Solves.{told, SolvesNet, Given}
use Rattle.solve_reply.specs.Solves as says

pub outcome : {n : Net} {ws os ws' os' : List ℕ} {r : Result ℕ Refusal} → judged n ≡ Ok tt → solution.Answered (judged n) n ws os ws' os' r → Outcome n ws os ws' os' r
outcome e a = rw e at a

-- a least placement in the first k places of two columns, fit to be written
pub record Places (n : Net) (k : ℕ) (ws os : List ℕ) : Type 0 where
  pub wires : k ≤ length ws
  pub offsets : k ≤ length os
  pub wires_taken : length (take k ws) ≡ k
  pub offsets_taken : length (take k os) ≡ k
  pub given : Given n (take k ws) (take k os)
  pub least : Least n k
  pub fit : columns_of (take k ws) (take k os) ≡ placement (entries (take k ws) (take k os))
  pub few : length (entries (take k ws) (take k os)) ≤ most_entries

pub places : {n : Net} {ws os ws' os' : List ℕ} {r : Result ℕ Refusal} (k : ℕ) → judged n ≡ Ok tt → Outcome n ws os ws' os' r → r ≡ Ok k → Places n k ws' os'
places k sound (none never e kept) f = absurd (let z : ◌≡◌ {A = ℕ} 0 1 = cc in omega arith)
places k sound (full m l more e kept) f = absurd (let z : ◌≡◌ {A = ℕ} 0 1 = cc in omega arith)
places {n} {ws} {os} {ws'} {os'} k sound (placed p legal least fits e holds) f =
    let m : k ≡ length p = cc in
    let w : length (wire_column p) ≡ length p = length-map p (λ (x : Entry). x.wire) in
    let o : length (offset_column p) ≡ length p = length-map p (λ (x : Entry). x.offset) in
    let tw : take k ws' ≡ wire_column p = stored ws (wire_column p) holds.wires (m ∙ sym w) (omega arith) in
    let to : take k os' ≡ offset_column p = stored os (offset_column p) holds.offsets (m ∙ sym o) (omega arith) in
    let lw = ap length holds.wires ∙ length-sets ws 0 (wire_column p) in
    let lo = ap length holds.offsets ∙ length-sets os 0 (offset_column p) in
    let few : length p ≤ most_entries = omega arith in
    let (whole, fit) = columns_fit_lem (take k ws') (take k os') p tw to (stands_placed start p (sound_says n sound) legal.stands few) in
    record {
      wires = omega arith;
      offsets = omega arith;
      wires_taken = ap length tw ∙ w ∙ sym m;
      offsets_taken = ap length to ∙ o ∙ sym m;
      given = record {
        sound = sound;
        even = ap length to ∙ o ∙ sym w ∙ sym (ap length tw);
        few = omega (arith, ap length tw);
        legal = subst (λ (q : List Entry). Legal n q) (sym whole) legal;
      };
      least = subst (λ (j : ℕ). Least n j) (sym m) least;
      fit = fit ∙ ap placement (sym whole);
      few = omega (arith, ap length whole);
    }

pub replies_placed : {n : Net} {k : ℕ} {ws os texts files : List ℕ} {t f : ℕ} → Places n k ws os → Shows (told n (take k ws) (take k os)) texts t → Shows (placement_bytes (entries (take k ws) (take k os))) files f
    → Conveys (SolvesNet n) texts files (record { text = t; file = f; status = Answered })
replies_placed {n} {k} {ws} {os} p text file =
    let g = p.given in
    record {
      said = answered (told n (take k ws) (take k os)) (placement_bytes (entries (take k ws) (take k os)));
      right = says.placed (take k ws) (take k os) g.even g.few g.legal (rw p.wires_taken p.least) refl;
      replies = record { text = text; file = file; status = refl };
    }

pub solves_refusal : {n : Net} {ws os ws' os' : List ℕ} {r : Result ℕ Refusal} (why : Refusal) → most_entries ≤ length ws → most_entries ≤ length os → Outcome n ws os ws' os' r → r ≡ Err why → SolvesNet n (refusal [] why)
solves_refusal why a b (none never e kept) f = says.none never (ap (refusal []) (cc))
solves_refusal why a b (full k l more e kept) f = says.full k l (omega arith) (ap (refusal []) (cc))
solves_refusal why a b (placed p legal least fits e holds) f = absurd (let z : ◌≡◌ {A = ℕ} 0 1 = cc in omega arith)

-- ---- the net that the reader left in columns that were blank

pub was_read : {s : List ℕ} {own left : Net} (r : NetRead) → AreBytes s → own ≡ blank → ReadNet s own left (Ok r) → Holds s r.places r.limits left
was_read r by e reads = holds r.limits r.places by roomy (rw e at reads) refl

pub placed_in : {n left : Net} (ws os : List ℕ) {ws' os' : List ℕ} {k : ℕ} → judged left ≡ Ok tt → n ≡ left → solution.Answered (judged n) n ws os ws' os' (Ok k) → Places n k ws' os'
placed_in {n} ws os {k = k} sound e a = let s : judged n ≡ Ok tt = rw e sound in places k s (outcome s a) refl
