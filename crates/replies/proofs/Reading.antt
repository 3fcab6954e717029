-- What the readers answered, where a refusal was passed on with the file that is at fault, and what is said of the files that were read.
use Prim.Native.Nat.{ℕ, ◌≤◌}
use native.Mathlib.Omega.{arith}
use mathlib.Core.Path.{◌≡◌, refl, ap, ◌∙◌}
use mathlib.Core.List.{List, map}
use lib.ListN.{length, take, length-map}
use lib.Seq.{length-take-le}
use Rattle.std.specs.Prelude.{Result, Ok, Err}
use Rattle.std.specs.Result.{MatchResult, IsErrAnd}
use Rattle.rules.specs.declared.Entry.{Entry}
use Rattle.rules.specs.declared.Refusal.{Refusal}
use Rattle.rules.specs.Figures.{most_entries}
use Rattle.rules.specs.Net.{Net}
use Rattle.field.proofs.Numbers.{AreBytes}
use Rattle.net_file.specs.declared.NetRead.{NetRead}
use Rattle.net_file.specs.NetFile.{net_of, read, refused, ReadNet, blank, first_places}
use Rattle.net_file.proofs.Held.{Holds, roomy, found, unread_says, holds}
use Rattle.placement_file.specs.File.{wire, offset, placement_of, placement, ReadAs}
use Rattle.placement_file.proofs.Held.{Entries, placement_read, few_entries}
use Rattle.reply.specs.Said.{Said}
use Rattle.replies.specs.declared.Verb.{Verb}
use Rattle.replies.specs.Replies.{Says, SaysFiles}
use Rattle.replies.specs.Replies as say

-- ---- the answer that was passed on

module _ {T E D : Type 0} (fault : E → D) {q : Result T D} where
  pub passed_on : {d : D} (r : Result T E) → q ≡ Err d → MatchResult r (λ x. q ≡ Ok x) (λ e. IsErrAnd q (λ y. y ≡ fault e)) → (e : E) × (r ≡ Err e) × (d ≡ fault e)
  passed_on (Ok x) g m = absurd (let z : ◌≡◌ {A = ℕ} 0 1 = cc in omega arith)
  passed_on (Err e) g m = (e, refl, rw g at m)

  pub passed : {x : T} (r : Result T E) → q ≡ Ok x → MatchResult r (λ x. q ≡ Ok x) (λ e. IsErrAnd q (λ y. y ≡ fault e)) → r ≡ Ok x
  passed (Ok x) g m = cc
  passed (Err e) g m = absurd (rw g at m)

-- ---- a net, from columns that were blank

module _ {s : List ℕ} {own left : Net} {r : Result NetRead Refusal} (by : AreBytes s) (e : own ≡ blank) (reads : ReadNet s own left r) where
  pub net_held : (x : NetRead) → r ≡ Ok x → Holds s x.places x.limits left
  net_held x g = holds x.limits x.places by roomy (rw e at reads) g

  pub net_unread : (why : Refusal) → r ≡ Err why → net_of s ≡ refused why
  net_unread why g = unread_says why (found by roomy (rw e at reads)) g

-- ---- a placement, from columns with room for any

pub few_read : {s vs os : List ℕ} {k : ℕ} → Entries s k vs os → k ≤ most_entries
few_read {s} {vs} {k = k} e = omega (arith, length-take-le k vs e.in_wires, ap length e.wires, length-map e.es wire, few_entries s e.es e.is)

-- ---- a net file and a placement file

pub record Read (net placed : List ℕ) (n : Net) (ws os : List ℕ) : Type 0 where
  pub held : net_of net ≡ read n
  pub es : List Entry
  pub holds : placement_of placed ≡ placement es
  pub wires : ws ≡ map wire es
  pub offsets : os ≡ map offset es

pub both_read : {net placed vs os vs' os' : List ℕ} {own left lent : Net} {rn : Result NetRead Refusal} {rp : Result ℕ Refusal} {ws ps : List ℕ} (x : NetRead) (k : ℕ)
    → AreBytes net → own ≡ blank → ReadNet net own left rn → rn ≡ Ok x → lent ≡ first_places x.places x.limits left
    → ReadAs (placement_of placed) vs os vs' os' rp → rp ≡ Ok k → (ws ≡ take k vs') × (ps ≡ take k os') → Read net placed lent ws ps
both_read {placed = placed} x k by b reads g is reads' g' same =
    let e = placement_read placed reads' g' in
    record { held = rw is (net_held by b reads x g).is; es = e.es; holds = e.is; wires = same.0 ∙ e.wires; offsets = same.1 ∙ e.offsets }

pub says : (v : Verb) {net placed ws os : List ℕ} {n : Net} {s : Said} → Read net placed n ws os → Says v n ws os s → SaysFiles v net placed s
says v {n = n} r x = say.OfNet.read n r.held (say.OfPlacement.read r.es r.holds (rw (r.wires, r.offsets) at x))
