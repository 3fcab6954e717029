-- What the checker's, the solver's and the readers' answers say of an audit's line.
use Prim.Native.Nat.{ℕ, ◌≤◌}
use native.Mathlib.Omega.{arith}
use mathlib.Core.Path.{◌≡◌, refl, sym, ap, ◌∙◌}
use mathlib.Core.List.{List, map}
use lib.ListN.{length, take, length-map}
use lib.Seq.{length-take-le}
use Rattle.std.specs.Prelude.{Result, Ok, Err}
use Rattle.std.specs.Result.{MatchResult, IsErrAnd}
use Rattle.rules.specs.declared.Entry.{Entry}
use Rattle.rules.specs.declared.Refusal.{Refusal}
use Rattle.rules.specs.Figures.{most_entries}
use Rattle.rules.specs.Net.{Net}
use Rattle.rules.specs.Load.{entries}
use Rattle.rules.specs.Legal.{Least}
use Rattle.rules.specs.Judge.{judged}
use Rattle.rules.specs.Checked.{checked}
use Rattle.field.proofs.Numbers.{AreBytes}
use Rattle.net_file.specs.declared.NetRead.{NetRead}
use Rattle.net_file.specs.NetFile as net_file
use Rattle.net_file.proofs.Held.{Holds, roomy, found, unread_says, holds}
use Rattle.placement_file.specs.File.{wire, offset}
use Rattle.placement_file.specs.File as placement_file
use Rattle.placement_file.proofs.Listing.{length_entries}
use Rattle.placement_file.proofs.Held.{Entries, placement_read, few_entries}
use Rattle.checker.specs.Verdict.{Verdict, verdict_of, verdict_count, verdict}
use Rattle.checker.proofs.CheckedIsLegal.{checked_is_legal}
use Rattle.checker.proofs.VerdictSays.{verdict_refused, verdict_legal, columns_even, columns_few}
use Rattle.solution.specs.Answer.{Outcome, none, full, placed, Answered}
use Rattle.tally.specs.declared.Found.TheVariants as finds
use Rattle.tally.specs.Tallied.{least_word}
use Rattle.answer.specs.Text.{refused_by, pair_line}
use Rattle.audit_line.specs.Lines.{colon, legal_word, found_legal}
use Rattle.audit_reply.specs.Audits.{refused, legal, both, Audits, Reached}

-- ---- an answer whose refusal was passed on by another name

module _ {T E D : Type 0} (name : E → D) {q : Result T D} where
  pub passed_on : {d : D} (r : Result T E) → q ≡ Err d → MatchResult r (λ x. q ≡ Ok x) (λ e. IsErrAnd q (λ y. y ≡ name e)) → (e : E) × (r ≡ Err e) × (d ≡ name e)
  passed_on (Ok x) g m = absurd (let z : ◌≡◌ {A = ℕ} 0 1 = cc in omega arith)
  passed_on (Err e) g m = (e, refl, rw g at m)

  pub passed : {x : T} (r : Result T E) → q ≡ Ok x → MatchResult r (λ x. q ≡ Ok x) (λ e. IsErrAnd q (λ y. y ≡ name e)) → r ≡ Ok x
  passed (Ok x) g m = cc
  passed (Err e) g m = absurd (rw g at m)

-- ---- a net, from columns that were blank, and a placement, from columns with room for any

module _ {s : List ℕ} {own left : Net} {r : Result NetRead Refusal} (by : AreBytes s) (e : own ≡ net_file.blank) (reads : net_file.ReadNet s own left r) where
  pub net_held : (x : NetRead) → r ≡ Ok x → Holds s x.places x.limits left
  net_held x g = holds x.limits x.places by roomy (rw e at reads) g

  pub net_unread : (why : Refusal) → r ≡ Err why → net_file.net_of s ≡ net_file.refused why
  net_unread why g = unread_says why (found by roomy (rw e at reads)) g

pub few_read : {s vs os : List ℕ} {k : ℕ} → Entries s k vs os → k ≤ most_entries
few_read {s} {vs} {k = k} e = omega (arith, length-take-le k vs e.in_wires, ap length e.wires, length-map e.es wire, few_entries s e.es e.is)

-- ---- the least count, where there is a legal placement and room for it

module _ (n : Net) (ws os ws' os' : List ℕ) {r : Result ℕ Refusal} (reached : Reached n) (answer : Answered (judged n) n ws os ws' os' r) (long-wires : most_entries ≤ length ws) (long-offsets : most_entries ≤ length os) where
  outcome : Outcome n ws os ws' os' r
  outcome = rw reached.sound at answer

  pub is_placed : (k : ℕ) × (r ≡ Ok k)
  is_placed = by outcome
    where
      by : Outcome n ws os ws' os' r → (k : ℕ) × (r ≡ Ok k)
      by (none never f kept) = absurd (never reached.placement reached.legal)
      by (full m l more f kept) = absurd (let few = l.fewest reached.placement reached.legal in let most = reached.few in omega arith)
      by (placed p lawful least fits f held) = (length p, f)

  pub least_placed : (k : ℕ) → r ≡ Ok k → Least n k
  least_placed k e = by outcome
    where
      by : Outcome n ws os ws' os' r → Least n k
      by (none never f kept) = absurd (never reached.placement reached.legal)
      by (full m l more f kept) = absurd (let z : ◌≡◌ {A = ℕ} 0 1 = cc in omega arith)
      by (placed p lawful least fits f held) = let m : length p ≡ k = cc in rw m at least

-- ---- the checker's answer on what was read of both files

pub record Read (net placement : List ℕ) (n : Net) (ws os : List ℕ) : Type 0 where
  pub held : net_file.net_of net ≡ net_file.read n
  pub es : List Entry
  pub holds : placement_file.placement_of placement ≡ placement_file.placement es
  pub wires : ws ≡ map wire es
  pub offsets : os ≡ map offset es

pub both_read : {net file vs os vs' os' : List ℕ} {own left lent : Net} {rn : Result NetRead Refusal} {rp : Result ℕ Refusal} {ws ps : List ℕ} (x : NetRead) (k : ℕ)
    → AreBytes net → own ≡ net_file.blank → net_file.ReadNet net own left rn → rn ≡ Ok x → lent ≡ net_file.first_places x.places x.limits left
    → placement_file.ReadAs (placement_file.placement_of file) vs os vs' os' rp → rp ≡ Ok k → (ws ≡ take k vs') × (ps ≡ take k os') → Read net file lent ws ps
both_read {file = file} x k by b reads g is reads' g' same =
    let e = placement_read file reads' g' in
    record { held = rw is (net_held by b reads x g).is; es = e.es; holds = e.is; wires = same.0 ∙ e.wires; offsets = same.1 ∙ e.offsets }

module _ {net placement : List ℕ} {n : Net} {ws os : List ℕ} (read : Read net placement n ws os) {v : Verdict} (is : v ≡ verdict n ws os) where
  pub refused_says : (why : Refusal) → v ≡ Err why → Audits net placement (refused_by colon why) finds.Refused
  refused_says why e =
      let c : checked n ws os ≡ Err why = verdict_refused (checked n ws os) _ _ why (sym is ∙ e) in
      both n read.es read.held read.holds (refused why (rw (read.wires, read.offsets) at c) refl refl)

  module _ (count source : ℕ) (e : v ≡ verdict_of (Ok tt) count source) where
    sound : checked n ws os ≡ Ok tt
    sound = verdict_legal (checked n ws os) _ _ count source (sym is ∙ e)

    pub reached : Reached n
    reached =
        let l = (checked_is_legal n ws os).0 sound in
        record { sound = l.sound; placement = entries ws os; legal = l.legal; few = omega (arith, columns_few l, length_entries ws os (columns_even l)) }

    counted : count ≡ length ws
    counted = ap verdict_count (sym e ∙ is) ∙ rw sound

    pub legal_says : (least : ℕ) → Least n least → Audits net placement (pair_line legal_word count least_word least) (found_legal count least)
    legal_says least l =
        let many = counted ∙ ap length read.wires in
        let c = rw (read.wires, read.offsets) at sound in
        both n read.es read.held read.holds (legal least c l (ap (λ (k : ℕ). pair_line legal_word k least_word least) many) (ap (λ (k : ℕ). found_legal k least) many))
