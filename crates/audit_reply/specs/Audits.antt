-- What an audit says of a record after its name (RULES 11), by the bytes of its two files.
use Rattle.std.specs.Prelude.{ℕ, ◌≤◌, ◌≡◌, List, map, length, Result, Ok, Err}
use Rattle.rules.specs.declared.Entry.{Entry}
use Rattle.rules.specs.declared.Refusal.{Refusal}
use Rattle.rules.specs.Figures.{most_entries}
use Rattle.rules.specs.Net.{Net}
use Rattle.rules.specs.Legal.{Legal, Least}
use Rattle.rules.specs.Judge.{judged}
use Rattle.rules.specs.Checked.{checked}
use Rattle.net_file.specs.NetFile as net_file
use Rattle.placement_file.specs.File as placement_file
use Rattle.placement_file.specs.File.{wire, offset}
use Rattle.answer.specs.Text.{refused_by, pair_line}
use Rattle.reply.specs.Said.{Shows}
use Rattle.tally.specs.declared.Found.{Found}
use Rattle.tally.specs.declared.Found.TheVariants as found
use Rattle.tally.specs.Tallied.{least_word}
use Rattle.audit_line.specs.declared.Audited.{Audited}
use Rattle.audit_reply.specs.declared.Counts.{Counts}
use Rattle.audit_reply.specs.declared.Fault.{Fault}
use Rattle.audit_reply.specs.declared.Fault.TheVariants.{Net as NetFault, Placement, Checked}
use Rattle.audit_line.specs.Lines.{colon, net_word, placement_word, legal_word, found_legal}

-- of a net and two columns: the checker's refusal, or the number of entries and the least count
pub data AuditsNet (n : Net) (ws os text : List ℕ) (f : Found) : Type 0 where
  refused : (r : Refusal) → checked n ws os ≡ Err r → text ≡ refused_by colon r → f ≡ found.Refused → AuditsNet n ws os text f
  legal : (k : ℕ) → checked n ws os ≡ Ok tt → Least n k → text ≡ pair_line legal_word (length ws) least_word k → f ≡ found_legal (length ws) k → AuditsNet n ws os text f

-- of the bytes of a net file and of a placement file: the net's refusal, the placement's, or what is said of both
pub data Audits (net placement text : List ℕ) (f : Found) : Type 0 where
  no_net : (r : Refusal) → net_file.net_of net ≡ net_file.refused r → text ≡ refused_by net_word r → f ≡ found.Refused → Audits net placement text f
  no_placement : (n : Net) (r : Refusal) → net_file.net_of net ≡ net_file.read n → placement_file.placement_of placement ≡ placement_file.refused r → text ≡ refused_by placement_word r → f ≡ found.Refused
      → Audits net placement text f
  both : (n : Net) (es : List Entry) → net_file.net_of net ≡ net_file.read n → placement_file.placement_of placement ≡ placement_file.placement es → AuditsNet n (map wire es) (map offset es) text f
      → Audits net placement text f

-- as it is handed over
pub record AuditSays (net placement texts : List ℕ) (r : Audited) : Type 0 where
  pub text : List ℕ
  pub is : Audits net placement text r.found
  pub shows : Shows text texts r.bytes

-- ---- between the functions

-- some legal placement of a sound net has at most 4,096 entries
pub record Reached (n : Net) : Type 0 where
  pub sound : judged n ≡ Ok tt
  pub placement : List Entry
  pub legal : Legal n placement
  pub few : length placement ≤ most_entries

-- the line of what is refused of a record
abbrev pub fault_text : Fault → List ℕ
fault_text (NetFault r) = refused_by net_word r
fault_text (Placement r) = refused_by placement_word r
fault_text (Checked r) = refused_by colon r

-- the number of entries and the least count, or what is refused
abbrev pub Weighs : List ℕ → List ℕ → Result Counts Fault → Type 0
Weighs net placement (Ok c) = Audits net placement (pair_line legal_word c.count least_word c.least) (found_legal c.count c.least)
Weighs net placement (Err f) = Audits net placement (fault_text f) found.Refused

-- a refusal's line, as it is handed over
pub record Refuses (f : Fault) (texts : List ℕ) (r : Audited) : Type 0 where
  pub shows : Shows (fault_text f) texts r.bytes
  pub found : r.found ≡ found.Refused
