-- What the desk promises of whole files (RULES 11.3), of which its buffers hold the first bytes: all of them, or as many as there are places. Whatever bytes
-- the files had, and however many, what is said is what is said for all of those.
use Rattle.std.specs.Prelude.{ℕ, ◌≤◌, List, length}
use Rattle.input.specs.Input.{ReadOf}
use Rattle.reply.specs.declared.Reply.{Reply}
use Rattle.reply.specs.Said.{Conveys}
use Rattle.solve_reply.specs.Solves.{Solves}
use Rattle.audit_line.specs.declared.Audited.{Audited}
use Rattle.audit_reply.specs.Audits.{AuditSays}
use Rattle.replies.specs.declared.Verb.{Verb}
use Rattle.replies.specs.Replies.{SaysFiles, CarriesFiles}

abbrev pub SolvesWhole : List ℕ → ℕ → List ℕ → List ℕ → Reply → Type 0
SolvesWhole net count texts files r = (s : List ℕ) → ReadOf s net count → Conveys (Solves s) texts files r

abbrev pub SaysWhole : Verb → List ℕ → ℕ → List ℕ → ℕ → List ℕ → List ℕ → Reply → Type 0
SaysWhole v net count placement count2 texts files r = (s q : List ℕ) → ReadOf s net count → ReadOf q placement count2 → Conveys (SaysFiles v s q) texts files r

abbrev pub CarriesWhole : List ℕ → ℕ → List ℕ → ℕ → List ℕ → ℕ → List ℕ → List ℕ → Reply → Type 0
CarriesWhole first count second count2 placement count3 texts files r =
    (s t q : List ℕ) → ReadOf s first count → ReadOf t second count2 → ReadOf q placement count3 → Conveys (CarriesFiles s t q) texts files r

abbrev pub AuditsWhole : List ℕ → ℕ → List ℕ → ℕ → List ℕ → Audited → Type 0
AuditsWhole net count placement count2 texts r = (s q : List ℕ) → ReadOf s net count → ReadOf q placement count2 → AuditSays s q texts r

-- ---- between the functions

-- a buffer that takes in the first bytes of a net file, and of a placement file
abbrev pub NetHeld : List ℕ → ℕ → Type 0
NetHeld buffer count = (count ≤ length buffer) × (16384 ≤ length buffer)

abbrev pub PlacementHeld : List ℕ → ℕ → Type 0
PlacementHeld buffer count = (count ≤ length buffer) × (65536 ≤ length buffer)

-- a reply's text and file lie within their buffers
abbrev pub Fits : List ℕ → List ℕ → Reply → Type 0
Fits texts files r = (r.text ≤ length texts) × (r.file ≤ length files)
