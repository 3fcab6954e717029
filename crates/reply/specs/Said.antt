-- What a verb of the desk says (RULES 11.2 to 11.4): the text on standard output, the bytes that `-o` writes, and the status.
use Rattle.std.specs.Prelude.{Ok, Err}
use Rattle.std.specs.Prelude.{ℕ, ◌+◌, ◌*◌, ◌≤◌, ◌≡◌, List, [], ◌∷◌, length, take}
use Rattle.rules.specs.declared.Refusal.{Refusal}
use Rattle.rules.specs.Judged.{Judged}
use Rattle.rules.specs.Figures.{most_entries}
use Rattle.answer.specs.Text.{refused_by}
use Rattle.reply.specs.declared.Reply.{Reply}
use Rattle.reply.specs.declared.Status.{Status}
use Rattle.reply.specs.declared.Status.TheVariants.{Answered, Refused}

pub record Said : Type 0 where
  pub text : List ℕ
  pub file : List ℕ
  pub status : ℕ

-- an answer, with status "0", and the file that goes with it
abbrev pub answered : List ℕ → List ℕ → Said
answered text file = record { text = text; file = file; status = 48 }

-- a refusal, with status "1": a word that says which file is at fault, and no file
abbrev pub refusal : List ℕ → Refusal → Said
refusal word r = record { text = refused_by word r; file = []; status = 49 }

-- what is said where nothing is refused, or the refusal, without a word before it
abbrev pub or_refusal : Judged → Said → Said
or_refusal (Ok _) s = s
or_refusal (Err r) s = refusal [] r

-- ---- which file is at fault (RULES 11.3)

-- "net "
abbrev pub net : List ℕ
net = 110 ∷ 101 ∷ 116 ∷ 32 ∷ []

-- "placement "
abbrev pub placement : List ℕ
placement = 112 ∷ 108 ∷ 97 ∷ 99 ∷ 101 ∷ 109 ∷ 101 ∷ 110 ∷ 116 ∷ 32 ∷ []

-- ---- as it is handed over

-- the first r places of a buffer hold a text
pub record Shows (text after : List ℕ) (r : ℕ) : Type 0 where
  pub is : take r after ≡ text
  pub within : r ≤ length after
  pub counted : r ≡ length (take r after)

-- the character of a status
abbrev pub byte_of : Status → ℕ
byte_of Answered = 48
byte_of Refused = 49

-- the first places of two buffers, and the status
pub record Replies (said : Said) (texts files : List ℕ) (r : Reply) : Type 0 where
  pub text : Shows said.text texts r.text
  pub file : Shows said.file files r.file
  pub status : byte_of r.status ≡ said.status

-- a reply that says something right
pub record Conveys (Right : Said → Type 0) (texts files : List ℕ) (r : Reply) : Type 0 where
  pub said : Said
  pub right : Right said
  pub replies : Replies said texts files r

-- room for every text: 64 bytes a line
abbrev pub most_text : ℕ
most_text = 64 * (most_entries + 2)

-- room for every placement file
abbrev pub most_file : ℕ
most_file = 8 + 9 * most_entries
