-- What the program prints for the bytes on standard input (RULES 7).
use Rattle.std.specs.Prelude.{ℕ, ◌<◌, ◌≡◌, List, length, get_or, take, Option, None, Some, Result, Ok, Err, ⊤}
use Rattle.std.specs.Io.KnownBytes.{Appends, Keeps}
use Rattle.reply.specs.Said.{Said}
use Rattle.solve_reply.specs.Solves.{Solves}
use Rattle.mustorgyel.specs.declared.Fault.{Fault}
use Rattle.mustorgyel.specs.declared.Fault.TheVariants.{Unread, Unwritten}

-- of any bytes: the text of what `solve` says, which is the file's refusal, 8 or 9, or a legal placement with the least count
pub record Prints (s text : List ℕ) : Type 0 where
  pub said : Said
  pub solves : Solves s said
  pub is : text ≡ said.text

-- the bytes that are taken in (RULES 7.2)
abbrev pub most_read : ℕ
most_read = 16384

-- The program's promise. A buffer holds what was read of an input: all its bytes, or as many as the buffer has places. Whatever bytes the input had, and
-- however many, the text is what is printed for all of those.
abbrev pub Answers : List ℕ → ℕ → List ℕ → Type 0
Answers buffer count text = (s : List ℕ) → ((k : ℕ) → get_or s k 0 < 256) → take count buffer ≡ take (length buffer) s → Prints s text

-- The same from the reader to the writer, where the reader's bytes are known: after a run that ended well what is printed for all of them stands behind what
-- the writer held, and where they could not be read nothing does.
abbrev pub PrintsAll : Option (List ℕ) → Option (List ℕ) → Option (List ℕ) → Result (Unit {0}) Fault → Type 0
PrintsAll None before after ended = ⊤
PrintsAll (Some s) before after (Ok _) = ((k : ℕ) → get_or s k 0 < 256) → (text : List ℕ) × Prints s text × Appends before after text
PrintsAll (Some s) before after (Err Unread) = Keeps before after
PrintsAll (Some s) before after (Err Unwritten) = ⊤
