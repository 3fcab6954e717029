-- What `solve` says of the bytes of a net file (RULES 7.3 to 7.5, 10): the text, the placement file that goes with it, and the status.
use Rattle.std.specs.Prelude.{ℕ, ◌≤◌, ◌<◌, ◌≡◌, List, [], length, Result, Ok, Err}
use Rattle.rules.specs.declared.Refusal.{Refusal}
use Rattle.rules.specs.declared.Refusal.TheVariants.{NoLegalPlacement, NoRoom}
use Rattle.rules.specs.Figures.{most_entries}
use Rattle.rules.specs.Net.{Net}
use Rattle.rules.specs.Load.{entries, offsets_on, driven, source_drives}
use Rattle.rules.specs.Legal.{Legal, Least, NoneLegal}
use Rattle.rules.specs.Judge.{judged}
use Rattle.net_file.specs.NetFile.{net_of, read, refused}
use Rattle.placement_file.specs.File.{placement_bytes}
use Rattle.answer.specs.Text.{answer_text}
use Rattle.reply.specs.declared.Reply.{Reply}
use Rattle.reply.specs.Said.{Said, answered, refusal, Conveys}

-- the answer for the placement that two columns hold (RULES 7.3, 7.4)
abbrev pub told : Net → List ℕ → List ℕ → List ℕ
told n ws os = answer_text ws os (driven n (offsets_on (entries ws os))) (source_drives n (offsets_on (entries ws os)))

-- of a net: 8, 9 with the least count where that is over 4,096, or a legal placement with the least count, and its file
pub data SolvesNet (n : Net) (s : Said) : Type 0 where
  none : NoneLegal n → s ≡ refusal [] NoLegalPlacement → SolvesNet n s
  full : (k : ℕ) → Least n k → most_entries < k → s ≡ refusal [] (NoRoom k) → SolvesNet n s
  placed : (ws os : List ℕ) → length os ≡ length ws → length ws ≤ most_entries → Legal n (entries ws os) → Least n (length ws) → s ≡ answered (told n ws os) (placement_bytes (entries ws os)) → SolvesNet n s

-- of any bytes: the file's refusal, or what is said of the net in it
pub data Solves (bytes : List ℕ) (s : Said) : Type 0 where
  unread : (r : Refusal) → net_of bytes ≡ refused r → s ≡ refusal [] r → Solves bytes s
  net : (n : Net) → net_of bytes ≡ read n → SolvesNet n s → Solves bytes s

-- ---- between the functions

-- a legal placement of a sound net, in columns that a placement may have
pub record Given (n : Net) (ws os : List ℕ) : Type 0 where
  pub sound : judged n ≡ Ok tt
  pub even : length os ≡ length ws
  pub few : length ws ≤ most_entries
  pub legal : Legal n (entries ws os)

-- a reply that says something right, or a refusal of which it is right to say so
abbrev pub Says : (Said → Type 0) → List ℕ → List ℕ → Result Reply Refusal → Type 0
Says Right texts files (Ok r) = Conveys Right texts files r
Says Right texts files (Err why) = Right (refusal [] why)
