-- Between the functions that finish a net: entries that complete the given ones, and the text and the file of them.
use Rattle.std.specs.Prelude.{ℕ, ◌≤◌, ◌≡◌, List, length}
use Rattle.rules.specs.Figures.{most_entries}
use Rattle.rules.specs.Net.{Net}
use Rattle.rules.specs.Load.{entries}
use Rattle.rules.specs.Complete.{Completes}
use Rattle.rules.specs.Sound.{SoundNet}
use Rattle.answer.specs.Text.{counted_text}
use Rattle.reply.specs.Said.{Shows, byte_of}
use Rattle.reply.specs.declared.Reply.{Reply}
use Rattle.finish_reply.specs.Finishes.{added_word, file_of}

-- entries in columns that complete the given ones on some sound net
pub record Completed (gw go aw ao : List ℕ) : Type 0 where
  pub net : Net
  pub sound : SoundNet net
  pub completes : Completes net (entries gw go) (entries aw ao)
  pub given : length go ≡ length gw
  pub added : length ao ≡ length aw
  pub few : length gw ≤ most_entries
  pub few_added : length aw ≤ most_entries

-- the file of the whole, whatever net it is legal on
abbrev pub ShowsWhole : List ℕ → List ℕ → List ℕ → List ℕ → List ℕ → ℕ → Type 0
ShowsWhole gw go aw ao files size = (n : Net) → SoundNet n → (c : Completes n (entries gw go) (entries aw ao)) → Shows (file_of c.whole) files size

pub record Tells (gw go aw ao texts files : List ℕ) (r : Reply) : Type 0 where
  pub text : Shows (counted_text added_word aw ao) texts r.text
  pub file : ShowsWhole gw go aw ao files r.file
  pub status : byte_of r.status ≡ 48
