-- What the reader's own functions ask and say of the columns that it keeps for itself until all is judged.
use Rattle.rules.specs.declared.Refusal.{Refusal}
use Rattle.std.specs.Prelude.{Err, Result, ℕ, ◌≡◌, List}
use Rattle.rules.specs.declared.Limits.{Limits}
use Rattle.rules.specs.Net.{Net, places, unlimited}
use Rattle.net_file.specs.declared.NetRead.{NetRead}
pub use Rattle.net_file.specs.NetFile.{blank}
use Rattle.net_file.specs.NetFile.{read_as, Outcome, read, refused, nodes_of, columns_of, fields_of, laid_over}

-- what a file's outcome is before any room is asked for
abbrev pub tells : Outcome → Result NetRead Refusal
tells (read n) = read_as n.limits (places n)
tells (refused r) = Err r

-- what the judge of a file tells, and what it leaves in the reader's own columns where the file is sound: the nodes, from place 1 on
pub record JudgedFile (s : List ℕ) (o : Outcome) (left : Net) (r : Result NetRead Refusal) : Type 0 where
  pub told : r ≡ tells o
  pub kept : (l : Limits) (m : ℕ) → r ≡ read_as l m → left ≡ laid_over blank 1 (columns_of unlimited (nodes_of (fields_of s)))
