-- What the net reader's answer says of a file, where it reads into blank columns of the program's own.
use Rattle.std.specs.Prelude.{ℕ, ◌≡◌, List, Ok, Err}
use Rattle.std.proofs.Common.{refl}
use Rattle.rules.specs.declared.Refusal.{Refusal}
use Rattle.rules.specs.Net.{Net}
use Rattle.field.proofs.Numbers.{AreBytes}
use Rattle.net_file.specs.declared.Columns.{Columns}
use Rattle.net_file.specs.declared.NetRead.{NetRead}
use Rattle.net_file.specs.NetFile.{refused, net_of, kept_in, blank, ReadNet}
use Rattle.net_file.proofs.Held.{Roomy, roomy, found, unread_says, Holds, holds}

room : {before : Columns} → kept_in before ≡ blank → Roomy (kept_in before)
room empty = rw empty roomy

module _ {s : List ℕ} {before : Columns} {after : Net} (by : AreBytes s) (empty : kept_in before ≡ blank) where
  pub no_net : {why : Refusal} → ReadNet s (kept_in before) after (Err why) → net_of s ≡ refused why
  no_net {why} reads = unread_says why (found by (room empty) reads) refl

  pub net_read : {read : NetRead} → ReadNet s (kept_in before) after (Ok read) → Holds s read.places read.limits after
  net_read {read} reads = holds read.limits read.places by (room empty) reads refl
