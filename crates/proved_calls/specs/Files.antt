-- What the readers and the writers say by numbers: for each call some answer that its contract allows, its number and its place.
use Rattle.std.specs.Prelude.{ℕ, ◌≡◌, List, Result, Ok, Err}
use Rattle.rules.specs.declared.Limits.{Limits}
use Rattle.rules.specs.declared.Refusal.{Refusal}
use Rattle.rules.specs.Net.{Net}
use Rattle.field.specs.Format.{wrote_number, wrote_count}
use Rattle.net_file.specs.declared.NetRead.{NetRead}
use Rattle.net_file.specs.NetFile as net_file
use Rattle.placement_file.specs.File as placement_file

-- the limits that were read; a refusal leaves what stood there
abbrev pub limits_after : Result NetRead Refusal → Limits → Limits
limits_after (Ok read) before = read.limits
limits_after (Err r) before = before

pub record ReadsNet (s : List ℕ) (lent filled : Net) (before after : Limits) (number place : ℕ) : Type 0 where
  pub said : Result NetRead Refusal
  pub by : net_file.ReadNet s lent filled said
  pub limits : after ≡ limits_after said before
  pub told : number ≡ net_file.read_number said
  pub left : place ≡ net_file.read_places said

pub record WritesNet (n : Net) (out filled : List ℕ) (number place : ℕ) : Type 0 where
  pub said : Result ℕ Refusal
  pub by : net_file.WroteNet n out filled said
  pub told : number ≡ net_file.wrote_number said
  pub left : place ≡ net_file.wrote_bytes said

pub record ReadsPlacement (s vs os vs' os' : List ℕ) (number place : ℕ) : Type 0 where
  pub said : Result ℕ Refusal
  pub by : placement_file.ReadAs (placement_file.placement_of s) vs os vs' os' said
  pub told : number ≡ placement_file.read_number said
  pub left : place ≡ placement_file.read_count said

pub record WritesPlacement (vs os out filled : List ℕ) (number place : ℕ) : Type 0 where
  pub said : Result ℕ Refusal
  pub by : said ≡ placement_file.written (placement_file.columns_of vs os) out
  pub buffer : filled ≡ placement_file.left (placement_file.columns_of vs os) out
  pub told : number ≡ wrote_number said
  pub left : place ≡ wrote_count said
