-- What the call from C answers (RULES 6.21): a number, by the bytes of the two files, in the order of RULES 5.14.
use Rattle.std.specs.Prelude.{ℕ, List, map}
use Rattle.rules.specs.Refusal.{number_of, judged_number}
use Rattle.rules.specs.Net.{Net}
use Rattle.rules.specs.Checked.{checked}
use Rattle.net_file.specs.NetFile as net_file
use Rattle.placement_file.specs.File as placement_file

-- what a placement file says, on a net
abbrev pub on_net : Net → placement_file.Outcome → ℕ
on_net n (placement_file.refused r) = number_of r
on_net n (placement_file.placement es) = judged_number (checked n (map placement_file.wire es) (map placement_file.offset es))

abbrev pub from_net : net_file.Outcome → placement_file.Outcome → ℕ
from_net (net_file.refused r) p = number_of r
from_net (net_file.read n) p = on_net n p

unfoldable pub routed : List ℕ → List ℕ → ℕ
routed net placement = from_net (net_file.net_of net) (placement_file.placement_of placement)
