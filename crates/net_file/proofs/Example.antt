-- The file of RULES 7.7, and what it is without its last byte, with one byte more, and with no node, by computation.
use Prim.Native.Nat.{ℕ}
use mathlib.Core.Path.{◌≡◌, refl}
use mathlib.Core.List.{List, [], ◌∷◌, ◌++◌}
use lib.ListN.{take, drop}
use Rattle.rules.specs.declared.Refusal.TheVariants.{FileEnds, Childless, BytesAfterEnd}
use Rattle.rules.specs.Net.{Net, net}
use Rattle.rules.specs.Judge.{judge_each, children}
use Rattle.field.specs.Format.{field_in}
use Rattle.net_file.specs.NetFile.{taken_at, fields_from, nodes_of, fields_judged, read, refused, net_from, net_of, bytes_from, net_bytes}

abbrev file : List ℕ
file =
    1 ∷ 0 ∷ 9 ∷ 0 ∷ 0 ∷ 0 ∷ 10 ∷ 0 ∷ 0 ∷ 0 ∷ 2 ∷ 0
    ∷ 3 ∷ 0 ∷ 11 ∷ 0 ∷ 0 ∷ 0 ∷ 0 ∷ 0 ∷ 14 ∷ 0 ∷ 0 ∷ 0 ∷ 4 ∷ 0
    ∷ 127 ∷ 0 ∷ 0 ∷ []

abbrev its_net : Net
its_net = net (record { limit = 10; pin = 2; repeater = 0 }) (0 ∷ 0 ∷ []) (0 ∷ 14 ∷ []) (0 ∷ 1 ∷ []) (0 ∷ 4 ∷ []) (0 ∷ 0 ∷ [])

whole : net_of file ≡ read its_net
unfolding net_of net_from fields_from nodes_of fields_judged taken_at field_in judge_each children
whole = refl

and_back : net_bytes its_net ≡ file
unfolding bytes_from
and_back = refl

cut : net_of (take 28 file) ≡ refused (FileEnds 26)
unfolding net_of net_from fields_from nodes_of fields_judged taken_at field_in judge_each children
cut = refl

one_more : net_of (file ++ (0 ∷ [])) ≡ refused (BytesAfterEnd 29)
unfolding net_of net_from fields_from nodes_of fields_judged taken_at field_in judge_each children
one_more = refl

no_node : net_of (take 12 file ++ drop 26 file) ≡ refused (Childless 0)
unfolding net_of net_from fields_from nodes_of fields_judged taken_at field_in judge_each children
no_node = refl
