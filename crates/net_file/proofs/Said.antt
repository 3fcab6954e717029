-- What two equal answers say of what they hold.
use Rattle.std.specs.Prelude.{ℕ, ◌≡◌}
use mathlib.Core.Path.{ap}
use Rattle.rules.specs.declared.Limits.{Limits}
use Rattle.rules.specs.declared.Node.{Node}
use Rattle.net_file.specs.declared.NetRead.{NetRead}
use Rattle.net_file.specs.declared.Taken.{Taken}
use Rattle.net_file.specs.NetFile.{one_node, read_as}

pub same_read : {l l' : Limits} {m m' : ℕ} → read_as l m ≡ read_as l' m' → (l ≡ l') × (m ≡ m')
same_read {l} {l'} {m} {m'} e =
    let q : ◌≡◌ {A = NetRead} (record { limits = l; places = m }) (record { limits = l'; places = m' }) = cc in
    (ap (λ (r : NetRead). r.limits) q, ap (λ (r : NetRead). r.places) q)

pub same_node : {d d' : Node} {n n' : ℕ} → one_node d n ≡ one_node d' n' → (d ≡ d') × (n ≡ n')
same_node {d} {d'} {n} {n'} e =
    let q : ◌≡◌ {A = Taken} (record { node = d; next = n }) (record { node = d'; next = n' }) = cc in
    (ap (λ (t : Taken). t.node) q, ap (λ (t : Taken). t.next) q)
