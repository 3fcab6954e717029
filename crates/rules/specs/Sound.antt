-- RULES 1.15: what holds of every net that is judged sound, fact by fact, for callers that go on from there.
use Rattle.std.specs.Prelude.{ℕ, ◌-◌, ◌*◌, ◌≤◌, ◌<◌, ◌≡◌, length}
use Rattle.rules.specs.Figures.{most_limit, most_wire, most_pin, most_places, most_children}
use Rattle.rules.specs.Net.{Net, places, parent, wire, kind, pin, polarity}
use Rattle.rules.specs.Judge.{children}

pub record SoundNet (n : Net) : Type 0 where
  -- the columns are equal, not empty, and have at most 1,025 places
  pub some : 1 ≤ places n
  pub few : places n ≤ most_places
  pub wires_long : length n.wires ≡ places n
  pub kinds_long : length n.kinds ≡ places n
  pub pins_long : length n.pins ≡ places n
  pub polarities_long : length n.polarities ≡ places n
  -- the limits
  pub limit_some : 1 ≤ n.limits.limit
  pub limit_most : n.limits.limit ≤ most_limit
  pub half : 2 * n.limits.pin < n.limits.limit
  pub repeater_most : n.limits.repeater ≤ 1
  -- each place; past the columns' end these are 0
  pub wire_most : (i : ℕ) → wire n i ≤ most_wire
  pub kind_most : (i : ℕ) → kind n i ≤ 1
  pub pin_most : (i : ℕ) → pin n i ≤ most_pin
  pub polarity_most : (i : ℕ) → polarity n i ≤ n.limits.repeater
  -- the tree
  pub source : kind n 0 ≡ 0
  pub lower : (i : ℕ) → 1 ≤ i → i < places n → parent n i < i
  pub no_sink : (i : ℕ) → 1 ≤ i → i < places n → kind n (parent n i) ≡ 0
  pub narrow : (v : ℕ) → children n (places n - 1) v ≤ most_children
  pub childed : (v : ℕ) → v < places n → kind n v ≡ 0 → 1 ≤ children n (places n - 1) v
