-- The one repeater type of a net, as the model has it.
use Rattle.std.specs.Prelude.{ℕ, zero, suc, ◌+◌, ◌-◌, ◌%◌}
use Rattle.rules.specs.declared.Limits.{Limits}

pub data Kind : Type 0 where
  buf : Kind
  inv : Kind

-- its kind, its load limit, its own pin, and what is left of the limit beside the pin
pub record Cell : Type 0 where
  pub kind : Kind
  pub cu : ℕ
  pub cb : ℕ
  pub D : ℕ

abbrev pub kind_of : ℕ → Kind
kind_of zero = buf
kind_of (suc n) = inv

abbrev pub cell_of : Limits → Cell
cell_of l = record { kind = kind_of l.repeater; cu = l.limit; cb = l.pin; D = l.limit - l.pin }

-- the polarity below n repeaters, where it is p above them
abbrev pub turn : Kind → ℕ → ℕ → ℕ
turn buf p n = p
turn inv p n = (p + n) % 2
