-- Two answers that meet a contract of this crate are equal, and so are the buffers that two calls leave: each contract is an equation.
use Prim.Native.Nat.{ℕ}
use mathlib.Core.Path.{◌≡◌, sym, ◌∙◌}
use mathlib.Core.List.{List}
use Rattle.answer.specs.declared.Line.{Line}
use Rattle.answer.specs.Text.{IsLine, Laid}

pub line_determined : {bs : List ℕ} {a b : Line} → IsLine bs a → IsLine bs b → a ≡ b
line_determined a b = a.is ∙ sym b.is

pub laid_determined : {out bs l l' : List ℕ} {at n n' : ℕ} → Laid out at bs l n → Laid out at bs l' n' → (n ≡ n') × (l ≡ l')
laid_determined a b = (a.ends ∙ sym b.ends, a.stands ∙ sym b.stands)
