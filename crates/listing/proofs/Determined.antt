-- Two answers that meet the list's contract are equal, and so is what they leave in the lent column.
use Prim.Native.Nat.{ℕ}
use mathlib.Core.Path.{◌≡◌, sym, ◌∙◌}
use mathlib.Core.List.{List}
use Rattle.rules.specs.Net.{Net}
use Rattle.listing.specs.Listing.{Listed, ListedIs}

pub list_drives_determined : (n : Net) (vs os before : List ℕ) {r r' : Listed} {after after' : List ℕ}
    → ListedIs n vs os before r after → ListedIs n vs os before r' after' → (r ≡ r') × (after ≡ after')
list_drives_determined n vs os before e f = (e.answer ∙ sym f.answer, e.column ∙ sym f.column)
