-- A text that was laid at the front of a buffer with room for it is what its first places show.
use Prim.Native.Nat.{ℕ, ◌≤◌}
use native.Mathlib.Omega.{arith}
use mathlib.Core.Path.{◌≡◌, refl, sym, ap, ◌∙◌}
use mathlib.Core.List.{List, []}
use lib.ListN.{length}
use lib.Seq.{sets, length-take-le, length-sets}
use Rattle.placement_file.proofs.SamePlacement.{stored}
use Rattle.answer.specs.Text.{Laid}
use Rattle.answer.proofs.Laying.{kept}
use Rattle.reply.specs.Said.{Shows}

pub shown : {before text after : List ℕ} {r : ℕ} → Laid before 0 text after r → r ≤ length before → Shows text after r
shown {before} {text} {after} {r} a h =
    let n : length text ≡ r = omega arith in
    let w : r ≤ length after = omega (arith, kept a) in
    record { is = stored before text a.stands (sym n) (omega arith); within = w; counted = sym (length-take-le r after w) }

pub laid_shows : (before text : List ℕ) {after : List ℕ} → after ≡ sets before 0 text → length text ≤ length before → Shows text after (length text)
laid_shows before text {after} e h = let w : length text ≤ length after = omega (arith, ap length e ∙ length-sets before 0 text) in record { is = stored before text e refl h; within = w; counted = sym (length-take-le (length text) after w) }

pub nothing : (after : List ℕ) → Shows [] after 0
nothing after = record { is = refl; within = omega arith; counted = refl }
