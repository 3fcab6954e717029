-- Entries compare as they stand: by wire, and on a wire by offset.
use Rattle.std.specs.Prelude.{◌≡◌, ◌<◌, Bool, true, false, Some}
use Rattle.std.proofs.Common.{arith, refl, sym, ◌∙◌}
use Rattle.std.specs.declared.cmp.Ordering.{Ordering}
use Rattle.std.specs.declared.cmp.Ordering.TheVariants.{Less, Equal, Greater}
use Rattle.std.specs.Ordering.{nat_cmp, partial_le, is_some_and, is_le, partial_ordering_then}
use Rattle.std.proofs.lemmas.Cmp.{ranked}
use Rattle.rules.proofs.Tests.{never}
use Rattle.rules.specs.declared.Entry.{Entry}
use Rattle.rules.specs.contracts.EntryPartialOrd.TheImpl.{partial_cmp-value}
use Rattle.rules.specs.Legal.{After, higher, further}

-- by what the wires' and the offsets' comparisons say
by_parts : (x y : Entry) (o p : Ordering) → o ≡ nat_cmp x.wire y.wire → p ≡ nat_cmp x.offset y.offset → {b : Bool} → b ≡ is_some_and is_le (partial_ordering_then (Some o) (Some p)) → (b ≡ true → After x y) × (b ≡ false → After y x)
by_parts x y Less p q r e = (λ _. higher (ranked _ _ Less q), λ n. never (sym e ∙ n))
by_parts x y Equal Less q r e = (λ _. further (ranked _ _ Equal q) (let l : x.offset < y.offset = ranked _ _ Less r in omega arith), λ n. never (sym e ∙ n))
by_parts x y Equal Equal q r e = (λ _. further (ranked _ _ Equal q) (let l : x.offset ≡ y.offset = ranked _ _ Equal r in omega arith), λ n. never (sym e ∙ n))
by_parts x y Equal Greater q r e = (λ t. never (sym t ∙ e), λ n. further (sym (ranked _ _ Equal q)) (let l : y.offset < x.offset = ranked _ _ Greater r in omega arith))
by_parts x y Greater p q r e = (λ t. never (sym t ∙ e), λ n. higher (ranked _ _ Greater q))

pub le_after : (x y : Entry) {b : Bool} → b ≡ partial_le partial_cmp-value.it x y → (b ≡ true → After x y) × (b ≡ false → After y x)
le_after x y e = by_parts x y _ _ refl refl e
