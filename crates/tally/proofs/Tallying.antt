-- Records counted one after the other make the tally of all; each is counted once; the status is "0" exactly where every record is legal.
use Prim.Native.Nat.{ℕ, ◌+◌}
use native.Mathlib.Omega.{arith}
use mathlib.Core.Path.{◌≡◌, refl, ap, ◌∙◌}
use mathlib.Core.Logic.{◌↔◌}
use mathlib.Core.Bool.{Bool, true, false}
use mathlib.Core.List.{List, [], ◌∷◌, ◌++◌, append-nil, append_assoc}
use lib.ListN.{length-append}
use lib.Dec.{eqb}
use borrow.Author.Tests.{eqb-true, eq-eqb}
use Rattle.rules.specs.Choose.{pick, both}
use Rattle.rules.proofs.Tests.{both_met}
use Rattle.tally.specs.declared.Found.{Found}
use Rattle.tally.specs.declared.Found.TheVariants.{Least, Legal, Refused, Unread}
use Rattle.tally.specs.declared.Tally.{Tally}
use Rattle.tally.specs.Tallied.{if_least, if_legal, if_refused, if_unread, sum_of, tally_of, counted, Sums, status_of, AllLegal}

-- ---- one record more

sum_one_more : (one : Found → ℕ) (fs : List Found) (f : Found) → sum_of one (fs ++ (f ∷ [])) ≡ sum_of one fs + one f
unfolding sum_of
sum_one_more one [] f = omega arith
sum_one_more one (g ∷ fs) f = omega (arith, sum_one_more one fs f)

pub counted_all_lem : (fs : List Found) (f : Found) → counted (tally_of fs) f ≡ tally_of (fs ++ (f ∷ []))
counted_all_lem fs f = rw (length-append, sum_one_more if_least fs f, sum_one_more if_legal fs f, sum_one_more if_refused fs f, sum_one_more if_unread fs f)

-- one after the other
abbrev pub counted_all : Tally → List Found → Tally
counted_all t [] = t
counted_all t (f ∷ fs) = counted_all (counted t f) fs

from_there : (done fs : List Found) → counted_all (tally_of done) fs ≡ tally_of (done ++ fs)
from_there done [] = rw append-nil
from_there done (f ∷ fs) = ap (λ (t : Tally). counted_all t fs) (counted_all_lem done f) ∙ from_there (done ++ (f ∷ [])) fs ∙ ap tally_of (append_assoc done (f ∷ []) fs)

pub counted_in_turn : (fs : List Found) → counted_all (tally_of []) fs ≡ tally_of fs
counted_in_turn fs = from_there [] fs

-- ---- each once

once : (f : Found) → if_least f + if_legal f + if_refused f + if_unread f ≡ 1
once Least = refl
once Legal = refl
once Refused = refl
once Unread = refl

pub tally_sums : (fs : List Found) → Sums (tally_of fs)
unfolding sum_of
tally_sums [] = refl
tally_sums (f ∷ fs) = omega (arith, once f, tally_sums fs)

-- ---- the status

none_refused : (fs : List Found) → sum_of if_refused fs ≡ 0 → sum_of if_unread fs ≡ 0 → AllLegal fs
unfolding sum_of
none_refused [] a b = tt
none_refused (f ∷ fs) a b = (omega arith, omega arith, none_refused fs (omega arith) (omega arith))

all_none : (fs : List Found) → AllLegal fs → (sum_of if_refused fs ≡ 0) × (sum_of if_unread fs ≡ 0)
unfolding sum_of
all_none [] h = (refl, refl)
all_none (f ∷ fs) h = let (a, b) = all_none fs h.2 in (omega (arith, h.0), omega (arith, h.1))

pub answered_exactly : (fs : List Found) → (status_of (tally_of fs) ≡ 48) ↔ AllLegal fs
answered_exactly fs = (says, λ h. let (a, b) = all_none fs h in rw (eq-eqb (sum_of if_refused fs) 0 a, eq-eqb (sum_of if_unread fs) 0 b))
  where
    met : (b : Bool) → ◌≡◌ {A = ℕ} (pick b 48 49) 48 → b ≡ true
    met true e = refl
    met false e = absurd (omega arith)

    says : status_of (tally_of fs) ≡ 48 → AllLegal fs
    says e =
        let (a, b) = both_met (eqb (sum_of if_refused fs) 0) (eqb (sum_of if_unread fs) 0) (met (both (eqb (sum_of if_refused fs) 0) (eqb (sum_of if_unread fs) 0)) e) in
        none_refused fs (eqb-true (sum_of if_refused fs) 0 a) (eqb-true (sum_of if_unread fs) 0 b)
