-- The judgement of anybody's placement on a net: RULES 5.6, after the net's own (RULES 5.11).
use Rattle.std.specs.Prelude.{Ok, ℕ, zero, suc, ◌-◌, Bool, true, List, [], ◌∷◌, length, eqb, ltb, leb}
use Rattle.rules.specs.declared.Entry.{Entry}
use Rattle.rules.specs.declared.Refusal.TheVariants.{WrongColumns, Misplaced, Overloaded, WrongParity}
use Rattle.rules.specs.Judged.{Judged}
use Rattle.rules.specs.Figures.{most_entries}
use Rattle.rules.specs.Choose.{pick, both}
use Rattle.rules.specs.Net.{Net, places, wire, kind}
use Rattle.rules.specs.Load.{entries, offsets_on, drivers}
use Rattle.rules.specs.Legal.{start, sense}
use Rattle.rules.specs.Judge.{unless, then_judge, judge_each, judged}

-- RULES 1.14, else 7
abbrev pub placement_fits : List ℕ → List ℕ → Bool
placement_fits vs os = both (eqb (length os) (length vs)) (leb (length vs) most_entries)

-- RULES 2.3 and 2.4, else 10: the entry stands, and does not belong before its predecessor
abbrev pub on_its_wire : Net → Entry → Bool
on_its_wire n e = both (ltb 0 e.wire) (both (ltb e.wire (places n)) (leb e.offset (wire n e.wire)))

abbrev pub not_lower : Entry → Entry → Bool
not_lower d e = pick (ltb d.wire e.wire) true (both (eqb d.wire e.wire) (leb d.offset e.offset))

-- entry k and those after it, d the one before
unfoldable pub placed_from : Net → Entry → ℕ → List Entry → Judged
placed_from n d k [] = Ok tt
placed_from n d k (e ∷ es) = then_judge (unless (both (on_its_wire n e) (not_lower d e)) (Misplaced k)) (placed_from n e (suc k) es)

-- 11: "driver over C_U", driver k and those after it
unfoldable pub within_limit : ℕ → ℕ → List ℕ → Judged
within_limit limit k [] = Ok tt
within_limit limit k (load ∷ loads) = then_judge (unless (leb load limit) (Overloaded k)) (within_limit limit (suc k) loads)

-- the lowest-numbered sink among k nodes from i on
unfoldable pub first_sink : Net → ℕ → ℕ → ℕ
first_sink n zero i = i
first_sink n (suc k) i = pick (eqb (kind n i) 1) i (first_sink n k (suc i))

-- RULES 2.13, else 12: each sink's sum is even or odd as s is, the sum of the lowest sink
abbrev pub has_sense : Net → (ℕ → List ℕ) → ℕ → ℕ → Judged
has_sense n offs s i = unless (pick (eqb (kind n i) 1) (eqb (sense n offs i) s) true) (WrongParity i)

abbrev pub one_sense : Net → (ℕ → List ℕ) → Judged
one_sense n offs = let s = sense n offs (first_sink n (places n - 1) 1) in judge_each (has_sense n offs s) (places n - 1) 1

-- a placement on a net that is sound
unfoldable pub placement_judged : Net → List Entry → Judged
placement_judged n p =
    then_judge (placed_from n start 0 p)
    (then_judge (within_limit n.limits.limit 0 (drivers n p))
    (one_sense n (offsets_on p)))

-- the two columns of a placement, on a net that is sound
abbrev pub columns_judged : Net → List ℕ → List ℕ → Judged
columns_judged n vs os = then_judge (unless (placement_fits vs os) WrongColumns) (placement_judged n (entries vs os))

unfoldable pub checked : Net → List ℕ → List ℕ → Judged
checked n vs os = then_judge (judged n) (columns_judged n vs os)
