-- A legal placement of a sound net is listed: none of the refusals before the loads is given, and there are as many loads as entries.
use Rattle.std.specs.Prelude.{Ok}
use Prim.Native.Nat.{ℕ, zero, suc, ◌-◌, ◌≤◌}
use native.Mathlib.Omega.{arith}
use mathlib.Core.Path.{◌≡◌, refl, sym, ap, ◌∙◌}
use mathlib.Core.List.{List, [], ◌∷◌}
use lib.ListN.{length, take, replicate, length-append, length-replicate}
use lib.Seq.{sets, length-sets}
use borrow.Author.Tests.{eq-eqb, le-leb}
use Rattle.rules.specs.Figures.{most_entries}
use Rattle.rules.specs.Net.{Net, places}
use Rattle.rules.specs.Load.{entries, offsets_on, drives, driven_on, joined, driven}
use Rattle.rules.specs.Legal.{start}
use Rattle.rules.specs.Judge.{then_judge}
use Rattle.rules.specs.Checked.{placed_from, within_limit, one_sense, placement_judged}
use Rattle.rules.specs.Sum.{sum_from}
use Rattle.rules.specs.Load.{drivers, source_drives}
use Rattle.rules.proofs.Tests.{then_met}
use Rattle.rules.proofs.Order.{entries_counted}
use Rattle.listing.specs.Listing.{Listed, listed_of, listed_count, listed_source, list_judged, ListedIs}
use Rattle.rules.proofs.LegalJudged.{legal_judged}
use Rattle.standing.proofs.Walk.{entries_length}
use Rattle.placement_file.proofs.SamePlacement.{stored}
use Rattle.solve_reply.specs.Solves.{Given}

placed : {n : Net} {ws os : List ℕ} → Given n ws os → placed_from n start 0 (entries ws os) ≡ Ok tt
unfolding placement_judged
placed {n} {ws} {os} g =
    (then_met (placed_from n start 0 (entries ws os)) (then_judge (within_limit n.limits.limit 0 (drivers n (entries ws os))) (one_sense n (offsets_on (entries ws os)))) (legal_judged n (entries ws os) g.legal)).0

pub listed : {n : Net} {ws os : List ℕ} (room : ℕ) → Given n ws os → most_entries ≤ room → list_judged n ws os room ≡ Ok tt
listed {n} {ws} {os} room g h =
    rw (g.sound, eq-eqb (length os) (length ws) g.even, le-leb (length ws) most_entries g.few, placed g, le-leb (length ws) room (omega (arith, g.few)))

drives_many : (cb from load : ℕ) (os : List ℕ) → length (drives cb from load os) ≡ length os
unfolding drives
drives_many cb from load [] = refl
drives_many cb from load (o ∷ os) = ap suc (drives_many cb o cb os)

joined_many : (n : Net) (offs : ℕ → List ℕ) (k i : ℕ) → length (joined (driven_on n offs) k i) ≡ sum_from (λ j. length (offs j)) k i
unfolding joined driven_on sum_from
joined_many n offs zero i = refl
joined_many n offs (suc k) i = simp (length-append, drives_many, joined_many n offs k (suc i))

pub as_many_loads : {n : Net} {ws os : List ℕ} → Given n ws os → length (driven n (offsets_on (entries ws os))) ≡ length ws
unfolding driven
as_many_loads {n} {ws} {os} g =
    joined_many n (offsets_on (entries ws os)) (places n - 1) 1
    ∙ entries_counted n start (entries ws os) g.legal.stands
    ∙ entries_length ws os g.even

-- what the list of loads answers of it, and leaves in the column
pub drives_listed : {n : Net} {ws os before after : List ℕ} {r : Listed} → Given n ws os → ListedIs n ws os before r after → most_entries ≤ length before
    → (r ≡ listed_of (Ok tt) (length ws) (source_drives n (offsets_on (entries ws os)))) × (after ≡ sets before 0 (driven n (offsets_on (entries ws os))))
drives_listed {n} {ws} {os} {before} g l h = let e = listed (length before) g h in (rw e at l.answer, rw e at l.column)

-- the loads at the front of a column with room for them, and their count and the source's load
pub record Heard (n : Net) (ws os out : List ℕ) (count source : ℕ) : Type 0 where
  pub many : count ≡ length ws
  pub room : length out ≡ 4096
  pub loads : take count out ≡ driven n (offsets_on (entries ws os))
  pub long : length (take count out) ≡ length ws
  pub last : source ≡ source_drives n (offsets_on (entries ws os))

same_answer : {r : Listed} {k s k' s' : ℕ} → r ≡ listed_of (Ok tt) k s → r ≡ listed_of (Ok tt) k' s' → (k' ≡ k) × (s' ≡ s)
same_answer p q = (ap (λ (r : Listed). listed_count r) (sym q ∙ p), ap (λ (r : Listed). listed_source r 0) (sym q ∙ p))

pub heard : {n : Net} {ws os out : List ℕ} {r : Listed} {count source : ℕ} → Given n ws os → ListedIs n ws os (replicate 4096 0) r out → r ≡ listed_of (Ok tt) count source
    → Heard n ws os out count source
heard {n} {ws} {os} {out} {r} {count} {source} g l e =
    let none = length-replicate {A = ℕ} 4096 0 in
    let all : List ℕ = driven n (offsets_on (entries ws os)) in
    let enough : length all ≡ length ws = as_many_loads g in
    let (answer, column) = drives_listed g l (omega (arith, none)) in
    let (many, last) = same_answer answer e in
    let loads : take count out ≡ all = stored (replicate 4096 0) all column (many ∙ sym enough) (omega (arith, none, g.few)) in
    record {
      many = many;
      room = ap length column ∙ length-sets (replicate 4096 0) 0 all ∙ none;
      loads = loads;
      long = ap length loads ∙ enough;
      last = last;
    }
