-- What was read fits the columns that were filled, and an `Ok` behind `map_err` was one before it.
use Rattle.std.proofs.Common.{ℕ, ◌≤◌, ◌≡◌, ◌∙◌, sym, ap, List, length, length-take, arith, Result, Ok, Err, MatchResult}
use Rattle.std.proofs.lemmas.List.{length-map}
use Rattle.rules.specs.declared.Refusal.{Refusal}
use Rattle.net_file.specs.declared.NetRead.{NetRead}
use Rattle.net_file.specs.NetFile.{net_of, ReadNet}
use Rattle.net_file.proofs.ReadWrite.{answered_read}
use Rattle.rules.specs.Net.{Net}
use Rattle.rules.specs.Figures.{most_entries}
use Rattle.placement_file.specs.File.{placement_of, wire, ReadAs}
use Rattle.placement_file.proofs.Held.{few_entries, placement_read}

pub kept_ok : {T E : Type 0} (D : Type 0) (r : Result T E) {z : T} → MatchResult r (λ x. ◌≡◌ {A = Result T D} (Ok z) (Ok x)) (λ _. ⊥) → r ≡ Ok z
kept_ok D (Ok x) h = cc
kept_ok D (Err e) h = absurd h

pub net_fits : {s : List ℕ} {lent left : Net} {r : Result NetRead Refusal} {z : NetRead} → ReadNet s lent left r → r ≡ Ok z → z.places ≤ length lent.parents
net_fits {s} {lent} {z = z} reads e = let (_, _, fits, _, _, _) = answered_read lent (net_of s) z.limits z.places (sym e ∙ reads.answer) in omega (arith, fits)

pub placement_fits : (s : List ℕ) {vs os vs' os' : List ℕ} {r : Result ℕ Refusal} {n : ℕ} → ReadAs (placement_of s) vs os vs' os' r → r ≡ Ok n → n ≤ most_entries
placement_fits s {vs' = vs'} {n = n} reads e =
    let held = placement_read s reads e in
    omega (arith, few_entries s held.es held.is, held.in_wires, ap length held.wires, length-take n vs', length-map held.es wire)
