-- The numbers of the call from C: it answers k exactly where the cases below say so, and so no other number. Its columns always fit and its net is always sound,
-- so of the checker's numbers it gives those of a placement alone.
use Rattle.std.specs.Prelude.{Ok}
use Prim.Native.Nat.{ℕ, ◌≤◌}
use native.Mathlib.Omega.{arith}
use mathlib.Core.Path.{◌≡◌, refl, sym, ◌∙◌}
use mathlib.Core.Logic.{◌↔◌, ◌⊎◌, inl, inr}
use mathlib.Core.List.{List, map}
use lib.ListN.{length-map}
use Rattle.rules.specs.declared.Entry.{Entry}
use Rattle.rules.specs.declared.Refusal.{Refusal}
use Rattle.rules.specs.Refusal.{number_of, judged_number}
use Rattle.rules.specs.Net.{Net}
use Rattle.rules.specs.Judge.{judged}
use Rattle.rules.specs.Checked.{checked}
use Rattle.rules.proofs.Judging.{sound_refused, exactly_where}
use Rattle.rules.proofs.Numbers.{PlacementGives, misplaced, overloaded, wrong_parity, legal, PlacementFits}
use Rattle.field.proofs.Numbers.{AreBytes}
use Rattle.net_file.specs.NetFile as net_file
use Rattle.net_file.proofs.ReadWrite.{same_bytes}
use Rattle.net_file.proofs.FileNumbers.{file_number as net_number}
use Rattle.placement_file.specs.File as placement_file
use Rattle.placement_file.specs.File.{wire, offset}
use Rattle.placement_file.proofs.RoundTrip.{entries_back}
use Rattle.placement_file.proofs.FileNumbers.{file_number as placement-number}
use Rattle.checker.proofs.Numbers.{CheckGives, of_net, wrong_columns, of_placement, checked_numbers}
use Rattle.router.specs.Routed.{on_net, from_net, routed}
use Rattle.placement_file.proofs.Held.{few_entries}

-- what the number k says of two files
pub data RouteGives (net placement : List ℕ) (k : ℕ) : Type 0 where
  of_net_file : {x : Refusal} → net_file.net_of net ≡ net_file.refused x → k ≡ number_of x → RouteGives net placement k
  of_placement_file : {n : Net} {x : Refusal} → net_file.net_of net ≡ net_file.read n → placement_file.placement_of placement ≡ placement_file.refused x → k ≡ number_of x
      → RouteGives net placement k
  of_both : {n : Net} {es : List Entry} → net_file.net_of net ≡ net_file.read n → placement_file.placement_of placement ≡ placement_file.placement es → PlacementGives n es k
      → RouteGives net placement k

module _ (net placement : List ℕ) (bytes : AreBytes net) where
  -- a net and a placement that were read: the net is sound, and the columns fit
  module _ {n : Net} {es : List Entry} (a : net_file.net_of net ≡ net_file.read n) (b : placement_file.placement_of placement ≡ placement_file.placement es) where
    sound : judged n ≡ Ok tt
    sound = (same_bytes net n bytes a).sound

    fits : PlacementFits (map wire es) (map offset es)
    fits = record { even = length-map es offset ∙ sym (length-map es wire); few = rw (length-map es wire) (few_entries placement es b) }

    on_net_lem : (k : ℕ) → (judged_number (checked n (map wire es) (map offset es)) ≡ k) ↔ PlacementGives n es k
    on_net_lem k = (λ e. says (numbers.0 e), λ g. numbers.1 (of_placement sound fits (rw (entries_back es) g)))
      where
        numbers : (judged_number (checked n (map wire es) (map offset es)) ≡ k) ↔ CheckGives n (map wire es) (map offset es) k
        numbers = checked_numbers n (map wire es) (map offset es) k

        says : CheckGives n (map wire es) (map offset es) k → PlacementGives n es k
        says (of_net r) = sound_refused sound r.refused
        says (wrong_columns e s not) = absurd (not fits)
        says (of_placement s f g) = rw (entries_back es) at g

  given : RouteGives net placement (from_net (net_file.net_of net) (placement_file.placement_of placement))
  given = by_net (net_file.net_of net) refl
    where
      by_placement : (n : Net) → net_file.net_of net ≡ net_file.read n → (o : placement_file.Outcome) → placement_file.placement_of placement ≡ o → RouteGives net placement (on_net n o)
      by_placement n a (placement_file.refused x) b = of_placement_file a b refl
      by_placement n a (placement_file.placement es) b = of_both a b ((on_net_lem a b (judged_number (checked n (map wire es) (map offset es)))).0 refl)

      by_net : (o : net_file.Outcome) → net_file.net_of net ≡ o → RouteGives net placement (from_net o (placement_file.placement_of placement))
      by_net (net_file.refused x) a = of_net_file a refl
      by_net (net_file.read n) a = by_placement n a (placement_file.placement_of placement) refl

  alone : (k : ℕ) → RouteGives net placement k → from_net (net_file.net_of net) (placement_file.placement_of placement) ≡ k
  alone k (of_net_file a e) = rw a (sym e)
  alone k (of_placement_file a b e) = rw (a, b) (sym e)
  alone k (of_both a b g) = rw (a, b) ((on_net_lem a b k).1 g)

  pub mustorgyel_check_numbers : (r : ℕ) → r ≡ routed net placement → (k : ℕ) → (r ≡ k) ↔ RouteGives net placement k
  unfolding routed
  mustorgyel_check_numbers r e k = rw e (exactly_where (RouteGives net placement) (from_net (net_file.net_of net) (placement_file.placement_of placement)) given alone k)

  -- so it never gives 7, 8, 9 or 13 (RULES 5.14)
  pub mustorgyel_check_only : AreBytes placement → (k : ℕ) → RouteGives net placement k → (k ≤ 6) ⊎ ((10 ≤ k) × (k ≤ 12))
  mustorgyel_check_only also k (of_net_file {x} a e) = inl (omega (arith, net_number net x a))
  mustorgyel_check_only also k (of_placement_file {n} {x} a b e) = inl (omega (arith, placement-number placement also x b))
  mustorgyel_check_only also k (of_both a b (misplaced e not)) = inr (omega arith, omega arith)
  mustorgyel_check_only also k (of_both a b (overloaded e o not)) = inr (omega arith, omega arith)
  mustorgyel_check_only also k (of_both a b (wrong_parity e o w not)) = inr (omega arith, omega arith)
  mustorgyel_check_only also k (of_both a b (legal e l)) = inl (omega arith)
