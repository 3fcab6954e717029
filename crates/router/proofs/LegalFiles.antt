-- The call answers 0 exactly where the first file is a net and the second a legal placement of it; and two answers that conform are equal.
use Prim.Native.Nat.{ℕ}
use mathlib.Core.Path.{◌≡◌, refl, sym, ◌∙◌}
use mathlib.Core.Logic.{◌↔◌}
use mathlib.Core.List.{List}
use native.Mathlib.Omega.{arith}
use Rattle.rules.specs.declared.Entry.{Entry}
use Rattle.rules.specs.Net.{Net}
use Rattle.rules.specs.Legal.{Legal}
use Rattle.rules.proofs.Refusals.{numbered}
use Rattle.rules.proofs.Numbers.{PlacementGives, misplaced, overloaded, wrong_parity, legal}
use Rattle.field.proofs.Numbers.{AreBytes}
use Rattle.net_file.specs.NetFile as net_file
use Rattle.placement_file.specs.File as placement_file
use Rattle.router.specs.Routed.{routed}
use Rattle.router.proofs.Numbers.{RouteGives, of_net_file, of_placement_file, of_both, mustorgyel_check_numbers}

-- what the two files hold
pub record LegalFiles (net placement : List ℕ) : Type 0 where
  pub n : Net
  pub is_net : net_file.net_of net ≡ net_file.read n
  pub es : List Entry
  pub is_placement : placement_file.placement_of placement ≡ placement_file.placement es
  pub legal : Legal n es

pub zero_exactly_legal : (net placement : List ℕ) → AreBytes net → (routed net placement ≡ 0) ↔ LegalFiles net placement
zero_exactly_legal net placement bytes = (λ e. says (numbers.0 e), λ l. numbers.1 (of_both l.is_net l.is_placement (legal refl l.legal)))
  where
    numbers : (routed net placement ≡ 0) ↔ RouteGives net placement 0
    numbers = mustorgyel_check_numbers net placement bytes (routed net placement) refl 0

    lawful : {n : Net} {es : List Entry} → PlacementGives n es 0 → Legal n es
    lawful (misplaced e not) = absurd (omega arith)
    lawful (overloaded e o not) = absurd (omega arith)
    lawful (wrong_parity e o w not) = absurd (omega arith)
    lawful (legal e l) = l

    says : RouteGives net placement 0 → LegalFiles net placement
    says (of_net_file {x} a e) = absurd (omega (arith, numbered x))
    says (of_placement_file {n} {x} a b e) = absurd (omega (arith, numbered x))
    says (of_both {n} {es} a b g) = record { n = n; is_net = a; es = es; is_placement = b; legal = lawful g }

pub check_determined : (net placement : List ℕ) (a b : ℕ) → a ≡ routed net placement → b ≡ routed net placement → a ≡ b
check_determined net placement a b p q = p ∙ sym q
