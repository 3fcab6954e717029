-- The solver's numbers. Each is given, with its place or count, exactly where its row says: 8 where no placement of a sound net is legal, 9 where the least count is over
-- the room, 0 where it is not, and the judge's own where the net is not sound.
use Rattle.std.specs.Prelude.{Ok, Err, Result}
use Prim.Native.Nat.{ℕ, ◌≤◌, ◌<◌}
use mathlib.Core.Path.{◌≡◌, refl, sym, subst, ap, ◌∙◌}
use mathlib.Core.Logic.{◌↔◌, ◌⊎◌, inl, inr}
use mathlib.Core.List.{List}
use native.Mathlib.Omega.{arith}
use lib.ListN.{length}
use Rattle.rules.specs.declared.Entry.{Entry}
use Rattle.rules.specs.declared.Refusal.{Refusal}
use Rattle.rules.specs.Judged.{Judged}
use Rattle.rules.specs.Net.{Net}
use Rattle.rules.specs.Refusal.{number_of, place_of, judged_number, judged_place}
use Rattle.rules.specs.Judge.{judged}
use Rattle.rules.specs.Legal.{Legal, Least, NoneLegal}
use Rattle.rules.proofs.Refusals.{numbered}
use Rattle.rules.proofs.Judging.{sound_refused}
use Rattle.rules.proofs.Numbers.{NetNumber, out_of_range, wrong_parent, childless, wrong_columns, net_number}
use Rattle.frontier.proofs.LeastCount.{one_least}
use Rattle.columns.specs.Columns.{room_in, Kept, Holds}
use Rattle.solution.specs.Answer as answer
use Rattle.solution.specs.Answer.{Answered, solved_number, solved_count}

-- one row a reason: the number k with the place or count p, where so many entries have room
pub data SolveRow (n : Net) (room k p : ℕ) : Type 0 where
  of_net : (x : Refusal) → judged n ≡ Err x → k ≡ number_of x → p ≡ place_of x → SolveRow n room k p
  none : judged n ≡ Ok tt → NoneLegal n → k ≡ 8 → p ≡ 0 → SolveRow n room k p
  full : judged n ≡ Ok tt → Least n p → room < p → k ≡ 9 → SolveRow n room k p
  placed : judged n ≡ Ok tt → Least n p → p ≤ room → k ≡ 0 → SolveRow n room k p

-- the net's own numbers are none of these
net_few : (n : Net) {x : Refusal} → judged n ≡ Err x → (1 ≤ number_of x) × (number_of x ≤ 7)
net_few n {x} e = go (net_number {n = n} (record { refusal = x; refused = e; number = refl }))
  where
    go : {k : ℕ} → NetNumber k → (1 ≤ k) × (k ≤ 7)
    go (out_of_range q) = (omega arith, omega arith)
    go (wrong_parent q) = (omega arith, omega arith)
    go (childless q) = (omega arith, omega arith)
    go (wrong_columns q) = (omega arith, omega arith)

-- no two rows differ
one_row : {n : Net} {room k p j q : ℕ} → SolveRow n room k p → SolveRow n room j q → (k ≡ j) × (p ≡ q)
one_row (of_net x e a b) (of_net y f c d) = let z : x ≡ y = cc in (a ∙ ap number_of z ∙ sym c, b ∙ ap place_of z ∙ sym d)
one_row (of_net x e a b) (none s h c d) = sound_refused s e
one_row (of_net x e a b) (full s l o c) = sound_refused s e
one_row (of_net x e a b) (placed s l o c) = sound_refused s e
one_row (none s h a b) (of_net x e c d) = sound_refused s e
one_row (none s h a b) (none t i c d) = (a ∙ sym c, b ∙ sym d)
one_row (none s h a b) (full t l o c) = absurd (h l.placement l.legal)
one_row (none s h a b) (placed t l o c) = absurd (h l.placement l.legal)
one_row (full s l o a) (of_net x e c d) = sound_refused s e
one_row (full s l o a) (none t h c d) = absurd (h l.placement l.legal)
one_row (full s l o a) (full t m u c) = (a ∙ sym c, one_least l m)
one_row (full s l o a) (placed t m u c) = absurd (omega (arith, one_least l m))
one_row (placed s l o a) (of_net x e c d) = sound_refused s e
one_row (placed s l o a) (none t h c d) = absurd (h l.placement l.legal)
one_row (placed s l o a) (full t m u c) = absurd (omega (arith, one_least l m))
one_row (placed s l o a) (placed t m u c) = (a ∙ sym c, one_least l m)

-- r is an answer as the contract of `solve` has it
pub record Conforms (n : Net) (ws os ws' os' : List ℕ) (r : Result ℕ Refusal) : Type 0 where
  pub answered : Answered (judged n) n ws os ws' os' r

module _ {n : Net} {ws os ws' os' : List ℕ} {r : Result ℕ Refusal} (a : Conforms n ws os ws' os' r) where
  pub row : SolveRow n (room_in ws os) (solved_number r) (solved_count r)
  row = go (judged n) refl a.answered
    where
      go : (j : Judged) → judged n ≡ j → Answered j n ws os ws' os' r → SolveRow n (room_in ws os) (solved_number r) (solved_count r)
      go (Err x) s b = of_net x s (ap solved_number b.0) (ap solved_count b.0)
      go (Ok _) s (answer.none h e k) = none s h (ap solved_number e) (ap solved_count e)
      go (Ok _) s (answer.full m l o e k) = full s (rw (ap solved_count e) l) (rw (ap solved_count e) o) (ap solved_number e)
      go (Ok _) s (answer.placed p c l o e h) = placed s (rw (ap solved_count e) l) (rw (ap solved_count e) o) (ap solved_number e)

  -- both ways
  pub row_is : (k p : ℕ) → SolveRow n (room_in ws os) k p ↔ ((solved_number r ≡ k) × (solved_count r ≡ p))
  row_is k p = (λ x. one_row row x, λ h. subst (λ (j : ℕ). SolveRow n (room_in ws os) j p) h.0 (subst (SolveRow n (room_in ws os) (solved_number r)) h.1 row))

  -- ---- number by number
  pub eight : (solved_number r ≡ 8) ↔ ((judged n ≡ Ok tt) × NoneLegal n)
  eight = (λ e. go e row, λ h. (one_row row (none h.0 h.1 refl refl)).0)
    where
      go : solved_number r ≡ 8 → SolveRow n (room_in ws os) (solved_number r) (solved_count r) → (judged n ≡ Ok tt) × NoneLegal n
      go e (of_net x f k p) = absurd (omega (arith, net_few n f))
      go e (none s h k p) = (s, h)
      go e (full s l o k) = absurd (omega arith)
      go e (placed s l o k) = absurd (omega arith)

  pub nine : (solved_number r ≡ 9) ↔ ((judged n ≡ Ok tt) × (m : ℕ) × Least n m × (room_in ws os < m))
  nine = (λ e. go e row, λ h. (one_row row (full h.0 h.2 h.3 refl)).0)
    where
      go : solved_number r ≡ 9 → SolveRow n (room_in ws os) (solved_number r) (solved_count r) → (judged n ≡ Ok tt) × (m : ℕ) × Least n m × (room_in ws os < m)
      go e (of_net x f k p) = absurd (omega (arith, net_few n f))
      go e (none s h k p) = absurd (omega arith)
      go e (full s l o k) = (s, solved_count r, l, o)
      go e (placed s l o k) = absurd (omega arith)

  pub nought : (solved_number r ≡ 0) ↔ ((judged n ≡ Ok tt) × (m : ℕ) × Least n m × (m ≤ room_in ws os))
  nought = (λ e. go e row, λ h. (one_row row (placed h.0 h.2 h.3 refl)).0)
    where
      go : solved_number r ≡ 0 → SolveRow n (room_in ws os) (solved_number r) (solved_count r) → (judged n ≡ Ok tt) × (m : ℕ) × Least n m × (m ≤ room_in ws os)
      go e (of_net x f k p) = absurd (omega (arith, net_few n f))
      go e (none s h k p) = absurd (omega arith)
      go e (full s l o k) = absurd (omega arith)
      go e (placed s l o k) = (s, solved_count r, l, o)

  -- with either of these the count is the least one, and with 0 there is room for it
  pub counted : (solved_number r ≡ 0) ⊎ (solved_number r ≡ 9) → Least n (solved_count r)
  counted (inl e) = let (s, m, l, o) = nought.0 e in rw (one_row row (placed s l o refl)).1 l
  counted (inr e) = let (s, m, l, o) = nine.0 e in rw (one_row row (full s l o refl)).1 l

  pub fits : solved_number r ≡ 0 → solved_count r ≤ room_in ws os
  fits e = let (s, m, l, o) = nought.0 e in rw (one_row row (placed s l o refl)).1 o

  -- every other number is the judge's, with its place
  pub others : (k p : ℕ) → (k ≡ 0 → ⊥) → (k ≡ 8 → ⊥) → (k ≡ 9 → ⊥) → ((solved_number r ≡ k) × (solved_count r ≡ p)) ↔ ((judged_number (judged n) ≡ k) × (judged_place (judged n) ≡ p))
  others k p not0 not8 not9 = (λ h. go h row, λ h. back h (judged n) refl)
    where
      go : (solved_number r ≡ k) × (solved_count r ≡ p) → SolveRow n (room_in ws os) (solved_number r) (solved_count r) → (judged_number (judged n) ≡ k) × (judged_place (judged n) ≡ p)
      go h (of_net x f u v) = (ap judged_number f ∙ sym u ∙ h.0, ap judged_place f ∙ sym v ∙ h.1)
      go h (none s l u v) = absurd (not8 (sym h.0 ∙ u))
      go h (full s l o u) = absurd (not9 (sym h.0 ∙ u))
      go h (placed s l o u) = absurd (not0 (sym h.0 ∙ u))

      back : (judged_number (judged n) ≡ k) × (judged_place (judged n) ≡ p) → (j : Judged) → judged n ≡ j → (solved_number r ≡ k) × (solved_count r ≡ p)
      back h (Ok _) f = absurd (not0 (sym h.0 ∙ ap judged_number f))
      back h (Err x) f = one_row row (of_net x f (sym h.0 ∙ ap judged_number f) (sym h.1 ∙ ap judged_place f))

  -- ---- and the columns: with 0 they hold a legal placement of the least count, with any other number they are as they came
  pub held : solved_number r ≡ 0 → (p : List Entry) × Legal n p × Least n (length p) × (solved_count r ≡ length p) × Holds p ws os ws' os'
  held z = go (judged n) refl a.answered
    where
      go : (j : Judged) → judged n ≡ j → Answered j n ws os ws' os' r → (p : List Entry) × Legal n p × Least n (length p) × (solved_count r ≡ length p) × Holds p ws os ws' os'
      go (Err x) s b = absurd (omega (arith, ap solved_number b.0, numbered x))
      go (Ok _) s (answer.none h e k) = absurd (omega (arith, ap solved_number e))
      go (Ok _) s (answer.full m l o e k) = absurd (omega (arith, ap solved_number e))
      go (Ok _) s (answer.placed p c l o e h) = (p, c, l, ap solved_count e, h)

  pub kept : 1 ≤ solved_number r → Kept ws os ws' os'
  kept some = go (judged n) a.answered
    where
      go : (j : Judged) → Answered j n ws os ws' os' r → Kept ws os ws' os'
      go (Err x) b = b.1
      go (Ok _) (answer.none h e k) = k
      go (Ok _) (answer.full m l o e k) = k
      go (Ok _) (answer.placed p c l o e h) = absurd (omega (arith, ap solved_number e))
