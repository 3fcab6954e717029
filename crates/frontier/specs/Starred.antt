-- The rows of RULES 9 but 9.13, as data, and what each says.
use Rattle.std.specs.Prelude.{ℕ, ◌≤◌, ◌≡◌, List, [], ◌∷◌, map, length}
use Rattle.rules.specs.declared.Limits.{Limits}
use Rattle.rules.specs.declared.Node.{Node}
use Rattle.rules.specs.declared.Entry.{Entry}
use Rattle.rules.specs.Net.{Net, net}
use Rattle.rules.specs.Load.{offsets_on}
use Rattle.rules.specs.Legal.{Legal, Least, NoneLegal}
use Rattle.rules.specs.Ease.{Eases, carried}

abbrev pub limits : ℕ → ℕ → ℕ → Limits
limits repeater cu cb = record { limit = cu; pin = cb; repeater = repeater }

-- a branch point by its parent and its wire, and a plus or a minus sink by its pin too
abbrev pub point : ℕ → ℕ → Node
point p w = record { parent = p; wire = w; kind = 0; pin = 0; polarity = 0 }

abbrev pub plus : ℕ → ℕ → ℕ → Node
plus p w c = record { parent = p; wire = w; kind = 1; pin = c; polarity = 0 }

abbrev pub minus : ℕ → ℕ → ℕ → Node
minus p w c = record { parent = p; wire = w; kind = 1; pin = c; polarity = 1 }

-- the columns of the nodes from 1 on; node 0 has 0 in each (RULES 1.13)
abbrev pub net_of : Limits → List Node → Net
net_of l ds = net l (0 ∷ map (λ d. d.parent) ds) (0 ∷ map (λ d. d.wire) ds) (0 ∷ map (λ d. d.kind) ds) (0 ∷ map (λ d. d.pin) ds) (0 ∷ map (λ d. d.polarity) ds)

abbrev pub on : ℕ → ℕ → Entry
on i o = record { wire = i; offset = o }

pub data Answer : Type 0 where
  -- the least count
  least : (k : ℕ) → Answer
  -- "refusal 8"
  refused : Answer
  -- one entry, on wire 1, at each offset from the first to the last and at no other
  any_offset : (first last : ℕ) → Answer
  -- the least count, and two entries on one wire in every placement that has it
  two_on_one : (k : ℕ) → Answer
  -- what becomes of a placement where the nodes are eased to these
  carry : (eased : List Node) (p becomes : List Entry) → Answer

pub record AnyOffset (n : Net) (first last : ℕ) : Type 0 where
  pub count : Least n 1
  pub any : (o : ℕ) → first ≤ o → o ≤ last → Legal n (on 1 o ∷ [])
  pub only : (p : List Entry) → Legal n p → length p ≡ 1 → (o : ℕ) × (first ≤ o) × (o ≤ last) × (p ≡ on 1 o ∷ [])

pub record TwoOnOne (n : Net) (k : ℕ) : Type 0 where
  pub count : Least n k
  pub two : (p : List Entry) → Legal n p → length p ≡ k → (i : ℕ) × (length (offsets_on p i) ≡ 2)

pub record Carry (n m : Net) (p becomes : List Entry) : Type 0 where
  pub eases : Eases n m
  pub legal : Legal n p
  pub is : carried m p ≡ becomes

abbrev pub Says : Limits → List Node → Answer → Type 0
Says l ds (least k) = Least (net_of l ds) k
Says l ds refused = NoneLegal (net_of l ds)
Says l ds (any_offset first last) = AnyOffset (net_of l ds) first last
Says l ds (two_on_one k) = TwoOnOne (net_of l ds) k
Says l ds (carry eased p becomes) = Carry (net_of l ds) (net_of l eased) p becomes

pub record Row : Type 0 where
  pub limits : Limits
  pub nodes : List Node
  pub answer : Answer

-- the limits of RULES 9 where a row has none of its own
abbrev pub buffers : List Node → Answer → Row
buffers ds a = record { limits = limits 0 10 2; nodes = ds; answer = a }

abbrev pub inverters : List Node → Answer → Row
inverters ds a = record { limits = limits 1 10 2; nodes = ds; answer = a }

abbrev pub starred : List Row
starred =
    buffers (plus 0 6 4 ∷ []) (least 0)
    ∷ buffers (plus 0 7 4 ∷ []) (any_offset 0 6)
    ∷ buffers (plus 0 14 4 ∷ []) (any_offset 6 6)
    ∷ buffers (plus 0 15 4 ∷ []) (least 2)
    ∷ record { limits = limits 0 11 2; nodes = plus 0 15 4 ∷ []; answer = least 1 }
    ∷ buffers (plus 0 0 10 ∷ []) (least 0)
    ∷ buffers (plus 0 0 11 ∷ []) refused
    ∷ buffers (plus 0 0 3 ∷ plus 0 0 3 ∷ plus 0 0 3 ∷ plus 0 0 3 ∷ plus 0 0 3 ∷ []) (least 5)
    ∷ buffers (plus 0 0 3 ∷ plus 0 0 3 ∷ plus 0 0 3 ∷ plus 0 0 3 ∷ plus 0 0 3 ∷ plus 0 0 3 ∷ []) refused
    ∷ buffers (plus 0 0 7 ∷ plus 0 0 5 ∷ []) (least 1)
    ∷ inverters (plus 0 0 1 ∷ minus 0 0 1 ∷ []) (least 1)
    ∷ inverters (minus 0 0 10 ∷ plus 0 0 9 ∷ []) (two_on_one 3)
    ∷ inverters (point 0 0 ∷ plus 0 0 6 ∷ minus 1 0 1 ∷ plus 1 0 7 ∷ []) (least 2)
    ∷ buffers (plus 0 15 4 ∷ []) (carry (plus 0 10 4 ∷ []) (on 1 6 ∷ on 1 14 ∷ []) (on 1 6 ∷ on 1 10 ∷ []))
    ∷ []

-- every row holds
infixr 5 ◌and◌
pub data AllSay : List Row → Type 0 where
  done : AllSay []
  ◌and◌ : {r : Row} {rs : List Row} → Says r.limits r.nodes r.answer → AllSay rs → AllSay (r ∷ rs)
