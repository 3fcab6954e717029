-- The tally of an audit (RULES 11): how many records were found least, legal, refused and unread, the line that says it, and the status.
use Rattle.std.specs.Prelude.{ℕ, ◌+◌, ◌≡◌, List, [], ◌∷◌, ◌++◌, length, eqb}
use Rattle.rules.specs.Choose.{pick, both}
use Rattle.answer.specs.Text.{said, end}
use Rattle.tally.specs.declared.Found.{Found}
use Rattle.tally.specs.declared.Found.TheVariants.{Least, Legal, Refused, Unread}
use Rattle.tally.specs.declared.Tally.{Tally}

-- 1 for a record that was found so
abbrev pub if_least : Found → ℕ
if_least Least = 1
if_least Legal = 0
if_least Refused = 0
if_least Unread = 0

abbrev pub if_legal : Found → ℕ
if_legal Least = 0
if_legal Legal = 1
if_legal Refused = 0
if_legal Unread = 0

abbrev pub if_refused : Found → ℕ
if_refused Least = 0
if_refused Legal = 0
if_refused Refused = 1
if_refused Unread = 0

abbrev pub if_unread : Found → ℕ
if_unread Least = 0
if_unread Legal = 0
if_unread Refused = 0
if_unread Unread = 1

-- what a number of each record comes to
unfoldable pub sum_of : (Found → ℕ) → List Found → ℕ
sum_of one [] = 0
sum_of one (f ∷ fs) = one f + sum_of one fs

-- the tally of what was found, record by record
abbrev pub tally_of : List Found → Tally
tally_of fs = record { records = length fs; least = sum_of if_least fs; legal = sum_of if_legal fs; refused = sum_of if_refused fs; unread = sum_of if_unread fs }

-- one record more
abbrev pub counted : Tally → Found → Tally
counted t f = record { records = t.records + 1; least = t.least + if_least f; legal = t.legal + if_legal f; refused = t.refused + if_refused f; unread = t.unread + if_unread f }

-- each record is counted once
abbrev pub Sums : Tally → Type 0
Sums t = t.records ≡ t.least + t.legal + t.refused + t.unread

pub record Counts (t : Tally) (f : Found) (r : Tally) : Type 0 where
  pub is : r ≡ counted t f
  pub sums : Sums r
  pub records : r.records ≡ t.records + 1

-- "records "
abbrev pub records_word : List ℕ
records_word = 114 ∷ 101 ∷ 99 ∷ 111 ∷ 114 ∷ 100 ∷ 115 ∷ 32 ∷ []

-- " least "
abbrev pub least_word : List ℕ
least_word = 32 ∷ 108 ∷ 101 ∷ 97 ∷ 115 ∷ 116 ∷ 32 ∷ []

-- " legal "
abbrev pub legal_word : List ℕ
legal_word = 32 ∷ 108 ∷ 101 ∷ 103 ∷ 97 ∷ 108 ∷ 32 ∷ []

-- " refused "
abbrev pub refused_word : List ℕ
refused_word = 32 ∷ 114 ∷ 101 ∷ 102 ∷ 117 ∷ 115 ∷ 101 ∷ 100 ∷ 32 ∷ []

-- " unread "
abbrev pub unread_word : List ℕ
unread_word = 32 ∷ 117 ∷ 110 ∷ 114 ∷ 101 ∷ 97 ∷ 100 ∷ 32 ∷ []

-- `records R least A legal B refused C unread D`
unfoldable pub tally_line : Tally → List ℕ
tally_line t = ((((said records_word t.records ++ said least_word t.least) ++ said legal_word t.legal) ++ said refused_word t.refused) ++ said unread_word t.unread) ++ end

-- room for it
abbrev pub most_tally : ℕ
most_tally = 160

-- "0" where every record is legal, else "1"
abbrev pub status_of : Tally → ℕ
status_of t = pick (both (eqb t.refused 0) (eqb t.unread 0)) 48 49

-- every record is legal
abbrev pub AllLegal : List Found → Type 0
AllLegal [] = Unit {0}
AllLegal (f ∷ fs) = (if_refused f ≡ 0) × (if_unread f ≡ 0) × AllLegal fs
