-- The lines of an audit after a record's name (RULES 11), and what each says was found.
use Rattle.std.specs.Prelude.{ℕ, ◌≡◌, List, [], ◌∷◌, ◌++◌, eqb}
use Rattle.rules.specs.declared.Refusal.{Refusal}
use Rattle.rules.specs.Choose.{pick}
use Rattle.answer.specs.Text.{refused_by, pair_line, end}
use Rattle.reply.specs.Said as said
use Rattle.reply.specs.Said.{Shows}
use Rattle.tally.specs.declared.Found.{Found}
use Rattle.tally.specs.declared.Found.TheVariants as found
use Rattle.tally.specs.Tallied.{least_word}
use Rattle.audit_line.specs.declared.Audited.{Audited}
use Rattle.audit_line.specs.declared.Missing.{Missing}
use Rattle.audit_line.specs.declared.Missing.TheVariants.{NoNet, NetUnreadable, NoPlacement, PlacementUnreadable}

-- ": "
abbrev pub colon : List ℕ
colon = 58 ∷ 32 ∷ []

-- ": net "
abbrev pub net_word : List ℕ
net_word = 58 ∷ 32 ∷ said.net

-- ": placement "
abbrev pub placement_word : List ℕ
placement_word = 58 ∷ 32 ∷ said.placement

-- ": legal "
abbrev pub legal_word : List ℕ
legal_word = 58 ∷ 32 ∷ 108 ∷ 101 ∷ 103 ∷ 97 ∷ 108 ∷ 32 ∷ []

-- whether a count is the least
abbrev pub found_legal : ℕ → ℕ → Found
found_legal count least = pick (eqb count least) found.Least found.Legal

-- room for every line after the name
abbrev pub most_line : ℕ
most_line = 128

-- ---- a file that is not there, or that cannot be read to its end

-- "no "
abbrev pub no : List ℕ
no = 110 ∷ 111 ∷ 32 ∷ []

-- "file"
abbrev pub file : List ℕ
file = 102 ∷ 105 ∷ 108 ∷ 101 ∷ []

-- " unreadable"
abbrev pub unreadable : List ℕ
unreadable = 32 ∷ 117 ∷ 110 ∷ 114 ∷ 101 ∷ 97 ∷ 100 ∷ 97 ∷ 98 ∷ 108 ∷ 101 ∷ []

abbrev pub missing_text : Missing → List ℕ
missing_text NoNet = colon ++ no ++ said.net ++ file ++ end
missing_text NetUnreadable = net_word ++ file ++ unreadable ++ end
missing_text NoPlacement = colon ++ no ++ said.placement ++ file ++ end
missing_text PlacementUnreadable = placement_word ++ file ++ unreadable ++ end

-- ---- as they are handed over

pub record RefusedSays (word : List ℕ) (why : Refusal) (texts : List ℕ) (r : Audited) : Type 0 where
  pub shows : Shows (refused_by word why) texts r.bytes
  pub found : r.found ≡ found.Refused

pub record LegalSays (count least : ℕ) (texts : List ℕ) (r : Audited) : Type 0 where
  pub shows : Shows (pair_line legal_word count least_word least) texts r.bytes
  pub found : r.found ≡ found_legal count least
