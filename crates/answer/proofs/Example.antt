-- The example of RULES 7.7, by computing.
use mathlib.Core.Path.{◌≡◌, refl}
use mathlib.Core.List.{[], ◌∷◌}
use Rattle.answer.specs.Text.{higher, digits, said, count_line, pair_line, entry_line, entry_lines, loads_text, answer_text, refused_line}
use Rattle.rules.specs.declared.Refusal.TheVariants.{FileEnds}

-- "least 1", "wire 1 offset 6 drives 10", "source drives 10", each with its end
example : answer_text (1 ∷ []) (6 ∷ []) (10 ∷ []) 10 ≡
    108 ∷ 101 ∷ 97 ∷ 115 ∷ 116 ∷ 32 ∷ 49 ∷ 10 ∷
    119 ∷ 105 ∷ 114 ∷ 101 ∷ 32 ∷ 49 ∷ 32 ∷ 111 ∷ 102 ∷ 102 ∷ 115 ∷ 101 ∷ 116 ∷ 32 ∷ 54 ∷ 32 ∷ 100 ∷ 114 ∷ 105 ∷ 118 ∷ 101 ∷ 115 ∷ 32 ∷ 49 ∷ 48 ∷ 10 ∷
    115 ∷ 111 ∷ 117 ∷ 114 ∷ 99 ∷ 101 ∷ 32 ∷ 100 ∷ 114 ∷ 105 ∷ 118 ∷ 101 ∷ 115 ∷ 32 ∷ 49 ∷ 48 ∷ 10 ∷ []
unfolding answer_text loads_text entry_lines entry_line count_line said digits higher
example = refl

large : digits 18446744073709551615 ≡ 49 ∷ 56 ∷ 52 ∷ 52 ∷ 54 ∷ 55 ∷ 52 ∷ 52 ∷ 48 ∷ 55 ∷ 51 ∷ 55 ∷ 48 ∷ 57 ∷ 53 ∷ 53 ∷ 49 ∷ 54 ∷ 49 ∷ 53 ∷ []
unfolding digits higher
large = refl

-- that file without its last byte
cut : refused_line (FileEnds 26) ≡
    114 ∷ 101 ∷ 102 ∷ 117 ∷ 115 ∷ 101 ∷ 100 ∷ 32 ∷ 49 ∷ 32 ∷ 112 ∷ 108 ∷ 97 ∷ 99 ∷ 101 ∷ 32 ∷ 50 ∷ 54 ∷ 10 ∷ []
unfolding refused_line pair_line said digits higher
cut = refl
