-- What `check` and `loads` say of the placement that two columns hold on a net: the first refusal (RULES 5.11, 5.12), or the text.
use Rattle.std.specs.Prelude.{ℕ, List, [], ◌++◌, length}
use Rattle.rules.specs.Net.{Net}
use Rattle.rules.specs.Load.{entries, offsets_on, driven, source_drives}
use Rattle.rules.specs.Checked.{checked}
use Rattle.standing.specs.Stands.{begun}
use Rattle.answer.specs.Text.{legal, count_line, source_line, loads_text}
use Rattle.reply.specs.Said.{Said, answered, or_refusal}

-- `legal N` and `source drives L`
abbrev pub legal_text : Net → List ℕ → List ℕ → List ℕ
legal_text n ws os = count_line legal (length ws) ++ source_line (source_drives n (offsets_on (entries ws os)))

abbrev pub check_said : Net → List ℕ → List ℕ → Said
check_said n ws os = or_refusal (checked n ws os) (answered (legal_text n ws os) [])

-- a line for each entry with what it drives, and `source drives L`: for an overloaded placement too
abbrev pub driven_text : Net → List ℕ → List ℕ → List ℕ
driven_text n ws os = loads_text ws os (driven n (offsets_on (entries ws os))) (source_drives n (offsets_on (entries ws os)))

abbrev pub loads_said : Net → List ℕ → List ℕ → Said
loads_said n ws os = or_refusal (begun n ws os) (answered (driven_text n ws os) [])
