-- What the judge of a file tells and leaves, on its ways out.
use Rattle.std.specs.Prelude.{Err, Result}
use Prim.Native.Nat.{ℕ}
use mathlib.Core.Path.{◌≡◌, ap, ◌∙◌}
use mathlib.Core.List.{List}
use Rattle.rules.specs.declared.Limits.{Limits}
use Rattle.rules.specs.declared.Refusal.{Refusal}
use Rattle.rules.specs.Net.{Net}
use Rattle.rules.proofs.Tests.{never}
use Rattle.net_file.specs.declared.NetRead.{NetRead}
use Rattle.net_file.specs.NetFile.{read_as, Outcome}
use Rattle.net_scan.specs.Kept.{tells, blank, JudgedFile}
use Rattle.net_scan.proofs.Filling.{laid_from}

pub refused_file : {s : List ℕ} {o : Outcome} {left : Net} {x : Refusal} → Err x ≡ tells o → JudgedFile s o left (Err x)
refused_file e = record { told = e; kept = λ l m h. never (cc) }

pub sound_file : {s : List ℕ} {o : Outcome} {own left : Net} {l : Limits} {m : ℕ} → read_as l m ≡ tells o → own ≡ blank → left ≡ laid_from own 1 1025 s 12 → JudgedFile s o left (read_as l m)
sound_file {s} e b q = record { told = e; kept = λ l m h. q ∙ ap (λ (n : Net). laid_from n 1 1025 s 12) b }

pub file_judged_lem : {s : List ℕ} {o o' : Outcome} {left : Net} {r : Result NetRead Refusal} → o ≡ o' → JudgedFile s o left r → JudgedFile s o' left r
file_judged_lem e j = record { told = j.told ∙ ap tells e; kept = j.kept }
