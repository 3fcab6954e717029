-- How many bytes of a name, or of a file, stand in the buffer.
use Rattle.std.specs.Prelude.{ℕ, Option, None, Some, Result, Ok, Err}
use Rattle.names.specs.declared.NoName.{NoName}
use Rattle.names.specs.declared.NoFile.{NoFile}

abbrev pub size_of : Result (Option ℕ) NoName → ℕ
size_of (Ok (Some n)) = n
size_of (Ok None) = 0
size_of (Err _) = 0

abbrev pub bytes_of : Result ℕ NoFile → ℕ
bytes_of (Ok n) = n
bytes_of (Err _) = 0
