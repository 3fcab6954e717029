-- What was read of an input.
use Rattle.std.specs.Prelude.{ℕ, ◌<◌, ◌≡◌, List, length, get_or, take, Option, None, Some, Result, Ok, Err, ⊤}
use Rattle.std.specs.Io.KnownBytes.{ReadConsumes}

-- the bytes that were read
abbrev pub count_of : {E : Type 0} → Result ℕ E → ℕ
count_of (Ok count) = count
count_of (Err _) = 0

-- The first `count` places of a buffer hold what was read of an input s: all its bytes, or as many as the buffer has places.
pub record ReadOf (s buffer : List ℕ) (count : ℕ) : Type 0 where
  pub bytes : (k : ℕ) → get_or s k 0 < 256
  pub front : take count buffer ≡ take (length buffer) s

-- One read of a reader whose bytes are known: those that it had left begin with what was put at the buffer's front, and lose it, and
-- nothing was put into a buffer with room only where none was left. A read that failed takes none.
abbrev pub TakesOnce : {E : Type 0} → Option (List ℕ) → Option (List ℕ) → Result ℕ E → List ℕ → Type 0
TakesOnce old new read buffer = ReadConsumes old new read buffer

-- Reads of a reader whose bytes are known fill the buffer's front with them: with all, or with as many as the buffer has places.
abbrev pub TakesFront : {E : Type 0} → Option (List ℕ) → Result ℕ E → List ℕ → Type 0
TakesFront None read buffer = ⊤
TakesFront (Some s) (Ok count) buffer = take count buffer ≡ take (length buffer) s
TakesFront (Some s) (Err _) buffer = ⊤
