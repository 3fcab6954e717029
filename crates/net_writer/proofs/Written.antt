-- What the writer says on its three ways out, from what the judge of the columns answered.
use Rattle.std.specs.Prelude.{Ok}
use Prim.Native.Nat.{ℕ, ◌≤◌}
use native.Mathlib.Omega.{arith}
use mathlib.Core.Path.{◌≡◌}
use mathlib.Core.List.{List}
use lib.ListN.{length}
use lib.Seq.{sets}
use borrow.Author.Tests.{le-ltb}
use Rattle.rules.specs.Net.{Net}
use Rattle.rules.specs.Judge.{judged}
use Rattle.rules.specs.Sound.{SoundNet}
use Rattle.net.specs.Counted.{Level}
use Rattle.rules.proofs.SoundSays.{sound_says}
use Rattle.net_file.specs.NetFile.{net_bytes, WroteNet}

-- the columns of a sound net are level
pub level : {n : Net} → judged n ≡ Ok tt → Level n
level {n} e =
    let s : SoundNet n = sound_says n e in
    record { some = s.some; few = s.few; wires = s.wires_long; kinds = s.kinds_long; pins = s.pins_long; polarities = s.polarities_long }

pub wrote_net : {n : Net} {out more : List ℕ} {size : ℕ} → judged n ≡ Ok tt → size ≡ length (net_bytes n) → size ≤ length out → more ≡ sets out 0 (net_bytes n) → WroteNet n out more (Ok size)
wrote_net {n} {out} e h le q = let t = le-ltb (length out) (length (net_bytes n)) (omega arith) in record { answer = rw (e, t, h); buffer = rw (e, t) q }
