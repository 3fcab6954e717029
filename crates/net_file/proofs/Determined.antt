-- Two answers that meet a call's contract are equal, and so are the columns or the bytes that two calls leave (RULES 6.4); a refusal leaves them as they came.
use Rattle.std.specs.Prelude.{Ok, Err, Result}
use Prim.Native.Nat.{ℕ}
use mathlib.Core.Path.{◌≡◌, refl, sym, ◌∙◌}
use mathlib.Core.Bool.{Bool, true, false}
use mathlib.Core.List.{List}
use lib.ListN.{length}
use lib.Seq.{sets}
use lib.Dec.{ltb}
use Rattle.rules.specs.declared.Refusal.{Refusal}
use Rattle.rules.specs.declared.Refusal.TheVariants.{NoRoom}
use Rattle.rules.specs.Judged.{Judged}
use Rattle.rules.proofs.Tests.{never}
use Rattle.rules.specs.Choose.{pick}
use Rattle.rules.specs.Net.{Net, places}
use Rattle.rules.specs.Judge.{judged}
use Rattle.net_file.specs.declared.NetRead.{NetRead}
use Rattle.net_file.specs.NetFile.{read_as, Outcome, read, refused, net_of, room, laid_over, answered, filled, ReadNet, net_bytes, written, left_in, WroteNet}

pub read_net_determined : {s : List ℕ} {lent left left' : Net} {r r' : Result NetRead Refusal} → ReadNet s lent left r → ReadNet s lent left' r' → (r ≡ r') × (left ≡ left')
read_net_determined a b = (a.answer ∙ sym b.answer, a.columns ∙ sym b.columns)

pub write_net_determined : {n : Net} {out left left' : List ℕ} {r r' : Result ℕ Refusal} → WroteNet n out left r → WroteNet n out left' r' → (r ≡ r') × (left ≡ left')
write_net_determined a b = (a.answer ∙ sym b.answer, a.buffer ∙ sym b.buffer)

-- ---- what a refusal leaves: RULES 4.2

filled_not : (lent : Net) (o : Outcome) (x : Refusal) → Err x ≡ answered (room lent) o → filled lent o ≡ lent
filled_not lent (refused r) x e = refl
filled_not lent (read n) x e = by (ltb (room lent) (places n)) e
  where
    by : (b : Bool) → Err x ≡ pick b (Err (NoRoom (places n))) (read_as n.limits (places n)) → pick b lent (laid_over lent 0 n) ≡ lent
    by true h = refl
    by false h = never (cc)

pub not_read : {s : List ℕ} {lent left : Net} {x : Refusal} → ReadNet s lent left (Err x) → left ≡ lent
not_read {s} {lent} {left} {x} a = a.columns ∙ filled_not lent (net_of s) x a.answer

left_not : (j : Judged) (bs out : List ℕ) (x : Refusal) → Err x ≡ written j bs out → left_in j bs out ≡ out
left_not (Err r) bs out x e = refl
left_not (Ok _) bs out x e = by (ltb (length out) (length bs)) e (sets out 0 bs)
  where
    by : (b : Bool) → Err x ≡ pick b (Err (NoRoom (length bs))) (Ok (length bs)) → (more : List ℕ) → pick b out more ≡ out
    by true h more = refl
    by false h more = never (cc)

pub not_written : {n : Net} {out left : List ℕ} {x : Refusal} → WroteNet n out left (Err x) → left ≡ out
not_written {n} {out} {left} {x} a = a.buffer ∙ left_not (judged n) (net_bytes n) out x a.answer
