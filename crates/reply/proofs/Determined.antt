-- Two replies that say the same are equal, and so are the texts and the files that go with them.
use mathlib.Core.Path.{◌≡◌, refl, sym, ap, ◌∙◌}
use mathlib.Core.List.{List}
use Prim.Native.Nat.{ℕ}
use native.Mathlib.Omega.{arith}
use lib.ListN.{length, take}
use Rattle.reply.specs.declared.Reply.{Reply}
use Rattle.reply.specs.declared.Status.{Status}
use Rattle.reply.specs.declared.Status.TheVariants.{Answered, Refused}
use Rattle.reply.specs.Said.{Said, Shows, Replies, byte_of}

as_long : {text a b : List ℕ} {r q : ℕ} → Shows text a r → Shows text b q → r ≡ q
as_long s t = s.counted ∙ ap length (s.is ∙ sym t.is) ∙ sym t.counted

same_status : (a b : Status) → byte_of a ≡ byte_of b → a ≡ b
same_status Answered Answered e = refl
same_status Answered Refused e = absurd (omega arith)
same_status Refused Answered e = absurd (omega arith)
same_status Refused Refused e = refl

abbrev of : ℕ → ℕ → Status → Reply
of text file status = record { text = text; file = file; status = status }

same_reply : (r q : Reply) → r.text ≡ q.text → r.file ≡ q.file → r.status ≡ q.status → r ≡ q
same_reply r q a b c =
    ap (λ (k : ℕ). of k r.file r.status) a ∙ ap (λ (k : ℕ). of q.text k r.status) b ∙ ap (of q.text q.file) c

pub replies_determined : {s : Said} {a b f g : List ℕ} {r q : Reply} → Replies s a f r → Replies s b g q
    → (r ≡ q) × (take r.text a ≡ take q.text b) × (take r.file f ≡ take q.file g)
replies_determined {r = r} {q = q} x y =
    let same = same_reply r q (as_long x.text y.text) (as_long x.file y.file) (same_status r.status q.status (x.status ∙ sym y.status)) in
    (same, x.text.is ∙ sym y.text.is, x.file.is ∙ sym y.file.is)
