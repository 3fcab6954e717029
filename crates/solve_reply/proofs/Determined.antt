-- Two replies that `solve` may give for the same bytes have the same status and files of the same length, and their texts are equal or both give the same least
-- count: which least placement is told is all that is left open.
use Prim.Native.Nat.{ℕ, ◌+◌, ◌*◌}
use native.Mathlib.Omega.{arith}
use mathlib.Core.Path.{◌≡◌, refl, sym, ap, ◌∙◌}
use mathlib.Core.List.{List, ◌++◌}
use lib.ListN.{length, take}
use Rattle.rules.specs.Net.{Net}
use Rattle.rules.specs.Load.{entries}
use Rattle.frontier.proofs.LeastCount.{one_least}
use Rattle.net_file.specs.NetFile.{read, net_of}
use Rattle.placement_file.specs.File.{placement_bytes}
use Rattle.placement_file.proofs.Listing.{length_entries}
use Rattle.placement_writer.proofs.Writing.{length_bytes}
use Rattle.answer.specs.Text.{least_line, answer_text}
use Rattle.reply.specs.declared.Reply.{Reply}
use Rattle.reply.specs.declared.Status.{Status}
use Rattle.reply.specs.declared.Status.TheVariants.{Answered, Refused}
use Rattle.reply.specs.Said.{byte_of, Conveys, Said}
use Rattle.solve_reply.specs.Solves.{SolvesNet, none, full, placed, Solves, unread, net}

pub data SameLeast (t t' : List ℕ) : Type 0 where
  same : t ≡ t' → SameLeast t t'
  counted : (k j : ℕ) (more more' : List ℕ) → k ≡ j → t ≡ least_line k ++ more → t' ≡ least_line j ++ more' → SameLeast t t'

pub record Agree (a b : Said) : Type 0 where
  pub text : SameLeast a.text b.text
  pub file : length a.file ≡ length b.file
  pub status : a.status ≡ b.status

equal : {a b : Said} → a ≡ b → Agree a b
equal e = record { text = same (ap (λ (s : Said). s.text) e); file = ap (λ (s : Said). length s.file) e; status = ap (λ (s : Said). s.status) e }

-- the file of a placement in two columns: its count, its entries, its end
file_size : (ws os : List ℕ) → length os ≡ length ws → length (placement_bytes (entries ws os)) ≡ 8 + 9 * length ws
file_size ws os e = length_bytes (entries ws os) ∙ ap (λ (k : ℕ). 8 + 9 * k) (length_entries ws os e)

net_agree : {n : Net} {a b : Said} → SolvesNet n a → SolvesNet n b → Agree a b
unfolding answer_text
net_agree (none x e) (none y f) = equal (e ∙ sym f)
net_agree (none x e) (full k l m f) = absurd (x l.placement l.legal)
net_agree (none x e) (placed ws os p q legal l f) = absurd (x l.placement l.legal)
net_agree (full k l m e) (none y f) = absurd (y l.placement l.legal)
net_agree (full k l m e) (full j i h f) = let q = one_least l i in equal (cc)
net_agree (full k l m e) (placed ws os p q legal i f) = absurd (omega (arith, one_least l i))
net_agree (placed ws os p q legal l e) (none y f) = absurd (y l.placement l.legal)
net_agree (placed ws os p q legal l e) (full k i m f) = absurd (omega (arith, one_least l i))
net_agree (placed ws os p q legal l e) (placed vs us r t legal' i f) =
    record {
      text = counted (length ws) (length vs) _ _ (one_least l i) (ap (λ (s : Said). s.text) e) (ap (λ (s : Said). s.text) f);
      file = rw (e, f) (file_size ws os p ∙ ap (λ (k : ℕ). 8 + 9 * k) (one_least l i) ∙ sym (file_size vs us r));
      status = rw (e, f);
    }

agree_read : (s : List ℕ) {a b : Said} (n m : Net) → net_of s ≡ read n → net_of s ≡ read m → SolvesNet n a → SolvesNet m b → Agree a b
agree_read s n m e f p q = let h : n ≡ m = cc in net_agree (rw h at p) q

pub agree : {s : List ℕ} {a b : Said} → Solves s a → Solves s b → Agree a b
agree (unread r e f) (unread w g h) = let q : r ≡ w = cc in equal (cc)
agree (unread r e f) (net n g p) = absurd (let z : ◌≡◌ {A = ℕ} 0 1 = cc in omega arith)
agree (net n g p) (unread r e f) = absurd (let z : ◌≡◌ {A = ℕ} 0 1 = cc in omega arith)
agree {s} (net n e p) (net m f q) = agree_read s n m e f p q

same_status : (a b : Status) → byte_of a ≡ byte_of b → a ≡ b
same_status Answered Answered e = refl
same_status Answered Refused e = absurd (omega arith)
same_status Refused Answered e = absurd (omega arith)
same_status Refused Refused e = refl

-- and as they are handed over
pub replies_agree : {s ts fs ts' fs' : List ℕ} {r r' : Reply} → Conveys (Solves s) ts fs r → Conveys (Solves s) ts' fs' r'
    → (r.status ≡ r'.status) × (r.file ≡ r'.file) × SameLeast (take r.text ts) (take r'.text ts')
replies_agree {s} {ts} {fs} {ts'} {fs'} {r} {r'} a b =
    let g = agree a.right b.right in
    let p = a.replies in
    let q = b.replies in (
      same_status r.status r'.status (p.status ∙ g.status ∙ sym q.status),
      p.file.counted ∙ ap length p.file.is ∙ g.file ∙ sym (ap length q.file.is) ∙ sym q.file.counted,
      rw (p.text.is, q.text.is) g.text,
    )
