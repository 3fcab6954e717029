-- The line of a record and what was found are determined by the bytes of its two files.
use Prim.Native.Nat.{ℕ}
use native.Mathlib.Omega.{arith}
use mathlib.Core.Path.{◌≡◌, sym, ap, ◌∙◌}
use mathlib.Core.List.{List, map}
use lib.ListN.{length}
use Rattle.rules.specs.declared.Entry.{Entry}
use Rattle.rules.specs.Net.{Net}
use Rattle.frontier.proofs.LeastCount.{one_least}
use Rattle.net_file.specs.NetFile as net_file
use Rattle.placement_file.specs.File as placement_file
use Rattle.placement_file.specs.File.{wire, offset}
use Rattle.answer.specs.Text.{refused_by, pair_line}
use Rattle.tally.specs.declared.Found.{Found}
use Rattle.tally.specs.Tallied.{least_word}
use Rattle.audit_line.specs.Lines.{colon, net_word, placement_word, legal_word, found_legal}
use Rattle.audit_reply.specs.Audits.{AuditsNet, refused, legal, Audits, no_net, no_placement, both}

net_same : {n : Net} {ws os t t' : List ℕ} {f f' : Found} → AuditsNet n ws os t f → AuditsNet n ws os t' f' → (t ≡ t') × (f ≡ f')
net_same (refused r c e g) (refused r' c' e' g') = let q : r ≡ r' = cc in (e ∙ ap (refused_by colon) q ∙ sym e', g ∙ sym g')
net_same (refused r c e g) (legal k c' l e' g') = absurd (let z : ◌≡◌ {A = ℕ} 0 1 = cc in omega arith)
net_same (legal k c l e g) (refused r c' e' g') = absurd (let z : ◌≡◌ {A = ℕ} 0 1 = cc in omega arith)
net_same {ws = ws} (legal k c l e g) (legal k' c' l' e' g') =
    let q = one_least l l' in
    (e ∙ ap (pair_line legal_word (length ws) least_word) q ∙ sym e', g ∙ ap (found_legal (length ws)) q ∙ sym g')

module _ (net placement : List ℕ) {t t' : List ℕ} {f f' : Found} where
  both_same : (n n' : Net) (es es' : List Entry) → net_file.net_of net ≡ net_file.read n → net_file.net_of net ≡ net_file.read n' → placement_file.placement_of placement ≡ placement_file.placement es → placement_file.placement_of placement ≡ placement_file.placement es'
      → AuditsNet n (map wire es) (map offset es) t f → AuditsNet n' (map wire es') (map offset es') t' f' → (t ≡ t') × (f ≡ f')
  both_same n n' es es' a a' b b' x y = let p : n ≡ n' = cc in let q : es ≡ es' = cc in net_same (rw (p, q) at x) y

module _ {net placement t t' : List ℕ} {f f' : Found} where
  pub determined : Audits net placement t f → Audits net placement t' f' → (t ≡ t') × (f ≡ f')
  determined (no_net r a e g) (no_net r' a' e' g') = let q : r ≡ r' = cc in (e ∙ ap (refused_by net_word) q ∙ sym e', g ∙ sym g')
  determined (no_net r a e g) (no_placement n r' a' b' e' g') = absurd (let z : ◌≡◌ {A = ℕ} 0 1 = cc in omega arith)
  determined (no_net r a e g) (both n es a' b' x) = absurd (let z : ◌≡◌ {A = ℕ} 0 1 = cc in omega arith)
  determined (no_placement n r a b e g) (no_net r' a' e' g') = absurd (let z : ◌≡◌ {A = ℕ} 0 1 = cc in omega arith)
  determined (no_placement n r a b e g) (no_placement n' r' a' b' e' g') = let q : r ≡ r' = cc in (e ∙ ap (refused_by placement_word) q ∙ sym e', g ∙ sym g')
  determined (no_placement n r a b e g) (both n' es a' b' x) = absurd (let z : ◌≡◌ {A = ℕ} 0 1 = cc in omega arith)
  determined (both n es a b x) (no_net r a' e g) = absurd (let z : ◌≡◌ {A = ℕ} 0 1 = cc in omega arith)
  determined (both n es a b x) (no_placement n' r a' b' e g) = absurd (let z : ◌≡◌ {A = ℕ} 0 1 = cc in omega arith)
  determined (both n es a b x) (both n' es' a' b' y) = both_same net placement n n' es es' a a' b b' x y
