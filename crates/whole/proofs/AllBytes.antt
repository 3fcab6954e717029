-- What is said for the first bytes of the files is said for all of them.
use Prim.Native.Nat.{ℕ}
use native.Mathlib.Omega.{arith}
use mathlib.Core.Path.{◌≡◌, sym, ap, ◌∙◌}
use mathlib.Core.List.{List}
use lib.ListN.{length, take}
use Rattle.rules.specs.Net.{Net}
use Rattle.net_file.specs.NetFile.{net_of}
use Rattle.net_file.proofs.FirstBytes as net_bytes
use Rattle.placement_file.specs.File.{placement_of}
use Rattle.placement_file.proofs.FirstBytes as placement_bytes
use Rattle.input.specs.Input.{ReadOf}
use Rattle.reply.specs.declared.Reply.{Reply}
use Rattle.reply.specs.Said.{Said, Conveys}
use Rattle.replies.specs.Replies.{OfNet, OfPlacement}
use Rattle.replies.specs.Replies as of
use Rattle.audit_line.specs.declared.Audited.{Audited}
use Rattle.audit_reply.specs.Audits.{Audits, no_net, no_placement, both, AuditSays}
use Rattle.whole.specs.Whole.{NetHeld, PlacementHeld, Fits}

pub same_net : {s buffer : List ℕ} {count : ℕ} → NetHeld buffer count → ReadOf s buffer count → net_of (take count buffer) ≡ net_of s
same_net {s} {buffer} h r = ap net_of r.front ∙ net_bytes.first_bytes s (length buffer) r.bytes (omega (arith, h.1))

pub same_placement : {s buffer : List ℕ} {count : ℕ} → PlacementHeld buffer count → ReadOf s buffer count → placement_of (take count buffer) ≡ placement_of s
same_placement {s} {buffer} h r = ap placement_of r.front ∙ placement_bytes.first_bytes s (length buffer) r.bytes (omega (arith, h.1))

pub of_net : {word a b : List ℕ} {Then Then' : Net → Said → Type 0} {s : Said} → net_of a ≡ net_of b → ((n : Net) → Then n s → Then' n s) → OfNet word a Then s → OfNet word b Then' s
of_net e then (of.OfNet.unread r o t) = of.OfNet.unread r (sym e ∙ o) t
of_net e then (of.OfNet.read n o t) = of.OfNet.read n (sym e ∙ o) (then n t)

pub of_placement : {a b : List ℕ} {Then : List ℕ → List ℕ → Said → Type 0} {s : Said} → placement_of a ≡ placement_of b → OfPlacement a Then s → OfPlacement b Then s
of_placement e (of.OfPlacement.unread r o t) = of.OfPlacement.unread r (sym e ∙ o) t
of_placement e (of.OfPlacement.read p o t) = of.OfPlacement.read p (sym e ∙ o) t

pub conveyed : {A B : Said → Type 0} {texts files : List ℕ} {r : Reply} → ((s : Said) → A s → B s) → Conveys A texts files r → Conveys B texts files r
conveyed f c = record { said = c.said; right = f c.said c.right; replies = c.replies }

pub fits : {A : Said → Type 0} {texts files : List ℕ} {r : Reply} → Conveys A texts files r → Fits texts files r
fits c = (c.replies.text.within, c.replies.file.within)

pub audited : {a b p q texts : List ℕ} {r : Audited} → net_of a ≡ net_of b → placement_of p ≡ placement_of q → AuditSays a p texts r → AuditSays b q texts r
audited {a} {b} {p} {q} {r = r} e f c = record { text = c.text; is = all c.is; shows = c.shows }
  where
    all : Audits a p c.text r.found → Audits b q c.text r.found
    all (no_net x o t g) = no_net x (sym e ∙ o) t g
    all (no_placement n x o u t g) = no_placement n x (sym e ∙ o) (sym f ∙ u) t g
    all (both n es o u t) = both n es (sym e ∙ o) (sym f ∙ u) t
