-- What a file says that is a net: the limits at its front, and its nodes, each judged.
use Rattle.std.specs.Prelude.{Ok, Err, Result}
use Rattle.rules.specs.declared.Refusal.{Refusal}
use Prim.Native.Nat.{ℕ, suc, ◌≤◌}
use native.Mathlib.Omega.{arith}
use mathlib.Core.Path.{◌≡◌, refl, sym, ap, ◌∙◌}
use mathlib.Core.List.{List, ◌∷◌}
use lib.ListN.{length}
use Rattle.rules.specs.declared.Limits.{Limits}
use Rattle.rules.specs.Judged.{Judged}
use Rattle.rules.specs.Figures.{most_places}
use Rattle.rules.specs.Net.{Net, places}
use Rattle.rules.proofs.Tests.{never}
use Rattle.field.specs.Format.{due_at}
use Rattle.net_file.specs.NetFile.{front_of, nodes_of, source, fields_judged, read, when_sound, net_with, fields_of, net_from, from_front, net_of}
use Rattle.net_file.proofs.Nodes.{places_are}
use Rattle.net_file.proofs.FieldsJudged.{fields_few}

pub record WasRead (s : List ℕ) (n : Net) : Type 0 where
  pub front : front_of (due_at 1 s 0) ≡ Ok n.limits
  pub is : n ≡ net_with n.limits (fields_of s)
  pub sound : fields_judged n (length s) 1 (fields_of s) ≡ Ok tt

was_sound : (j : Judged) (n m : Net) → when_sound j n ≡ read m → (j ≡ Ok tt) × (n ≡ m)
was_sound (Ok _) n m e = (refl, cc)
was_sound (Err r) n m e = never (cc)

pub was_read : (s : List ℕ) (n : Net) → net_of s ≡ read n → WasRead s n
unfolding net_of net_from
was_read s n e = by (front_of (due_at 1 s 0)) refl e
  where
    by : (f : Result Limits Refusal) → front_of (due_at 1 s 0) ≡ f → from_front s f ≡ read n → WasRead s n
    by (Err r) q h = never (cc)
    by (Ok l) q h =
        let (j, is) = was_sound (fields_judged (net_with l (fields_of s)) (length s) 1 (fields_of s)) (net_with l (fields_of s)) n h in
        let same : l ≡ n.limits = ap (λ (m : Net). m.limits) is in
        record { front = q ∙ ap Ok same; is = sym is ∙ ap (λ (x : Limits). net_with x (fields_of s)) same; sound = rw is at j }

-- one place for the source and one for each node, and so 1,025 at most
pub read_places_lem : {s : List ℕ} {n : Net} → WasRead s n → (places n ≡ suc (length (nodes_of (fields_of s)))) × (places n ≤ most_places)
read_places_lem {s} {n} w =
    let m : places n ≡ suc (length (nodes_of (fields_of s))) = ap places w.is ∙ places_are n.limits (source ∷ nodes_of (fields_of s)) in
    (m, omega (arith, m, fields_few n (length s) (fields_of s) w.sound))
