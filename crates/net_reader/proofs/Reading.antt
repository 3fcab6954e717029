-- What the reader says of a file that is a net, from what the judge of the file told: too few places are lent, or they are filled with the nodes that were judged.
use Rattle.std.specs.Prelude.{Err}
use Prim.Native.Nat.{ℕ, ◌<◌, ◌≤◌}
use native.Mathlib.Omega.{arith}
use mathlib.Core.Path.{◌≡◌, refl, sym, ap, ◌∙◌}
use mathlib.Core.List.{List, ◌∷◌, map}
use lib.ListN.{take, replicate, length-map, length-replicate}
use lib.Seq.{sets}
use borrow.Author.Tests.{lt-ltb, le-ltb}
use Rattle.rules.specs.declared.Limits.{Limits}
use Rattle.rules.specs.declared.Node.{Node}
use Rattle.rules.specs.declared.Refusal.TheVariants.{NoRoom}
use Rattle.rules.proofs.Tests.{never}
use Rattle.rules.specs.Figures.{most_places}
use Rattle.rules.specs.Net.{Net, places, unlimited}
use Rattle.net_file.proofs.ReadWrite.{front_is}
use Rattle.net_file.specs.NetFile.{first_places, read_as, nodes_of, columns_of, source, Outcome, read, refused, fields_of, net_of, room, laid_over, ReadNet}
use Rattle.net_scan.specs.Kept.{tells, blank, JudgedFile}
use Rattle.net_file.proofs.Said.{same_read}
use Rattle.net_file.proofs.WasRead.{WasRead, was_read, read_places_lem}

told_read : (o : Outcome) (l : Limits) (m : ℕ) → tells o ≡ read_as l m → (n : Net) × (o ≡ read n) × (places n ≡ m) × (n.limits ≡ l)
told_read (read n) l m e = let (l_is, m_is) = same_read e in (n, refl, m_is, l_is)
told_read (refused r) l m e = never (cc)

module _ {s : List ℕ} {own : Net} {l : Limits} {m : ℕ} (is : JudgedFile s (net_of s) own (read_as l m)) where
  -- it fits the reader's own columns
  pub read_few : m ≤ most_places
  read_few =
      let (n, o, h, k) = told_read (net_of s) l m (sym is.told) in
      let w : WasRead s n = was_read s n o in
      omega (arith, h, (read_places_lem w).1)

  module _ (lent : Net) where
    pub read_short : room lent < m → ReadNet s lent lent (Err (NoRoom m))
    read_short lt =
        let (n, o, h, k) = told_read (net_of s) l m (sym is.told) in
        let t = lt-ltb (room lent) (places n) (rw h lt) in
        record { answer = rw (o, t, h); columns = rw (o, t) }

    pub read_whole : m ≤ room lent → {left : Net} → left ≡ laid_over lent 0 (first_places m l own) → ReadNet s lent left (read_as l m)
    read_whole le {left} q =
        let (n, o, h, k) = told_read (net_of s) l m (sym is.told) in
        let w : WasRead s n = was_read s n o in
        let all : List Node = source ∷ nodes_of (fields_of s) in
        let t = le-ltb (room lent) (places n) (rw h le) in
        let same : own ≡ laid_over blank 0 (columns_of unlimited all) = is.kept l m refl in
        let zeros : List ℕ = replicate most_places 0 in
        let first : (f : Node → ℕ) → take m (sets zeros 0 (map f all)) ≡ map f all
        = λ f. front_is zeros (map f all) m (length-map all f ∙ sym (read_places_lem w).0 ∙ h) (omega (arith, read_few, length-replicate {A = ℕ} most_places 0)) in
        let mine : first_places m l own ≡ columns_of l all
        = ap (first_places m l) same ∙ rw (first (λ (d : Node). d.parent), first (λ (d : Node). d.wire), first (λ (d : Node). d.kind), first (λ (d : Node). d.pin), first (λ (d : Node). d.polarity)) in
        record {
          answer = rw (o, t, h, k);
          columns = rw (o, t) (q ∙ ap (laid_over lent 0) mine ∙ ap (laid_over lent 0) (sym w.is));
        }
