-- The file of given and added entries: they are joined in two columns, which hold the whole and are fit to be written.
use Prim.Native.Nat.{ℕ, ◌+◌, ◌≤◌, ◌<◌}
use native.Mathlib.Omega.{arith}
use mathlib.Core.Path.{◌≡◌, sym, ap, subst, ◌∙◌}
use mathlib.Core.List.{List, [], ◌∷◌, map}
use lib.ListN.{length, take, length-map}
use borrow.Author.Tests.{le-leb, lt-leb}
use Rattle.rules.specs.declared.Entry.{Entry}
use Rattle.rules.specs.Figures.{most_entries}
use Rattle.rules.specs.Net.{Net}
use Rattle.rules.specs.Load.{entries}
use Rattle.rules.specs.Legal.{InOrder, start}
use Rattle.rules.specs.Complete.{Completes}
use Rattle.rules.specs.Sound.{SoundNet}
use Rattle.rules.proofs.Completing.{joins_length}
use Rattle.placement_file.specs.File.{wire, offset, placement, columns_of, placement_bytes}
use Rattle.placement_file.proofs.RoundTrip.{Placed}
use Rattle.placement_file.proofs.SamePlacement.{stored}
use Rattle.joining.specs.Joined.{Rising, JoinedIn}
use Rattle.joining.proofs.Joining.{entries_long}
use Rattle.reply.specs.Said.{Shows}
use Rattle.reply.proofs.Showing.{nothing}
use Rattle.reply.proofs.Writing.{stands_placed, columns_fit_lem}
use Rattle.finish_reply.specs.Finishes.{file_of}
use Rattle.finish_reply.specs.Steps.{ShowsWhole}

-- ---- the file of a placement, by its length

pub file_some : (p : List Entry) → length p ≤ most_entries → file_of p ≡ placement_bytes p
file_some p h = rw (le-leb (length p) most_entries h)

file_none : (p : List Entry) → most_entries < length p → file_of p ≡ []
file_none p h = rw (lt-leb (length p) most_entries h)

rising : (n : Net) (d : Entry) (p : List Entry) → InOrder n d p → Rising d p
rising n d [] o = tt
rising n d (e ∷ es) o = (o.0, rising n e es o.2)

-- what stands in the first m places of two columns is fit to be written
pub record Fit (m : ℕ) (ws os : List ℕ) : Type 0 where
  pub wires : m ≡ length (take m ws)
  pub offsets : m ≡ length (take m os)
  pub columns : columns_of (take m ws) (take m os) ≡ placement (entries (take m ws) (take m os))
  pub few : length (entries (take m ws) (take m os)) ≤ most_entries

module _ (gw go aw ao : List ℕ) (even-given : length go ≡ length gw) (even-added : length ao ≡ length aw) where
  whole_long : (n : Net) (c : Completes n (entries gw go) (entries aw ao)) → length c.whole ≡ length gw + length aw
  whole_long n c = joins_length c.joins ∙ omega (arith, entries_long gw go even-given, entries_long aw ao even-added)

  -- too many for a file
  pub too_many : most_entries < length gw + length aw → (files : List ℕ) → ShowsWhole gw go aw ao files 0
  too_many h files n sound c = rw (file_none c.whole (omega (arith, whole_long n c))) (nothing files)

  -- the whole in the first places of two columns
  module _ (ws os : List ℕ) {ws' os' : List ℕ} (few : length gw + length aw ≤ most_entries) (room-wires : length ws ≡ most_entries) (room-offsets : length os ≡ most_entries) (j : JoinedIn gw go aw ao ws os ws' os') where
    record Here (whole : List Entry) : Type 0 where
      placed : Placed whole
      in_wires : take (length gw + length aw) ws' ≡ map wire whole
      in_offsets : take (length gw + length aw) os' ≡ map offset whole
      long : length whole ≡ length gw + length aw
      is : entries (take (length gw + length aw) ws') (take (length gw + length aw) os') ≡ whole
      columns : columns_of (take (length gw + length aw) ws') (take (length gw + length aw) os') ≡ placement whole

    here : (n : Net) → SoundNet n → (c : Completes n (entries gw go) (entries aw ao)) → Here c.whole
    here n sound c =
        let long = whole_long n c in
        let holds = j c.whole c.joins (rising n start c.whole c.legal.stands) in
        let p = stands_placed start c.whole sound c.legal.stands (omega arith) in
        let w = stored ws (map wire c.whole) {n = length gw + length aw} holds.wires (omega (arith, length-map c.whole wire)) (omega (arith, length-map c.whole wire)) in
        let o = stored os (map offset c.whole) {n = length gw + length aw} holds.offsets (omega (arith, length-map c.whole offset)) (omega (arith, length-map c.whole offset)) in
        let f = columns_fit_lem (take (length gw + length aw) ws') (take (length gw + length aw) os') c.whole w o p in
        record { placed = p; in_wires = w; in_offsets = o; long = long; is = f.0; columns = f.1 }

    pub fit : (n : Net) → SoundNet n → Completes n (entries gw go) (entries aw ao) → Fit (length gw + length aw) ws' os'
    fit n sound c =
        let h = here n sound c in
        record {
          wires = sym (ap length h.in_wires ∙ length-map c.whole wire ∙ h.long);
          offsets = sym (ap length h.in_offsets ∙ length-map c.whole offset ∙ h.long);
          columns = h.columns ∙ ap placement (sym h.is);
          few = omega (arith, ap length h.is, h.long);
        }

    pub written : {files : List ℕ} {size : ℕ} → Shows (placement_bytes (entries (take (length gw + length aw) ws') (take (length gw + length aw) os'))) files size → ShowsWhole gw go aw ao files size
    written {files} {size} s n sound c =
        let h = here n sound c in
        subst (λ (bytes : List ℕ). Shows bytes files size) (ap placement_bytes h.is ∙ sym (file_some c.whole (omega (arith, h.long)))) s
