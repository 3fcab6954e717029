-- What the checker's verdict and the list of loads say of the judgement that decides the reply.
use Rattle.std.specs.Prelude.{Result, Ok, Err}
use Prim.Native.Nat.{ℕ, ◌≤◌}
use native.Mathlib.Omega.{arith}
use mathlib.Core.Path.{◌≡◌, refl, sym, ap, ◌∙◌}
use mathlib.Core.List.{List}
use lib.ListN.{length, take}
use lib.Seq.{length-sets}
use borrow.Author.Tests.{le-leb}
use Rattle.rules.specs.Judged.{Judged}
use Rattle.rules.specs.Figures.{most_entries}
use Rattle.rules.specs.Net.{Net}
use Rattle.rules.specs.Load.{entries, offsets_on, driven, source_drives}
use Rattle.rules.specs.Checked.{checked}
use Rattle.load.specs.Asks.{Placed}
use Rattle.load.proofs.Wire.{driven_length}
use Rattle.standing.specs.Stands.{begun}
use Rattle.standing.proofs.Begun.{begun_says}
use Rattle.load.specs.declared.Weighed.{Weighed}
use Rattle.checker.specs.Verdict.{Verdict, verdict_of, verdict}
use Rattle.checker.proofs.VerdictSays.{verdict_legal}
use Rattle.listing.specs.Listing.{Listed, listed_of, list_judged, column_after, ListedIs}
use Rattle.answer.specs.Text.{loads_text}
use Rattle.placement_file.proofs.SamePlacement.{stored}
use Rattle.check_reply.specs.Checks.{driven_text}

ok_same : {A E : Type 0} {x y : A} → ◌≡◌ {A = Result A E} (Ok x) (Ok y) → x ≡ y
ok_same e = cc

-- ---- the checker

module _ (n : Net) (ws os : List ℕ) {v : Verdict} (is : v ≡ verdict n ws os) where
  abbrev told : Judged → Verdict
  told j = verdict_of j (length ws) (source_drives n (offsets_on (entries ws os)))

  pub check_passes : (w : Weighed) → v ≡ Ok w → (checked n ws os ≡ Ok tt) × (w.count ≡ length ws) × (w.source ≡ source_drives n (offsets_on (entries ws os)))
  check_passes w e =
      let s = verdict_legal (checked n ws os) (length ws) (source_drives n (offsets_on (entries ws os))) w.count w.source (sym is ∙ e) in
      let q : Ok w ≡ told (Ok tt) = sym e ∙ is ∙ ap told s in
      (s, ap (λ (x : Weighed). x.count) (ok_same q), ap (λ (x : Weighed). x.source) (ok_same q))

-- ---- the list of loads

-- a placement that stands is listed: its loads, as many as its entries, at the front of the column
pub record ListedAt (n : Net) (ws os after : List ℕ) (count source : ℕ) : Type 0 where
  pub begins : begun n ws os ≡ Ok tt
  pub placed : Placed n ws os
  pub counted : count ≡ length ws
  pub sourced : source ≡ source_drives n (offsets_on (entries ws os))
  pub loads : take count after ≡ driven n (offsets_on (entries ws os))
  pub long : length (take count after) ≡ length ws
  pub room : count ≤ length after

pub listed_text : {n : Net} {ws os after : List ℕ} {count source : ℕ} → ListedAt n ws os after count source
    → loads_text ws os (take count after) source ≡ driven_text n ws os
listed_text l = rw (l.loads, l.sourced)

module _ (n : Net) (ws os before : List ℕ) {after : List ℕ} {r : Listed} (is : ListedIs n ws os before r after) (wide : most_entries ≤ length before) where
  abbrev said : Judged → Listed
  said j = listed_of j (length ws) (source_drives n (offsets_on (entries ws os)))

  fits : begun n ws os ≡ Ok tt → list_judged n ws os (length before) ≡ Ok tt
  fits e = rw (e, le-leb (length ws) (length before) (omega (arith, (begun_says n ws os (begun n ws os) refl e).few)))

  pub list_passes : (w : Weighed) → r ≡ Ok w → ListedAt n ws os after w.count w.source
  list_passes w e = go (begun n ws os) refl
    where
      go : (j : Judged) → begun n ws os ≡ j → ListedAt n ws os after w.count w.source
      go (Ok _) b =
          let p = begun_says n ws os (begun n ws os) refl b in
          let loads = driven n (offsets_on (entries ws os)) in
          let q = ok_same (sym e ∙ is.answer ∙ ap said (fits b)) in
          let column = is.column ∙ ap (λ (k : Judged). column_after k before loads) (fits b) in
          let many : w.count ≡ length ws = ap (λ (x : Weighed). x.count) q in
          let same : length loads ≡ length ws = driven_length p in
          let front : take w.count after ≡ loads = stored before loads column (many ∙ sym same) (omega (arith, p.few)) in
          record {
            begins = b;
            placed = p;
            counted = many;
            sourced = ap (λ (x : Weighed). x.source) q;
            loads = front;
            long = ap length front ∙ same;
            room = omega (arith, ap length column ∙ length-sets before 0 loads, p.few);
          }
      go (Err x) b = absurd (let q = sym e ∙ (rw b at is.answer) in let z : ◌≡◌ {A = ℕ} 0 1 = cc in omega arith)
