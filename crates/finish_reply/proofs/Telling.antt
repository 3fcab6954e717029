-- What the finisher's answer says of the reply.
use Rattle.std.specs.Prelude.{Ok, Err, Result}
use Prim.Native.Nat.{ℕ, ◌≤◌}
use native.Mathlib.Omega.{arith}
use mathlib.Core.Path.{◌≡◌, refl, sym, ap, subst, ◌∙◌}
use mathlib.Core.List.{List, [], map}
use lib.ListN.{length, take, length-map}
use lib.Seq.{length-sets}
use Rattle.rules.specs.declared.Entry.{Entry}
use Rattle.rules.specs.declared.Refusal.{Refusal}
use Rattle.rules.specs.Judged.{Judged}
use Rattle.rules.specs.Figures.{most_entries}
use Rattle.rules.specs.Net.{Net}
use Rattle.rules.specs.Load.{entries}
use Rattle.rules.specs.Complete.{Completes, LeastAdded}
use Rattle.rules.specs.Sound.{SoundNet}
use Rattle.placement_file.specs.File.{wire, offset}
use Rattle.placement_file.proofs.RoundTrip.{entries_back}
use Rattle.placement_file.proofs.SamePlacement.{stored}
use Rattle.finish.specs.Answer.{half_judged, Outcome, none, full, finished, Answered}
use Rattle.finish.proofs.Judging.{half_sound}
use Rattle.answer.specs.Text.{counted_text}
use Rattle.reply.specs.declared.Reply.{Reply}
use Rattle.reply.specs.Said.{Conveys, Said, answered, refusal, Replies}
use Rattle.finish_reply.specs.Finishes.{added_word, file_of, FinishesBy, Finishes}
use Rattle.finish_reply.specs.Steps.{Completed, Tells}
use Rattle.finish_reply.specs.Finishes.{none as says_none, full as says-full, finished as says-finished}

-- k entries in the first places of two columns complete the given ones, and no fewer do
pub record Completing (n : Net) (gw go : List ℕ) (k : ℕ) (ws os : List ℕ) : Type 0 where
  pub judged : half_judged n gw go ≡ Ok tt
  pub least : LeastAdded n (entries gw go) k
  pub completes : Completes n (entries gw go) (entries (take k ws) (take k os))
  pub in_wires : k ≤ length ws
  pub in_offsets : k ≤ length os
  pub wires_taken : length (take k ws) ≡ k
  pub offsets_taken : length (take k os) ≡ k
  pub wires_back : take k ws ≡ map wire (entries (take k ws) (take k os))
  pub offsets_back : take k os ≡ map offset (entries (take k ws) (take k os))
  pub long : length (entries (take k ws) (take k os)) ≡ k
  pub few : k ≤ most_entries

module _ (n : Net) (gw go ws os : List ℕ) {ws' os' : List ℕ} {r : Result ℕ Refusal} (k : ℕ) (e : r ≡ Ok k) where
  by_outcome : half_judged n gw go ≡ Ok tt → Outcome n (entries gw go) ws os ws' os' r → Completing n gw go k ws' os'
  by_outcome j (none h f kept) = absurd (let z : ◌≡◌ {A = ℕ} 0 1 = cc in omega arith)
  by_outcome j (full m l o f kept) = absurd (let z : ◌≡◌ {A = ℕ} 0 1 = cc in omega arith)
  by_outcome j (finished a c l o f holds) =
      let m : k ≡ length a = cc in
      let lw : length (map wire a) ≡ length a = length-map a wire in
      let lo : length (map offset a) ≡ length a = length-map a offset in
      let w : take k ws' ≡ map wire a = stored ws (map wire a) holds.wires (m ∙ sym lw) (omega arith) in
      let p : take k os' ≡ map offset a = stored os (map offset a) holds.offsets (m ∙ sym lo) (omega arith) in
      let nw : length ws' ≡ length ws = ap length holds.wires ∙ length-sets ws 0 (map wire a) in
      let no : length os' ≡ length os = ap length holds.offsets ∙ length-sets os 0 (map offset a) in
      let is : entries (take k ws') (take k os') ≡ a = rw (w, p) (entries_back a) in
      record {
        judged = j;
        least = subst (λ (x : ℕ). LeastAdded n (entries gw go) x) (sym m) l;
        completes = subst (λ (x : List Entry). Completes n (entries gw go) x) (sym is) c;
        in_wires = omega arith;
        in_offsets = omega arith;
        wires_taken = ap length w ∙ lw ∙ sym m;
        offsets_taken = ap length p ∙ lo ∙ sym m;
        wires_back = w ∙ ap (map wire) (sym is);
        offsets_back = p ∙ ap (map offset) (sym is);
        long = ap length is ∙ sym m;
        few = omega arith;
      }

  pub completing : Answered (half_judged n gw go) n (entries gw go) ws os ws' os' r → Completing n gw go k ws' os'
  completing a = by (half_judged n gw go) refl a
    where
      by : (j : Judged) → half_judged n gw go ≡ j → Answered j n (entries gw go) ws os ws' os' r → Completing n gw go k ws' os'
      by (Ok _) q o = by_outcome q o
      by (Err x) q o = let f = o.0 in absurd (let z : ◌≡◌ {A = ℕ} 0 1 = cc in omega arith)

module _ {n : Net} {gw go ws os : List ℕ} {k : ℕ} (p : Completing n gw go k ws os) where
  sound : SoundNet n
  sound = (half_sound n gw go p.judged).sound

  pub completed : Completed gw go (take k ws) (take k os)
  completed = let s = (half_sound n gw go p.judged).stood in record {
    net = n;
    sound = sound;
    completes = p.completes;
    given = s.same;
    added = p.offsets_taken ∙ sym p.wires_taken;
    few = s.few;
    few_added = omega (arith, p.wires_taken, p.few);
  }

  pub told : {texts files : List ℕ} {r : Reply} → Tells gw go (take k ws) (take k os) texts files r → Conveys (Finishes n gw go) texts files r
  told {texts} {files} {r} t =
      let a : List Entry = entries (take k ws) (take k os) in
      let c : Completes n (entries gw go) a = p.completes in
      let s : Said = answered (counted_text added_word (take k ws) (take k os)) (file_of c.whole) in
      let same : s ≡ answered (counted_text added_word (map wire a) (map offset a)) (file_of c.whole) =
      ap (λ (x : List ℕ). answered (counted_text added_word x (take k os)) (file_of c.whole)) p.wires_back ∙ ap (λ (x : List ℕ). answered (counted_text added_word (map wire a) x) (file_of c.whole)) p.offsets_back in
      record {
        said = s;
        right = subst (λ (j : Judged). FinishesBy j n (entries gw go) s) (sym p.judged) (says-finished a c.whole c.joins c.legal (subst (λ (x : ℕ). LeastAdded n (entries gw go) x) (sym p.long) p.least) (omega (arith, p.long, p.few)) same);
        replies = record { text = t.text; file = t.file n sound c; status = t.status };
      }

-- a refusal
module _ (n : Net) (gw go ws os ws' os' : List ℕ) {r : Result ℕ Refusal} (why : Refusal) (e : r ≡ Err why) (long-wires : most_entries ≤ length ws) (long-offsets : most_entries ≤ length os) where
  refused_outcome : Outcome n (entries gw go) ws os ws' os' r → FinishesBy (Ok tt) n (entries gw go) (refusal [] why)
  refused_outcome (none h f kept) = says_none h (ap (refusal []) (cc))
  refused_outcome (full m l o f kept) = says-full m l (omega arith) (ap (refusal []) (cc))
  refused_outcome (finished a c l o f holds) = absurd (let z : ◌≡◌ {A = ℕ} 0 1 = cc in omega arith)

  refusing : (j : Judged) → Answered j n (entries gw go) ws os ws' os' r → FinishesBy j n (entries gw go) (refusal [] why)
  refusing (Ok _) a = refused_outcome a
  refusing (Err x) a = let f = a.0 in ap (refusal []) (cc)

  pub refused : {texts files : List ℕ} {reply : Reply} → Answered (half_judged n gw go) n (entries gw go) ws os ws' os' r → Replies (refusal [] why) texts files reply → Conveys (Finishes n gw go) texts files reply
  refused a s = record { said = refusal [] why; right = refusing (half_judged n gw go) a; replies = s }
