-- What the verbs say for the bytes of their files (RULES 11.3 to 11.9): the files' own refusals in the order typed, and then what the call says.
use Rattle.std.specs.Prelude.{ℕ, ◌≡◌, List, ◌∷◌, map, Result, Ok, Err}
use Rattle.rules.specs.declared.Entry.{Entry}
use Rattle.rules.specs.declared.Refusal.{Refusal}
use Rattle.rules.specs.Net.{Net}
use Rattle.net_file.specs.NetFile as net_file
use Rattle.placement_file.specs.File as placement_file
use Rattle.reply.specs.declared.Reply.{Reply}
use Rattle.reply.specs.Said.{Said, refusal, net, placement, Conveys}
use Rattle.check_reply.specs.Checks.{check_said, loads_said}
use Rattle.carry_reply.specs.Carries.{carry_said}
use Rattle.finish_reply.specs.Finishes.{Finishes}
use Rattle.replies.specs.declared.Fault.{Fault}
use Rattle.replies.specs.declared.Fault.TheVariants.{Net as NetFault, FirstNet, SecondNet, Placement}
use Rattle.replies.specs.declared.Verb.{Verb}
use Rattle.replies.specs.declared.Verb.TheVariants.{Check, Loads, Finish}

-- ---- the words beside "net " and "placement "

-- "first net "
abbrev pub first_net : List ℕ
first_net = 102 ∷ 105 ∷ 114 ∷ 115 ∷ 116 ∷ 32 ∷ net

-- "second net "
abbrev pub second_net : List ℕ
second_net = 115 ∷ 101 ∷ 99 ∷ 111 ∷ 110 ∷ 100 ∷ 32 ∷ net

-- what is said of a file at fault
abbrev pub of_fault : Fault → Said
of_fault (NetFault r) = refusal net r
of_fault (FirstNet r) = refusal first_net r
of_fault (SecondNet r) = refusal second_net r
of_fault (Placement r) = refusal placement r

-- ---- a file at fault, by a word; else what follows from what is in it

pub data OfNet (word bytes : List ℕ) (Then : Net → Said → Type 0) (s : Said) : Type 0 where
  unread : (r : Refusal) → net_file.net_of bytes ≡ net_file.refused r → s ≡ refusal word r → OfNet word bytes Then s
  read : (n : Net) → net_file.net_of bytes ≡ net_file.read n → Then n s → OfNet word bytes Then s

pub data OfPlacement (bytes : List ℕ) (Then : List ℕ → List ℕ → Said → Type 0) (s : Said) : Type 0 where
  unread : (r : Refusal) → placement_file.placement_of bytes ≡ placement_file.refused r → s ≡ refusal placement r → OfPlacement bytes Then s
  read : (p : List Entry) → placement_file.placement_of bytes ≡ placement_file.placement p → Then (map placement_file.wire p) (map placement_file.offset p) s → OfPlacement bytes Then s

-- ---- a net file and a placement file

-- of a net and a placement
abbrev pub Says : Verb → Net → List ℕ → List ℕ → Said → Type 0
Says Check n ws os s = s ≡ check_said n ws os
Says Loads n ws os s = s ≡ loads_said n ws os
Says Finish n ws os s = Finishes n ws os s

abbrev pub SaysNet : Verb → Net → List ℕ → Said → Type 0
SaysNet v n file s = OfPlacement file (Says v n) s

abbrev pub SaysFiles : Verb → List ℕ → List ℕ → Said → Type 0
SaysFiles v first file s = OfNet net first (λ n. SaysNet v n file) s

-- ---- two net files and a placement file

abbrev pub CarriesBetween : Net → Net → List ℕ → Said → Type 0
CarriesBetween n m file s = OfPlacement file (λ ws os s'. s' ≡ carry_said n m ws os) s

abbrev pub CarriesFrom : Net → List ℕ → List ℕ → Said → Type 0
CarriesFrom n second file s = OfNet second_net second (λ m. CarriesBetween n m file) s

abbrev pub CarriesFiles : List ℕ → List ℕ → List ℕ → Said → Type 0
CarriesFiles first second file s = OfNet first_net first (λ n. CarriesFrom n second file) s

-- ---- between the functions

-- a reply that says something right, or a file at fault of which it is right to say so
abbrev pub SaysOr : (Said → Type 0) → List ℕ → List ℕ → Result Reply Fault → Type 0
SaysOr Right texts files (Ok r) = Conveys Right texts files r
SaysOr Right texts files (Err f) = Right (of_fault f)
