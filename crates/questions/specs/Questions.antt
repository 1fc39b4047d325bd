-- Questions on a section, in the words and order of document 01. Each is a short function of the list of entries.
use Rattle.std.specs.Prelude.{ℕ, ◌+◌, ◌-◌, ◌^◌, Bool, cond, List, [], ◌∷◌, length, get_or, take, drop, eqb, ltb}
use Rattle.std.proofs.Math.Option.{Option, none, some}
use Rattle.std.proofs.Math.ListN.{get_elem?}
use Rattle.stackmap.specs.Verdict.{Verdict}
use Rattle.stackmap.specs.Verdict.{Valid, Refused}
use Rattle.stackmap.specs.Layout.{negative_from}
use Rattle.stackmap.specs.Fields.{size}
use Rattle.stackmap.specs.Section.{Location, Offset, as_offset, LiveOut, Owner, record_fields, is_old, read_section, Entry, address, entries}
use Rattle.stackmap.specs.Check.{section_check}
use Rattle.questions.specs.declared.Found.{Found}
use Rattle.questions.specs.declared.Located.{Located}
use Rattle.questions.specs.declared.ContentPlace.{ContentPlace}
use Rattle.questions.specs.declared.ContentPlace.TheVariants.{Nowhere, Register, Memory}
use Rattle.questions.specs.declared.LocationAnswer.{LocationAnswer}
use Rattle.questions.specs.declared.LiveOutAnswer.{LiveOutAnswer}

-- Every question first gives the section's own refusal, if any.
unfoldable pub ask : {A : Type 0} → (ℕ → ℕ → A) → A → Verdict → A
ask refused answer (Refused n p) = refused n p
ask refused answer (Valid e) = answer

-- what is asked for, or else the refusal
abbrev pub among : {A B : Type 0} → A → (B → A) → Option B → A
among missing found none = missing
among missing found (some x) = found x

-- By address: the first record with that address in section order, its number, its function's number, and how many records
-- share the address; 10 exactly if none does. (`first` is the record's first byte, for the layers above.)

unfoldable pub with_address : ℕ → List Entry → List Entry
with_address a [] = []
with_address a (e ∷ es) = cond (eqb (address e) a) (e ∷ with_address a es) (with_address a es)

abbrev pub not_found : ℕ → ℕ → Found
not_found n p = record { number = n; place = p; index = 0; function = 0; sharing = 0; first = 0 }

abbrev pub first_of : List Entry → Found
first_of [] = not_found 10 0
first_of (e ∷ es) =
    record { number = 0; place = 0; index = e.number; function = e.owner.number; sharing = length (e ∷ es); first = e.first }

-- 27 on version 1, which does not say which function owns a record
unfoldable pub by_address : List ℕ → ℕ → Found
by_address s a = ask not_found (cond (is_old s) (not_found 27 0) (first_of (with_address a (entries s)))) (section_check s)

-- By function number and offset, of version 1: 10 if there is no such function or record; 27 on version 3.

-- the records at the offset a, as those of the owner o
unfoldable pub at_offset : ℕ → Owner → List Entry → List Entry
at_offset a o [] = []
at_offset a o (e ∷ es) =
    cond (eqb e.body.offset a)
    (record { number = e.number; first = e.first; owner = o; body = e.body } ∷ at_offset a o es)
    (at_offset a o es)

-- if there is a function number g, the records at the offset, as that function's
unfoldable pub of_function : List ℕ → ℕ → ℕ → List Entry
of_function s g a =
    among [] (λ f. at_offset a (record { number = g; function = f }) (entries s)) (get_elem? (read_section s).functions g)

unfoldable pub by_function : List ℕ → ℕ → ℕ → Found
by_function s g a = ask not_found (cond (is_old s) (first_of (of_function s g a)) (not_found 27 0)) (section_check s)

-- What a function number and an address name, for the layers above: in version 1 the records of that function at that offset, in
-- version 3 the records with that address, where the function isn't read.
unfoldable pub sought : List ℕ → ℕ → ℕ → List Entry
sought s g a = cond (is_old s) (of_function s g a) (with_address a (entries s))

-- By record number: the record's bytes themselves, from the ID to the last padding byte; an empty part on any refusal, whose
-- number and place are a question of their own.

abbrev pub not_located : ℕ → ℕ → Located
not_located n p = record { number = n; place = p; first = 0; size = 0 }

abbrev pub located : Bool → Entry → Located
located old e = record { number = 0; place = 0; first = e.first; size = size (record_fields old e.body) }

unfoldable pub record_place : List ℕ → ℕ → Located
record_place s k = ask not_located (among (not_located 10 0) (located (is_old s)) (get_elem? (entries s) k)) (section_check s)

unfoldable pub record_part : List ℕ → ℕ → List ℕ
record_part s k = take (record_place s k).size (drop (record_place s k).first s)

-- By record and location number: kind, size, register, signed offset, the 64-bit constant, 0 for kinds 1 to 3, and the content
-- place. 10 before 11.

pub record SignedLocation : Type 0 where
  pub number : ℕ
  pub place : ℕ
  pub kind : ℕ
  pub size : ℕ
  pub register : ℕ
  pub offset : Offset
  pub constant : ℕ
  pub content : ContentPlace

-- an answer that holds the 32 bits of the offset, as the number that they are: -8 and not 4294967288
abbrev pub signed : LocationAnswer → SignedLocation
signed a =
    record {
      number = a.number;
      place = a.place;
      kind = a.kind;
      size = a.size;
      register = a.register;
      offset = as_offset a.offset;
      constant = a.constant;
      content = a.content;
    }

-- kind 4: the offset sign-extended; kind 5: pool entry number offset
unfoldable pub constant_of : List ℕ → Location → ℕ
constant_of pool l =
    cond (eqb l.kind 4) (cond (ltb l.offset negative_from) l.offset (l.offset + (2 ^ 64 - 2 ^ 32)))
    (cond (eqb l.kind 5) (get_or pool l.offset 0) 0)

-- the content place: register (kind 1), memory (kind 3) or none; from the kind alone, in both versions
unfoldable pub content_place : ℕ → ContentPlace
content_place kind = cond (eqb kind 1) Register (cond (eqb kind 3) Memory Nowhere)

abbrev pub no_location : ℕ → ℕ → LocationAnswer
no_location n p =
    record { number = n; place = p; kind = 0; size = 0; register = 0; offset = 0; constant = 0; content = Nowhere }

abbrev pub this_location : List ℕ → Location → LocationAnswer
this_location pool l =
    record {
      number = 0;
      place = 0;
      kind = l.kind;
      size = l.size;
      register = l.register;
      offset = l.offset;
      constant = constant_of pool l;
      content = content_place l.kind;
    }

unfoldable pub location_answer : List ℕ → ℕ → ℕ → SignedLocation
location_answer s k j =
    signed
    (ask no_location
    (among (no_location 10 0)
    (λ e. among (no_location 11 0) (this_location (read_section s).constants) (get_elem? e.body.locations j))
    (get_elem? (entries s) k))
    (section_check s))

-- Live-outs likewise.

abbrev pub no_live_out : ℕ → ℕ → LiveOutAnswer
no_live_out n p = record { number = n; place = p; register = 0; size = 0 }

abbrev pub this_live_out : LiveOut → LiveOutAnswer
this_live_out o = record { number = 0; place = 0; register = o.register; size = o.size }

unfoldable pub live_out_answer : List ℕ → ℕ → ℕ → LiveOutAnswer
live_out_answer s k j =
    ask no_live_out
    (among (no_live_out 10 0) (λ e. among (no_live_out 11 0) this_live_out (get_elem? e.body.live_outs j)) (get_elem? (entries s) k))
    (section_check s)
