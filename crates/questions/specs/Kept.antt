-- For the code alone: nothing here has to be believed.
-- What a walk keeps of the entries that it has passed, to answer a question in one pass; and what one search tells in both versions.
use Rattle.std.specs.Prelude.{ℕ, suc, Bool, true, false, cond, not, ◌&&◌, List, eqb, leb}
use Rattle.stackmap.specs.Fields.{size}
use Rattle.stackmap.specs.Section.{record_fields, Entry, address, entries}
use Rattle.stackmap.specs.Check.{section_check}
use Rattle.questions.specs.declared.Found.{Found}
use Rattle.questions.specs.declared.Hits.{Hits}
use Rattle.questions.specs.declared.Stretch.{Stretch}
use Rattle.questions.specs.Questions.{ask, with_address, not_found, first_of}

-- the first entry with the address, and how many there were
abbrev pub no_hits : Hits
no_hits = record { index = 0; function = 0; sharing = 0; first = 0 }

abbrev pub hit : Entry → Hits → Hits
hit e h =
    cond (eqb h.sharing 0) (record { index = e.number; function = e.owner.number; sharing = 1; first = e.first })
    (record { index = h.index; function = h.function; sharing = suc h.sharing; first = h.first })

unfoldable pub noted : ℕ → Entry → Hits → Hits
noted a e h = cond (eqb (address e) a) (hit e h) h

-- what a search gives for an address in version 3, and for an offset in version 1
unfoldable pub searched : List ℕ → ℕ → Found
searched s a = ask not_found (first_of (with_address a (entries s))) (section_check s)

-- what was found, with the function number g named beside it, in a section of n functions: in version 1 that function owns the record, and
-- nothing is found if there is no such function; in version 3 it isn't read
unfoldable pub named_found : Bool → ℕ → ℕ → Found → Found
named_found true n g r =
    cond (leb n g) (not_found 10 0)
    (cond (eqb r.number 0) (record { number = 0; place = 0; index = r.index; function = g; sharing = r.sharing; first = r.first }) r)
named_found false n g r = r

-- it is the section's own refusal: neither found nor 10
unfoldable pub of_section : Found → Bool
of_section r = not (eqb r.number 0) && not (eqb r.number 10)

-- where the entry with the number stands; its size is 0 while it has not been passed, for no record is empty
abbrev pub no_stretch : Stretch
no_stretch = record { first = 0; size = 0 }

unfoldable pub picked : Bool → ℕ → Entry → Stretch → Stretch
picked old k e h = cond (eqb e.number k) (record { first = e.first; size = size (record_fields old e.body) }) h
