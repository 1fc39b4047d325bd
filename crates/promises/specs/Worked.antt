-- Document 01's worked table, with document 02's change of row D and some rows of version 1: what is asked, and what is answered.
use Rattle.std.specs.Prelude.{ℕ, zero, suc, ◌≡◌, Bool, true, false, List, [], ◌∷◌, ◌++◌, map, replicate}
use Rattle.wire.specs.Word.{bytes}
use Rattle.stackmap.specs.Verdict.{Verdict}
use Rattle.stackmap.specs.Verdict.{Valid, Refused}
use Rattle.stackmap.specs.Section.{Location, is_old, encode_section}
use Rattle.stackmap.specs.Check.{section_check}
use Rattle.listing.specs.Listing.{Converted, to_listing, to_section}
use Rattle.listing.specs.RoundTrip.{result}
use Rattle.moves.specs.declared.Move.{Move}
use Rattle.editions.specs.declared.Settings.{Settings}
use Rattle.editions.specs.declared.Store.{Store}
use Rattle.editions.specs.Store.{empty, make_in}
use Rattle.restores.specs.Restores.{request}
use Rattle.restores.specs.Moves.{Numbered, numbered, answer_under, moved_under}

-- what is asked: the check of a section, a section's listing, a listing's section, or a move of a frame at 0x1020 (in version 1: at the
-- offset 0x20 of function 0) with RSP 0x7000, by a table of one object (old start, new start), in an image from 0x7000
pub data Asked : Type 0 where
  check : List ℕ → Asked
  listing_of : List ℕ → Asked
  section_of : List ℕ → Asked
  move_in : List ℕ → ℕ → ℕ → List ℕ → Asked

-- of a check: a refusal's number and place, or the section's length; of the others: a refusal's number and place with the output or the
-- image that is left, or the length and the bytes that are written, the count and the image
pub data Got : Type 0 where
  refused : ℕ → ℕ → Got
  accepted : ℕ → Got
  leaves : ℕ → ℕ → List ℕ → Got
  gives : ℕ → List ℕ → Got

abbrev pub checked : Verdict → Got
checked (Valid e) = accepted e
checked (Refused n p) = refused n p

abbrev pub converted : ℕ → Converted → Got
converted zero c = gives c.written (result c)
converted (suc n) c = leaves (suc n) c.place c.output

abbrev pub shifted : ℕ → Move → List ℕ → Got
shifted zero a im = gives a.count im
shifted (suc n) a im = leaves (suc n) a.place im

-- its registers are 0 but RSP, which is number 7
abbrev pub registers : List ℕ
registers = replicate 7 0 ++ (0x7000 ∷ replicate 24 0)

abbrev pub frame : Bool → Numbered
frame true = numbered 0 0x20 0 registers
frame false = numbered 0 0x1020 0 registers

-- document 02: the worked moves name an edition with 256, AMD64 and version 3; those in version 1 one that allows it
abbrev pub settings : Bool → Settings
settings true = record { most = 256; machine = 0; version1 = 1; version3 = 0 }
settings false = record { most = 256; machine = 0; version1 = 0; version3 = 1 }

-- made in an empty store, where it is edition 1
unfoldable pub store : Bool → Store
store old = (make_in empty (settings old)).left

-- an output with room enough
abbrev pub room : List ℕ
room = replicate 200 0

unfoldable pub got : Asked → Got
got (check s) = checked (section_check s)
got (listing_of s) = let c = to_listing s room in converted c.number c
got (section_of l) = let c = to_section l room in converted c.number c
got (move_in s old new im) =
    let Q = request (store (is_old s)) 1 s (old ∷ []) (new ∷ []) 0x7000 in
    let a = answer_under Q im (frame (is_old s)) in
    shifted a.number a (moved_under Q im (frame (is_old s)))

-- a header of version v with three counts
unfoldable pub header_with : ℕ → ℕ → ℕ → ℕ → List ℕ
header_with v functions constants records = v ∷ 0 ∷ 0 ∷ 0 ∷ [] ++ bytes 4 functions ++ bytes 4 constants ++ bytes 4 records

abbrev pub zero_constant : Location
zero_constant = record { kind = 4; size = 8; register = 0; offset = 0 }

abbrev pub at_rsp : ℕ → Location
at_rsp o = record { kind = 3; size = 8; register = 7; offset = o }

-- function at 0x1000, stack size 24, one record, ID 7, offset 0x20, three zero constants of size 8 and register 0, and pairs
abbrev pub with_pairs : List Location → List ℕ
with_pairs ls =
    encode_section (record {
      old = false;
      functions = record { address = 0x1000; stack_size = 24; count = 1 } ∷ [];
      constants = [];
      records = record { id = 7; offset = 0x20; locations = zero_constant ∷ zero_constant ∷ zero_constant ∷ ls; live_outs = [] } ∷ [];
    })

-- pairs (RSP+8, RSP+8) and (RSP+8, RSP+o)
abbrev pub pairs_to : ℕ → List ℕ
pairs_to o = with_pairs (at_rsp 8 ∷ at_rsp 8 ∷ at_rsp 8 ∷ at_rsp o ∷ [])

abbrev pub exchanged : List ℕ
exchanged = with_pairs (at_rsp 8 ∷ at_rsp 16 ∷ at_rsp 8 ∷ at_rsp 8 ∷ [])

-- 24 bytes from 0x7000 with these slots at RSP+8 and RSP+16
unfoldable pub image : ℕ → ℕ → List ℕ
image b d = replicate 8 0 ++ bytes 8 b ++ bytes 8 d

-- The bytes of H, each written out: header; function; ID, offset, flags and NumLocations; seven locations (kind, zero, size, register, zero,
-- offset); padding, 2 zero bytes, NumLiveOuts and padding.
unfoldable pub section_h : List ℕ
section_h =
    0x03 ∷ 0x00 ∷ 0x00 ∷ 0x00 ∷ 0x01 ∷ 0x00 ∷ 0x00 ∷ 0x00 ∷ 0x00 ∷ 0x00 ∷ 0x00 ∷ 0x00 ∷ 0x01 ∷ 0x00 ∷ 0x00 ∷ 0x00 ∷
    0x00 ∷ 0x10 ∷ 0x00 ∷ 0x00 ∷ 0x00 ∷ 0x00 ∷ 0x00 ∷ 0x00 ∷ 0x18 ∷ 0x00 ∷ 0x00 ∷ 0x00 ∷ 0x00 ∷ 0x00 ∷ 0x00 ∷ 0x00 ∷ 0x01 ∷ 0x00 ∷ 0x00 ∷ 0x00 ∷ 0x00 ∷ 0x00 ∷ 0x00 ∷ 0x00 ∷
    0x07 ∷ 0x00 ∷ 0x00 ∷ 0x00 ∷ 0x00 ∷ 0x00 ∷ 0x00 ∷ 0x00 ∷ 0x20 ∷ 0x00 ∷ 0x00 ∷ 0x00 ∷ 0x00 ∷ 0x00 ∷ 0x07 ∷ 0x00 ∷
    0x04 ∷ 0x00 ∷ 0x08 ∷ 0x00 ∷ 0x00 ∷ 0x00 ∷ 0x00 ∷ 0x00 ∷ 0x00 ∷ 0x00 ∷ 0x00 ∷ 0x00 ∷
    0x04 ∷ 0x00 ∷ 0x08 ∷ 0x00 ∷ 0x00 ∷ 0x00 ∷ 0x00 ∷ 0x00 ∷ 0x00 ∷ 0x00 ∷ 0x00 ∷ 0x00 ∷
    0x04 ∷ 0x00 ∷ 0x08 ∷ 0x00 ∷ 0x00 ∷ 0x00 ∷ 0x00 ∷ 0x00 ∷ 0x00 ∷ 0x00 ∷ 0x00 ∷ 0x00 ∷
    0x03 ∷ 0x00 ∷ 0x08 ∷ 0x00 ∷ 0x07 ∷ 0x00 ∷ 0x00 ∷ 0x00 ∷ 0x08 ∷ 0x00 ∷ 0x00 ∷ 0x00 ∷
    0x03 ∷ 0x00 ∷ 0x08 ∷ 0x00 ∷ 0x07 ∷ 0x00 ∷ 0x00 ∷ 0x00 ∷ 0x08 ∷ 0x00 ∷ 0x00 ∷ 0x00 ∷
    0x03 ∷ 0x00 ∷ 0x08 ∷ 0x00 ∷ 0x07 ∷ 0x00 ∷ 0x00 ∷ 0x00 ∷ 0x08 ∷ 0x00 ∷ 0x00 ∷ 0x00 ∷
    0x03 ∷ 0x00 ∷ 0x08 ∷ 0x00 ∷ 0x07 ∷ 0x00 ∷ 0x00 ∷ 0x00 ∷ 0x10 ∷ 0x00 ∷ 0x00 ∷ 0x00 ∷
    0x00 ∷ 0x00 ∷ 0x00 ∷ 0x00 ∷ 0x00 ∷ 0x00 ∷ 0x00 ∷ 0x00 ∷ 0x00 ∷ 0x00 ∷ 0x00 ∷ 0x00 ∷ []

unfoldable pub listing_h : List ℕ
listing_h =
    0x01 ∷ 0x00 ∷ 0x10 ∷ 0x00 ∷ 0x00 ∷ 0x00 ∷ 0x00 ∷ 0x00 ∷ 0x00 ∷ 0x18 ∷ 0x00 ∷ 0x00 ∷ 0x00 ∷ 0x00 ∷ 0x00 ∷ 0x00 ∷ 0x00 ∷ 0x01 ∷ 0x00 ∷ 0x00 ∷ 0x00 ∷ 0x00 ∷ 0x00 ∷ 0x00 ∷ 0x00 ∷
    0x03 ∷ 0x07 ∷ 0x00 ∷ 0x00 ∷ 0x00 ∷ 0x00 ∷ 0x00 ∷ 0x00 ∷ 0x00 ∷ 0x20 ∷ 0x00 ∷ 0x00 ∷ 0x00 ∷
    0x04 ∷ 0x04 ∷ 0x08 ∷ 0x00 ∷ 0x00 ∷ 0x00 ∷ 0x00 ∷ 0x00 ∷ 0x00 ∷ 0x00 ∷
    0x04 ∷ 0x04 ∷ 0x08 ∷ 0x00 ∷ 0x00 ∷ 0x00 ∷ 0x00 ∷ 0x00 ∷ 0x00 ∷ 0x00 ∷
    0x04 ∷ 0x04 ∷ 0x08 ∷ 0x00 ∷ 0x00 ∷ 0x00 ∷ 0x00 ∷ 0x00 ∷ 0x00 ∷ 0x00 ∷
    0x04 ∷ 0x03 ∷ 0x08 ∷ 0x00 ∷ 0x07 ∷ 0x00 ∷ 0x08 ∷ 0x00 ∷ 0x00 ∷ 0x00 ∷
    0x04 ∷ 0x03 ∷ 0x08 ∷ 0x00 ∷ 0x07 ∷ 0x00 ∷ 0x08 ∷ 0x00 ∷ 0x00 ∷ 0x00 ∷
    0x04 ∷ 0x03 ∷ 0x08 ∷ 0x00 ∷ 0x07 ∷ 0x00 ∷ 0x08 ∷ 0x00 ∷ 0x00 ∷ 0x00 ∷
    0x04 ∷ 0x03 ∷ 0x08 ∷ 0x00 ∷ 0x07 ∷ 0x00 ∷ 0x10 ∷ 0x00 ∷ 0x00 ∷ 0x00 ∷
    0x06 ∷ []

-- H in version 1: a function without its record count, locations of 8 bytes (kind, size, register, offset), no padding after them
unfoldable pub section_old_h : List ℕ
section_old_h =
    0x01 ∷ 0x00 ∷ 0x00 ∷ 0x00 ∷ 0x01 ∷ 0x00 ∷ 0x00 ∷ 0x00 ∷ 0x00 ∷ 0x00 ∷ 0x00 ∷ 0x00 ∷ 0x01 ∷ 0x00 ∷ 0x00 ∷ 0x00 ∷
    0x00 ∷ 0x10 ∷ 0x00 ∷ 0x00 ∷ 0x00 ∷ 0x00 ∷ 0x00 ∷ 0x00 ∷ 0x18 ∷ 0x00 ∷ 0x00 ∷ 0x00 ∷ 0x00 ∷ 0x00 ∷ 0x00 ∷ 0x00 ∷
    0x07 ∷ 0x00 ∷ 0x00 ∷ 0x00 ∷ 0x00 ∷ 0x00 ∷ 0x00 ∷ 0x00 ∷ 0x20 ∷ 0x00 ∷ 0x00 ∷ 0x00 ∷ 0x00 ∷ 0x00 ∷ 0x07 ∷ 0x00 ∷
    0x04 ∷ 0x08 ∷ 0x00 ∷ 0x00 ∷ 0x00 ∷ 0x00 ∷ 0x00 ∷ 0x00 ∷
    0x04 ∷ 0x08 ∷ 0x00 ∷ 0x00 ∷ 0x00 ∷ 0x00 ∷ 0x00 ∷ 0x00 ∷
    0x04 ∷ 0x08 ∷ 0x00 ∷ 0x00 ∷ 0x00 ∷ 0x00 ∷ 0x00 ∷ 0x00 ∷
    0x03 ∷ 0x08 ∷ 0x07 ∷ 0x00 ∷ 0x08 ∷ 0x00 ∷ 0x00 ∷ 0x00 ∷
    0x03 ∷ 0x08 ∷ 0x07 ∷ 0x00 ∷ 0x08 ∷ 0x00 ∷ 0x00 ∷ 0x00 ∷
    0x03 ∷ 0x08 ∷ 0x07 ∷ 0x00 ∷ 0x08 ∷ 0x00 ∷ 0x00 ∷ 0x00 ∷
    0x03 ∷ 0x08 ∷ 0x07 ∷ 0x00 ∷ 0x10 ∷ 0x00 ∷ 0x00 ∷ 0x00 ∷
    0x00 ∷ 0x00 ∷ 0x00 ∷ 0x00 ∷ 0x00 ∷ 0x00 ∷ 0x00 ∷ 0x00 ∷ []

-- its listing: `07 01`, then the items of H with the record count 0
unfoldable pub listing_old_h : List ℕ
listing_old_h =
    0x07 ∷ 0x01 ∷
    0x01 ∷ 0x00 ∷ 0x10 ∷ 0x00 ∷ 0x00 ∷ 0x00 ∷ 0x00 ∷ 0x00 ∷ 0x00 ∷ 0x18 ∷ 0x00 ∷ 0x00 ∷ 0x00 ∷ 0x00 ∷ 0x00 ∷ 0x00 ∷ 0x00 ∷ 0x00 ∷ 0x00 ∷ 0x00 ∷ 0x00 ∷ 0x00 ∷ 0x00 ∷ 0x00 ∷ 0x00 ∷
    0x03 ∷ 0x07 ∷ 0x00 ∷ 0x00 ∷ 0x00 ∷ 0x00 ∷ 0x00 ∷ 0x00 ∷ 0x00 ∷ 0x20 ∷ 0x00 ∷ 0x00 ∷ 0x00 ∷
    0x04 ∷ 0x04 ∷ 0x08 ∷ 0x00 ∷ 0x00 ∷ 0x00 ∷ 0x00 ∷ 0x00 ∷ 0x00 ∷ 0x00 ∷
    0x04 ∷ 0x04 ∷ 0x08 ∷ 0x00 ∷ 0x00 ∷ 0x00 ∷ 0x00 ∷ 0x00 ∷ 0x00 ∷ 0x00 ∷
    0x04 ∷ 0x04 ∷ 0x08 ∷ 0x00 ∷ 0x00 ∷ 0x00 ∷ 0x00 ∷ 0x00 ∷ 0x00 ∷ 0x00 ∷
    0x04 ∷ 0x03 ∷ 0x08 ∷ 0x00 ∷ 0x07 ∷ 0x00 ∷ 0x08 ∷ 0x00 ∷ 0x00 ∷ 0x00 ∷
    0x04 ∷ 0x03 ∷ 0x08 ∷ 0x00 ∷ 0x07 ∷ 0x00 ∷ 0x08 ∷ 0x00 ∷ 0x00 ∷ 0x00 ∷
    0x04 ∷ 0x03 ∷ 0x08 ∷ 0x00 ∷ 0x07 ∷ 0x00 ∷ 0x08 ∷ 0x00 ∷ 0x00 ∷ 0x00 ∷
    0x04 ∷ 0x03 ∷ 0x08 ∷ 0x00 ∷ 0x07 ∷ 0x00 ∷ 0x10 ∷ 0x00 ∷ 0x00 ∷ 0x00 ∷
    0x06 ∷ []

infix 30 ◌⇒◌
pub record Row : Type 0 where
  pub asked : Asked
  pub answered : Got

abbrev pub ◌⇒◌ : Asked → Got → Row
a ⇒ g = record { asked = a; answered = g }

unfoldable pub table : List Row
table =
    {- A -}
    (check [] ⇒ refused 1 0) ∷
    {- B -}
    (check (replicate 15 0) ⇒ refused 1 0) ∷
    {- C -}
    (check (header_with 3 0 0 0) ⇒ accepted 16) ∷
    {- C -}
    (listing_of (header_with 3 0 0 0) ⇒ gives 1 (0x06 ∷ [])) ∷
    {- D -}
    (check (header_with 2 0 0 0) ⇒ refused 2 0) ∷
    {- D with 1 -}
    (check (header_with 1 0 0 0) ⇒ accepted 16) ∷
    {- D with 1 -}
    (listing_of (header_with 1 0 0 0) ⇒ gives 3 (0x07 ∷ 0x01 ∷ 0x06 ∷ [])) ∷
    {- D with 1 -}
    (section_of (0x07 ∷ 0x01 ∷ 0x06 ∷ []) ⇒ gives 16 (header_with 1 0 0 0)) ∷
    {- E -}
    (check (header_with 3 0 0 0 ++ (0 ∷ [])) ⇒ refused 9 16) ∷
    {- F -}
    (check (header_with 3 0 0 1) ⇒ refused 5 12) ∷
    {- F in version 1 -}
    (check (header_with 1 0 0 1) ⇒ refused 4 16) ∷
    {- G -}
    (check (header_with 3 1 0 0) ⇒ refused 4 16) ∷
    {- H -}
    (check section_h ⇒ accepted 152) ∷
    {- H -}
    (listing_of section_h ⇒ gives 109 listing_h) ∷
    {- H -}
    (section_of listing_h ⇒ gives 152 section_h) ∷
    {- H in version 1 -}
    (check section_old_h ⇒ accepted 112) ∷
    {- H in version 1 -}
    (listing_of section_old_h ⇒ gives 111 listing_old_h) ∷
    {- H in version 1 -}
    (section_of listing_old_h ⇒ gives 112 section_old_h) ∷
    {- H and one byte more, listed -}
    (listing_of (section_h ++ (0 ∷ [])) ⇒ leaves 9 152 room) ∷
    {- I -}
    (move_in section_h 0x50000 0x90000 (image 0x50000 0x54E20) ⇒ gives 2 (image 0x90000 0x94E20)) ∷
    {- I in version 1 -}
    (move_in section_old_h 0x50000 0x90000 (image 0x50000 0x54E20) ⇒ gives 2 (image 0x90000 0x94E20)) ∷
    {- J -}
    (move_in exchanged 0x50000 0x90000 (image 0x50000 0x54E20) ⇒ gives 2 (image 0x90000 0x94E20)) ∷
    {- K -}
    (move_in section_h 0x50000 0x90000 (image 0x50000 0x4B1E0) ⇒ gives 2 (image 0x90000 0x8B1E0)) ∷
    {- L -}
    (move_in section_h 0x50000 0x10 (image 0x50000 0x4FFE0) ⇒ gives 2 (image 0x10 0xFFFFFFFFFFFFFFF0)) ∷
    {- also: base 0x50008 -}
    (move_in section_h 0x50000 0x90000 (image 0x50008 0x54E20) ⇒ leaves 21 0 (image 0x50008 0x54E20)) ∷
    {- last offset 17 -}
    (move_in (pairs_to 17) 0x50000 0x90000 (image 0x50000 0x54E20) ⇒ leaves 19 1 (image 0x50000 0x54E20)) ∷
    {- last offset 12 -}
    (move_in (pairs_to 12) 0x50000 0x90000 (image 0x50000 0x54E20) ⇒ leaves 20 1 (image 0x50000 0x54E20)) ∷
    {- no pairs -}
    (move_in (with_pairs []) 0x50000 0x90000 (image 0x50000 0x54E20) ⇒ gives 0 (image 0x50000 0x54E20)) ∷
    []

abbrev pub WorkedTable : Type 0
WorkedTable = map (λ (r : Row). got r.asked) table ≡ map (λ (r : Row). r.answered) table
