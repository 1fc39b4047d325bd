-- What the program writes, by document 01, "The program": the listing's raw bytes, or the line that says the refusal.
use Rattle.std.specs.Prelude.{ℕ, cond, List, length, leb}
use Rattle.stackmap.specs.Verdict.{Verdict}
use Rattle.stackmap.specs.Verdict.{Valid, Refused}
use Rattle.stackmap.specs.Section.{read_section}
use Rattle.stackmap.specs.Check.{section_check}
use Rattle.listing.specs.Listing.{encode_listing}
use Rattle.decimal.specs.Line.{line}

-- the longest section that it reads
abbrev pub input_most : ℕ
input_most = 40960

-- room for any of its outputs
abbrev pub output_room : ℕ
output_room = 65536

abbrev pub said : Verdict → List ℕ → List ℕ
said (Valid e) listing = listing
said (Refused n p) listing = line n p

-- a section's listing or its refusal; longer input is given as 1 at 0
unfoldable pub written : List ℕ → List ℕ
written s = cond (leb (length s) input_most) (said (section_check s) (encode_listing (read_section s))) (line 1 0)
