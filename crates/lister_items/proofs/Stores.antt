-- The stores that write one item.
use Prim.Native.Nat.{ℕ, ◌+◌, ◌%◌, ◌<◌}
use mathlib.Core.Path.{◌≡◌, refl}
use mathlib.Core.Bool.{Bool, true, false}
use mathlib.Core.List.{List, [], ◌∷◌}
use native.Mathlib.Omega.{arith}
use native.Mathlib.Nat.{add_assoc}
use lib.ListN.{set, get_or}
use lib.Seq.{sets}
use Rattle.wire.specs.Word.{word, bytes}
use Rattle.wire.proofs.Laws.{sets-append, length-bytes}
use Rattle.stackmap.specs.Fields.{bytes_of, size}
use Rattle.stackmap.specs.Section.{read_function, read_constant, read_location, read_live_out, read_record}
use Rattle.stackmap.proofs.Items.{byte_word}
use Rattle.listing.specs.Listing.{version_item, function_item, constant_item, record_item, location_item, live_out_item}
use Rattle.lister_items.specs.Put.{Put}

byte_is : (v : ℕ) → v < 256 → bytes 1 v ≡ v ∷ []
unfolding bytes
byte_is v h = let e : v % 256 ≡ v = omega arith in rw e

-- a byte that is read
byte_read : (s : List ℕ) (at : ℕ) → get_or s at 0 < 256 → bytes 1 (word 1 s at) ≡ get_or s at 0 ∷ []
byte_read s at h = rw byte_word (byte_is _ h)

module _ (out s : List ℕ) (to at : ℕ) where
  pub function-put : (old : Bool) →
      Put out
      (sets (sets (sets (set out to 1) (to + 1) (bytes 8 (word 8 s at))) (to + 9) (bytes 8 (word 8 s (at + 8)))) (to + 17) (bytes 8 (read_function old s at).count))
      to (to + 25) (function_item (read_function old s at))
  unfolding function_item read_function bytes_of size
  function-put true = record { ends = refl; output = simp (sets-append, length-bytes, byte_is 1 (omega arith), add_assoc) }
  function-put false = record { ends = refl; output = simp (sets-append, length-bytes, byte_is 1 (omega arith), add_assoc) }

  pub constant-put : Put out (sets (set out to 2) (to + 1) (bytes 8 (word 8 s at))) to (to + 9) (constant_item (read_constant s at))
  unfolding constant_item read_constant bytes_of size
  constant-put = record { ends = refl; output = simp (sets-append, byte_is 2 (omega arith)) }

  pub location_put : (old : Bool) (v r o : ℕ) → get_or s at 0 < 256
      → v ≡ (read_location old s at).size → r ≡ (read_location old s at).register → o ≡ (read_location old s at).offset →
      Put out (sets (sets (sets (set (set out to 4) (to + 1) (get_or s at 0)) (to + 2) (bytes 2 v)) (to + 4) (bytes 2 r)) (to + 6) (bytes 4 o))
      to (to + 10) (location_item (read_location old s at))
  unfolding location_item read_location bytes_of size
  location_put true v r o h e f g = rw (e, f, g) record { ends = refl; output = simp (sets-append, length-bytes, byte_is 4 (omega arith), byte_read s at h, add_assoc) }
  location_put false v r o h e f g = rw (e, f, g) record { ends = refl; output = simp (sets-append, length-bytes, byte_is 4 (omega arith), byte_read s at h, add_assoc) }

  pub live_out_put : get_or s (at + 3) 0 < 256 →
      Put out
      (set (sets (set out to 5) (to + 1) (bytes 2 (word 2 s at))) (to + 3) (get_or s (at + 3) 0))
      to (to + 4) (live_out_item (read_live_out s at))
  unfolding live_out_item read_live_out bytes_of size
  live_out_put h = record { ends = refl; output = simp (sets-append, length-bytes, byte_is 5 (omega arith), byte_read s (at + 3) h, add_assoc) }

pub record_put : (old : Bool) (out s : List ℕ) (to : ℕ) →
    Put out (sets (sets (set out to 3) (to + 1) (bytes 8 (word 8 s 0))) (to + 9) (bytes 4 (word 4 s 8))) to (to + 13) (record_item (read_record old s))
unfolding record_item read_record bytes_of size
record_put old out s to = record { ends = refl; output = simp (sets-append, length-bytes, byte_is 3 (omega arith), add_assoc) }

pub version-put : (out : List ℕ) → Put out (set (set out 0 7) 1 1) 0 2 (version_item true)
unfolding version_item bytes_of size bytes
version-put out = record { ends = refl; output = refl }

pub no_version_put : (out : List ℕ) → Put out out 0 0 (version_item false)
unfolding version_item bytes_of size
no_version_put out = record { ends = refl; output = refl }
