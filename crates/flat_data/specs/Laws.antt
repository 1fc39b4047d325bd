-- No byte of an accepted section goes unread: its bytes are the bytes of what is read from it, and so are determined by it.
use Rattle.std.specs.Prelude.{ℕ, ◌≡◌, List}
use Rattle.wire.specs.Word.{Bytes}
use Rattle.flat_check.specs.Check.{Accepted}
use Rattle.flat_data.specs.Data.{read_section, encode_section}

pub record Determined : Type 0 where
  pub encode_read : (s : List ℕ) → Bytes s → Accepted s → encode_section (read_section s) ≡ s
  pub one_to_one : (s t : List ℕ) → Bytes s → Bytes t → Accepted s → Accepted t → read_section s ≡ read_section t → s ≡ t
