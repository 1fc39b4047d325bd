-- Two moves in a row of a record without the self pair, where the claim of request 11 fails, with its numbers.
use Rattle.std.specs.Prelude.{ℕ, ◌≡◌, false, List, [], ◌∷◌, ◌++◌, replicate}
use Rattle.wire.specs.Word.{bytes}
use Rattle.stackmap.specs.Section.{Location, encode_section}
use Rattle.moves.specs.Settle.{refused_move, accepted_move}
use Rattle.moves_twice.specs.Joined.{joined}
use Rattle.relocate.specs.declared.Machine.TheVariants.{Amd64}
use Rattle.relocate.specs.Restore.{Restore, restore, everything}
use Rattle.relocate.specs.Stopped.{Stopped}
use Rattle.relocate.specs.Relocation.{answer, moved}
use Rattle.relocate.specs.Consequences.{after_move}

-- three constants 0, and one pair: the base at RSP + 8, the pointer derived from it at RSP + 16
abbrev pub zero_constant : Location
zero_constant = record { kind = 4; size = 8; register = 0; offset = 0 }

abbrev pub at_rsp : ℕ → Location
at_rsp o = record { kind = 3; size = 8; register = 7; offset = o }

abbrev pub section : List ℕ
section =
    encode_section (record {
      old = false;
      functions = record { address = 0x1000; stack_size = 24; count = 1 } ∷ [];
      constants = [];
      records = record { id = 7; offset = 0x20; locations = zero_constant ∷ zero_constant ∷ zero_constant ∷ at_rsp 8 ∷ at_rsp 16 ∷ []; live_outs = [] } ∷ [];
    })

-- the frame of that record, with RSP 0x7000 and 0 in every other register
abbrev pub frame : Stopped
frame = record {
  frame = record { machine = Amd64; address = 0x1020; function = 0 };
  registers = replicate 7 0 ++ (0x7000 ∷ replicate 24 0);
}

-- 24 bytes from 0x7000, with the base and the derived pointer
abbrev pub image : ℕ → ℕ → List ℕ
image b d = replicate 8 0 ++ (bytes 8 b ++ bytes 8 d)

-- an object goes from 0x50000 to 0x90000, and on to 0xA0000; in the other second table another one goes from 0x50000 to 0x70000
abbrev pub by : List ℕ → List ℕ → Restore
by olds news = restore section olds news 0x7000 (everything Amd64)

abbrev pub first : Restore
first = by (0x50000 ∷ []) (0x90000 ∷ [])

abbrev pub second : Restore
second = by (0x90000 ∷ []) (0xA0000 ∷ [])

abbrev pub other : Restore
other = by (0x50000 ∷ 0x90000 ∷ []) (0x70000 ∷ 0xA0000 ∷ [])

abbrev pub both : List ℕ → List ℕ → Restore
both olds2 news2 = let t = joined (0x50000 ∷ []) (0x90000 ∷ []) olds2 news2 in by t.olds t.news

abbrev pub start : List ℕ
start = image 0x50000 0x54E20

-- what the first move leaves: the base slot is no derived slot, and keeps the old start
abbrev pub between : List ℕ
between = moved first start frame

-- The second move is refused, and the joined one is not.
pub record SecondRefused : Type 0 where
  pub first_accepted : answer first start frame ≡ accepted_move 1
  pub second_refused : answer second between (after_move first start frame) ≡ refused_move 21 0
  pub joined_accepted : answer (both (0x90000 ∷ []) (0xA0000 ∷ [])) start frame ≡ accepted_move 1

-- Both are accepted, and the derived pointer is moved twice from one base: the images differ.
pub record ImagesDiffer : Type 0 where
  pub first_accepted : answer first start frame ≡ accepted_move 1
  pub second_accepted : answer other between (after_move first start frame) ≡ accepted_move 1
  pub joined_accepted : answer (both (0x50000 ∷ 0x90000 ∷ []) (0x70000 ∷ 0xA0000 ∷ [])) start frame ≡ accepted_move 1
  pub two_leave : moved other between (after_move first start frame) ≡ image 0x50000 0xB4E20
  pub one_leaves : moved (both (0x50000 ∷ 0x90000 ∷ []) (0x70000 ∷ 0xA0000 ∷ [])) start frame ≡ image 0x50000 0xA4E20

pub record WithoutSelfPair : Type 0 where
  pub second_refused : SecondRefused
  pub images_differ : ImagesDiffer
