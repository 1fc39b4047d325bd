-- Settings by edition, document 02, request 9: what is asked and what is answered.
-- To believe first: this file and History, which knows of no places. By AsHistory (Laws) every sequence of calls from an empty store is
-- answered as they say. Of Store there is left to believe how calls follow each other (`call`, `empty`, `answers`) and what the functions
-- give; its places only for a store that no such sequence leaves, a damaged one.
use Rattle.std.specs.Prelude.{ℕ, ◌+◌, ◌-◌, ◌^◌, Bool, cond, ◌&&◌, leb}
use Rattle.std.proofs.Math.Option.{Option, none, some}
use Rattle.editions.specs.declared.Settings.{Settings}

-- how many editions are live at a time
abbrev pub live_most : ℕ
live_most = 64

-- the greatest number of an edition
abbrev pub number_most : ℕ
number_most = 2 ^ 32 - 1

-- else 51: a count from 1 to 256, a known machine, of each version whether it is allowed (0 or 1), and one of them is
unfoldable pub settings_right : Settings → Bool
settings_right s =
    leb 1 s.most && leb s.most 256 && leb s.machine 1
    && leb s.version1 1 && leb s.version3 1 && leb 1 (s.version1 + s.version3)

-- make by settings, retire and read by an edition's number
pub data Call : Type 0 where
  make : Settings → Call
  retire : ℕ → Call
  read : ℕ → Call

-- a refusal's number, a new edition's number, or an edition's settings
pub data Reply : Type 0 where
  refused : ℕ → Reply
  made : ℕ → Reply
  retired : Reply
  has : Settings → Reply

-- an answer, and what is left: a store, or a history
pub record Result (S : Type 0) : Type 0 where
  pub reply : Reply
  pub left : S

-- a refused call leaves all as it was
abbrev pub refuse : {S : Type 0} → ℕ → S → Result S
refuse n st = record { reply = refused n; left = st }

-- goes on where a test holds
abbrev pub need : {S : Type 0} → Bool → ℕ → S → Result S → Result S
need t n st r = cond t r (refuse n st)

-- 31 where no edition was found
abbrev pub found : {S : Type 0} → Option Settings → S → (Settings → Result S) → Result S
found none st r = refuse 31 st
found (some s) st r = r s
