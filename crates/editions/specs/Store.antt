-- The store of editions: the greatest number ever used and 64 places. A place whose number is 0 is free.
use Rattle.std.specs.Prelude.{ℕ, ◌+◌, Bool, false, cond, ◌&&◌, ◌||◌, List, [], ◌∷◌, eqb, leb, ltb, replicate}
use Rattle.std.proofs.Math.Option.{Option, none, some}
use Rattle.editions.specs.declared.Settings.{Settings}
use Rattle.editions.specs.declared.Edition.{Edition}
use Rattle.editions.specs.declared.Store.{Store}
use Rattle.editions.specs.declared.Made.{Made}
use Rattle.editions.specs.declared.Retired.{Retired}
use Rattle.editions.specs.declared.Read.{Read}
use Rattle.editions.specs.Calls.{live_most, number_most, settings_right, Result, need, found}
use Rattle.editions.specs.Calls.{Call, make, retire, read, Reply, refused, made, retired, has}

abbrev pub nothing : Settings
nothing = record { most = 0; machine = 0; version1 = 0; version3 = 0 }

abbrev pub free : Edition
free = record { number = 0; settings = nothing }

-- a place has edition e: that is its number, from 1 to 2^32 - 1, and its settings are right; a damaged place has none, and is not free
unfoldable pub holds : ℕ → Edition → Bool
holds e x = eqb x.number e && leb 1 x.number && leb x.number number_most && settings_right x.settings

-- the settings in the first place that has it
unfoldable pub look : ℕ → List Edition → Option Settings
look e [] = none
look e (x ∷ xs) = cond (holds e x) (some x.settings) (look e xs)

-- each place that had it is free
unfoldable pub without : ℕ → List Edition → List Edition
without e [] = []
without e (x ∷ xs) = cond (holds e x) free x ∷ without e xs

-- whether a place is free
unfoldable pub room : List Edition → Bool
room [] = false
room (x ∷ xs) = eqb x.number 0 || room xs

-- into the first free place
unfoldable pub kept : Edition → List Edition → List Edition
kept y [] = []
kept y (x ∷ xs) = cond (eqb x.number 0) (y ∷ xs) (x ∷ kept y xs)

-- The calls: 51, 32, 30; retire and read: 31.

unfoldable pub make_in : Store → Settings → Result Store
make_in st s =
    need (settings_right s) 51 st
    (need (ltb st.greatest number_most) 32 st (need (room st.slots) 30 st
    (record {
      reply = made (st.greatest + 1);
      left = record { greatest = st.greatest + 1; slots = kept (record { number = st.greatest + 1; settings = s }) st.slots };
    })))

unfoldable pub retire_in : Store → ℕ → Result Store
retire_in st e =
    found (look e st.slots) st
    (λ s. record { reply = retired; left = record { greatest = st.greatest; slots = without e st.slots } })

unfoldable pub read_in : Store → ℕ → Result Store
read_in st e = found (look e st.slots) st (λ s. record { reply = has s; left = st })

abbrev pub call : Store → Call → Result Store
call st (make s) = make_in st s
call st (retire e) = retire_in st e
call st (read e) = read_in st e

unfoldable pub empty : Store
empty = record { greatest = 0; slots = replicate live_most free }

-- the answers to calls, each on the store that the last one left
unfoldable pub answers : Store → List Call → List Reply
answers st [] = []
answers st (c ∷ cs) = (call st c).reply ∷ answers (call st c).left cs

-- What the functions give: the refusal's number, 0 where there is none, and zeros where there is nothing to tell.

abbrev pub number_of : Reply → ℕ
number_of (refused n) = n
number_of (made e) = 0
number_of retired = 0
number_of (has s) = 0

abbrev pub edition_of : Reply → ℕ
edition_of (refused n) = 0
edition_of (made e) = e
edition_of retired = 0
edition_of (has s) = 0

abbrev pub settings_of : Reply → Settings
settings_of (refused n) = nothing
settings_of (made e) = nothing
settings_of retired = nothing
settings_of (has s) = s

abbrev pub made_answer : Result Store → Made
made_answer r = record { number = number_of r.reply; edition = edition_of r.reply; store = r.left }

abbrev pub retired_answer : Result Store → Retired
retired_answer r = record { number = number_of r.reply; store = r.left }

abbrev pub read_answer : Result Store → Read
read_answer r = record { number = number_of r.reply; settings = settings_of r.reply }
