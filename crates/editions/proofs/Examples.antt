-- Short sequences of calls, computed. By as-history a store from the empty one on answers the same.
use Prim.Native.Nat.{ℕ, zero, suc, ◌+◌, ◌-◌, ◌^◌}
use mathlib.Core.Path.{◌≡◌, refl}
use mathlib.Core.List.{List, [], ◌∷◌}
use Rattle.editions.specs.declared.Settings.{Settings}
use Rattle.editions.specs.declared.Edition.{Edition}
use Rattle.editions.specs.Calls.{settings_right, make, retire, read, refused, made, retired, has}
use Rattle.editions.specs.Store.{free, holds, look, without, room, kept, make_in, retire_in, read_in, answers}
use Rattle.editions.specs.History.{Event, was_made, greatest_used, but_not, live, find, make_after, after, plain}

abbrev both : Settings
both = record { most = 256; machine = 0; version1 = 1; version3 = 1 }

abbrev three : Settings
three = record { most = 1; machine = 1; version1 = 0; version3 = 1 }

-- a retired number is not given again
retire_and_make : plain [] (make both ∷ make three ∷ retire 2 ∷ make both ∷ retire 2 ∷ read 2 ∷ read 3 ∷ read 1 ∷ [])
    ≡ made 1 ∷ made 2 ∷ retired ∷ made 3 ∷ refused 31 ∷ refused 31 ∷ has both ∷ has both ∷ []
unfolding plain after make_after settings_right greatest_used live but_not find
retire_and_make = refl

-- 0, numbers never given and numbers above 2^32 - 1
unknown : plain [] (read 0 ∷ make three ∷ read 0 ∷ retire 0 ∷ read 2 ∷ read (2 ^ 32) ∷ retire (2 ^ 32 + 1) ∷ read 1 ∷ [])
    ≡ refused 31 ∷ made 1 ∷ refused 31 ∷ refused 31 ∷ refused 31 ∷ refused 31 ∷ refused 31 ∷ has three ∷ []
unfolding plain after make_after settings_right greatest_used live but_not find
unknown = refl

-- 51 uses up no number
wrong_settings : plain []
    (make (record { most = 0; machine = 0; version1 = 1; version3 = 1 })
    ∷ make (record { most = 257; machine = 0; version1 = 1; version3 = 1 })
    ∷ make (record { most = 1; machine = 2; version1 = 1; version3 = 1 })
    ∷ make (record { most = 1; machine = 0; version1 = 0; version3 = 0 })
    ∷ make (record { most = 1; machine = 0; version1 = 2; version3 = 1 })
    ∷ make (record { most = 1; machine = 0; version1 = 1; version3 = 2 })
    ∷ make both ∷ [])
    ≡ refused 51 ∷ refused 51 ∷ refused 51 ∷ refused 51 ∷ refused 51 ∷ refused 51 ∷ made 1 ∷ []
unfolding plain after make_after settings_right greatest_used live but_not find
wrong_settings = refl

-- the last number, and then 32
last-number : plain (was_made (record { number = 2 ^ 32 - 2; settings = both }) ∷ []) (make both ∷ make both ∷ retire (2 ^ 32 - 1) ∷ make both ∷ [])
    ≡ made (2 ^ 32 - 1) ∷ refused 32 ∷ retired ∷ refused 32 ∷ []
unfolding plain after make_after settings_right greatest_used live but_not find
last-number = refl

-- 64 live, and the numbers go on where a place was freed
full : ℕ → List Event
full zero = []
full (suc n) = was_made (record { number = suc n; settings = both }) ∷ full n

full-store : plain (full 64) (make both ∷ retire 7 ∷ make three ∷ make both ∷ read 65 ∷ []) ≡ refused 30 ∷ retired ∷ made 65 ∷ refused 30 ∷ has three ∷ []
unfolding plain after make_after settings_right greatest_used live but_not find full
full-store = refl

-- 51 before 32, 32 before 30
order_of_refusals : plain (was_made (record { number = 2 ^ 32 - 1; settings = both }) ∷ full 63) (make (record { most = 0; machine = 0; version1 = 1; version3 = 1 }) ∷ make both ∷ [])
    ≡ refused 51 ∷ refused 32 ∷ []
unfolding plain after make_after settings_right greatest_used live but_not find full
order_of_refusals = refl

-- A damaged store: the greatest is below the numbers that are there, two places have one number, and two places are damaged.
damaged : List Edition
damaged =
    record { number = 3; settings = both }
    ∷ record { number = 3; settings = three }
    ∷ record { number = 4; settings = record { most = 257; machine = 0; version1 = 1; version3 = 1 } }
    ∷ record { number = 2 ^ 32; settings = both }
    ∷ free
    ∷ []

-- the first of two is read, both are freed, a damaged place is unknown and not free, and a number is given by the greatest alone
damaged_answers : answers (record { greatest = 3; slots = damaged })
    (read 3 ∷ read 4 ∷ retire 4 ∷ read (2 ^ 32) ∷ retire (2 ^ 32) ∷ make three ∷ read 4 ∷ make both ∷ retire 3 ∷ read 3 ∷ make both ∷ make both ∷ make both ∷ [])
    ≡ has both ∷ refused 31 ∷ refused 31 ∷ refused 31 ∷ refused 31 ∷ made 4 ∷ has three ∷ refused 30 ∷ retired ∷ refused 31 ∷ made 5 ∷ made 6 ∷ refused 30 ∷ []
unfolding answers make_in retire_in read_in settings_right holds look without room kept damaged
damaged_answers = refl

-- a greatest above 2^32 - 1 is 32
past_the_last : answers (record { greatest = 2 ^ 64 - 1; slots = free ∷ [] }) (make both ∷ []) ≡ refused 32 ∷ []
unfolding answers make_in settings_right
past_the_last = refl
