-- A plain history: what was made and what was retired, the newest first. It has no places, and nothing is ever taken out of it.
use Rattle.std.specs.Prelude.{ℕ, ◌+◌, cond, List, [], ◌∷◌, eqb, leb, ltb, length}
use Rattle.std.proofs.Math.Option.{Option, none, some}
use Rattle.editions.specs.declared.Settings.{Settings}
use Rattle.editions.specs.declared.Edition.{Edition}
use Rattle.editions.specs.Calls.{settings_right, live_most, number_most, Result, need, found}
use Rattle.editions.specs.Calls.{Call, make, retire, read, Reply, made, retired, has}

-- an edition was made, or the one with that number was retired
pub data Event : Type 0 where
  was_made : Edition → Event
  was_retired : ℕ → Event

abbrev pub greater : ℕ → ℕ → ℕ
greater a b = cond (leb a b) b a

-- the greatest number ever used, retired or not; 0 before the first
unfoldable pub greatest_used : List Event → ℕ
greatest_used [] = 0
greatest_used (was_made x ∷ h) = greater x.number (greatest_used h)
greatest_used (was_retired e ∷ h) = greatest_used h

-- all but those with that number
unfoldable pub but_not : ℕ → List Edition → List Edition
but_not e [] = []
but_not e (x ∷ xs) = cond (eqb x.number e) (but_not e xs) (x ∷ but_not e xs)

-- the editions that were made and not retired since
unfoldable pub live : List Event → List Edition
live [] = []
live (was_made x ∷ h) = x ∷ live h
live (was_retired e ∷ h) = but_not e (live h)

-- the settings of the edition with that number, if it is among these
unfoldable pub find : ℕ → List Edition → Option Settings
find e [] = none
find e (x ∷ xs) = cond (eqb x.number e) (some x.settings) (find e xs)

-- 51, 32, 30; a new edition gets one more than the greatest ever used
unfoldable pub make_after : List Event → Settings → Result (List Event)
make_after h s =
    need (settings_right s) 51 h
    (need (ltb (greatest_used h) number_most) 32 h (need (ltb (length (live h)) live_most) 30 h
    (record { reply = made (greatest_used h + 1); left = was_made (record { number = greatest_used h + 1; settings = s }) ∷ h })))

-- 31 where it was never made, or was retired
unfoldable pub after : List Event → Call → Result (List Event)
after h (make s) = make_after h s
after h (retire e) = found (find e (live h)) h (λ s. record { reply = retired; left = was_retired e ∷ h })
after h (read e) = found (find e (live h)) h (λ s. record { reply = has s; left = h })

-- the answers to calls, each after the history that the last one left
unfoldable pub plain : List Event → List Call → List Reply
plain h [] = []
plain h (c ∷ cs) = (after h c).reply ∷ plain (after h c).left cs
