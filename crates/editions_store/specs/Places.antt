-- For the code alone: nothing here has to be believed.
-- Places by their position, as the code finds them.
use Rattle.std.specs.Prelude.{ℕ, zero, suc, ◌+◌, Bool, cond, List, [], ◌∷◌, eqb, get_or, set}
use Rattle.editions.specs.declared.Settings.{Settings}
use Rattle.editions.specs.declared.Edition.{Edition}
use Rattle.editions.specs.declared.Store.{Store}
use Rattle.editions.specs.Calls.{Result, made}
use Rattle.editions.specs.Store.{free, holds}

abbrev pub is_free : Edition → Bool
is_free x = eqb x.number 0

-- how many places stand before the first such one
unfoldable pub first : (Edition → Bool) → List Edition → ℕ
first p [] = 0
first p (x ∷ xs) = cond (p x) 0 (suc (first p xs))

-- a new edition at the place i
abbrev pub made_at : Store → Settings → ℕ → Result Store
made_at st s i =
    record {
      reply = made (st.greatest + 1);
      left = record { greatest = st.greatest + 1; slots = set st.slots i (record { number = st.greatest + 1; settings = s }) };
    }

-- a place after a retirement
abbrev pub clear : ℕ → Edition → Edition
clear e x = cond (holds e x) free x

-- the first i places after a retirement, and the others as they were
unfoldable pub clear_up_to : ℕ → ℕ → List Edition → List Edition
clear_up_to e zero xs = xs
clear_up_to e (suc i) xs = set (clear_up_to e i xs) i (clear e (get_or (clear_up_to e i xs) i free))
