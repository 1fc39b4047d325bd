-- For the code alone: nothing here has to be believed.
-- What the check of a trace tells.
use Rattle.std.specs.Prelude.{ℕ, ◌+◌, ◌≡◌, cond, List, eqb, length, Result, Ok, Err}
use Rattle.stackmap.specs.Verdict.{need}
use Rattle.replay.specs.Layout.{frame_item_size, end_item_size}
use Rattle.replay.specs.Trace.{broken, whole, frame_stands, end_stands, trace}
use Rattle.replay.specs.Code.{steps_from, Holds}
use Rattle.replay_trace.specs.declared.Broken.{Broken}

-- it is broken at that place; or its steps are so many, from the first on
abbrev pub Shapes : List ℕ → Result ℕ Broken → Type 0
Shapes t (Err b) = trace t ≡ broken b.place
Shapes t (Ok n) = (trace t ≡ whole (steps_from t n 0)) × Holds t n

-- what stands after n steps, at a place where no step stands
unfoldable pub ended : List ℕ → ℕ → ℕ → Result ℕ Broken
ended t n at =
    cond (frame_stands t at) (Err (record { place = at + frame_item_size }))
    (need (end_stands t at) (Err (record { place = at })) (need (eqb (at + end_item_size) (length t)) (Err (record { place = at + end_item_size })) (Ok n)))
