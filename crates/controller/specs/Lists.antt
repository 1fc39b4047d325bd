-- Lists of the controller's moves: they run one after another, each on the image as the last one left it.
use Rattle.std.specs.Prelude.{ℕ, Bool, true, false, cond, List, [], ◌∷◌}
use Rattle.stackmap.specs.Verdict.{Verdict}
use Rattle.stackmap.specs.Verdict.{Valid, Refused}
use Rattle.moves.specs.declared.Move.{Move}
use Rattle.relocate.specs.declared.Machine.{Machine}
use Rattle.relocate.specs.Restore.{Restore}
use Rattle.relocate.specs.Stopped.{Stopped}
use Rattle.controller.specs.Profile.{profile_check}
use Rattle.controller.specs.Controller.{controller_answer, controller_image, controller_registers}

module _ (R : Restore) where
  abbrev pub controller_answers : List Stopped → List ℕ → List Move
  controller_answers [] im = []
  controller_answers (f ∷ fs) im = controller_answer R im f ∷ controller_answers fs (controller_image R im f)

  abbrev pub controller_final : List Stopped → List ℕ → List ℕ
  controller_final [] im = im
  controller_final (f ∷ fs) im = controller_final fs (controller_image R im f)

  -- the registers of each frame after the list
  abbrev pub controller_final_registers : List Stopped → List ℕ → List (List ℕ)
  controller_final_registers [] im = []
  controller_final_registers (f ∷ fs) im = controller_registers R im f ∷ controller_final_registers fs (controller_image R im f)

abbrev pub is_valid : Verdict → Bool
is_valid (Valid e) = true
is_valid (Refused n p) = false

-- the section keeps the profile, for frames of this machine: of none but AMD64
abbrev pub in_profile : List ℕ → Machine → Bool
in_profile s m = is_valid (profile_check m s)

-- the frames of a list that the profile takes: none of a section that doesn't keep it
abbrev pub taken : List ℕ → List Stopped → List Stopped
taken s [] = []
taken s (f ∷ fs) = cond (in_profile s f.frame.machine) (f ∷ taken s fs) (taken s fs)
