-- A frame's answer counts no more than a restore's largest pointer count, so the sum of a thread's fits.
use Prim.Native.Nat.{ℕ, suc, ◌≤◌}
use mathlib.Core.Path.{◌≡◌, refl}
use mathlib.Core.Bool.{Bool, true, false, not, ◌||◌}
use mathlib.Core.Option.{Option}
use mathlib.Core.List.{List, [], ◌∷◌, map, flatten}
use native.Mathlib.Omega.{arith}
use borrow.Author.Tests.{leb-true}
use lib.Dec.{leb}
use lib.ListN.{length}
use Rattle.stackmap.specs.Verdict.{Verdict}
use Rattle.stackmap.specs.Verdict.{Valid, Refused}
use Rattle.stackmap.specs.Verdict.{need}
use Rattle.stackmap.specs.Section.{Record, Entry, is_old, read_section}
use Rattle.stackmap.specs.Check.{section_check}
use Rattle.questions.specs.Questions.{ask}
use Rattle.moves.specs.Slots.{state}
use Rattle.moves.specs.Table.{table_right, look_up}
use Rattle.moves.specs.Window.{part}
use Rattle.moves.specs.Plan.{Plan, refuse, window, says}
use Rattle.moves.proofs.Order.{settled-most}
use Rattle.relocate.specs.declared.Cursor.{Cursor}
use Rattle.relocate.specs.Restore.{Restore, allowed}
use Rattle.relocate.specs.Stopped.{Stopped, registers_right, cursor}
use Rattle.relocate.specs.Statepoint.{is_statepoint, Pair, pairs, pointers_of}
use Rattle.relocate.specs.Plan.{records_of, only, every, image_right, extent_right, stack_size, plan_pairs, plan_record, plan}
use Rattle.relocate.specs.Relocation.{answer}

module _ (R : Restore) where
  -- a plan with so few pointers
  abbrev Few : Plan → Type 0
  Few (refuse n p) = Unit {0}
  Few (window off size pss) = length (flatten pss) ≤ R.settings.most

  need-few : (b : Bool) (n : ℕ) (k : Plan) → (b ≡ true → Few k) → Few (need b (refuse n 0) k)
  need-few true n k h = h refl
  need-few false n k h = tt

  only-few : (es : List Entry) (k : Entry → Plan) → ((e : Entry) → Few (k e)) → Few (only es k)
  unfolding only
  only-few [] k h = tt
  only-few (e ∷ []) k h = h e
  only-few (e ∷ e' ∷ es) k h = tt

  every-few : (good : Pair → Bool) (n i : ℕ) (ps : List Pair) (k : Plan) → Few k → Few (every good n i ps k)
  unfolding every
  every-few good n i [] k h = h
  every-few good n i (p ∷ ps) k h = go (good p) (every-few good n (suc i) ps k h)
    where
      go : (b : Bool) → Few (every good n (suc i) ps k) → Few (elim b [ true ↦ every good n (suc i) ps k | false ↦ refuse n i ])
      go true r = r
      go false r = tt

  ask-few : (v : Verdict) (k : Plan) → Few k → Few (ask refuse k v)
  unfolding ask
  ask-few (Valid e) k h = h
  ask-few (Refused n p) k h = tt

  pairs-few : (f : Cursor) (size : ℕ) (ps : List Pair) → Few (plan_pairs R f size ps)
  unfolding plan_pairs
  pairs-few f size ps =
      let old = is_old R.section in
      let pss = map (pointers_of old (read_section R.section).constants f) ps in
      need-few (not old || leb (length ps) R.settings.most) 17 _ (λ a. every-few _ 18 0 ps _
      (need-few (leb (length (flatten pss)) R.settings.most) 17 _ (λ b. every-few _ 19 0 ps _ (leb-true (length (flatten pss)) R.settings.most b))))

  record_few : (n : ℕ) (f : Cursor) (size : ℕ) (r : Record) → Few (plan_record R n f size r)
  unfolding plan_record
  record_few n f size r =
      need-few (is_statepoint r) 12 _ (λ a. need-few (extent_right R.first n f.sp size) 16 _ (λ b. pairs-few f size (pairs r)))

  plan-few : (n : ℕ) (f : Stopped) → Few (plan R n f)
  unfolding plan
  plan-few n f =
      ask-few (section_check R.section) _
      (need-few (allowed R f.frame.machine) 33 _ (λ x. need-few (image_right R.first n) 13 _ (λ a. need-few (table_right R.olds R.news) 14 _ (λ b.
      need-few (registers_right f.registers) 25 _ (λ d.
      only-few (records_of R.section f.frame) _ (λ e. record_few n (cursor f) (stack_size e) e.body))))))

  says-few : (table : ℕ → Option ℕ) (im rs : List ℕ) (p : Plan) → Few p → (says table im rs p).count ≤ R.settings.most
  says-few table im rs (refuse n q) h = omega arith
  says-few table im rs (window off size pss) h = omega (arith, settled-most table (flatten pss) (state (part im off size) rs))

  pub answer-few : (im : List ℕ) (f : Stopped) → (answer R im f).count ≤ R.settings.most
  unfolding answer
  answer-few im f = says-few (look_up R.olds R.news) im f.registers (plan R (length im) f) (plan-few (length im) f)
