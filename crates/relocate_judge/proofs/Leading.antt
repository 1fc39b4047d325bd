-- From an outline to the judgement of a frame.
use Prim.Native.Nat.{ℕ, ◌+◌, ◌-◌, ◌≤◌, ◌<◌}
use mathlib.Core.Path.{◌≡◌, refl, sym, ap, ◌∙◌, subst}
use mathlib.Core.Bool.{true, not, true≢false}
use mathlib.Core.Option.{Option}
use mathlib.Core.List.{List, flatten}
use native.Mathlib.Omega.{arith}
use borrow.Author.Tests.{eq-eqb}
use lib.Dec.{eqb}
use lib.ListN.{length}
use Rattle.stackmap.proofs.Tests.{and_true}
use Rattle.questions.specs.declared.Found.{Found}
use Rattle.questions.specs.Kept.{of_section}
use Rattle.moves.specs.declared.Move.{Move}
use Rattle.moves.specs.Table.{table_right, look_up}
use Rattle.moves.specs.Search.{lowest}
use Rattle.moves.specs.Window.{part}
use Rattle.moves.specs.Slots.{State, state}
use Rattle.moves.specs.Pointers.{Pointer}
use Rattle.moves.specs.Plan.{refuse, window, at_pair}
use Rattle.moves.specs.Settle.{accepted_move, settled}
use Rattle.moves.specs.Arrays.{AllPlaced, pointers_of}
use Rattle.moves.proofs.Order.{accepted-whole}
use Rattle.relocate.specs.declared.Cursor.{Cursor}
use Rattle.relocate.specs.declared.Frame.{Frame}
use Rattle.relocate.specs.declared.Settings.{Settings}
use Rattle.relocate.specs.Limits.{register_count}
use Rattle.relocate.specs.Restore.{Restore, restore}
use Rattle.relocate.specs.Stopped.{Stopped, stopped}
use Rattle.relocate.specs.Statepoint.{Pair, inside}
use Rattle.relocate.specs.Plan.{image_right, plan}
use Rattle.relocate.specs.Relocation.{answer}
use Rattle.relocate.specs.Code.{record_of, pool_of, plan_slots, pair_number}
use Rattle.relocate_plan.specs.declared.Outline.{Outline}
use Rattle.relocate_plan.specs.Outlined.{Stands, refused_outline}
use Rattle.relocate_plan.proofs.Following.{slots_19, slots_on}
use Rattle.relocate_judge.specs.Judged.{Leads, pointers_in, Judged}

-- 19 and the window read nothing of the settings
pub slots_any : (s olds news : List ℕ) (first : ℕ) (t u : Settings) (f : Cursor) (n : ℕ) (ps : List Pair)
    → plan_slots (restore s olds news first t) f n ps ≡ plan_slots (restore s olds news first u) f n ps
unfolding plan_slots
slots_any s olds news first t u f n ps = refl

-- the section's own refusal has a number
pub section-number : (r : Found) → of_section r ≡ true → r.number ≡ 0 → ⊥
unfolding of_section
section-number r h e =
    let a = (and_true (not (eqb r.number 0)) (not (eqb r.number 10)) h).0 in
    true≢false (sym (rw (eq-eqb r.number 0 e) at a))

-- where every slot is inside, the arrays hold what is placed in the window
pub placed_end : (off size n m : ℕ) (live bases derived : List ℕ) → n ≡ m → AllPlaced size register_count m live bases derived
    → AllPlaced (off + size - off) register_count n live bases derived
placed_end off size n m live bases derived e h = let z : off + size - off ≡ size = omega arith in rw (z, e) h

module _ (R : Restore) (im : List ℕ) (st : Stopped) (f : Cursor) (live bases derived : List ℕ) where
  -- a plan that is a refusal
  pub refuses : (o : Outline) → plan R (length im) st ≡ refuse o.number o.place → (o.number ≡ 0 → ⊥) → Judged R im st f o live bases derived
  unfolding answer
  refuses o e h = record { refused = λ z. rw e (refl, refl); held = λ z. absurd (h z) }

  pub refuses_at : (n p : ℕ) (o : Outline) → o ≡ refused_outline n p → plan R (length im) st ≡ refuse n p → (n ≡ 0 → ⊥) → Judged R im st f o live bases derived
  refuses_at n p o q e h = refuses o (rw q e) (rw q h)

-- by an equal cursor
pub judged-cursor : (R : Restore) (im : List ℕ) (st : Stopped) (f h : Cursor) (o : Outline) (live bases derived : List ℕ) → f ≡ h
    → Judged R im st f o live bases derived → Judged R im st h o live bases derived
judged-cursor R im st f h o live bases derived e j = subst (λ (q : Cursor). Judged R im st q o live bases derived) e j

module _ (s olds news : List ℕ) (first : ℕ) (settings : Settings) (im : List ℕ) (g : Frame) (rs : List ℕ) (f : Cursor) (o : Outline)
    (S : Stands s first (length im) f o) (L : Leads (restore s olds news first settings) im (stopped g rs) f o) (out : ℕ)
    (w : out ≡ lowest (λ p. not (inside o.old (pool_of s) f o.size (pair_number (record_of s o.at) p))) o.count) where
  abbrev R : Restore
  R = restore s olds news first settings

  abbrev st : Stopped
  st = stopped g rs

  abbrev pss : List (List Pointer)
  pss = pointers_in R f o

  abbrev off : ℕ
  off = f.sp - first

  abbrev table : ℕ → Option ℕ
  table = look_up olds news

  abbrev v : State
  v = state (part im off (off + o.size - off)) rs

  pub leads_19 : out < o.count → (r : Outline) → r ≡ refused_outline 19 out → (live bases derived : List ℕ) → Judged R im st f r live bases derived
  leads_19 h r q live bases derived =
      refuses_at R im st f live bases derived 19 out r q
      (L.goes_on ∙ slots_19 R f o.size (record_of s o.at) o.count S.formed.paired.counted o.old S.formed.old_is out w h)
      (λ z. absurd (omega arith))

  module _ (h : o.count ≤ out) (live bases derived : List ℕ) (held : pointers_of (length (flatten pss)) live bases derived ≡ flatten pss)
      (placed : AllPlaced o.size register_count (length (flatten pss)) live bases derived) (m j : Move) (a : m ≡ at_pair pss j)
      (e : j ≡ settled table (pointers_of o.pointers live bases derived) v) where
    is : plan R (length im) st ≡ window off (off + o.size - off) pss
    is = L.goes_on ∙ slots_on R f o.size (record_of s o.at) o.count S.formed.paired.counted o.old S.formed.old_is out w h off refl

    holds : pointers_of o.pointers live bases derived ≡ flatten pss
    holds = ap (λ (n : ℕ). pointers_of n live bases derived) S.formed.counted ∙ held

    settles : j ≡ settled table (flatten pss) v
    settles = e ∙ ap (λ (ps : List Pointer). settled table ps v) holds

    answers : answer R im st ≡ m
    unfolding answer
    answers = rw is (sym (a ∙ ap (at_pair pss) settles))

    pub leads_stop : (m.number ≡ 0 → ⊥) → (r : Outline) → r ≡ refused_outline m.number m.place → Judged R im st f r live bases derived
    leads_stop z r q =
        rw q
        (record { refused = λ y. (ap (λ (x : Move). x.number) answers, ap (λ (x : Move). x.place) answers); held = λ y. absurd (z y) })

    accepts : m.number ≡ 0 → answer R im st ≡ accepted_move o.pointers
    accepts z =
        let n : (settled table (flatten pss) v).number ≡ 0 = sym (ap (λ (x : Move). x.number) (a ∙ ap (at_pair pss) settles)) ∙ z in
        answers ∙ a ∙ ap (at_pair pss) (settles ∙ accepted-whole table (flatten pss) v n) ∙ ap accepted_move (sym S.formed.counted)

    pub leads_held : m.number ≡ 0 → o.number ≡ 0 → table_right olds news ≡ true → length rs ≡ register_count → image_right first (length im) ≡ true
        → Judged R im st f o live bases derived
    leads_held z y t k i =
        record {
          refused = λ x. absurd (x y);
          held = λ x.
              record {
                accepted = L.accepted;
                cursor_is = L.cursor_is;
                stands = S;
                registers_right = k;
                image_right = i;
                table_right = t;
                is_window = let q : off + o.size - off ≡ o.size = omega arith in rw q at is;
                holds = holds;
                placed = rw S.formed.counted placed;
                answer_is = accepts z;
              };
        }
