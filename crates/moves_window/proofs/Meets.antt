-- What the arrays of the code make is what the pairs' list makes.
use Prim.Native.Nat.{ℕ, zero, suc, ◌+◌, ◌^◌, ◌≤◌, ◌<◌}
use mathlib.Core.Path.{◌≡◌, refl, sym, ap, ◌∙◌}
use mathlib.Core.Bool.{Bool, true, false, cond, true≢false}
use mathlib.Core.Option.{Option}
use mathlib.Core.List.{List}
use native.Mathlib.Omega.{arith}
use native.Mathlib.Nat.{not-suc-le-zero}
use borrow.Author.Tests.{eqb-false, lt-ltb, le-ltb}
use lib.Dec.{eqb}
use lib.ListN.{length, get_or}
use Rattle.moves.specs.Slots.{State, read, put}
use Rattle.moves.specs.Pointers.{Pointer, null, slots, clash, unknown, new_content}
use Rattle.moves.specs.declared.Move.{Move}
use Rattle.moves.specs.Settle.{refused_move, accepted_move, first20, first21, write1, write, at_lowest, settled}
use Rattle.moves.specs.Code.{Settles}
use Rattle.moves.specs.Arrays.{registers_from, slot_of, slots_clash_at, pointer_at, list_from, pointers_of, clash_at, first_clash, Within, AllPlaced, Filled, unknown_at, first_unknown, renewed, Renews, Judges, put_one, puts}
use Rattle.moves.proofs.Searches.{lowest_ext, any_ext}
use Rattle.moves.proofs.Order.{settle-accepted, settle-refused}
use Rattle.moves.proofs.Numbers.{clash-number, placed-most}

list_length : (f : ℕ → Pointer) (k i : ℕ) → length (list_from f k i) ≡ k
list_length f zero i = refl
list_length f (suc k) i = ap suc (list_length f k (suc i))

list_at : (f : ℕ → Pointer) (k i j : ℕ) → j < k → get_or (list_from f k i) j null ≡ f (i + j)
list_at f zero i j h = absurd (not-suc-le-zero h)
list_at f (suc k) i zero h = ap f (omega arith)
list_at f (suc k) i (suc j) h = list_at f k (suc i) j (omega arith) ∙ ap f (omega arith)

module _ (live bs ds : List ℕ) (n : ℕ) where
  pub pointers_length : length (pointers_of n live bs ds) ≡ n
  unfolding pointers_of
  pointers_length = list_length (pointer_at live bs ds) n 0

  pub pointers_at : (k : ℕ) → k < n → get_or (pointers_of n live bs ds) k null ≡ pointer_at live bs ds k
  unfolding pointers_of
  pointers_at k h = list_at (pointer_at live bs ds) n 0 k h ∙ ap (pointer_at live bs ds) (omega arith)

  module _ (table : ℕ → Option ℕ) (m registers : ℕ) (few : m ≤ registers_from) (placed : AllPlaced m registers n live bs ds)
      (w : State) (vs : List ℕ) (fv : Filled (λ k. read w (slot_of (get_or bs k 0))) live vs n) where
    clash_meets : (p q : ℕ) → p < n → q < n → clash w (pointer_at live bs ds p) (pointer_at live bs ds q) ≡ clash_at live bs ds vs p q
    unfolding clash pointer_at clash_at
    clash_meets p q hp hq = go (eqb (get_or live p 0) 0) refl (eqb (get_or live q 0) 0) refl
      where
        P : Pointer
        P = slots (slot_of (get_or bs p 0)) (slot_of (get_or ds p 0))

        Q : Pointer
        Q = slots (slot_of (get_or bs q 0)) (slot_of (get_or ds q 0))

        go : (s : Bool) → eqb (get_or live p 0) 0 ≡ s → (t : Bool) → eqb (get_or live q 0) 0 ≡ t
            → clash w (cond s null P) (cond t null Q)
            ≡ cond s false (cond t false (slots_clash_at (get_or bs p 0) (get_or ds p 0) (get_or vs p 0) (get_or bs q 0) (get_or ds q 0) (get_or vs q 0)))
        go true d t e = refl
        go false d true e = refl
        go false d false e =
            let lp = eqb-false (get_or live p 0) 0 d in
            let lq = eqb-false (get_or live q 0) 0 e in
            rw (fv.at p hp lp, fv.at q hq lq)
            (sym (clash-number m registers few _ _ _ _ _ _ (placed.base_in p hp lp) (placed.derived_in p hp lp) (placed.base_in q hq lq) (placed.derived_in q hq lq)))

    first20_meets : first_clash live bs ds vs n ≡ first20 (pointers_of n live bs ds) w
    unfolding first_clash first20
    first20_meets =
        rw pointers_length
        (lowest_ext _ _ n (λ p hp. any_ext (clash_at live bs ds vs p) (λ q. clash w (get_or (pointers_of n live bs ds) p null) (get_or (pointers_of n live bs ds) q null)) (suc p) (λ q hq.
        rw (pointers_at p hp, pointers_at q (omega arith)) (sym (clash_meets p q hp (omega arith))))))

    first21_meets : first_unknown table live vs n ≡ first21 table (pointers_of n live bs ds) w
    unfolding first_unknown first21 unknown_at pointer_at
    first21_meets = rw pointers_length (lowest_ext _ _ n (λ p hp. rw (pointers_at p hp) (one p hp (eqb (get_or live p 0) 0) refl)))
      where
        one : (p : ℕ) → p < n → (s : Bool) → eqb (get_or live p 0) 0 ≡ s → unknown_at table live vs p ≡ unknown table w (pointer_at live bs ds p)
        one p hp true e = rw e
        one p hp false e = rw (e, fv.at p hp (eqb-false (get_or live p 0) 0 e))

    -- the four ends of a judgement
    new-contents : (cs : List ℕ) → Filled (renewed table w ds vs) live cs n → Filled (λ k. new_content table w (slot_of (get_or bs k 0)) (slot_of (get_or ds k 0))) live cs n
    unfolding new_content
    new-contents cs fc = record { at = λ k h l. fc.at k h l ∙ rw (fv.at k h l) }

    pub fine : (p u : ℕ) (cs : List ℕ) → p ≡ first_clash live bs ds vs n → n ≤ p → Renews table w live ds vs n u cs → n ≤ u
        → Judges table w live bs ds n (accepted_move n) cs
    unfolding settled at_lowest
    fine p u cs a b d e =
        record {
          answer = rw (← first20_meets, ← first21_meets, ← a, ← d.answer, pointers_length, le-ltb p n b, le-ltb u n e);
          contents = λ z. new-contents cs (d.left e);
        }

    pub stop20 : (p : ℕ) (cs : List ℕ) → p ≡ first_clash live bs ds vs n → p < n → Judges table w live bs ds n (refused_move 20 p) cs
    unfolding settled at_lowest
    stop20 p cs a b = record { answer = rw (← first20_meets, ← a, pointers_length, lt-ltb p n b); contents = λ z. absurd (omega arith) }

    pub stop21 : (p u : ℕ) (cs : List ℕ) → p ≡ first_clash live bs ds vs n → n ≤ p → Renews table w live ds vs n u cs → u < n
        → Judges table w live bs ds n (refused_move 21 u) cs
    unfolding settled at_lowest
    stop21 p u cs a b d e =
        record {
          answer = rw (← first20_meets, ← first21_meets, ← a, ← d.answer, pointers_length, le-ltb p n b, lt-ltb u n e);
          contents = λ z. absurd (omega arith);
        }

  -- what is left after a judgement
  module _ (table : ℕ → Option ℕ) (w : State) (r : Move) (cs : List ℕ) (j : Judges table w live bs ds n r cs) where
    abbrev ps : List Pointer
    ps = pointers_of n live bs ds

    put_meets : r.number ≡ 0 → (i : ℕ) (cur : State) → i < n → put_one live ds cs i cur ≡ write1 table w cur (pointer_at live bs ds i)
    unfolding put_one pointer_at
    put_meets a i cur h = go (eqb (get_or live i 0) 0) refl
      where
        go : (s : Bool) → eqb (get_or live i 0) 0 ≡ s
            → cond s cur (put cur (slot_of (get_or ds i 0)) (get_or cs i 0)) ≡ write1 table w cur (cond s null (slots (slot_of (get_or bs i 0)) (slot_of (get_or ds i 0))))
        go true e = refl
        go false e = rw ((j.contents a).at i h (eqb-false (get_or live i 0) 0 e))

    puts_meet : r.number ≡ 0 → (k i : ℕ) (cur : State) → i + k ≤ n → puts live ds cs k i cur ≡ write table w cur (list_from (pointer_at live bs ds) k i)
    puts_meet a zero i cur h = refl
    puts_meet a (suc k) i cur h = rw (put_meets a i cur (omega arith)) (puts_meet a k (suc i) (write1 table w cur (pointer_at live bs ds i)) (omega arith))

    pub done : (after : State) → r.number ≡ 0 → after ≡ puts live ds cs n 0 w → Settles table true r after ps w
    unfolding pointers_of
    done after a e =
        record {
          answer = j.answer;
          left = e ∙ puts_meet a n 0 w (omega arith) ∙ sym (settle-accepted table ps w (sym (ap (λ (m : Move). m.number) j.answer) ∙ a));
        }

    -- only judged, or refused: nothing is written
    judged : Settles table false r w ps w
    judged = record { answer = j.answer; left = refl }

    pub stays : (write : Bool) → (r.number ≡ 0 → write ≡ false) → Settles table write r w ps w
    stays false z = judged
    stays true z =
        record {
          answer = j.answer;
          left = sym (settle-refused table ps w (λ e. true≢false (z (ap (λ (m : Move). m.number) j.answer ∙ e))));
        }

-- no number is near 2^63
pub placed_below : (m registers n : ℕ) (live bs ds : List ℕ) → m ≤ registers_from → registers ≤ 32 → AllPlaced m registers n live bs ds → Within (2 ^ 63) n live bs ds
placed_below m registers n live bs ds h k p =
    record {
      base_in = λ j a l. omega (arith, placed-most m registers (get_or bs j 0) h k (p.base_in j a l));
      derived_in = λ j a l. omega (arith, placed-most m registers (get_or ds j 0) h k (p.derived_in j a l));
    }
