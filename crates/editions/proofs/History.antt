-- The store answers as a plain history does: the taken places are the live editions, in some order.
use Prim.Native.Nat.{ℕ, ◌+◌, ◌-◌, ◌≤◌, ◌<◌}
use mathlib.Core.Path.{◌≡◌, refl, sym, ap, ◌∙◌}
use mathlib.Core.Bool.{Bool, true, false}
use mathlib.Core.Logic.{⊎_elim}
use mathlib.Core.Option.{Option, none, some}
use mathlib.Core.List.Memᴰ
use mathlib.Core.List.Permᴰ
use mathlib.Core.List.{List, [], ◌∷◌, Memᴰ, Permᴰ}
use native.Mathlib.Omega.{arith}
use borrow.Author.Tests.{ltb-true, lt-leb}
use lib.Dec.{ltb}
use lib.ListN.{length}
use Rattle.editions.specs.declared.Settings.{Settings}
use Rattle.editions.specs.declared.Edition.{Edition}
use Rattle.editions.specs.declared.Store.{Store}
use Rattle.editions.specs.Calls.{settings_right, live_most, number_most, Call, make, retire, read, Result}
use Rattle.editions.specs.Store.{look, room, kept, without, make_in, retire_in, read_in, call, empty, answers}
use Rattle.editions.specs.History.{Event, was_made, was_retired, greatest_used, live, find, make_after, after, plain}
use Rattle.editions.specs.Laws.{AsHistory}
use Rattle.editions.proofs.Orders.{perm_length, Apart, num, apart_perm, find_perm, but_perm, but_mem, but_apart}
use Rattle.editions.proofs.Places.{taken, Sound, look-taken, room-is, kept-length, kept_sound, kept-taken, without-length, without_sound, without-taken, none-taken, none_damaged}

-- No place is damaged, the taken ones are the live editions in some order, no two of these have one number, and none is above the greatest.
record Same (st : Store) (h : List Event) : Type 0 where
  pub greatest-is : st.greatest ≡ greatest_used h
  pub size : length st.slots ≡ live_most
  pub sound : Sound st.slots
  pub order : Permᴰ (taken st.slots) (live h)
  pub apart : Apart (live h)
  pub low : (x : Edition) → Memᴰ x (live h) → x.number ≤ greatest_used h

-- what is looked for is the same in both
in_taken : (st : Store) (h : List Event) → Same st h → (e : ℕ) → find e (taken st.slots) ≡ find e (live h)
in_taken st h r e = find_perm e r.order (apart_perm (Permᴰ.symm r.order) r.apart)

looks : (st : Store) (h : List Event) → Same st h → (e : ℕ) → look e st.slots ≡ find e (live h)
looks st h r e = look-taken e st.slots r.sound ∙ in_taken st h r e

rooms : (st : Store) (h : List Event) → Same st h → room st.slots ≡ ltb (length (live h)) live_most
rooms st h r = room-is st.slots ∙ rw (perm_length r.order, r.size)

-- the new number is the greatest
one_more : (h : List Event) (s : Settings) → greatest_used (was_made (record { number = greatest_used h + 1; settings = s }) ∷ h) ≡ greatest_used h + 1
unfolding greatest_used
one_more h s = rw (lt-leb (greatest_used h + 1) (greatest_used h) (omega arith))

same-made : (st : Store) (h : List Event) (s : Settings) → Same st h → settings_right s ≡ true → ltb (greatest_used h) number_most ≡ true → room st.slots ≡ true
    → Same (record { greatest = st.greatest + 1; slots = kept (record { number = st.greatest + 1; settings = s }) st.slots }) (was_made (record { number = greatest_used h + 1; settings = s }) ∷ h)
unfolding live
same-made st h s r es eb k =
    let below : greatest_used h < number_most = ltb-true (greatest_used h) number_most eb in
    let one : greatest_used (was_made (record { number = greatest_used h + 1; settings = s }) ∷ h) ≡ greatest_used h + 1 = one_more h s in
    rw r.greatest-is
    (record {
      greatest-is = sym one;
      size = kept-length _ st.slots ∙ r.size;
      sound = kept_sound _ st.slots (omega arith, omega arith, es) r.sound;
      order = Permᴰ.trans (kept-taken (record { number = greatest_used h + 1; settings = s }) st.slots (λ (z : greatest_used h + 1 ≡ 0). omega arith) k) (Permᴰ.cons refl r.order);
      apart = ((λ y m z. let l = r.low y m in absurd (omega arith)), r.apart);
      low = λ x m. rw one (⊎_elim (λ e. let q : x.number ≡ greatest_used h + 1 = ap num e in omega arith) (λ j. let l = r.low x j in omega arith) (Memᴰ.cases_cons m));
    })

same-retired : (st : Store) (h : List Event) (e : ℕ) → Same st h → Same (record { greatest = st.greatest; slots = without e st.slots }) (was_retired e ∷ h)
unfolding live greatest_used
same-retired st h e r =
    record {
      greatest-is = r.greatest-is;
      size = without-length e st.slots ∙ r.size;
      sound = without_sound e st.slots r.sound;
      order = rw (without-taken e st.slots r.sound) (but_perm e r.order);
      apart = but_apart e (live h) r.apart;
      low = λ x m. r.low x (but_mem e (live h) x m);
    }

-- one call
record Alike (a : Result Store) (b : Result (List Event)) : Type 0 where
  pub replies : a.reply ≡ b.reply
  pub lefts : Same a.left b.left

alike_tests : (st : Store) (h : List Event) (s : Settings) → Same st h → (a b c : Bool)
    → settings_right s ≡ a → ltb st.greatest number_most ≡ b → room st.slots ≡ c → Alike (make_in st s) (make_after h s)
unfolding make_in make_after
alike_tests st h s r false b c ea eb ec = rw ea (record { replies = refl; lefts = r })
alike_tests st h s r true false c ea eb ec = rw (ea, eb, rw r.greatest-is at eb) (record { replies = refl; lefts = r })
alike_tests st h s r true true false ea eb ec =
    rw (ea, eb, rw r.greatest-is at eb, ec, sym (rooms st h r) ∙ ec) (record { replies = refl; lefts = r })
alike_tests st h s r true true true ea eb ec =
    rw (ea, eb, rw r.greatest-is at eb, ec, sym (rooms st h r) ∙ ec)
    (record { replies = rw r.greatest-is; lefts = same-made st h s r ea (rw r.greatest-is at eb) ec })

alike_make : (st : Store) (h : List Event) (s : Settings) → Same st h → Alike (make_in st s) (make_after h s)
alike_make st h s r = alike_tests st h s r (settings_right s) (ltb st.greatest number_most) (room st.slots) refl refl refl

alike_retire : (st : Store) (h : List Event) (e : ℕ) → Same st h → (o : Option Settings) → find e (live h) ≡ o
    → Alike (retire_in st e) (after h (retire e))
unfolding retire_in after
alike_retire st h e r none eo = rw (looks st h r e, eo) (record { replies = refl; lefts = r })
alike_retire st h e r (some s) eo = rw (looks st h r e, eo) (record { replies = refl; lefts = same-retired st h e r })

alike_read : (st : Store) (h : List Event) (e : ℕ) → Same st h → (o : Option Settings) → find e (live h) ≡ o
    → Alike (read_in st e) (after h (read e))
unfolding read_in after
alike_read st h e r none eo = rw (looks st h r e, eo) (record { replies = refl; lefts = r })
alike_read st h e r (some s) eo = rw (looks st h r e, eo) (record { replies = refl; lefts = r })

alike : (st : Store) (h : List Event) (c : Call) → Same st h → Alike (call st c) (after h c)
unfolding after
alike st h (make s) r = alike_make st h s r
alike st h (retire e) r = alike_retire st h e r (find e (live h)) refl
alike st h (read e) r = alike_read st h e r (find e (live h)) refl

all_alike : (cs : List Call) (st : Store) (h : List Event) → Same st h → answers st cs ≡ plain h cs
unfolding answers plain
all_alike [] st h r = refl
all_alike (c ∷ cs) st h r = let a = alike st h c r in rw (a.replies, all_alike cs (call st c).left (after h c).left a.lefts)

pub as_history : AsHistory
unfolding live greatest_used empty
as_history cs =
    all_alike cs empty []
    (record { greatest-is = refl; size = refl; sound = none_damaged live_most; order = rw (none-taken live_most) Permᴰ.nil; apart = tt; low = λ x m. absurd (Memᴰ.not-nil m) })
