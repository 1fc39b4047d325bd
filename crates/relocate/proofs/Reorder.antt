-- The order of pairs does not count.
use Prim.Native.Nat.{ℕ, suc, ◌≤◌, ◌<◌}
use mathlib.Core.Path.{◌≡◌, refl, sym, ap, ◌∙◌}
use mathlib.Core.Bool.{Bool, true, false, not, cond, ◌||◌}
use mathlib.Core.Logic.{⊎_elim}
use mathlib.Core.Option.{Option, none, some}
use mathlib.Core.List.Memᴰ
use mathlib.Core.List.Permᴰ
use mathlib.Core.List.{List, [], ◌∷◌, map, flatten, Memᴰ, Permᴰ}
use native.Mathlib.Omega.{arith}
use lib.Dec.{eqb, leb}
use lib.ListN.{length, get_elem?}
use Rattle.wire.specs.Word.{Bytes}
use Rattle.stackmap.specs.Verdict.{Valid}
use Rattle.stackmap.specs.Verdict.{need}
use Rattle.stackmap.specs.Section.{Function, Section, is_old, read_section, Owner, Entry, address, entries}
use Rattle.stackmap.specs.Check.{section_check}
use Rattle.stackmap.specs.Fault.{WellFormed}
use Rattle.stackmap.proofs.Entries.{old_of}
use Rattle.stackmap.proofs.WellFormed.{well_formed_accepted, accepted_well_formed}
use Rattle.moves.specs.Window.{part, splice}
use Rattle.moves.specs.Table.{table_right, look_up}
use Rattle.moves.specs.Slots.{State, state}
use Rattle.moves.specs.Pointers.{Pointer}
use Rattle.moves.specs.Plan.{Plan, refuse, window, says, leaves, leaves_registers}
use Rattle.moves.proofs.Searches.{perm_mem, perm_length}
use Rattle.moves.proofs.Order.{Alike, settle_perm}
use Rattle.moves.proofs.Blocks.{blocks_perm, pairs_alike}
use Rattle.moves.proofs.Lists.{Sound, all-inside}
use Rattle.relocate.specs.declared.Cursor.{Cursor}
use Rattle.questions.specs.Questions.{ask, among, with_address, at_offset, of_function, sought}
use Rattle.relocate.specs.Restore.{Restore, allowed}
use Rattle.relocate.specs.Stopped.{Stopped, registers_right, cursor}
use Rattle.relocate.specs.Statepoint.{is_statepoint, Pair, pairs, right_form, inside, pointers_of}
use Rattle.relocate.specs.Plan.{records_of, only, every, stack_size, image_right, extent_right, plan_pairs, plan_record, plan}
use Rattle.relocate.specs.Relocation.{answer, moved, moved_registers}
use Rattle.relocate.specs.Code.{plan_entry}
use Rattle.relocate.specs.Reorder.{OtherOrder, with_section, PairOrder}
use Rattle.relocate.proofs.Planned.{every_yes, every_no, sound}
use Rattle.relocate.proofs.Like.{EntryLike, EntriesLike, like_address, section_like, still_well}

-- two plans with one refusal number, or one window with its pairs in two orders
data SamePlan : Plan → Plan → Type 0 where
  refusals : {n i j : ℕ} → (n < 18 → i ≡ j) → SamePlan (refuse n i) (refuse n j)
  windows : {off size : ℕ} {ps qs : List (List Pointer)} → Permᴰ ps qs → SamePlan (window off size ps) (window off size qs)

same-need : (b : Bool) (n : ℕ) (k k' : Plan) → SamePlan k k' → SamePlan (need b (refuse n 0) k) (need b (refuse n 0) k')
same-need true n k k' h = h
same-need false n k k' h = refusals (λ l. refl)

-- all are good, or one is not
data Tested (good : Pair → Bool) (n : ℕ) (ps : List Pair) (k x : Plan) : Type 0 where
  passed : ((p : Pair) → Memᴰ p ps → good p ≡ true) → x ≡ k → Tested good n ps k x
  failed : (p : Pair) (i : ℕ) → Memᴰ p ps → good p ≡ false → x ≡ refuse n i → Tested good n ps k x

tested : (good : Pair → Bool) (n i : ℕ) (ps : List Pair) (k : Plan) → Tested good n ps k (every good n i ps k)
tested good n i [] k = unfold every in passed (λ p m. absurd (Memᴰ.not-nil m)) refl
tested good n i (p ∷ ps) k = go (good p) refl (tested good n (suc i) ps k)
  where
    go : (b : Bool) → good p ≡ b → Tested good n ps k (every good n (suc i) ps k) → Tested good n (p ∷ ps) k (every good n i (p ∷ ps) k)
    go false e t = failed p i (Memᴰ.head refl) e (every_no good n i p ps k e)
    go true e (passed a h) =
        passed (λ q m. ⊎_elim (λ d. rw d e) (λ m₁. a q m₁) (Memᴰ.cases_cons m)) (every_yes good n i p ps k e ∙ h)
    go true e (failed q j m b h) = failed q j (Memᴰ.tail m) b (every_yes good n i p ps k e ∙ h)

same-every : (good : Pair → Bool) (n i : ℕ) (ps qs : List Pair) (k k' : Plan) → 18 ≤ n → Permᴰ ps qs → SamePlan k k' → SamePlan (every good n i ps k) (every good n i qs k')
same-every good n i ps qs k k' late perm h = go _ _ (tested good n i ps k) (tested good n i qs k')
  where
    clash : (p : Pair) → good p ≡ true → good p ≡ false → ⊥
    clash p a b = let z : ◌≡◌ {A = ℕ} 0 1 = cc in omega arith

    go : (x y : Plan) → Tested good n ps k x → Tested good n qs k' y → SamePlan x y
    go x y (passed a e) (passed b f) = rw (e, f) h
    go x y (passed a e) (failed q j m b f) = absurd (clash q (a q (perm_mem (Permᴰ.symm perm) m)) b)
    go x y (failed q j m b e) (passed a f) = absurd (clash q (a q (perm_mem perm m)) b)
    go x y (failed q j m b e) (failed q' j' m' b' f) = rw (e, f) (refusals {n = n} (λ l. absurd (omega arith)))

-- two restores that a frame's record doesn't tell apart
record Same (R R' : Restore) : Type 0 where
  old-same : is_old R'.section ≡ is_old R.section
  pool-same : (read_section R'.section).constants ≡ (read_section R.section).constants
  first-same : R'.first ≡ R.first
  most-same : R'.settings.most ≡ R.settings.most

same-entry : (R R' : Restore) (n : ℕ) (f : Cursor) (e e' : Entry) → Same R R' → EntryLike e e' → SamePlan (plan_entry R n f e) (plan_entry R' n f e')
unfolding plan_record plan_pairs
same-entry R R' n f e e' w l =
    let p = l.body_like.pairs_perm in
    let o = l.owner-same in
    let c : length (pairs e'.body) ≡ length (pairs e.body) = sym (perm_length p) in
    let old = is_old R.section in
    let pool = (read_section R.section).constants in
    let g = pointers_of old pool f in
    let d : length (flatten (map g (pairs e'.body))) ≡ length (flatten (map g (pairs e.body))) = sym (perm_length (blocks_perm (Permᴰ.map g p))) in
    rw (l.body_like.statepoint-same, o, c, w.old-same, w.pool-same, w.first-same, w.most-same, d)
    (same-need (is_statepoint e.body) 12 _ _ (same-need (extent_right R.first n f.sp (stack_size e)) 16 _ _ (same-need (not old || leb (length (pairs e.body)) R.settings.most) 17 _ _
    (same-every (right_form f.machine old pool) 18 0 _ _ _ _ (omega arith) p (same-need (leb (length (flatten (map g (pairs e.body)))) R.settings.most) 17 _ _
    (same-every (inside old pool f (stack_size e)) 19 0 _ _ _ _ (omega arith) p (windows (Permᴰ.map g p))))))))

with_like : (a : ℕ) (es es' : List Entry) → EntriesLike es es' → EntriesLike (with_address a es) (with_address a es')
unfolding with_address
with_like a [] [] l = tt
with_like a [] (e' ∷ es') l = absurd l
with_like a (e ∷ es) [] l = absurd l
with_like a (e ∷ es) (e' ∷ es') l = rw (like_address e e' l.0) (go (eqb (address e) a) (with_like a es es' l.1))
  where
    go : (b : Bool) → EntriesLike (with_address a es) (with_address a es')
        → EntriesLike (cond b (e ∷ with_address a es) (with_address a es)) (cond b (e' ∷ with_address a es') (with_address a es'))
    go true h = (l.0, h)
    go false h = h

-- an entry, as one of the owner o
abbrev of_owner : Owner → Entry → Entry
of_owner o x = record { number = x.number; first = x.first; owner = o; body = x.body }

offset_like : (a : ℕ) (o : Owner) (es es' : List Entry) → EntriesLike es es' → EntriesLike (at_offset a o es) (at_offset a o es')
unfolding at_offset
offset_like a o [] [] l = tt
offset_like a o [] (e' ∷ es') l = absurd l
offset_like a o (e ∷ es) [] l = absurd l
offset_like a o (e ∷ es) (e' ∷ es') l =
    go (eqb e.body.offset a) (eqb e'.body.offset a) (ap (λ (x : ℕ). eqb x a) l.0.body_like.offset-same) (offset_like a o es es' l.1)
  where
    go : (b b' : Bool) → b' ≡ b → EntriesLike (at_offset a o es) (at_offset a o es')
        → EntriesLike (cond b (of_owner o e ∷ at_offset a o es) (at_offset a o es)) (cond b' (of_owner o e' ∷ at_offset a o es') (at_offset a o es'))
    go true b' q h = rw q (record { owner-same = refl; body_like = l.0.body_like }, h)
    go false b' q h = rw q h

-- what is sought, by its two versions
sought_like : (old : Bool) (fs : List Function) (g a : ℕ) (es es' : List Entry) → EntriesLike es es'
    → EntriesLike (cond old (among [] (λ f. at_offset a (record { number = g; function = f }) es) (get_elem? fs g)) (with_address a es))
    (cond old (among [] (λ f. at_offset a (record { number = g; function = f }) es') (get_elem? fs g)) (with_address a es'))
sought_like true fs g a es es' l = go (get_elem? fs g)
  where
    go : (x : Option Function)
        → EntriesLike (among [] (λ f. at_offset a (record { number = g; function = f }) es) x) (among [] (λ f. at_offset a (record { number = g; function = f }) es') x)
    go none = tt
    go (some f) = offset_like a (record { number = g; function = f }) es es' l
sought_like false fs g a es es' l = with_like a es es' l

same-only : (es es' : List Entry) (k k' : Entry → Plan) → EntriesLike es es' → ((e e' : Entry) → EntryLike e e' → SamePlan (k e) (k' e')) → SamePlan (only es k) (only es' k')
unfolding only
same-only [] [] k k' l h = refusals (λ q. refl)
same-only [] (e' ∷ es') k k' l h = absurd l
same-only (e ∷ es) [] k k' l h = absurd l
same-only (e ∷ []) (e' ∷ []) k k' l h = h e e' l.0
same-only (e ∷ []) (e' ∷ x' ∷ es') k k' l h = absurd l.1
same-only (e ∷ x ∷ es) (e' ∷ []) k k' l h = absurd l.1
same-only (e ∷ x ∷ es) (e' ∷ x' ∷ es') k k' l h = refusals (λ q. refl)

-- what two such plans do to an image
alike : (table : ℕ → Option ℕ) (im rs : List ℕ) {p p' : Plan} → Sound (length im) (length rs) p → SamePlan p p'
    → Alike (says table im rs p) (says table im rs p') × (leaves table im rs p' ≡ leaves table im rs p) × (leaves_registers table im rs p' ≡ leaves_registers table im rs p)
alike table im rs s (refusals h) = (record { number = refl; count = refl; place = λ l. sym (h l) }, refl, refl)
alike table im rs s (windows {off = off} {size = size} {ps = ps} {qs = qs} perm) =
    let w = state (part im off size) rs in
    let e = settle_perm table w (blocks_perm perm) (all-inside table (length im) off size im rs (flatten ps) s.window_in s) in (
      pairs_alike table w ps qs e.0,
      ap (λ (v : State). splice im off size v.window) (sym e.1),
      ap (λ (v : State). v.registers) (sym e.1),
    )

module _ (R : Restore) (s' : List ℕ) (w : Bytes R.section) (o : OtherOrder R.section s') where
  abbrev R' : Restore
  R' = with_section R s'

  abbrev t : Section
  t = read_section R.section

  abbrev t' : Section
  t' = record { old = t.old; functions = t.functions; constants = t.constants; records = o.records }

  well : WellFormed t'
  well = still_well t o.records o.reordered (accepted_well_formed R.section (length R.section) w o.accepted).0

  now_accepted : section_check s' ≡ Valid (length s')
  now_accepted = rw o.encoded (well_formed_accepted t' well).0

  now_read : read_section s' ≡ t'
  now_read = rw o.encoded (well_formed_accepted t' well).1

  old-same : is_old s' ≡ is_old R.section
  old-same = sym (old_of s') ∙ ap (λ (x : Section). x.old) now_read ∙ old_of R.section

  same : Same R R'
  same = record { old-same = old-same; pool-same = ap (λ (x : Section). x.constants) now_read; first-same = refl; most-same = refl }

  module _ (im : List ℕ) (f : Stopped) where
    same-plan : SamePlan (plan R (length im) f) (plan R' (length im) f)
    unfolding plan allowed records_of sought of_function entries ask
    same-plan =
        rw (o.accepted, now_accepted, old-same, now_read)
        (same-need (allowed R f.frame.machine) 33 _ _ (same-need (image_right R.first (length im)) 13 _ _ (same-need (table_right R.olds R.news) 14 _ _
        (same-need (registers_right f.registers) 25 _ _
        (same-only _ _ _ _ (sought_like (is_old R.section) t.functions f.frame.function f.frame.address _ _ (section_like t o.records o.reordered))
        (λ e e'. same-entry R R' (length im) (cursor f) e e' same))))))

    both : Alike (answer R im f) (answer R' im f) × (moved R' im f ≡ moved R im f) × (moved_registers R' im f ≡ moved_registers R im f)
    unfolding answer moved moved_registers
    both = alike (look_up R.olds R.news) im f.registers (sound R (length im) f (length R.section) o.accepted) same-plan

pub pair_order : PairOrder
pair_order R s' w o =
    record {
      accepted = now_accepted R s' w o;
      number = λ im f. (both R s' w o im f).0.number;
      count = λ im f. (both R s' w o im f).0.count;
      image = λ im f. (both R s' w o im f).1;
      registers = λ im f. (both R s' w o im f).2;
      place = λ im f. (both R s' w o im f).0.place;
    }
