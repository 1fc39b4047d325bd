-- Sums of totals: in any order, in any grouping; and what fits.
use Prim.Native.Nat.{ℕ, ◌+◌, ◌≤◌}
use mathlib.Core.Path.{◌≡◌, refl, sym, ◌∙◌}
use mathlib.Core.Bool.{true}
use mathlib.Core.List.{List, [], ◌∷◌, ◌++◌, Permᴰ}
use native.Mathlib.Omega.{arith}
use borrow.Author.Tests.{leb-true, le-leb}
use Rattle.stackmap.proofs.Tests.{and_true}
use Rattle.report.specs.declared.Kinds.{Kinds}
use Rattle.report.specs.declared.Totals.{Totals}
use Rattle.report.specs.Bounds.{KindsMost, TotalsMost}
use Rattle.report.specs.Totals.{total_most, none, no_kinds, plus_kinds, plus, total, kinds_fit, fits}

-- numbers that are equal one by one
pub kinds-are : (a b : Kinds) → a.register ≡ b.register → a.direct ≡ b.direct → a.indirect ≡ b.indirect → a.constant ≡ b.constant → a.pool ≡ b.pool → a ≡ b
kinds-are a b p q r s t =
    let e : ◌≡◌ {A = Kinds} (record { register = a.register; direct = a.direct; indirect = a.indirect; constant = a.constant; pool = a.pool })
    (record { register = b.register; direct = b.direct; indirect = b.indirect; constant = b.constant; pool = b.pool }) = cc in
    e

pub totals_are : (a b : Totals) → a.sections ≡ b.sections → a.refused ≡ b.refused → a.functions ≡ b.functions → a.records ≡ b.records → a.statepoints ≡ b.statepoints
    → a.pairs ≡ b.pairs → a.kinds ≡ b.kinds → a.stack ≡ b.stack → a.unknown ≡ b.unknown → a ≡ b
totals_are a b p q r s t u v w x =
    let e : ◌≡◌ {A = Totals} (record { sections = a.sections; refused = a.refused; functions = a.functions; records = a.records; statepoints = a.statepoints; pairs = a.pairs; kinds = a.kinds; stack = a.stack; unknown = a.unknown })
    (record { sections = b.sections; refused = b.refused; functions = b.functions; records = b.records; statepoints = b.statepoints; pairs = b.pairs; kinds = b.kinds; stack = b.stack; unknown = b.unknown }) = cc in
    e

pub kinds-none : (b : Kinds) → plus_kinds b no_kinds ≡ b
unfolding plus_kinds
kinds-none b = kinds-are _ _ (omega arith) (omega arith) (omega arith) (omega arith) (omega arith)

kinds_comm : (a b : Kinds) → plus_kinds a b ≡ plus_kinds b a
unfolding plus_kinds
kinds_comm a b = kinds-are _ _ (omega arith) (omega arith) (omega arith) (omega arith) (omega arith)

pub kinds-start : (b : Kinds) → plus_kinds no_kinds b ≡ b
kinds-start b = kinds_comm no_kinds b ∙ kinds-none b

pub kinds_assoc : (a b c : Kinds) → plus_kinds (plus_kinds a b) c ≡ plus_kinds a (plus_kinds b c)
unfolding plus_kinds
kinds_assoc a b c = kinds-are _ _ (omega arith) (omega arith) (omega arith) (omega arith) (omega arith)

pub plus_comm : (a b : Totals) → plus a b ≡ plus b a
unfolding plus
plus_comm a b = totals_are _ _ (omega arith) (omega arith) (omega arith) (omega arith) (omega arith) (omega arith) (kinds_comm _ _) (omega arith) (omega arith)

pub plus-end : (b : Totals) → plus b none ≡ b
unfolding plus
plus-end b = totals_are _ _ (omega arith) (omega arith) (omega arith) (omega arith) (omega arith) (omega arith) (kinds-none _) (omega arith) (omega arith)

pub plus_none : (b : Totals) → plus none b ≡ b
plus_none b = plus_comm none b ∙ plus-end b

pub plus_assoc : (a b c : Totals) → plus (plus a b) c ≡ plus a (plus b c)
unfolding plus
plus_assoc a b c = totals_are _ _ (omega arith) (omega arith) (omega arith) (omega arith) (omega arith) (omega arith) (kinds_assoc _ _ _) (omega arith) (omega arith)

-- Each of the thirteen is at most 2^64 - 1.

kinds_fit_lem : (k : Kinds) → kinds_fit k ≡ true → KindsMost total_most k
unfolding kinds_fit
kinds_fit_lem k h =
    let a = and_true _ _ h in
    let b = and_true _ _ a.0 in
    let c = and_true _ _ b.0 in
    let d = and_true _ _ c.0 in
    record {
      register = leb-true _ _ d.0;
      direct = leb-true _ _ d.1;
      indirect = leb-true _ _ c.1;
      constant = leb-true _ _ b.1;
      pool = leb-true _ _ a.1;
    }

pub fits_each : (t : Totals) → fits t ≡ true → TotalsMost total_most t
unfolding fits
fits_each t h =
    let a = and_true _ _ h in
    let b = and_true _ _ a.0 in
    let c = and_true _ _ b.0 in
    let d = and_true _ _ c.0 in
    let e = and_true _ _ d.0 in
    let f = and_true _ _ e.0 in
    let g = and_true _ _ f.0 in
    let i = and_true _ _ g.0 in
    record {
      sections = leb-true _ _ i.0;
      refused = leb-true _ _ i.1;
      functions = leb-true _ _ g.1;
      records = leb-true _ _ f.1;
      statepoints = leb-true _ _ e.1;
      pairs = leb-true _ _ d.1;
      kinds = kinds_fit_lem _ c.1;
      stack = leb-true _ _ b.1;
      unknown = leb-true _ _ a.1;
    }

kinds-each : (k : Kinds) → KindsMost total_most k → kinds_fit k ≡ true
unfolding kinds_fit
kinds-each k h = rw (le-leb k.register total_most h.register, le-leb k.direct total_most h.direct, le-leb k.indirect total_most h.indirect, le-leb k.constant total_most h.constant, le-leb k.pool total_most h.pool)

pub each_fits : (t : Totals) → TotalsMost total_most t → fits t ≡ true
unfolding fits
each_fits t h =
    rw (le-leb t.sections total_most h.sections, le-leb t.refused total_most h.refused, le-leb t.functions total_most h.functions, le-leb t.records total_most h.records, le-leb t.statepoints total_most h.statepoints, le-leb t.pairs total_most h.pairs, kinds-each t.kinds h.kinds, le-leb t.stack total_most h.stack, le-leb t.unknown total_most h.unknown)

-- a part of what fits does
pub fits-part : (a b : Totals) → fits (plus a b) ≡ true → fits a ≡ true
unfolding plus plus_kinds
fits-part a b h =
    let e = fits_each _ h in
    each_fits a
    (record {
      sections = omega (arith, e.sections);
      refused = omega (arith, e.refused);
      functions = omega (arith, e.functions);
      records = omega (arith, e.records);
      statepoints = omega (arith, e.statepoints);
      pairs = omega (arith, e.pairs);
      kinds = record { register = omega (arith, e.kinds.register); direct = omega (arith, e.kinds.direct); indirect = omega (arith, e.kinds.indirect); constant = omega (arith, e.kinds.constant); pool = omega (arith, e.kinds.pool) };
      stack = omega (arith, e.stack);
      unknown = omega (arith, e.unknown);
    })

-- Sums of numbers that are at most m and at most n.

pub kinds-most : (m n : ℕ) (a b : Kinds) → KindsMost m a → KindsMost n b → KindsMost (m + n) (plus_kinds a b)
unfolding plus_kinds
kinds-most m n a b h k =
    record {
      register = omega (arith, h.register, k.register);
      direct = omega (arith, h.direct, k.direct);
      indirect = omega (arith, h.indirect, k.indirect);
      constant = omega (arith, h.constant, k.constant);
      pool = omega (arith, h.pool, k.pool);
    }

pub kinds-below : (m n : ℕ) (a : Kinds) → m ≤ n → KindsMost m a → KindsMost n a
kinds-below m n a l h =
    record { register = omega (arith, h.register); direct = omega (arith, h.direct); indirect = omega (arith, h.indirect); constant = omega (arith, h.constant); pool = omega (arith, h.pool) }

-- of a list

pub total-append : {A : Type 0} (of : A → Totals) (xs ys : List A) → total of (xs ++ ys) ≡ plus (total of xs) (total of ys)
unfolding total
total-append of [] ys = sym (plus_none _)
total-append of (x ∷ xs) ys = rw (total-append of xs ys) (sym (plus_assoc _ _ _))

pub total_perm : {A : Type 0} (of : A → Totals) {xs ys : List A} → Permᴰ xs ys → total of xs ≡ total of ys
unfolding total
total_perm of Permᴰ.nil = refl
total_perm of (Permᴰ.cons e p) = rw (e, total_perm of p)
total_perm of (Permᴰ.swap {a} {b} {a'} {b'} {l} e₁ e₂) = rw (e₁, e₂) (sym (plus_assoc _ _ _) ∙ rw (plus_comm (of _) (of _)) (plus_assoc _ _ _))
total_perm of (Permᴰ.trans p q) = total_perm of p ∙ total_perm of q
