-- What the call gives, and what acceptance tells.
use Prim.Native.Nat.{ℕ, ◌+◌, ◌≤◌, ◌<◌}
use mathlib.Core.Path.{◌≡◌, sym, ◌∙◌}
use mathlib.Core.Bool.{false}
use mathlib.Core.List.{List, ◌++◌}
use native.Mathlib.Omega.{arith}
use borrow.Author.Tests.{leb-true, le-leb, lt-leb}
use lib.ListN.{length, drop}
use lib.Seq.{sets, sets-eq}
use Rattle.stackmap.specs.Section.{num_records, is_old}
use Rattle.stackmap.specs.Check.{header_check, section_check, Accepted}
use Rattle.stackmap.specs.Walk.{Walkable}
use Rattle.stackmap.proofs.Verdicts.{must-held, must-rest, chain_first}
use Rattle.stackmap.proofs.Within.{begin_held, section_parts}
use Rattle.index.specs.declared.Written.{Written}
use Rattle.index.specs.Index.{index_of, Listed, not_listed, put_numbers}
use Rattle.index.specs.Answers.{Answers}
use Rattle.index_lookup.specs.Looked.{Indexed}

-- What the call gives.

pub listed : {r : Written} {out : List ℕ} {l k : Listed} → k ≡ l → Answers r out l → Answers r out k
listed e a = rw e a

-- 24
pub too_short : (ns out : List ℕ) → length out < length ns → put_numbers ns out ≡ not_listed out 24 0
unfolding put_numbers
too_short ns out l = rw (lt-leb (length ns) (length out) l)

pub all-written : (ns out : List ℕ) → length ns ≤ length out
    → put_numbers ns out ≡ record { number = 0; place = 0; written = length ns; output = sets out 0 ns }
unfolding put_numbers
all-written ns out l =
    let z : 0 + length ns ≡ length ns = omega arith in
    let s : sets out 0 ns ≡ ns ++ drop (length ns) out = rw z at (sets-eq ns out 0 (omega arith)) in
    rw (le-leb (length ns) (length out) l, s)

-- What acceptance tells.

pub accepted-short : (s : List ℕ) → Accepted s → length s ≤ 16777216
unfolding header_check section_check
accepted-short s h = leb-true _ _ (must-held _ _ _ _ _ (must-rest _ _ _ _ _ (chain_first _ _ _ h).1))

pub accepted-walkable : (s : List ℕ) → Accepted s → Walkable s
accepted-walkable s h = (begin_held s _ (chain_first _ _ _ (sym (section_parts s) ∙ h)).1).walkable

-- the section, with its index
pub indexed : (s index : List ℕ) (n : ℕ) → Accepted s → is_old s ≡ false → index ≡ index_of s → n ≡ num_records s → n < 4294967296 → Indexed s index n
indexed s index n a new e m l = record { walkable = accepted-walkable s a; short = accepted-short s a; new = new; many = m; small = l; right = e }
