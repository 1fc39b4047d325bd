use Rattle.std.proofs.lemmas.Bool.{not_from_false}
use Prim.Native.Nat.{◌+◌}
use mathlib.Core.Path.{◌≡◌, refl}
use native.Mathlib.Omega.{arith}
use Rattle.thread_marks.proofs.Marks.{grown-none}
use Rattle.linked_search.proofs.Finds.{put-here, sorted_more, sorted-one, finding_any}
use Rattle.linked_search.proofs.Sweeps.{not_both}
use Rattle.linked_search.proofs.close_map.Goals as goal

pub returns-then-not-last : goal.returns-then-not-last
returns-then-not-last c =
    let n = c.args.n in
    let e = c.put_end.ensures in
    let z : n + 1 + 1 ≡ n + 2 = omega arith in (
      (λ keys done f. rw e.is f),
      grown-none _ _,
      omega arith,
      rw (e.is, z) (sorted_more _ n _ e.room c.requires.3 c.requires.2),
      put-here e,
      (λ l. not_both _ (not_from_false _ c.if-not-last.true) l),
      e.room,
    )

pub returns : goal.returns
returns c =
    let e = c.put_end.ensures in
    let d = c.put_end-2.ensures in
    let t = c.settle.ensures in (
      (λ keys done f. finding_any _ (t.0 keys done (rw e.is f))),
      t.1,
      omega arith,
      sorted-one _,
      put-here d,
      (λ l. refl),
      e.room,
    )

pub settle-requires : goal.settle-requires
settle-requires c =
    let n = c.args.n in
    let e = c.put_end.ensures in
    let z : n + 1 + 1 ≡ n + 2 = omega arith in
    (c.requires.0, c.requires.1, rw (e.is, z) (sorted_more _ n _ e.room c.requires.3 c.requires.2))
