use Prim.Native.Nat.{ℕ, ◌-◌, ◌<◌}
use mathlib.Core.Path.{◌≡◌, sym, ap, ◌∙◌}
use native.Mathlib.Omega.{arith}
use lib.Dec.{leb}
use Rattle.stackmap.specs.Section.{entries}
use Rattle.stackmap.specs.Verdict.{verdict}
use Rattle.stackmap.proofs.Steps.{fewer}
use Rattle.stackmap.proofs.OneWalk.{fold, fold_start, fold_on, fold_end}
use Rattle.stackmap.proofs.Within.{here-inside}
use Rattle.questions.specs.Kept.{no_hits, noted}
use Rattle.questions.proofs.Kept.{hits_answer_lem}
use Rattle.questions.proofs.Asked.{ask_stop, ask-after, ask-whole}
use Rattle.index.specs.Numbered.{rows_of}
use Rattle.index_follow.specs.Seen.{seen}
use Rattle.wire.specs.Word.{Bytes}
use Rattle.index_check.proofs.Laws.{address-fits, refused_invalid}
use Rattle.index_check.proofs.walk_both.Goals as goal

pub u32_at-constants-requires : goal.u32_at-constants-requires
u32_at-constants-requires c = let w = c.requires.0.inside in omega arith

pub u32_at-n-requires : goal.u32_at-n-requires
u32_at-n-requires c = let w = c.requires.0.inside in omega arith

pub is_old-old-requires : goal.is_old-old-requires
is_old-old-requires c = let w = c.requires.0.inside in omega arith

pub start-turn-requires : goal.start-turn-requires
start-turn-requires c = (c.is_old-old.ensures, c.requires.0)

pub loop-number-init : goal.loop-number-init
loop-number-init c =
    let e = c.u32_at-n.ensures in
    let all : c.u32_at-n.result - 0 ≡ c.u32_at-n.result = omega arith in
    rw all (rw c.no_hits-hits.ensures (fold_start (noted c.args.address) no_hits c.requires.0 c.start-turn.ensures c.requires.1 c.requires.2 e), rw c.no_hits-hits.ensures (omega arith), fold_start (seen (rows_of c.u32_at-n.result c.args.list.now)) (leb c.args.place c.u32_at-n.result) c.requires.0 c.start-turn.ensures c.requires.1 c.requires.2 e, rw e c.requires.3)

pub owner-t-requires : goal.owner-t-requires
owner-t-requires c =
    let w = c.loop-number.invariant.0.walking in
    let n = w.counted in
    (c.requires.0.inside, w.turning, omega arith)

pub record_at-requires : goal.record_at-requires
record_at-requires c =
    let w = c.loop-number.invariant.0.walking in
    (c.is_old-old.ensures, c.requires.0.inside, (λ z. let m = c.owner-t.ensures.3 z in let k = c.owner-t.ensures.2 in omega arith), w.inside)

pub returns-in-Err : goal.returns-in-Err
returns-in-Err c =
    let o = c.owner-t in
    let f = c.loop-number.invariant.0 in
    let u = c.u32_at-constants.ensures in
    let v = sym c.record_at.ensures ∙ ap verdict c.in-Err.is in
    ((rw c.number.ensures at c.refused.ensures) ∙ ask_stop _ _ u f o.result.next o.result.left o.ensures.0 o.ensures.1 v, λ h. absurd (refused_invalid _ _ (ask_stop (λ n p. 1) 0 u f o.result.next o.result.left o.ensures.0 o.ensures.1 v) h))

pub owner_address-start-requires : goal.owner_address-start-requires
owner_address-start-requires c = (c.is_old-old.ensures, c.requires.0.inside, λ z. let m = c.owner-t.ensures.3 z in let k = c.owner-t.ensures.2 in omega arith)

pub note-hits-requires : goal.note-hits-requires
note-hits-requires c =
    let l = c.loop-number in
    let i = here-inside _ _ _ _ _ _ l.invariant.0.walking.inside (sym c.record_at.ensures ∙ ap verdict c.in-Ok.is) in
    (c.owner_address-start.ensures, i, l.invariant.1, omega arith)

pub next_place-here-requires : goal.next_place-here-requires
next_place-here-requires c =
    let l = c.loop-number in
    let v = sym c.record_at.ensures ∙ ap verdict c.in-Ok.is in
    let w : Bytes c.args.s.now = record { below = λ j. omega (arith, c.shared_slice_known-1.given j) } in
    (c.owner_address-start.ensures, here-inside _ _ _ _ _ _ l.invariant.0.walking.inside v, address-fits c.args.s.now c.u32_at-constants.result l.number (c.owner-t.result.next - 1) l.p _ w v, omega arith, l.invariant.3)

pub loop-number-preserved : goal.loop-number-preserved
loop-number-preserved c =
    let l = c.loop-number in
    let o = c.owner-t in
    let v = sym c.record_at.ensures ∙ ap verdict c.in-Ok.is in
    let t : 0 < c.u32_at-n.result - l.number = omega arith in
    let f = fold_on (noted c.args.address) o.result.next o.result.left l.invariant.0 o.ensures.0 o.ensures.1 o.ensures.2 o.ensures.3 t v in
    let g = fold_on (seen (rows_of c.u32_at-n.result c.args.list.now)) o.result.next o.result.left l.invariant.2 o.ensures.0 o.ensures.1 o.ensures.2 o.ensures.3 t v in
    (rw (c.note-hits.ensures.0, ← fewer) f, c.note-hits.ensures.1, rw (c.next_place-here.ensures.1, ← fewer) g, c.next_place-here.ensures.0)

pub returns-then-p-s : goal.returns-then-p-s
returns-then-p-s c =
    let f = c.loop-number.invariant.0 in
    let u = c.u32_at-constants.ensures in
    (c.refused-then-p-s.ensures ∙ ask-after _ _ u f (omega arith) c.if-p-s.true, λ h. absurd (refused_invalid _ _ (ask-after (λ n p. 1) 0 u f (omega arith) c.if-p-s.true) h))

pub returns : goal.returns
returns c =
    let l = c.loop-number in
    let none : c.u32_at-n.result - l.number ≡ 0 = omega arith in
    let e = c.u32_at-n.ensures in
    let k = fold_end (noted c.args.address) l.invariant.0 none in
    (c.ended.ensures.0 ∙ rw (← k) (hits_answer_lem c.args.address (entries c.args.s.now)) ∙ ask-whole _ _ c.u32_at-constants.ensures l.invariant.0 none c.if-p-s.false, λ h. c.ended.ensures.1 ∙ sym (fold_end (seen (rows_of c.u32_at-n.result c.args.list.now)) l.invariant.2 none) ∙ ap (λ (m : ℕ). fold (seen (rows_of m c.args.list.now)) (entries c.args.s.now) (leb c.args.place m)) e)
