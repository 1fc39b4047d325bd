use Prim.Native.Nat.{◌*◌, ◌≤◌}
use mathlib.Core.Path.{◌≡◌, sym, ap, ◌∙◌}
use mathlib.Core.List.{List}
use native.Mathlib.Omega.{arith}
use lib.ListN.{length}
use lib.Seq.{sets}
use Rattle.moves.specs.declared.Move.{Move}
use Rattle.moves.specs.Settle.{accepted_move}
use Rattle.relocate.specs.Restore.{restore}
use Rattle.relocate.specs.Stopped.{Stopped}
use Rattle.thread.specs.Thread.{thread_of, frames_of, thread_answer}
use Rattle.explain_outline.proofs.Answers.{rows-no, rows-24, rows-yes, list-kept, list_written}
use Rattle.explain_frames.specs.Rows.{thread_rows}
use Rattle.explain_thread.proofs.Accepted.{numbers_are, ready, frames-are, each_yes, pointers_are, count-few}
use Rattle.explain_thread.proofs.of_checked.Goals as goal

pub returns-then-judged-ne0 : goal.returns-then-judged-ne0
returns-then-judged-ne0 c =
    let a = c.args in
    let R = restore a.s.now a.olds.now a.news.now a.first a.settings in
    let th = thread_of a.machine a.list.now a.registers.now in
    let im = a.image.now in
    let j = c.judge-judged in
    let rows = thread_rows R im 0 (frames_of th) in
    let z = c.if-judged-ne0.true in
    let x = rows-no (thread_answer R im th) rows a.rows.now j.result.number j.result.place (ap (λ (m : Move). m.number) (sym j.ensures)) (ap (λ (m : Move). m.place) (sym j.ensures)) z in
    (c.refused.ensures ∙ sym x, sym (list-kept (thread_answer R im th) rows a.rows.now j.result.number j.result.place x z))

pub overflow_mul-numbers : goal.overflow_mul-numbers
overflow_mul-numbers c =
    let a = c.args in
    let R = restore a.s.now a.olds.now a.news.now a.first a.settings in
    let th = thread_of a.machine a.list.now a.registers.now in
    let im = a.image.now in
    let j = c.judge-judged in
    let rows = thread_rows R im 0 (frames_of th) in
    let y = ap (λ (m : Move). m.number) (sym j.ensures) ∙ c.if-judged-ne0.false in
    let q = ap (λ (m : Move). m.count) j.ensures in
    omega (arith, q, count-few R im th y a.count a.keys.now a.hits.now c.requires.0 c.requires.1 c.requires.2)

pub returns-then-rows-numbers : goal.returns-then-rows-numbers
returns-then-rows-numbers c =
    let a = c.args in
    let R = restore a.s.now a.olds.now a.news.now a.first a.settings in
    let th = thread_of a.machine a.list.now a.registers.now in
    let im = a.image.now in
    let j = c.judge-judged in
    let rows = thread_rows R im 0 (frames_of th) in
    let y = ap (λ (m : Move). m.number) (sym j.ensures) ∙ c.if-judged-ne0.false in
    let q = ap (λ (m : Move). m.count) j.ensures in
    let n = numbers_are R im th y in
    let x = rows-24 (thread_answer R im th) rows a.rows.now y (let l = c.if-rows-numbers.true in omega arith) in
    (c.refused-then-rows-numbers.ensures ∙ sym x, sym (list-kept (thread_answer R im th) rows a.rows.now 24 0 x (λ z. absurd (omega arith))))

pub put_frames-requires : goal.put_frames-requires
put_frames-requires c =
    let a = c.args in
    let R = restore a.s.now a.olds.now a.news.now a.first a.settings in
    let th = thread_of a.machine a.list.now a.registers.now in
    let im = a.image.now in
    let j = c.judge-judged in
    let rows = thread_rows R im 0 (frames_of th) in
    let y = ap (λ (m : Move). m.number) (sym j.ensures) ∙ c.if-judged-ne0.false in
    let q = ap (λ (m : Move). m.count) j.ensures in
    let p = pointers_are R im th y a.count a.keys.now a.hits.now c.requires.0 c.requires.1 c.requires.2 in
    (ready R im th y a.count a.keys.now a.hits.now c.requires.0 c.requires.1 c.requires.2, each_yes R im th y a.count a.keys.now a.hits.now c.requires.0 c.requires.1 c.requires.2, let l = c.if-rows-numbers.false in omega arith)

pub returns : goal.returns
returns c =
    let a = c.args in
    let R = restore a.s.now a.olds.now a.news.now a.first a.settings in
    let th = thread_of a.machine a.list.now a.registers.now in
    let im = a.image.now in
    let j = c.judge-judged in
    let rows = thread_rows R im 0 (frames_of th) in
    let y = ap (λ (m : Move). m.number) (sym j.ensures) ∙ c.if-judged-ne0.false in
    let q = ap (λ (m : Move). m.count) j.ensures in
    let n = numbers_are R im th y in
    let w : 16 * j.result.count ≡ length rows = omega arith in
    let l : length rows ≤ length a.rows.now = let k = c.if-rows-numbers.false in omega arith in (
      ap accepted_move w ∙ sym (rows-yes (thread_answer R im th) rows a.rows.now y l),
      c.put_frames.ensures ∙ ap (λ (fs : List Stopped). sets a.rows.now 0 (thread_rows R im 0 fs)) (frames-are R im th y a.count a.keys.now a.hits.now c.requires.0 c.requires.1 c.requires.2) ∙ sym
          (list_written (thread_answer R im th) rows a.rows.now y l),
    )
