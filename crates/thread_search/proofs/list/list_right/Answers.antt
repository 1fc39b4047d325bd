use borrow.Author.Tests.{eq-eqb, ne_eqb, le-leb, lt-leb}
use Rattle.thread.specs.Thread.{list_right}
use Rattle.thread_search.proofs.list.list_right.Goals as goal

pub returns-then-frames-ne0 : goal.returns-then-frames-ne0
unfolding list_right
returns-then-frames-ne0 c = rw (ne_eqb _ _ c.if-frames-ne0.true)

pub returns-then-held-gt-FRAMES_MOST : goal.returns-then-held-gt-FRAMES_MOST
unfolding list_right
returns-then-held-gt-FRAMES_MOST c = rw (eq-eqb _ _ c.if-frames-ne0.false, lt-leb _ _ c.if-held-gt-FRAMES_MOST.true)

pub returns : goal.returns
unfolding list_right
returns c = rw (eq-eqb _ _ c.if-frames-ne0.false, le-leb _ _ c.if-held-gt-FRAMES_MOST.false)
