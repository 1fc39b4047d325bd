use Prim.Native.Nat.{◌+◌}
use mathlib.Core.Path.{sym, ◌∙◌}
use native.Mathlib.Omega.{arith}
use lib.Seq.{ext_get_or}
use Rattle.wire.specs.Word.{word}
use Rattle.stackmap.specs.Fields.{many}
use Rattle.stackmap.proofs.Fields.{length-many}
use Rattle.stackmap.proofs.Parts.{many-some, get_d_some}
use Rattle.replay.specs.Trace.{registers_at}
use Rattle.replay_trace.proofs.steps.read_registers.Goals as goal

pub returns : goal.returns
unfolding registers_at
returns c =
    let l = c.loop-k in
    let t = c.args.t.now in
    let from = c.args.at + 18 in
    ext_get_or 0 l.registers (many (word 8) 8 32 t from) (omega (arith, length-many (word 8) 8 32 t from))
    (λ i h. l.invariant i (omega arith) ∙ sym (get_d_some 0 (many (word 8) 8 32 t from) i _ (many-some (word 8) 8 32 t from i (omega arith))))
