-- What is written is the front of the program's output, for the bytes that were read.
use Rattle.std.proofs.Common.{rules, ◌≡◌, take, arith, subst, length-take-le}
use Rattle.std.proofs.lemmas.Result.{on_ok_weaker}
use Rattle.std.specs.Io.KnownBytes.{Appends}
use Rattle.list_section.proofs.Whole.{whole, take-sets}
use Rattle.list_section.proofs.list.Goals as goal

pub returns : goal.returns
returns g c =
    let read = c.in_ok-length.ensures in
    let answer = c.answer-written in
    let Put = Appends (g.W.Write.contents c.args.to.now) (g.W.Write.contents c.write_all.new.self) in
    let front : take answer.result answer.new.out ≡ _ = take-sets _ _ _ _ answer.ensures.0 answer.ensures.1 (search rules) in
    on_ok_weaker c.write_all.result
    (λ put. whole _ _ _ Put read.bytes (λ short. read.end (omega (arith, length-take-le _ _ read.bound))) (subst Put front put))
    c.write_all.ensures.bytes
