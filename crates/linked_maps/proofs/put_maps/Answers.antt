use native.Mathlib.Omega.{arith}
use Rattle.linked_maps.proofs.Putting.{put-start, put_upward, put_on, put-end, kept_here}
use Rattle.linked_maps.proofs.put_maps.Goals as goal

pub loop-i-init : goal.loop-i-init
loop-i-init c = (_, put-start _ _ _ c.requires.0)

pub end_of-end-requires : goal.end_of-end-requires
end_of-end-requires c =
    let l = c.loop-i.invariant.1 in
    (l.inside, l.start, kept_here _ _ _ _ c.requires.1 (omega arith))

pub put_map-requires : goal.put_map-requires
put_map-requires c =
    let l = c.loop-i.invariant.1 in
    let n = l.same_length in
    let p = c.requires.2 in
    (omega arith, rw c.end_of-end.ensures (put_upward l (omega arith)))

pub loop-i-preserved : goal.loop-i-preserved
loop-i-preserved c =
    let l = c.loop-i.invariant.1 in
    rw (c.put_map.ensures, c.end_of-end.ensures) (put_on l (omega arith))

pub shape_of-out : goal.shape_of-out
shape_of-out c = c.loop-i.invariant.1.same_length

pub returns : goal.returns
returns c = put-end c.loop-i.invariant.1 (omega arith)
