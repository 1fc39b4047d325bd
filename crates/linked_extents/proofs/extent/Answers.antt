use Prim.Native.Nat.{◌+◌, ◌*◌, ◌-◌}
use mathlib.Core.Path.{ap, ◌∙◌}
use native.Mathlib.Omega.{arith}
use Rattle.relocate.specs.Relocation.{Extent}
use mathlib.Core.List.{[]}
use Rattle.relocate.specs.Restore.{restore, everything}
use Rattle.thread.specs.Thread.{thread_of, stopped_at}
use Rattle.linked_moves.specs.Code.{maps_in}
use Rattle.linked_frames.proofs.ByMap.{map-accepted, map_found}
use Rattle.linked_frames.proofs.Positions.{site_at, frame_is}
use Rattle.linked_extents.proofs.Extents.{sited_site, sited-there, extent-there}
use Rattle.linked_extents.proofs.extent.Goals as goal

pub returns : goal.returns
returns c =
    let a = c.args in
    let th = thread_of a.machine a.frames.now a.registers.now in
    let e = extent-there a.s.now (maps_in a.s.now) th a.k (c.requires.2.at a.k c.requires.3) (site_at th a.k c.site_of-site.ensures) (32 * a.k + 32 - 32 * a.k) _ c.frame_at-frame.ensures (omega arith) in
    let x = rw c.bytes.ensures at c.extent_in.ensures in
    (x.0 ∙ ap (λ (x : Extent). x.start) e, x.1 ∙ ap (λ (x : Extent). x.end) e)

pub bytes-requires : goal.bytes-requires
bytes-requires c =
    let a = c.args in
    let th = thread_of a.machine a.frames.now a.registers.now in
    let o = sited_site (c.requires.2.at a.k c.requires.3) (site_at th a.k c.site_of-site.ensures) in
    (o.here.ordered, o.here.inside)

pub extent_in-requires : goal.extent_in-requires
extent_in-requires c =
    let a = c.args in
    let th = thread_of a.machine a.frames.now a.registers.now in
    let R = restore a.s.now [] [] 0 (everything a.machine) in
    let f = stopped_at th a.k in
    let w = c.requires.2.at a.k c.requires.3 in
    let s = site_at th a.k c.site_of-site.ensures in
    let e = frame_is th a.k _ c.frame_at-frame.ensures in
    rw c.bytes.ensures (
      map-accepted R (maps_in a.s.now) f (sited_site w s),
      rw e (map_found R (maps_in a.s.now) f (sited_site w s)),
      sited-there a.s.now (maps_in a.s.now) th a.k w s (32 * a.k + 32 - 32 * a.k) _ c.frame_at-frame.ensures (omega arith),
    )
