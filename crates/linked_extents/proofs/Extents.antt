-- A frame whose extent is known in its own map.
use Prim.Native.Nat.{ℕ, ◌*◌, ◌-◌}
use mathlib.Core.Path.{◌≡◌, subst}
use mathlib.Core.List.{List}
use lib.ListN.{take, drop}
use Rattle.moves.specs.Window.{part}
use Rattle.relocate.specs.declared.Frame.{Frame}
use Rattle.relocate.specs.Stopped.{Stopped, stopped}
use Rattle.relocate.specs.Relocation.{extent_of}
use Rattle.linked.specs.Linked.{Map}
use Rattle.thread.specs.Thread.{Thread, frame_at, stopped_at}
use Rattle.thread.specs.Code.{Sited}
use Rattle.thread.proofs.Parts.{stopped-at}
use Rattle.linked_moves.specs.Thread.{records_over, extent_over}
use Rattle.linked_moves.specs.Code.{SitedIn}
use Rattle.linked_frames.specs.declared.Site.{Site}
use Rattle.linked_frames.specs.Sites.{Here, SiteBy, SiteOf}
use Rattle.linked_frames.proofs.ByMap.{AtSite}

-- its site is no refusal
pub sited_site : {s : List ℕ} {ms : List Map} {f : Stopped} {r : Site} → SitedIn ms f → SiteOf s ms f.frame.address r → AtSite s ms f r
unfolding records_over
sited_site {s} {ms} {f} {r} t o =
    record { entry = t.entry; only = t.only; here = subst (SiteBy s f.frame.address r) t.only o.is }

module _ (s : List ℕ) (ms : List Map) (t : Thread) (k : ℕ) {r : Site} (w : SitedIn ms (stopped_at t k)) (o : SiteOf s ms (stopped_at t k).frame.address r) where
  there : Here s (stopped_at t k).frame.address w.entry r
  unfolding records_over
  there = subst (SiteBy s (stopped_at t k).frame.address r) w.only o.is

  -- by the bytes of its map and its own registers, as they are lent
  module _ (n : ℕ) (f : Frame) (e : f ≡ frame_at t.machine t.list k) (z : n ≡ 32) where
    pub sited-there : Sited (part s r.from (r.to - r.from)) (stopped f (take n (drop (32 * k) t.registers)))
    sited-there = rw (stopped-at t k n f e z, ← there.content_is) w.sited

    pub extent-there : extent_of (part s r.from (r.to - r.from)) (stopped f (take n (drop (32 * k) t.registers))) ≡ extent_over ms (stopped_at t k)
    unfolding extent_over
    extent-there = rw (stopped-at t k n f e z, ← there.content_is, w.only)
