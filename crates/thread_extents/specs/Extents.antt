-- For the code alone: nothing here has to be believed.
-- Extents that a call gives, one for each position.
use Rattle.std.specs.Prelude.{ℕ, ◌<◌, ◌≡◌}
use Rattle.relocate.specs.Stopped.{Stopped}
use Rattle.relocate.specs.Relocation.{Extent}
use Rattle.thread.specs.Thread.{Thread, stopped_at}
use Rattle.thread_extents.specs.declared.Stretch.{Stretch}

-- whatever a call at one of the first n positions k gives goes from `from k` up to `to k`
pub record GivesExtents (call : ℕ → Stretch → Type 0) (from to : ℕ → ℕ) (n : ℕ) : Type 0 where
  pub each : (k : ℕ) (x : Stretch) → k < n → call k x → (x.start ≡ from k) × (x.end ≡ to k)

-- the same of the frames of a thread, each of which has its extent
abbrev pub GivesFrames : (ℕ → Stretch → Type 0) → (Stopped → Extent) → Thread → ℕ → Type 0
GivesFrames call e t n = GivesExtents call (λ k. (e (stopped_at t k)).start) (λ k. (e (stopped_at t k)).end) n
