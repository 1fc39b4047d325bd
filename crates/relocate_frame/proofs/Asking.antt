-- What the search for a frame's record tells of its plan (relocate_plan).
pub use Rattle.relocate_plan.proofs.Asking.{functions_inside, owner-number, size_is}
