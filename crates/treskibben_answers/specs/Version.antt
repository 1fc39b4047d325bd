-- The number of the interface: the exported names, what they take and what they answer. It is raised by one with every change that a
-- program written for the number before could not live with, and the function `treskibben_version_N` then takes the new number too.
use Rattle.std.specs.Prelude.{ℕ}

abbrev pub version : ℕ
version = 3
