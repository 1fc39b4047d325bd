-- The store answers as a plain history does.
use Rattle.std.specs.Prelude.{◌≡◌, List, []}
use Rattle.editions.specs.Calls.{Call}
use Rattle.editions.specs.Store.{empty, answers}
use Rattle.editions.specs.History.{plain}

-- any sequence of calls from an empty store, each on the store that the last one left
abbrev pub AsHistory : Type 0
AsHistory = (cs : List Call) → answers empty cs ≡ plain [] cs
