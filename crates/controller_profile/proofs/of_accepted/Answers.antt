use mathlib.Core.Path.{sym, ◌∙◌}
use native.Mathlib.Omega.{arith}
use Rattle.index_rows.proofs.Walk.{tabled}
use Rattle.controller.proofs.Profiles.{profile_old, profile_machine, profile_records}
use Rattle.controller_profile.proofs.of_accepted.Goals as goal

pub is_old-requires : goal.is_old-requires
is_old-requires c = let t = tabled _ c.requires in let i = t.inside in omega arith

pub returns-then-is_old : goal.returns-then-is_old
returns-then-is_old c = profile_old _ _ c.requires (sym c.is_old.ensures ∙ c.if-is_old.true)

pub first_breach-requires : goal.first_breach-requires
first_breach-requires c = (c.requires, sym c.is_old.ensures ∙ c.if-is_old.false)

pub returns-in-Amd64 : goal.returns-in-Amd64
returns-in-Amd64 c = c.first_breach.ensures ∙ profile_records _ _ c.requires (sym c.is_old.ensures ∙ c.if-is_old.false) c.in-Amd64.is

pub returns-in-Aarch64 : goal.returns-in-Aarch64
returns-in-Aarch64 c = profile_machine _ _ c.requires (sym c.is_old.ensures ∙ c.if-is_old.false) c.in-Aarch64.is
