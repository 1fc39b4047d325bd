-- For the code alone: nothing here has to be believed.
-- The settings of an edition as the code hands them on.
use Rattle.std.specs.Prelude.{ℕ, ◌≤◌, ◌≡◌}
use Rattle.moves.specs.Limits.{pairs_most}
use Rattle.editions.specs.declared.Store.{Store}
use Rattle.relocate.specs.declared.Machine.TheVariants.{Amd64}
use Rattle.relocate.specs.declared.Settings.{Settings}
use Rattle.relocate.specs.Restore.{everything}
use Rattle.editions_settings.specs.declared.NamedSettings.{NamedSettings}
use Rattle.editions_settings.specs.Under.{under}

-- 31, and settings that nothing reads
abbrev pub unnamed : NamedSettings
unnamed = record { number = 31; settings = everything Amd64 }

abbrev pub found_settings : Settings → NamedSettings
found_settings s = record { number = 0; settings = s }

-- r is 31, or the settings of the edition
pub record Names (st : Store) (e : ℕ) (r : NamedSettings) : Type 0 where
  pub is : r ≡ under st e unnamed found_settings
  pub most_right : r.settings.most ≤ pairs_most
