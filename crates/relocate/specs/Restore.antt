-- What stays the same throughout a restore.
use Rattle.std.specs.Prelude.{ℕ, Bool, true, false, cond, ◌&&◌, List}
use Rattle.moves.specs.Limits.{pairs_most}
use Rattle.stackmap.specs.Section.{is_old}
use Rattle.relocate.specs.declared.Machine.{Machine}
use Rattle.relocate.specs.declared.Machine.TheVariants.{Amd64, Aarch64}
use Rattle.relocate.specs.declared.Settings.{Settings}

-- the section, the move table by its old and its new starts, the image's first address, and the settings of the edition that it names
pub record Restore : Type 0 where
  pub section : List ℕ
  pub olds : List ℕ
  pub news : List ℕ
  pub first : ℕ
  pub settings : Settings

abbrev pub restore : List ℕ → List ℕ → List ℕ → ℕ → Settings → Restore
restore s olds news first settings = record { section = s; olds = olds; news = news; first = first; settings = settings }

-- what every frame may have: at most 256 pointers, its own machine, and both versions
abbrev pub everything : Machine → Settings
everything m = record { most = pairs_most; machine = m; version1 = true; version3 = true }

unfoldable pub same_machine : Machine → Machine → Bool
same_machine Amd64 Amd64 = true
same_machine Amd64 Aarch64 = false
same_machine Aarch64 Amd64 = false
same_machine Aarch64 Aarch64 = true

-- 33: the section's version or the frame's machine is not allowed
unfoldable pub allowed : Restore → Machine → Bool
allowed R m = cond (is_old R.section) R.settings.version1 R.settings.version3 && same_machine m R.settings.machine
