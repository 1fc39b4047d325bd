-- A restore names an edition, document 02, request 9: 31 comes first, and then the restore goes by the edition's settings.
use Rattle.std.specs.Prelude.{ℕ, eqb}
use Rattle.std.proofs.Math.Option.{Option, none, some}
use Rattle.editions.specs.declared.Settings as kept
use Rattle.editions.specs.declared.Store.{Store}
use Rattle.editions.specs.Store.{look}
use Rattle.relocate.specs.declared.Settings.{Settings}
use Rattle.editions_settings.specs.Machine.{machine_of}

-- an edition's numbers as the settings of a restore: the count, the machine, and of each version whether it is allowed (1)
unfoldable pub settings_of : kept.Settings → Settings
settings_of k =
    record { most = k.most; machine = machine_of k.machine; version1 = eqb k.version1 1; version3 = eqb k.version3 1 }

-- what goes by the settings that were found, and what is there else
abbrev pub by_found : {A : Type 0} → Option kept.Settings → A → (Settings → A) → A
by_found none refused given = refused
by_found (some k) refused given = given (settings_of k)

-- What a restore is under the edition that it names: `refused` where the edition is unknown or retired (31), and else what its settings give. The
-- edition is looked for as `read_in` looks for it.
unfoldable pub under : {A : Type 0} → Store → ℕ → A → (Settings → A) → A
under st e refused given = by_found (look e st.slots) refused given
