-- A restore that names an edition of a store, document 02, request 9, and a machine by its number.
use Rattle.std.specs.Prelude.{ℕ, List}
use Rattle.editions.specs.declared.Store.{Store}
use Rattle.relocate.specs.declared.Settings.{Settings}
use Rattle.relocate.specs.Restore.{Restore, restore}
use Rattle.editions_settings.specs.Under.{under}
use Rattle.editions_settings.specs.Machine.{of_machine, left_of}

-- the store and the edition's number; the section, the move table by its old and its new starts, and the image's first address
pub record Request : Type 0 where
  pub store : Store
  pub edition : ℕ
  pub section : List ℕ
  pub olds : List ℕ
  pub news : List ℕ
  pub first : ℕ

abbrev pub request : Store → ℕ → List ℕ → List ℕ → List ℕ → ℕ → Request
request st e s olds news first = record { store = st; edition = e; section = s; olds = olds; news = news; first = first }

-- the restore that it is with these settings
abbrev pub with_settings : Request → Settings → Restore
with_settings Q settings = restore Q.section Q.olds Q.news Q.first settings

module _ (Q : Request) (machine : ℕ) where
  -- 31 first; a number that is no machine's is 33 after 1 to 9; and else what the restore with the edition's settings gives
  abbrev pub by_edition : {A : Type 0} → (ℕ → ℕ → A) → (Restore → A) → A
  by_edition refuse given =
      under Q.store Q.edition (refuse 31 0)
      (λ settings. of_machine refuse machine Q.section (given (with_settings Q settings)))

  -- what that restore leaves of the image or of the registers; where one of these refusals comes, they are as lent
  abbrev pub left_by_edition : List ℕ → (Restore → List ℕ) → List ℕ
  left_by_edition lent given =
      under Q.store Q.edition lent (λ settings. left_of machine lent (given (with_settings Q settings)))
