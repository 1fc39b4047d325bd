use Prim.Native.Nat.{◌<◌}
use mathlib.Core.Path.{◌≡◌, refl}
use lib.ListN.{get_or}
use native.Mathlib.Omega.{arith}
use Rattle.stackmap.specs.Section.{read_location}
use Rattle.stackmap.proofs.Items.{byte_word}
use Rattle.lister_items.proofs.Stores.{location_put}
use Rattle.lister_items.proofs.items.LocationItem.put.Goals as goal
use Rattle.lister_items.proofs.items.LocationItem.put.Goals.{then-self, else-self}

-- By the version.
pub returns : goal.returns
unfolding read_location
returns c =
    let a = c.args in
    let l = read_location a.self.now.old a.s.now a.at in
    let h : get_or a.s.now a.at 0 < 256 = omega (arith, c.type_inv.s a.at) in
    let e : (c.if-self.size.0 ≡ l.size) × (c.u16_at-2.result ≡ l.register) × (c.u32_at.result ≡ l.offset) =
    elim c.if-self.branch [
      | then-self w ↦ rw (c.u16_at-2.ensures, c.u32_at.ensures, w.size-is, w.if-self.true, w.from.ensures) (rw byte_word, refl, refl)
      | else-self w ↦ rw (c.u16_at-2.ensures, c.u32_at.ensures, w.size-is, w.if-self.false) (w.u16_at.ensures, refl, refl)
    ] in
    rw (c.put_u32.ensures, c.put_u16-2.ensures, c.put_u16.ensures)
    (location_put a.out.now a.s.now a.to a.at a.self.now.old _ _ _ h e.0 e.1 e.2)
