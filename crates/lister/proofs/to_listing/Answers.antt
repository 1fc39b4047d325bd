use mathlib.Core.Path.{refl, sym, ap, ◌∙◌}
use Rattle.stackmap.specs.Verdict.{verdict}
use Rattle.lister_items.proofs.Puts.{put-long}
use Rattle.lister.proofs.Whole.{accepted, refused, too_short, converted}
use Rattle.lister.proofs.to_listing.Goals as goal

pub listing_length-requires : goal.listing_length-requires
listing_length-requires c = accepted _ c.check.ensures (ap verdict c.in-Ok.is)

pub returns-then-out-listing_length : goal.returns-then-out-listing_length
returns-then-out-listing_length c =
    let k = accepted _ c.check.ensures (ap verdict c.in-Ok.is) in
    rw (too_short _ _ k (rw c.listing_length.ensures at c.if-out-listing_length.true)) (record { number = refl; place = refl; written = refl; output = refl })

pub put_listing-written-requires : goal.put_listing-written-requires
put_listing-written-requires c = (accepted _ c.check.ensures (ap verdict c.in-Ok.is), rw c.listing_length.ensures at c.if-out-listing_length.false)

pub returns-in-Err : goal.returns-in-Err
returns-in-Err c = rw (c.number.ensures, refused _ _ (sym c.check.ensures ∙ ap verdict c.in-Err.is)) (record { number = refl; place = refl; written = refl; output = refl })

pub shape_of-out : goal.shape_of-out
shape_of-out c = put-long c.put_listing-written.ensures

pub returns-else-out-listing_length : goal.returns-else-out-listing_length
returns-else-out-listing_length c =
    let k = accepted _ c.check.ensures (ap verdict c.in-Ok.is) in
    rw (converted _ _ _ k (rw c.listing_length.ensures at c.if-out-listing_length.false) c.put_listing-written.ensures)
    (record { number = refl; place = refl; written = refl; output = refl })
