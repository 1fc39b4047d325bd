use Rattle.parser_items.proofs.count.listed_tables.Goals as goal

pub returns : goal.returns
returns c =
    let i = c.items-functions.ensures in
    let j = c.items-constants.ensures in
    record { functions_are = i.is; constants_are = rw (← i.is) j.is; inside = j.inside }
