use Rattle.index_rows.proofs.first_record.Goals as goal

pub returns : goal.returns
returns c = rw (c.requires.0, c.u32_at-constants.ensures, c.u32_at-functions.ensures)
