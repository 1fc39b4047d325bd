use Rattle.builder.proofs.SectionPut.{section-put}
use Rattle.builder.proofs.put.section.Goals as goal

pub returns : goal.returns
returns c =
    let a = c.args in
    let p = c.requires.0 in
    rw (
      c.records.ensures,
      c.constants.ensures,
      c.functions.ensures,
      c.put_header.ensures,
      c.function_size.ensures.0,
    )
    (section-put a.plan.old p.tables p.counted a.out.now)
