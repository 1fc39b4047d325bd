use Rattle.builder.proofs.SectionPut.{header_put}
use Rattle.builder.proofs.put.put_header.Goals as goal

pub returns : goal.returns
returns c =
    let a = c.args in
    rw (
      c.put_u32-4.ensures,
      c.put_u32-3.ensures,
      c.put_u32-2.ensures,
      c.put_u32.ensures,
      c.version_word.ensures,
    )
    (header_put a.plan.old a.plan.functions a.plan.constants a.plan.records a.out.now)
