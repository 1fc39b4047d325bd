use Rattle.stackmap.proofs.Steps.{times_most}
use borrow.Author.Rules.{rules}
use Rattle.lister.proofs.section_tables.Goals as goal

pub overflow_mul-pool : goal.overflow_mul-pool
overflow_mul-pool c = let h = times_most _ 24 c.u32_at-functions.result c.function_size.ensures.1 in search rules

pub overflow_add-pool : goal.overflow_add-pool
overflow_add-pool c = let h = times_most _ 24 c.u32_at-functions.result c.function_size.ensures.1 in search rules

pub overflow_add-result : goal.overflow_add-result
overflow_add-result c = let h = times_most _ 24 c.u32_at-functions.result c.function_size.ensures.1 in search rules

pub returns : goal.returns
returns c =
    let o = c.is_old-old.ensures in
    let f = c.u32_at-functions.ensures in
    let k = c.u32_at-constants.ensures in
    record {
      old_is = o;
      functions_are = f;
      constants_are = k;
      records_are = c.u32_at-records.ensures;
      pool_is = rw (c.function_size.ensures.0, o, f);
      first_is = rw (c.function_size.ensures.0, o, f, k);
    }
