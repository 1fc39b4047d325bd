use Rattle.treskibben_reasons.proofs.reason_answer.Goals as goal

pub returns-in-Unlisted : goal.returns-in-Unlisted
returns-in-Unlisted c = rw (c.in-Unlisted.is, c.plain.ensures)

pub returns-in-OnlyBase : goal.returns-in-OnlyBase
returns-in-OnlyBase c = rw (c.in-OnlyBase.is, c.plain-in-OnlyBase.ensures)

pub returns-in-NullBase : goal.returns-in-NullBase
returns-in-NullBase c = rw (c.in-NullBase.is, c.plain-in-NullBase.ensures)

pub returns-in-Moved : goal.returns-in-Moved
returns-in-Moved c = rw c.in-Moved.is

pub returns-in-Refused : goal.returns-in-Refused
returns-in-Refused c = rw c.in-Refused.is
