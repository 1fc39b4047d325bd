use Rattle.explain_pointers.proofs.numbers.number_of.Goals as goal

pub returns-in-Address : goal.returns-in-Address
returns-in-Address c = rw c.in-Address.is c.in_memory.ensures

pub returns-in-Register : goal.returns-in-Register
returns-in-Register c = rw c.in-Register.is c.in_register.ensures
