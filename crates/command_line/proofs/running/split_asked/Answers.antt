-- the two options for a division exclude each other
use Rattle.command_line.proofs.running.split_asked.Goals as goal

pub returns-in-Some-value_of-2-clause-some : goal.returns-in-Some-value_of-2-clause-some
returns-in-Some-value_of-2-clause-some c = tt
