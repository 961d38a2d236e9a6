use Rattle.sweep_plan.proofs.Parted.{named_outside, named_listed_if, named_none}
use Rattle.sweep_plan.proofs.keys.SweptKey.named.Goals as goal

pub returns-in-Some-clause-some : goal.returns-in-Some-clause-some
returns-in-Some-clause-some c = named_outside c.args.word.now c.outside_lists.result c.in-Some.key c.outside_lists.ensures c.in-Some.is

pub returns-in-None-clause-some : goal.returns-in-None-clause-some
returns-in-None-clause-some c = named_listed_if c.args.word.now c.listed_key.result (rw c.as_bytes.ensures.value at c.listed_key.ensures.some)

pub returns-in-None-clause-none : goal.returns-in-None-clause-none
returns-in-None-clause-none c none k is = named_none c.args.word.now c.outside_lists.result c.outside_lists.ensures c.in-None.is (rw c.as_bytes.ensures.value at (c.listed_key.ensures.none none)) k is
