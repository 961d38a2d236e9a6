use Rattle.membership.proofs.Joined.{joined_same, joined_small, joined_large}
use Rattle.membership.proofs.numbers.Numbers.write.Goals as goal

pub returns-then-number-lt-LARGE-clause-same : goal.returns-then-number-lt-LARGE-clause-same
returns-then-number-lt-LARGE-clause-same c = joined_small c.write_small.new.smalls.items c.write_number.new.numbers.items c.args.place c.args.number c.write_small.ensures.same c.write_number.ensures.same

pub returns-then-number-lt-LARGE-clause-others : goal.returns-then-number-lt-LARGE-clause-others
returns-then-number-lt-LARGE-clause-others c k other =
    joined_same c.write_small.new.smalls.items c.write_number.new.numbers.items c.args.self.now.smalls.items c.args.self.now.larges.items k (c.write_small.ensures.others k other) (c.write_number.ensures.others k other)

pub returns-else-number-lt-LARGE-clause-same : goal.returns-else-number-lt-LARGE-clause-same
returns-else-number-lt-LARGE-clause-same c = joined_large c.write_small-else-number-lt-LARGE.new.smalls.items c.write_number-else-number-lt-LARGE.new.numbers.items c.args.place c.args.number c.write_small-else-number-lt-LARGE.ensures.same c.write_number-else-number-lt-LARGE.ensures.same

pub returns-else-number-lt-LARGE-clause-others : goal.returns-else-number-lt-LARGE-clause-others
returns-else-number-lt-LARGE-clause-others c k other =
    joined_same c.write_small-else-number-lt-LARGE.new.smalls.items c.write_number-else-number-lt-LARGE.new.numbers.items c.args.self.now.smalls.items c.args.self.now.larges.items k (c.write_small-else-number-lt-LARGE.ensures.others k other) (c.write_number-else-number-lt-LARGE.ensures.others k other)
