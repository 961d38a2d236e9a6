use Rattle.std.proofs.Common.{subst, sym, IsPermutation}
use Rattle.run_spread.proofs.news.shares.Goals as goal

pub returns : goal.returns
returns c = c.shares_of.ensures c.args.times.items (subst (IsPermutation c.args.times.items) (sym c.as_slice.ensures.value) c.in_ok-sorted.ensures.all)
