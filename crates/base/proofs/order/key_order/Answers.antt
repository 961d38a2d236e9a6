use Rattle.std.proofs.Common.{refl}
use Rattle.base.specs.Order.{key_cmp, key_total, key_exact}
use Rattle.base.proofs.order.key_order.Goals as goal

pub returns-clause-compares : goal.returns-clause-compares
unfolding key_cmp
returns-clause-compares c = refl

pub returns-clause-total : goal.returns-clause-total
returns-clause-total c = key_total

pub returns-clause-exact : goal.returns-clause-exact
returns-clause-exact c = key_exact
