use Rattle.std.proofs.Common.{rules}
use Rattle.std.specs.Ordering.{is_lt}
use Rattle.std.proofs.lemmas.List.Sorted.{answers_always}
use Rattle.base.specs.Order.{key_cmp}
use Rattle.worker_queue.proofs.Lists.{falls}
use Rattle.worker_queue.proofs.falling.sort_falling.Goals as goal

pub returns-clause-falling : goal.returns-clause-falling
unfolding key_cmp
returns-clause-falling g c =
    c.sort_unstable_by.ensures.sorted (λ a b. is_lt (key_cmp (g.E.Keyed.key b) (g.E.Keyed.key a))) (falls g.E.Keyed.key) (answers_always _ _ _ (λ f a r h w. search rules))
