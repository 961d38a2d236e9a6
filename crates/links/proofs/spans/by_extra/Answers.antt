use Rattle.std.proofs.Common.{◌≤◌, ℕ, length, get_or, sym, arith, rules}
use Rattle.std.specs.Ordering.{is_lt, nat_cmp}
use Rattle.std.proofs.lemmas.List.Sorted.{answers_always}
use Rattle.scenario.specs.declared.settings.Slow.{Slow}
use Rattle.links.proofs.Falling.{falls, falling}
use Rattle.links.proofs.spans.by_extra.Goals as goal

pub returns-clause-falling : goal.returns-clause-falling
returns-clause-falling c = falling _ (c.in_ok-sort_by.ensures.sorted (λ (a b : Slow). is_lt (nat_cmp b.extra a.extra)) falls (answers_always _ _ _ (λ f a r h w. search rules)))
