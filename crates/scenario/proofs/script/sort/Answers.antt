use Rattle.std.proofs.Common.{rules}
use Rattle.std.proofs.lemmas.List.Sorted.{IsNonDecreasingBy-from_sort_by_key, answers_always}
use Rattle.scenario.specs.declared.script.ScriptEvent.{ScriptEvent}
use Rattle.scenario.proofs.Events.{sorted_is}
use Rattle.scenario.proofs.script.sort.Goals as goal

pub returns : goal.returns
returns c =
    sorted_is _ _ (IsNonDecreasingBy-from_sort_by_key (λ (e : ScriptEvent). e.at) _ c.in_ok-sort_by_key.ensures.sorted (λ a r f k. search rules))
    (c.sort_by_key.ensures.stable (λ (e : ScriptEvent). e.at) (answers_always _ _ _ (λ f a r g h. search rules)))
