use Rattle.std.proofs.Common.{◌≡◌, ◌∙◌, [], sym, arith}
use Rattle.std.specs.FinMap.{contains_key}
use Rattle.std.proofs.lemmas.Bool.{eqb-true}
use Rattle.std.proofs.lemmas.List.{nil_from_length}
use Rattle.windows.specs.WorldOf.{states_in}
use Rattle.windows.proofs.Deliveries.{if_ok, left_are_new, own_pended, others_sent, none_left_own, none_left_others}
use Rattle.windows.proofs.steps.deliver.Goals as goal

pub returns-then-is_empty-clause-own : goal.returns-then-is_empty-clause-own
returns-then-is_empty-clause-own g c =
    let own = contains_key (states_in c.args.members.now) in
    let none : c.push_own.new.events.items ≡ [] = nil_from_length _ (let h = eqb-true _ _ (sym c.is_empty.ensures ∙ c.if-is_empty.true) in omega (arith, h)) in
    none_left_own own _ _ _ _ c.in_ok-push_own.ensures c.requires.new none

pub returns-then-is_empty-clause-others : goal.returns-then-is_empty-clause-others
returns-then-is_empty-clause-others g c =
    let own = contains_key (states_in c.args.members.now) in
    let none : c.push_own.new.events.items ≡ [] = nil_from_length _ (let h = eqb-true _ _ (sym c.is_empty.ensures ∙ c.if-is_empty.true) in omega (arith, h)) in
    none_left_others own _ _ _ _ c.in_ok-push_own.ensures c.requires.new _ none

pub split_events-requires : goal.split_events-requires
split_events-requires g c = record {
  new = left_are_new (contains_key (states_in c.args.members.now)) _ _ _ _ c.in_ok-push_own.ensures c.requires.new;
}

pub returns-clause-own : goal.returns-clause-own
returns-clause-own g c =
    if_ok c.split_events.result c.split_events.ensures.own (own_pended (contains_key (states_in c.args.members.now)) _ _ _ _ c.in_ok-push_own.ensures c.requires.new _)

pub returns-clause-others : goal.returns-clause-others
returns-clause-others g c =
    if_ok c.split_events.result c.split_events.ensures.others (others_sent (contains_key (states_in c.args.members.now)) _ _ _ _ c.in_ok-push_own.ensures c.requires.new _ _)
