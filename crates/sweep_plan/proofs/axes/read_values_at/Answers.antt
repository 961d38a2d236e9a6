use Rattle.std.proofs.Common.{length, lit<, refl, subst}
use Rattle.std.proofs.lemmas.Iterator.Consumers.{YieldsList-turn, YieldsList-end}
use Rattle.std.proofs.lemmas.Iterator.Splits.{YieldsList-from_str_split}
use Rattle.decimals.specs.Items.{list_items}
use Rattle.sweep_plan.specs.Asked.{AreValuesAt}
use Rattle.sweep_plan.proofs.Columns.{no_values_at}
use Rattle.sweep_plan.proofs.axes.read_values_at.Goals as goal

pub returns-in-None-value_in-clause-refused : goal.returns-in-None-value_in-clause-refused
returns-in-None-value_in-clause-refused c =
    let list = c.args.list.now in
    let items = YieldsList-from_str_split {s = c.into_iter-item-iterator.result} 44 list (lit< tt) (cc) (cc) (cc) in
    let turn = YieldsList-turn items c.loop-item.yielded _ c.loop-item.yielded_by _ _ c.in-Some.item c.in-Some.is c.next.ensures.steps in
    no_values_at c.args.of c.args.place (list_items list) (length c.loop-item.yielded) c.in-Some.item.now turn.0 turn.1 (c.in-None-value_in.ensures.none refl)

pub returns-clause-read : goal.returns-clause-read
returns-clause-read c =
    let list = c.args.list.now in
    let items = YieldsList-from_str_split {s = c.into_iter-item-iterator.result} 44 list (lit< tt) (cc) (cc) (cc) in
    let all = YieldsList-end items c.loop-item.yielded _ c.loop-item.yielded_by _ _ c.in-None.is c.next.ensures.steps in
    subst (λ found. AreValuesAt c.args.of c.args.place found c.loop-item.values.items) all.0 c.loop-item.invariant
