use Rattle.std.proofs.Common.{◌∙◌, length, lit<, refl}
use Rattle.std.proofs.lemmas.Iterator.Consumers.{YieldsList-turn, YieldsList-end}
use Rattle.std.proofs.lemmas.Iterator.Splits.{YieldsList-from_str_split}
use Rattle.decimals.specs.Items.{list_items}
use Rattle.command_line.proofs.Parts.{no_parts}
use Rattle.command_line.proofs.division.part_numbers.Goals as goal

pub returns-in-None-number_within-clause-refused : goal.returns-in-None-number_within-clause-refused
returns-in-None-number_within-clause-refused c =
    let list = c.args.list.now in
    let items = YieldsList-from_str_split {s = c.into_iter-item-iterator.result} 44 list (lit< tt) (cc) (cc) (cc) in
    let turn = YieldsList-turn items c.loop-item.yielded _ c.loop-item.yielded_by _ _ c.in-Some.item c.in-Some.is c.next.ensures.steps in
    no_parts (list_items list) (length c.loop-item.yielded) c.in-Some.item.now turn.0 turn.1 (c.in-None-number_within.ensures.none refl)

pub returns-clause-numbers : goal.returns-clause-numbers
returns-clause-numbers c =
    let list = c.args.list.now in
    let items = YieldsList-from_str_split {s = c.into_iter-item-iterator.result} 44 list (lit< tt) (cc) (cc) (cc) in
    let all = YieldsList-end items c.loop-item.yielded _ c.loop-item.yielded_by _ _ c.in-None.is c.next.ensures.steps in
    record { written = c.loop-item.invariant.written ∙ all.0; low = c.loop-item.invariant.low }
