use Rattle.std.proofs.Common.{◌≡◌, ◌+◌, ◌++◌, ◌∷◌, [], length, take, rules, sym, ap, subst}
use Rattle.std.proofs.lemmas.List.{take_all}
use Rattle.decimals.specs.Items.{list_items}
use Rattle.sweep_plan.specs.Sweep.{KeyValues}
use Rattle.sweep_plan.specs.Asked.{AreColumns, AreValuesAt}
use Rattle.sweep_plan.proofs.Columns.{column_more, no_columns}
use Rattle.sweep_plan.proofs.axes.read_columns.Goals as goal

pub returns-in-Err-clause-refused : goal.returns-in-Err-clause-refused
returns-in-Err-clause-refused c = no_columns c.args.keys.now (list_items c.args.list.now) c.loop-place.place c.in-Err.fault c.loop-place-test.true c.in-Err.ensures.refused

pub returns-clause-read : goal.returns-clause-read
returns-clause-read c =
    subst (λ keys. AreColumns (length c.args.keys.now) keys (list_items c.args.list.now) c.loop-place.axis.items) (take_all c.loop-place.place c.args.keys.now c.loop-place-test.false) c.loop-place.invariant

pub loop-place-preserved : goal.loop-place-preserved
loop-place-preserved c =
    let keys = c.args.keys.now in
    let items = list_items c.args.list.now in
    let place = c.loop-place.place in
    let axis = c.loop-place.axis.items in
    let s = c.new.result in
    let pushed : c.push.new.self.items ≡ axis ++ s ∷ [] = search rules in
    let more = column_more keys items place _ axis s c.loop-place-test.true c.loop-place.invariant (ap (λ (t : KeyValues). t.key) c.new.ensures)
    (record {
      goes = ap (λ (t : KeyValues). t.together) c.new.ensures;
      values = subst (AreValuesAt (length keys) place items) (sym (ap (λ (t : KeyValues). t.values) c.new.ensures)) c.in-Ok.ensures.read;
    }) in
    subst (AreColumns (length keys) (take (place + 1) keys) items) (sym pushed) more
