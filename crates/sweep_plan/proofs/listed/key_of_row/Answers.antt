use Rattle.std.proofs.Common.{◌≡◌, true, rules, subst}
use Rattle.std.specs.Option.{IfSome}
use Rattle.sweep_plan.specs.Keys.{is_plain}
use Rattle.sweep_plan.specs.Listed.{IsNamedIn, NamesNone}
use Rattle.sweep_plan.proofs.Parted.{row_with}
use Rattle.sweep_plan.proofs.listed.key_of_row.Goals as goal

pub returns-clause-some : goal.returns-clause-some
returns-clause-some c =
    let plain : is_plain c.args.row.now.kind ≡ true = search rules in
    subst (λ l. IfSome c.key_of_item.result (IsNamedIn l c.args.word.now)) (row_with c.args.list c.args.row.now plain) c.key_of_item.ensures.some

pub returns-clause-none : goal.returns-clause-none
returns-clause-none c none =
    let plain : is_plain c.args.row.now.kind ≡ true = search rules in
    subst (λ l. NamesNone l c.args.word.now) (row_with c.args.list c.args.row.now plain) (c.key_of_item.ensures.none none)
