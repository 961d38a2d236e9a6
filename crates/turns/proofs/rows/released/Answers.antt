use Rattle.std.proofs.Common.{sym, ap, ◌∙◌}
use Rattle.std.specs.List.{list_all}
use Rattle.turns.specs.Parts.{is_before}
use Rattle.turns.proofs.Releasing.{all_kept, no_others}
use Rattle.turns.proofs.rows.released.Goals as goal

pub returns-then-all_come_before-clause-before : goal.returns-then-all_come_before-clause-before
returns-then-all_come_before-clause-before c =
    all_kept (is_before c.args.first) c.args.rows.items (ap (list_all (is_before c.args.first)) (sym c.deref.ensures.value) ∙ sym c.all_come_before.ensures ∙ c.if-all_come_before.true)

pub returns-then-all_come_before-clause-others : goal.returns-then-all_come_before-clause-others
returns-then-all_come_before-clause-others c =
    c.new-kept.ensures.items
    ∙ no_others (is_before c.args.first) c.args.rows.items (ap (list_all (is_before c.args.first)) (sym c.deref.ensures.value) ∙ sym c.all_come_before.ensures ∙ c.if-all_come_before.true)
