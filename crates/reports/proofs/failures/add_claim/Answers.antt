use Rattle.std.proofs.Common.{◌∙◌, sym, ap}
use Rattle.reports.specs.Failures.{is_about_departed}
use Rattle.reports.proofs.Keeping.{unrelated, or-left, or-right}
use Rattle.reports.proofs.failures.add_claim.Goals as goal

pub returns-clause-crashes : goal.returns-clause-crashes
returns-clause-crashes c =
    sym (unrelated c.args.row.now c.args.crashes.now.items
    (ap (λ departures. is_about_departed departures c.args.row.now) (sym c.deref.ensures.value) ∙ or-left _ _ (sym c.is_about_either.ensures ∙ c.if-is_about_either.false)))

pub returns-clause-leaves : goal.returns-clause-leaves
returns-clause-leaves c =
    sym (unrelated c.args.row.now c.args.leaves.now.items
    (ap (λ departures. is_about_departed departures c.args.row.now) (sym c.deref-2.ensures.value) ∙ or-right _ _ (sym c.is_about_either.ensures ∙ c.if-is_about_either.false)))
