use Rattle.std.proofs.Common.{rules, ◌≡◌, ◌+◌, ◌==◌, ◌&&◌, true, cond, ap, sym, ◌∙◌}
use Rattle.trace.specs.declared.row.What.TheVariants as what
use Rattle.reports.specs.Rows.{has_kind}
use Rattle.series.specs.Grid.{count_at}
use Rattle.series.proofs.story.follow_refute.Goals as goal

pub returns-then-eq : goal.returns-then-eq
returns-then-eq c k low =
    let is : has_kind what.Refute c.args.row.now ≡ true = search rules in
    c.raise.ensures.raised 0 k low ∙ ap (λ t. count_at c.args.refuted.now 0 k + cond (t && k == c.args.span) 1 0) (sym is)
