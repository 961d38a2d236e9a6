use Rattle.std.proofs.Common.{◌∙◌, ◌&&◌, ◌||◌, sym}
use Rattle.std.specs.Prelude.{not}
use Rattle.trace.specs.declared.row.What.TheVariants as what
use Rattle.trace_rows.specs.Rows.{has_kind}
use Rattle.incidents.specs.Lives.{is_up}
use Rattle.incidents.specs.Incidents.{is_doubted}
use Rattle.incidents.specs.Kept.{count_of}
use Rattle.incidents.proofs.Deciding.{of_another, about_one, about_nobody}
use Rattle.incidents.proofs.incidents.Incidents.is_alarm.Goals as goal

pub returns-then-not-is_doubt : goal.returns-then-not-is_doubt
returns-then-not-is_doubt c rows are = of_another (has_kind what.Suspect c.args.row.now || has_kind what.Confirm c.args.row.now) _ (sym c.is_doubt.ensures ∙ c.if-not-is_doubt.true)

pub returns-in-Some : goal.returns-in-Some
returns-in-Some c rows are =
    about_one (has_kind what.Suspect c.args.row.now || has_kind what.Confirm c.args.row.now) (λ j. is_up rows j && not (is_doubted (count_of c.args.self.now.cluster) rows j)) c.args.row.now.about _ _ (sym c.is_doubt.ensures ∙ c.if-not-is_doubt.false) c.in-Some.is (c.is_trusted.ensures rows are)

pub returns-in-None : goal.returns-in-None
returns-in-None c rows are = about_nobody (has_kind what.Suspect c.args.row.now || has_kind what.Confirm c.args.row.now) (λ j. is_up rows j && not (is_doubted (count_of c.args.self.now.cluster) rows j)) c.args.row.now.about c.in-None.is
