use Rattle.std.proofs.Common.{ℕ, Vec, Global, ◌∙◌, ap, sym}
use Rattle.reports.specs.Text.{lines_of_version, report_text}
use Rattle.reports.proofs.AccountLines.{plain_lines}
use Rattle.reports.proofs.reporting.report.Goals as goal

pub returns-then-has_returns : goal.returns-then-has_returns
unfolding report_text
returns-then-has_returns c =
    ap (λ (v : Vec ℕ Global). v.items) c.into_bytes.ensures.value ∙ c.in_ok-text.ensures
    ∙ ap (λ v. lines_of_version v c.args.scenario.now c.args.tallies.now) (sym (c.has_returns.ensures.some c.if-has_returns.true) ∙ c.version.ensures.value)

pub returns : goal.returns
unfolding report_text
returns c =
    ap (λ (v : Vec ℕ Global). v.items) c.into_bytes-2.ensures.value ∙ c.in_ok-text-2.ensures ∙ plain_lines c.args.scenario.now c.args.tallies.now (λ four. c.has_returns.ensures.none c.if-has_returns.false (c.version.ensures.value ∙ four))
