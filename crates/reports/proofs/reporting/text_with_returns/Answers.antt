use Rattle.std.proofs.Common.{◌∙◌}
use Rattle.reports.proofs.AccountLines.{account_lines}
use Rattle.reports.proofs.reporting.text_with_returns.Goals as goal

pub returns : goal.returns
returns c = c.in_ok-text.ensures ∙ account_lines c.args.scenario.now c.args.tallies.now c.in_ok-account.account c.in_ok-account.ensures
