use Rattle.std.proofs.Common.{append_assoc, refl}
use Rattle.run_summary.specs.Summary.{account_lead}
use Rattle.run_summary.proofs.summary.push_account_lead.Goals as goal

pub returns : goal.returns
unfolding account_lead
returns c = simp (c.in_ok-push_deaths.ensures, c.in_ok-push_crashes.ensures, c.in_ok-push_size.ensures, c.in_ok-push_str.ensures.bytes, append_assoc) refl
