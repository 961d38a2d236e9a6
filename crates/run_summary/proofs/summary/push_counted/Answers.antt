use Rattle.std.proofs.Common.{append_assoc, refl}
use Rattle.run_summary.specs.Summary.{account_words}
use Rattle.run_summary.proofs.summary.push_counted.Goals as goal

pub returns : goal.returns
unfolding account_words
returns c = simp (c.in_ok-push_account_list.ensures, c.in_ok-push_account_lead.ensures, append_assoc) refl
