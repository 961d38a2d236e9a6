use Rattle.std.proofs.Common.{append_assoc, refl}
use Rattle.run_summary.specs.Summary.{account_list}
use Rattle.run_summary.proofs.summary.push_account_list.Goals as goal

pub returns : goal.returns
unfolding account_list
returns c = simp (c.in_ok-push_str-2.ensures.bytes, c.in_ok-push_harness_of.ensures, c.in_ok-push_others.ensures, c.in_ok-push_account_figures.ensures, c.in_ok-push_str.ensures.bytes, append_assoc) refl
