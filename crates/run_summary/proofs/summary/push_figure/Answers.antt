use Rattle.std.proofs.Common.{append_assoc, refl}
use Rattle.run_summary.specs.Summary.{figure}
use Rattle.run_summary.proofs.summary.push_figure.Goals as goal

pub returns : goal.returns
unfolding figure
returns c = simp (c.in_ok-push_str-3.ensures.bytes, c.in_ok-push_str-2.ensures.bytes, c.by_number.ensures, c.in_ok-push_str.ensures.bytes, c.in_ok-push_grouped.ensures, c.in_ok-open_figure.ensures, append_assoc) refl
