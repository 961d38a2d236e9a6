use Rattle.std.proofs.Common.{append_assoc, refl}
use Rattle.run_summary.specs.Summary.{summary_of}
use Rattle.run_summary.proofs.summary.push_all.Goals as goal

pub returns : goal.returns
unfolding summary_of
returns c = simp (c.in_ok-push_str-3.ensures.bytes, c.in_ok-push_figures.ensures, c.in_ok-push_str-2.ensures.bytes, c.in_ok-push_out.ensures, c.in_ok-push_crashes.ensures, c.in_ok-push_size.ensures, c.in_ok-push_str.ensures.bytes, c.false_positives-claims.ensures, c.crashes-crashes.ensures, c.version.ensures.value, append_assoc) refl
