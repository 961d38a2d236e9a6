use Rattle.std.proofs.Common.{append_assoc, refl}
use Rattle.member_timelines.specs.ThrownOut.{thrown_out_figure}
use Rattle.member_timelines.proofs.thrown_out.push_figure.Goals as goal

pub returns : goal.returns
unfolding thrown_out_figure
returns c = simp (c.in_ok-close_figure.ensures, c.in_ok-push_str.ensures.bytes, c.in_ok-push_rows.ensures, c.in_ok-push_head.ensures, c.in_ok-open_figure.ensures, append_assoc) refl
