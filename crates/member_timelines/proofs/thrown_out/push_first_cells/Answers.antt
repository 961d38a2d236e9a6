use Rattle.std.proofs.Common.{append_assoc, refl}
use Rattle.member_timelines.specs.ThrownOut.{first_cells}
use Rattle.member_timelines.proofs.thrown_out.push_first_cells.Goals as goal

pub returns : goal.returns
unfolding first_cells
returns c = simp (c.in_ok-push_claim.ensures, c.in_ok-push_str-2.ensures.bytes, c.in_ok-push_escaped.ensures, c.in_ok-push_str.ensures.bytes, c.name.ensures.value, append_assoc) refl
