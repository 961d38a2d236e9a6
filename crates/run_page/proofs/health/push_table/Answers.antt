use Rattle.std.proofs.Common.{append_assoc, refl}
use Rattle.run_page.specs.Health.{health_table}
use Rattle.run_page.proofs.health.push_table.Goals as goal

pub returns : goal.returns
unfolding health_table
returns c = simp (c.in_ok-push_str-3.ensures.bytes, c.in_ok-push_values.ensures, c.in_ok-push_str-2.ensures.bytes, c.in_ok-push_str.ensures.bytes, append_assoc) refl
