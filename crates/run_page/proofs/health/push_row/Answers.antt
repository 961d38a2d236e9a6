use Rattle.std.proofs.Common.{append_assoc, refl}
use Rattle.run_page.proofs.health.push_row.Goals as goal

pub returns : goal.returns
returns c = simp (c.in_ok-write-2.ensures.bytes, c.in_ok-push_moment_alone.ensures, c.in_ok-write.ensures.bytes, append_assoc) refl
