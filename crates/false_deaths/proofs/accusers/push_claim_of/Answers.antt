use Rattle.std.proofs.Common.{append_assoc, refl}
use Rattle.false_deaths.specs.Causes.{claim_of}
use Rattle.false_deaths.proofs.accusers.push_claim_of.Goals as goal

pub returns : goal.returns
unfolding claim_of
returns c = simp (c.in_ok-push_str-3.ensures.bytes, c.in_ok-push_line.ensures, c.in_ok-push_timed.ensures, c.in_ok-push_str-2.ensures.bytes, c.in_ok-push_escaped.ensures, c.in_ok-push_str.ensures.bytes, append_assoc) refl
