use Rattle.std.proofs.Common.{◌≡◌, drop, find}
use Rattle.diagnostic_text.proofs.Chosen.{is_of}
use Rattle.diagnostic_text.proofs.choice.first_of_rule.Given as goal

abbrev pub invariant-loop-diagnostic : goal.invariant-loop-diagnostic
invariant-loop-diagnostic l = find (is_of l.rule) l.found ≡ find (is_of l.rule) (drop l.diagnostic-index l.found)
