use Rattle.std.proofs.Common.{◌≡◌, ◌++◌, flat_map}
use Rattle.std.specs.List.{range_with_len}
use Rattle.std.specs.String.{string_bytes}
use Rattle.meaning_text.specs.Lines.{health_line}
use Rattle.meaning_text.proofs.times.push_health.Given as goal

abbrev pub invariant-loop-health : goal.invariant-loop-health
invariant-loop-health l = string_bytes l.text ≡ string_bytes l.fn.text ++ flat_map (health_line l.scenario) (range_with_len 0 l.health)
