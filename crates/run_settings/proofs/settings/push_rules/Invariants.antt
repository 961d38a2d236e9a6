use Rattle.std.proofs.Common.{◌≡◌, ◌++◌, take, flat_map}
use Rattle.std.specs.String.{string_bytes}
use Rattle.run_settings.specs.Settings.{key_entry}
use Rattle.run_settings.proofs.settings.push_rules.Given as goal

-- the keys of those so far
abbrev pub invariant-loop-rule : goal.invariant-loop-rule
invariant-loop-rule l = string_bytes l.text ≡ string_bytes l.initial.text ++ flat_map (key_entry l.scenario l.preset l.prefix l.section) (take l.rule-index l.rules)
