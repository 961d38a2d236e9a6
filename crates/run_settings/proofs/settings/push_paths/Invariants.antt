use Rattle.std.proofs.Common.{◌≡◌, ◌++◌, take, flat_map}
use Rattle.std.specs.String.{string_bytes}
use Rattle.run_settings.specs.Settings.{path_entry}
use Rattle.run_settings.proofs.settings.push_paths.Given as goal

-- those so far
abbrev pub invariant-loop-path : goal.invariant-loop-path
invariant-loop-path l = string_bytes l.text ≡ string_bytes l.initial.text ++ flat_map (path_entry l.scenario) (take l.path-index l.paths)
