use Rattle.std.proofs.Common.{◌≡◌, false, map, take}
use Rattle.toml.specs.View.{view}
use Rattle.scenario_reader.specs.Rules.{any_two}
use Rattle.script_reader.specs.Twice.{words}
use Rattle.script_reader.proofs.Twice.{names_in, same}
use Rattle.script_reader.proofs.repeated.is_name_twice.Given as goal

-- the names so far are apart
abbrev pub invariant-loop-item : goal.invariant-loop-item
invariant-loop-item l = record {
  names : words l.names.keys ≡ names_in (map view (take l.item-index l.items));
  fine : any_two same (words l.names.keys) ≡ false;
}
