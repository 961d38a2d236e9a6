-- What a `Script` stands for.
use Rattle.std.specs.Prelude.{List}
use Rattle.scenario.specs.declared.script.ScriptEvent.{ScriptEvent}
use Rattle.scenario.specs.declared.script.Script.TheInside.{Inside}

abbrev pub events_of : Inside → List ScriptEvent
events_of s = s.events.items
