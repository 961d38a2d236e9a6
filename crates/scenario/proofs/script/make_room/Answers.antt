use Rattle.std.proofs.Common.{◌∙◌, ap, List}
use Rattle.scenario.specs.Scripts.{script_at}
use Rattle.scenario.specs.declared.script.ScriptEvent.{ScriptEvent}
use Rattle.scenario.proofs.Dealing.{place_more}
use Rattle.scenario.proofs.script.make_room.Goals as goal
