-- What a process in memory, and the effects of an event, stand for.
use Rattle.std.specs.Prelude.{map}
use Rattle.base.specs.declared.key.Key.{Key}
use Rattle.streams.specs.Draw.{words_of}
use Rattle.drive_events.specs.declared.content.Content.{Content}
use Rattle.drive_process.specs.declared.effects.ProcessEffects.{ProcessEffects}
use Rattle.drive_process.specs.declared.effects.ProcessEvent.{ProcessEvent}
use Rattle.drive_process.specs.declared.process.Process.{Process as Held}
use Rattle.drive_process.specs.Process.{Process, Effect}

abbrev pub process_of : Held → Process
process_of p = record { phase = p.phase; birth = p.birth; next_number = p.next_number; words = words_of p.stream }

-- an event as the pair of its key and its content
abbrev pub pair_of : ProcessEvent → Key × Content
pair_of e = (e.key, e.content)

-- what a process and the effects of an event have made so far
abbrev pub effect_of : Held → ProcessEffects → Effect
effect_of p effects = record { state = process_of p; events = map pair_of effects.events.items; rows = effects.rows.items }
