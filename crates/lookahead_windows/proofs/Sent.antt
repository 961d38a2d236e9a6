-- A part, its events and rows may go to another thread, and a scenario and its links may be seen by several.
use denote.Param.Send.{IsSend, IsSync, AllSend, AllSync, recorded_send, recorded_sync, struct_send, struct_sync, sendable}
use denote.Struct.Struct.{Struct}
use denote.Struct.Declared as declared
use denote.Struct.Declared.{Declared, shape}
use denote.RattleType.{RattleType}
use Rattle.std.proofs.Crossing.{crosses, Vec-send}
use Rattle.std.proofs.MapsCrossing as maps
use Rattle.std.proofs.MapsCrossingOver as over
use Rattle.scenario.specs.contracts.settings.Group as group
use Rattle.scenario.specs.contracts.settings.Path as path
use Rattle.scenario.specs.contracts.settings.Slow as slow
use Rattle.scenario.specs.contracts.settings.Crash as crash
use Rattle.scenario.specs.contracts.settings.Leave as leave
use Rattle.scenario.specs.contracts.settings.Cut as cut
use Rattle.scenario.specs.contracts.settings.Restart as restart
use Rattle.scenario.specs.contracts.settings.Pause as pause
use Rattle.scenario.specs.contracts.script.ScriptEvent as script_event
use Rattle.scenario.specs.contracts.spells.Spells as spells
use Rattle.scenario.specs.contracts.calendar.Calendar as calendar
use Rattle.scenario.specs.contracts.scenario.Contents as contents
use Rattle.scenario.specs.contracts.scenario.Scenario as scenario
use Rattle.scenario.specs.contracts.division.Division as division
use Rattle.links.specs.contracts.table.Links as links
use Rattle.membership.specs.contracts.table.Table as table
use Rattle.piggyback.specs.contracts.Buffer as buffer
use Rattle.probing.specs.contracts.Rota as rota
use Rattle.suspicion.specs.contracts.suspicions.Suspicions as suspicions
use Rattle.lifeguard.specs.contracts.relays.Relays as relays
use Rattle.streams.specs.contracts.Stream as stream
use Rattle.broadcast_queue.specs.contracts.BroadcastQueue as queue
use Rattle.lives.specs.contracts.life.Life as life
use Rattle.member.specs.contracts.member.Member as member
use Rattle.member.specs.contracts.updates.Updates as updates
use Rattle.member.specs.contracts.event.Event as event
use Rattle.trace.specs.contracts.row.Row as row
use Rattle.windows.specs.contracts.part.Part as part
use Rattle.windows.specs.contracts.part.Done as done

-- a struct may go where its fields may: for those that `search` can't take apart
pub declared_send : (T : Declared) → AllSend (shape T).fields → IsSend (declared.row T)
declared_send T all = recorded_send (Struct (shape T)) T.D T.to T.to_one (struct_send (shape T) all)

pub declared_sync : (T : Declared) → AllSync (shape T).fields → IsSync (declared.row T)
declared_sync T all = recorded_sync (Struct (shape T)) T.D T.to T.to_one (struct_sync (shape T) all)

pub group_sync : IsSync group.the_row
group_sync = search (crosses, sendable) depth 60 fits 20000

pub path_sync : IsSync path.the_row
path_sync = search (crosses, sendable) depth 60 fits 20000

pub slow_sync : IsSync slow.the_row
slow_sync = search (crosses, sendable) depth 60 fits 20000

pub crash_sync : IsSync crash.the_row
crash_sync = search (crosses, sendable) depth 60 fits 20000

pub leave_sync : IsSync leave.the_row
leave_sync = search (crosses, sendable) depth 60 fits 20000

pub cut_sync : IsSync cut.the_row
cut_sync = search (crosses, sendable) depth 60 fits 20000

pub restart_sync : IsSync restart.the_row
restart_sync = search (crosses, sendable) depth 60 fits 20000

pub pause_sync : IsSync pause.the_row
pause_sync = search (crosses, sendable) depth 60 fits 20000

pub script_event_sync : IsSync script_event.the_row
script_event_sync = search (crosses, sendable) depth 60 fits 20000

pub spells_sync : IsSync spells.the_row
spells_sync = search (crosses, sendable) depth 60 fits 20000

pub calendar_sync : IsSync calendar.the_row
calendar_sync = search (crosses, sendable) depth 60 fits 20000

contents_fields : AllSync (shape contents.the_type).fields
contents_fields = (
  search (crosses, sendable) depth 60 fits 20000,
  (
    search (crosses, sendable) depth 60 fits 20000,
    (
      search (crosses, sendable) depth 60 fits 20000,
      (
        search (crosses, sendable) depth 60 fits 20000,
        (
          search (crosses, sendable) depth 60 fits 20000,
          (
            search (crosses, sendable) depth 60 fits 20000,
            (
              search (crosses, sendable) depth 60 fits 20000,
              (
                search (group_sync, crosses, sendable) depth 60 fits 20000,
                (
                  search (path_sync, crosses, sendable) depth 60 fits 20000,
                  (
                    search (slow_sync, crosses, sendable) depth 60 fits 20000,
                    (
                      search (crash_sync, crosses, sendable) depth 60 fits 20000,
                      (
                        search (leave_sync, crosses, sendable) depth 60 fits 20000,
                        (
                          search (cut_sync, crosses, sendable) depth 60 fits 20000,
                          (
                            search (crosses, sendable) depth 60 fits 20000,
                            (
                              search (crosses, sendable) depth 60 fits 20000,
                              (
                                search (pause_sync, crosses, sendable) depth 60 fits 20000,
                                (
                                  search (restart_sync, crosses, sendable) depth 60 fits 20000,
                                  (
                                    search (pause_sync, crosses, sendable) depth 60 fits 20000,
                                    (
                                      search (crosses, sendable) depth 60 fits 20000,
                                      (
                                        search (crosses, sendable) depth 60 fits 20000,
                                        (
                                          search (crosses, sendable) depth 60 fits 20000,
                                          (search (crosses, sendable) depth 60 fits 20000, tt),
                                        ),
                                      ),
                                    ),
                                  ),
                                ),
                              ),
                            ),
                          ),
                        ),
                      ),
                    ),
                  ),
                ),
              ),
            ),
          ),
        ),
      ),
    ),
  ),
)

pub contents_sync : IsSync contents.the_row
contents_sync = declared_sync contents.the_type contents_fields

calendar_field : IsSync (calendar.the_field).row
calendar_field = search (crosses, sendable) depth 60 fits 20000

contents_field : IsSync (contents.the_field).row
contents_field = struct_sync (shape contents.the_type) contents_fields

pub scenario_sync : IsSync scenario.the_row
scenario_sync = search (contents_field, spells_sync, calendar_field, script_event_sync, crosses, sendable) depth 60 fits 20000

pub division_sync : IsSync division.the_row
division_sync = search (crosses, sendable) depth 60 fits 20000

pub links_sync : IsSync links.the_row
links_sync = search (maps.crosses, crosses, sendable) depth 60 fits 20000

pub table_send : IsSend table.the_row
table_send = search (maps.crosses, crosses, sendable) depth 60 fits 20000

pub buffer_send : IsSend buffer.the_row
buffer_send = search (crosses, sendable) depth 60 fits 20000

pub rota_send : IsSend rota.the_row
rota_send = search (crosses, sendable) depth 60 fits 20000

pub suspicions_send : IsSend suspicions.the_row
suspicions_send = search (maps.crosses, crosses, sendable) depth 60 fits 20000

pub relays_send : IsSend relays.the_row
relays_send = search (over.crosses, crosses, sendable) depth 60 fits 20000

pub stream_send : IsSend stream.the_row
stream_send = search (crosses, sendable) depth 60 fits 20000

pub queue_send : IsSend queue.the_row
queue_send = search (crosses, sendable) depth 60 fits 20000

pub life_send : IsSend (life.the_field).row
life_send = search (buffer_send, queue_send, crosses, sendable) depth 60 fits 20000

member_fields : AllSend (shape member.the_type).fields
member_fields = (
  search (crosses, sendable) depth 60 fits 20000,
  (
    search (crosses, sendable) depth 60 fits 20000,
    (
      search (crosses, sendable) depth 60 fits 20000,
      (
        search (crosses, sendable) depth 60 fits 20000,
        (
          search (crosses, sendable) depth 60 fits 20000,
          (
            search (crosses, sendable) depth 60 fits 20000,
            (
              search (crosses, sendable) depth 60 fits 20000,
              (
                search (crosses, sendable) depth 60 fits 20000,
                (
                  stream_send,
                  (
                    rota_send,
                    (
                      search (crosses, sendable) depth 60 fits 20000,
                      (
                        buffer_send,
                        (
                          suspicions_send,
                          (
                            table_send,
                            (
                              search (crosses, sendable) depth 60 fits 20000,
                              (
                                relays_send,
                                (
                                  search (crosses, sendable) depth 60 fits 20000,
                                  (life_send, tt),
                                ),
                              ),
                            ),
                          ),
                        ),
                      ),
                    ),
                  ),
                ),
              ),
            ),
          ),
        ),
      ),
    ),
  ),
)

pub member_send : IsSend member.the_row
member_send = declared_send member.the_type member_fields

pub part_send : (Q : RattleType) → IsSend Q → IsSend (part.the_field Q).row
part_send Q s = search (member_send, crosses, sendable) depth 60 fits 20000

pub updates_send : IsSend updates.the_row
updates_send = search (crosses, sendable) depth 60 fits 20000

pub event_send : IsSend event.the_row
event_send = search (updates_send, crosses, sendable) depth 60 fits 20000

pub row_send : IsSend row.the_row
row_send = search (crosses, sendable) depth 60 fits 20000

pub done_send : (Q : RattleType) → IsSend Q → IsSend (done.the_row Q)
done_send Q s =
    let all : AllSend (shape (done.the_type Q)).fields = (part_send Q s, (Vec-send event.the_row event_send, (Vec-send row.the_row row_send, tt))) in
    declared_send (done.the_type Q) all
