-- What a worker takes with it into its thread, or from the board, may go there.
use denote.Param.Send.{IsSend, IsSync, AllSend, struct_send, sendable}
use denote.Struct.Declared.{shape}
use denote.RattleType.{RattleType}
use denote.Ref.{NamedLft}
use Rattle.std.proofs.Crossing.{crosses}
use Rattle.rtrb.proofs.end.End.TheSendSync.{the_send as end_send}
use Rattle.rtrb.specs.declared.Protocol as protocol
use Rattle.std.proofs.alloc.Global.TheSendSync as heap
use Rattle.atomic_table.proofs.shared.Seat.TheSendSync as pass
use Rattle.atomic_table.proofs.shared.Shared.TheSendSync as shared
use Rattle.atomic_table.proofs.send_lease.SendLease.TheSendSync as lease
use Rattle.board.proofs.Sent.{seat_record_send}
use Rattle.board.specs.contracts.seats.Board as board
use Rattle.board.specs.contracts.seats.Seat as seat
use Rattle.board.specs.contracts.post.Post as post
use Rattle.board.specs.declared.rule.ItemRule as item_rule
use Rattle.board.specs.declared.site.Site as site
use Rattle.lookahead_windows.proofs.Sent.{declared_send, scenario_sync, links_sync, part_send, event_send, row_send, division_sync}
use Rattle.lookahead_windows.specs.contracts.course.Rounds as rounds
use Rattle.lookahead_windows.specs.contracts.window.WindowLists as lists
use Rattle.member.specs.contracts.event.Effects as effects
use Rattle.relay.proofs.Sent.{send_seat_send, relay_sync}
use Rattle.parallel_run.specs.declared.of_run.OfRun as of_run
use Rattle.parallel_run.specs.contracts.batch_sender.BatchSender as batch_sender
use Rattle.parallel_run.specs.contracts.event_count.EventCount as event_count
use Rattle.parallel_run.specs.contracts.window_message.WindowMessage as word
use Rattle.parallel_run.specs.contracts.window_message.PeerMessage as told
use Rattle.parallel_run.specs.contracts.row_batch.RowBatch as lot
use Rattle.parallel_run.specs.contracts.row_batch.Delivery as delivery
use Rattle.parallel_run.specs.contracts.row_relay.RunBasis as run_basis
use Rattle.parallel_run.specs.contracts.ring.Sender as sender
use Rattle.parallel_run.specs.contracts.ring.Taker as taker
use Rattle.parallel_run.specs.contracts.peers.Peer as peer
use Rattle.parallel_run.specs.contracts.rows.Gathered as gathered
use Rattle.parallel_run.specs.contracts.connections.Connections as lines
use Rattle.parallel_run.specs.contracts.process.Process as process
use Rattle.parallel_run.specs.contracts.process.ProcessState as state
use Rattle.parallel_run.specs.contracts.board_item.BoardItem as board_item
use Rattle.parallel_run.specs.contracts.crew.Crew as crew

pub event_count_sync : IsSync event_count.the_row
event_count_sync = search (crosses, sendable) depth 60 fits 20000

pub rounds_sync : (α : NamedLft) → IsSync (rounds.the_row α)
rounds_sync α = search (scenario_sync, links_sync, division_sync, crosses, sendable) depth 60 fits 20000

word_send : IsSend (word.the_field).row
word_send = search (event_send, crosses, sendable) depth 60 fits 20000

told_send : IsSend told.the_row
told_send = search (word_send, crosses, sendable) depth 60 fits 20000

lot_send : IsSend (lot.the_field).row
lot_send = search (row_send, crosses, sendable) depth 60 fits 20000

delivery_send : IsSend delivery.the_row
delivery_send = search (lot_send, crosses, sendable) depth 60 fits 20000

gathered_send : IsSend (gathered.the_field).row
gathered_send = search (row_send, crosses, sendable) depth 60 fits 20000

sender_send : (β : NamedLft) (T P : RattleType) (p : protocol.Ghosts P.Denot T.Denot) → IsSend T → IsSend (sender.the_field β T P p).row
sender_send β T P p s = search (end_send, heap.the_send, event_count_sync, crosses, sendable) depth 60 fits 20000

taker_send : (β : NamedLft) (T P : RattleType) (p : protocol.Ghosts P.Denot T.Denot) → IsSend T → IsSend (taker.the_field β T P p).row
taker_send β T P p s = search (end_send, heap.the_send, event_count_sync, crosses, sendable) depth 60 fits 20000

peer_send : (β : NamedLft) (K : RattleType) (k : of_run.Ghosts K.Denot) → IsSend (peer.the_row β K k)
peer_send β K k =
    let all : AllSend (shape (peer.the_type β K k)).fields = (search sendable, (sender_send β told.the_row _ _ told_send, (taker_send β told.the_row _ _ told_send, (search (event_send, crosses, sendable) depth 60 fits 20000, (search (event_send, crosses, sendable) depth 60 fits 20000, tt))))) in
    declared_send (peer.the_type β K k) all

batch_sender_send : (β : NamedLft) (K : RattleType) (k : of_run.Ghosts K.Denot) → IsSend (batch_sender.the_field β K k).row
batch_sender_send β K k =
    let all : AllSend (shape (batch_sender.the_type β K k)).fields = (search (relay_sync, delivery_send, sendable), (send_seat_send delivery.the_row delivery.the_row run_basis.the_row delivery_send, (search sendable, (search sendable, (search sendable, tt))))) in
    struct_send (shape (batch_sender.the_type β K k)) all

lines_send : (β : NamedLft) (K : RattleType) (k : of_run.Ghosts K.Denot) → IsSend (lines.the_field β K k).row
lines_send β K k = search (peer_send, batch_sender_send, crosses, sendable) depth 60 fits 20000

effects_send : IsSend (effects.the_field).row
effects_send = search (event_send, row_send, crosses, sendable) depth 60 fits 20000

lists_send : IsSend (lists.the_field).row
lists_send = search (effects_send, event_send, crosses, sendable) depth 60 fits 20000

state_send : (β : NamedLft) (K Q : RattleType) (k : of_run.Ghosts K.Denot) → IsSend Q → IsSend (state.the_field β K Q k).row
state_send β K Q k s = search (part_send, gathered_send, lists_send, lines_send, crosses, sendable) depth 60 fits 20000

process_send : (β : NamedLft) (K Q : RattleType) (k : of_run.Ghosts K.Denot) → IsSend Q → IsSend (process.the_field β K Q k).row
process_send β K Q k s = search (state_send, crosses, sendable) depth 60 fits 20000

-- what lies on the board of a run may go to another thread, where its queue may
pub item_send : (β : NamedLft) (K Q : RattleType) (k : of_run.Ghosts K.Denot) → IsSend Q → IsSend (board_item.the_row β K Q k)
item_send β K Q k s = search (process_send, lines_send, crosses, sendable) depth 60 fits 20000

-- ---- posts

board_sync : (T V S : RattleType) (g : item_rule.Ghosts S.Denot T.Denot V.Denot) → IsSend T → IsSync (board.the_row T V S g)
board_sync T V S g s = search (lease.the_sync, shared.the_sync, heap.the_sync, crosses, sendable) depth 60 fits 20000

seat_send : (T V : RattleType) → IsSend T → IsSend (seat.the_field T V).row
seat_send T V s = search (pass.the_send, crosses, sendable) depth 60 fits 20000

-- a post may go where its items may
pub post_send : (β : NamedLft) (T V S P : RattleType) (p : site.Ghosts P.Denot) (g : item_rule.Ghosts S.Denot T.Denot V.Denot) → IsSend T → IsSend (post.the_row β T V S P p g)
post_send β T V S P p g s =
    let all : AllSend (shape (post.the_type β T V S P p g)).fields = (search (board_sync, sendable), (seat_send T V s, (seat_record_send V, (search sendable, tt)))) in
    declared_send (post.the_type β T V S P p g) all

pub crew_sync : IsSync crew.the_row
crew_sync = search (event_count_sync, crosses, sendable) depth 60 fits 20000
