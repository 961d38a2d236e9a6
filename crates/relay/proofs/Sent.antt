-- The seats of a relay may go to other threads, and threads may share the relay, where its items may go there.
use denote.Param.Send.{IsSend, IsSync, sendable}
use denote.RattleType.{RattleType}
use Rattle.std.proofs.Crossing.{crosses}
use Rattle.std.proofs.alloc.Global.TheSendSync as heap
use Rattle.atomic_table.proofs.badge.Badge.TheSendSync as badge
use Rattle.atomic_table.proofs.shared.Seat.TheSendSync as seat
use Rattle.atomic_table.proofs.shared.Shared.TheSendSync as shared
use Rattle.atomic_table.proofs.send_lease.SendLease.TheSendSync as lease
use Rattle.crossbeam_channel.proofs.flavors.array.Rows.TheSendSync as rows
use Rattle.crossbeam_channel.proofs.flavors.array.ruled.Both.TheSendSync as both
use Rattle.relay.specs.declared.item.BatchRule as batch_rule
use Rattle.relay.specs.contracts.relay.Relay as relay
use Rattle.relay.specs.contracts.relay.SendSeat as send_seat
use Rattle.relay.specs.contracts.relay.TakeSeat as take_seat

pub send_seat_send : (T L G : RattleType) → IsSend T → IsSend (send_seat.the_field T L G).row
send_seat_send T L G s = search (seat.the_send, badge.the_send, crosses, sendable) depth 60

pub take_seat_send : (T L G : RattleType) → IsSend T → IsSend (take_seat.the_field T L G).row
take_seat_send T L G s = search (seat.the_send, badge.the_send, crosses, sendable) depth 60

pub relay_sync : (T L G S : RattleType) (g : batch_rule.Ghosts S.Denot T.Denot L.Denot G.Denot) → IsSend T → IsSync (relay.the_row T L G S g)
relay_sync T L G S g s = search (both.the_send, both.the_sync, rows.the_send, rows.the_sync, lease.the_send, lease.the_sync, shared.the_send, shared.the_sync, badge.the_send, heap.the_send, heap.the_sync, crosses, sendable) depth 60 fits 20000
