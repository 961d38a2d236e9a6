use denote.Param.Send.{sendable}
use Rattle.std.proofs.Crossing.{crosses}
use Rattle.std.proofs.alloc.Global.TheSendSync as heap
use Rattle.parallel_run.proofs.SentWorkers.{item_send, post_send, crew_sync, rounds_sync}
use Rattle.parallel_run.proofs.threads.start_workers.Goals as goal

pub spawn-thread-requires-send-F : goal.spawn-thread-requires-send-F
spawn-thread-requires-send-F g c κs within =
    let of_queue = c.type_bounds.send-Q in
    let of_site = c.type_bounds.send-J in
    let of_run = c.type_bounds.send-K in
    let shared_run = c.type_bounds.sync-K in
    let of_gate = c.type_bounds.sync-G in
    let of_rt = c.type_bounds.sync-R in
    search (post_send, item_send, rounds_sync, crew_sync, heap.the_send, crosses, sendable) depth 80 fits 60000

pub spawn-thread-requires-send-T : goal.spawn-thread-requires-send-T
spawn-thread-requires-send-T g c κs within = search (post_send, item_send, crosses, sendable) depth 40 fits 20000
