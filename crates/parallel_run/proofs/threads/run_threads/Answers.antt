use denote.Param.Send.{sendable}
use Rattle.parallel_run.proofs.threads.run_threads.Goals as goal

pub scoped-ended-requires : goal.scoped-ended-requires
scoped-ended-requires g c =
    let of_queue = c.type_bounds.send-Q in
    let of_site = c.type_bounds.send-J in
    let of_run = c.type_bounds.send-K in
    let shared_run = c.type_bounds.sync-K in
    let of_gate = c.type_bounds.sync-G in
    let of_rt = c.type_bounds.sync-R in
    record {
      at = λ a. (
        (search sendable, search sendable, search sendable, c.requires.start, c.requires.countable, c.requires.none_gathered),
        (search sendable, search sendable, search sendable, search sendable, search sendable, search sendable),
      );
    }
