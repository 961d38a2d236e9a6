use Rattle.std.proofs.Common.{IsOk, sym, subst, refl}
use Rattle.parallel_run.proofs.ClosingEndings.{breaks_off}
use Rattle.parallel_run.proofs.relay_ends.relays_closed.Goals as goal

pub returns-in-Err-close_all-clause-keeps : goal.returns-in-Err-close_all-clause-keeps
returns-in-Err-close_all-clause-keeps g c = λ s held_old held_new failed_old failed_new kept.
    breaks_off s held_old held_new failed_old failed_new c.args.so_far c.in-Err-close_all.fault kept c.in-Err-close_all.ensures.fault (λ is. subst IsOk (sym c.in-Ok.is) refl)

pub returns-in-Ok-close_all-clause-same : goal.returns-in-Ok-close_all-clause-same
returns-in-Ok-close_all-clause-same g c = sym c.in-Ok.is
