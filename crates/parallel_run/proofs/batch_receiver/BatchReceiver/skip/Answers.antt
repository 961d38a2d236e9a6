use Rattle.std.proofs.Common.{sym, subst}
use Rattle.parallel_run.specs.Messages.{MayEndBy}
use Rattle.parallel_run.proofs.LotsFaults.{first_may}
use Rattle.parallel_run.proofs.batch_receiver.BatchReceiver.skip.Goals as goal

pub returns-in-Err : goal.returns-in-Err
returns-in-Err g c = λ basis is.
    subst (MayEndBy basis) (sym c.first_fault.ensures) (first_may basis c.in-Err.fault c.args.so_far (c.in-Err.ensures.fault basis is) (c.requires basis is))
