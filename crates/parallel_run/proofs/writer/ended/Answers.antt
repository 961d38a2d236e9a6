use Rattle.run_output.proofs.Failing.{answered}
use Rattle.std.proofs.Common.{◌≡◌, Err}
use Rattle.parallel_run.proofs.writer.ended.Goals as goal

pub returns-in_err-so_far-clause-err : goal.returns-in_err-so_far-clause-err
returns-in_err-so_far-clause-err c = answered (λ f. c.args.so_far ≡ Err f) c.from_residual.result _ c.from_residual.ensures.1 c.in_err-so_far.was
