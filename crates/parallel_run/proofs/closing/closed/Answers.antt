use Rattle.std.proofs.Common.{IsOk, IfOk, Vec, Global, ap, ◌∙◌, sym, subst, refl}
use Rattle.std.specs.List.{sum_by}
use Rattle.parallel_run.specs.Closing.{TakesAll}
use Rattle.parallel_run.specs.Settled.{IsRecordOf, IsSettledFrom}
use Rattle.base.specs.declared.fault.Fault.TheVariants.{Memory, ThreadLost}
use Rattle.parallel_run.proofs.ClosingEndings.{breaks_off}
use Rattle.base.proofs.Faults.{memory≢relay}
use Rattle.run_output.proofs.Early.{memory_early, relay_early}
use Rattle.parallel_run.proofs.closing.closed.Goals as goal

pub returns-in_default-clause-keeps : goal.returns-in_default-clause-keeps
returns-in_default-clause-keeps g c = λ s held_old held_new failed_old failed_new kept. breaks_off s held_old held_new failed_old failed_new c.args.so_far Memory kept memory_early (λ is. absurd (memory≢relay is))

pub returns-in-Err-close_board-clause-keeps : goal.returns-in-Err-close_board-clause-keeps
returns-in-Err-close_board-clause-keeps g c = λ s held_old held_new failed_old failed_new kept.
    breaks_off s held_old held_new failed_old failed_new c.args.so_far ThreadLost kept relay_early (λ is. subst IsOk (sym c.in-Ok-so_far.is) refl)

pub returns-in-Ok-close_board-clause-settled : goal.returns-in-Ok-close_board-clause-settled
returns-in-Ok-close_board-clause-settled g c =
    subst (λ (v : Vec _ Global). TakesAll c.args.board v.items) (sym c.of-ended.ensures) (record { all = c.in-Ok-close_board.ensures.all; taken_all = c.in-Ok-close_board.ensures.taken })

pub returns-in-Ok-close_board-clause-same : goal.returns-in-Ok-close_board-clause-same
returns-in-Ok-close_board-clause-same g c = sym c.in-Ok-so_far.is

pub returns-in-Ok-close_board-clause-balance : goal.returns-in-Ok-close_board-clause-balance
returns-in-Ok-close_board-clause-balance g c =
    let kept : IsRecordOf c.in-Ok.seats.items c.in-Ok.record = subst (λ b. IfOk b (λ x. IsRecordOf x.0.items x.1)) c.in-Ok.is c.requires.kept in
    subst (λ b. IsSettledFrom b c.in-Ok.record) (sym c.in-Ok.is) (refl, λ weight. ap (sum_by weight) kept.0 ∙ (c.in-Ok-close_board.ensures.taken weight ∙ ap (sum_by weight) (sym kept.1)))
