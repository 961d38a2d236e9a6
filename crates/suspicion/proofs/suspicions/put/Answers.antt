use Rattle.std.proofs.Common.{ap, ◌∙◌}
use Rattle.std.specs.Option.{is_some, option_map}
use Rattle.suspicion.specs.SuspicionOf.{suspicion_of}
use Rattle.suspicion.proofs.Entries.{get-held_of, held_of-insert}
use Rattle.suspicion.proofs.suspicions.put.Goals as goal

pub returns-in-Ok-clause-ok : goal.returns-in-Ok-clause-ok
returns-in-Ok-clause-ok c = held_of-insert _ _ _ _ c.in-Ok.ensures.updates.0

pub returns-in-Err-clause-err_only_if_new : goal.returns-in-Err-clause-err_only_if_new
returns-in-Err-clause-err_only_if_new c =
    ap is_some (get-held_of c.args.standing.now.entries c.args.subject ∙ ap (option_map suspicion_of) c.in-Err.ensures.absent)
