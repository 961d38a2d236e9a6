use Rattle.std.proofs.Common.{ap, ◌∙◌}
use Rattle.std.specs.Option.{option_and_then}
use Rattle.std.specs.FinMap.{get}
use Rattle.piggyback.proofs.Counts.{kept, kept_below, get-left_after}
use Rattle.piggyback.proofs.laws.counts_after_a_message.Goals as goal

pub returns-clause-below_limit : goal.returns-clause-below_limit
returns-clause-below_limit c held carried limit subject =
    rw (get-left_after carried limit held subject) (kept_below carried limit (get held subject))

pub returns-clause-counted : goal.returns-clause-counted
returns-clause-counted c held carried limit subject it there =
    get-left_after carried limit held subject ∙ ap (option_and_then (kept carried limit)) there

pub returns-clause-no_new : goal.returns-clause-no_new
returns-clause-no_new c held carried limit subject none =
    get-left_after carried limit held subject ∙ ap (option_and_then (kept carried limit)) none
