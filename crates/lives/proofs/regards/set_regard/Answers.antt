use Rattle.std.proofs.Common.{ap, ◌∙◌, arith}
use Rattle.lives.specs.Regards.{regarded, regards_of}
use Rattle.lives.proofs.Columns.{regarded_at}
use Rattle.lives.proofs.regards.set_regard.Goals as goal

pub returns : goal.returns
returns c =
    let column = c.reach.new.column.items in
    regarded_at column c.index.result c.args.regard (omega (arith, c.in_ok-reach.ensures.place, c.index.ensures))
    ∙ ap (λ m. regarded m c.args.regard (regards_of column)) c.index.ensures
    ∙ ap (regarded c.args.member c.args.regard) c.in_ok-reach.ensures.same
