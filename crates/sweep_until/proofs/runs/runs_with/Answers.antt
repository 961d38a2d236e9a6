use Rattle.std.proofs.Common.{◌≡◌, [], ◌∷◌, arith}
use Rattle.sweep_until.proofs.runs.runs_with.Goals as goal

pub summary-requires : goal.summary-requires
summary-requires c =
    let one : c.in_ok-figures.figures.runs ≡ 1 = (c.in_ok-figures.ensures [] c.new.ensures).all in
    omega (arith, one)

pub returns : goal.returns
returns c = (c.in_ok-summary.ensures (c.args.note.now ∷ []) (c.in_ok-figures.ensures [] c.new.ensures)).with_thrown
