use Rattle.std.proofs.Common.{ap, is_some, refl}
use Rattle.line_sums.proofs.Cuts.{not_cut}
use Rattle.sweep.proofs.Cells.{not_first, not_older}
use Rattle.sweep.proofs.standing.is_older.Goals as goal

pub returns-in_default-clause-not : goal.returns-in_default-clause-not
returns-in_default-clause-not c = λ _ older. not_cut 44 c.args.text.now older.word older.behind (c.in_default.ensures.none refl) older.cut.written

pub returns-in-Some-2-clause-not : goal.returns-in-Some-2-clause-not
returns-in-Some-2-clause-not c =
    let says = rw c.in-Some-2.is at c.in_ok-metadata.ensures.some in
    λ is. not_first c.args.text.now c.in-Some.word.now c.in-Some._behind.now c.in-Some.ensures.some _ says (c.is_first.ensures.not is)

pub returns-in-None-clause-not : goal.returns-in-None-clause-not
returns-in-None-clause-not c =
    λ _. not_older c.args.text.now c.in-Some.word.now c.in-Some._behind.now c.in-Some.ensures.some (c.in_ok-metadata.ensures.none (ap is_some c.in-None.is))
