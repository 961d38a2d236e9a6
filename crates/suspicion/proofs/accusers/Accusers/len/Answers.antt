use Rattle.std.proofs.Common.{ap, sym, ◌∙◌, length, arith}
use Rattle.std.proofs.lemmas.List.{length-take-le}
use Rattle.suspicion.proofs.accusers.Accusers.len.Goals as goal

pub returns : goal.returns
returns c =
    sym (length-take-le c.self.inside.count c.self.inside.members (omega (arith, c.self.invariant.0, c.self.invariant.1))) ∙ ap length c.self.view_is
