use Rattle.std.proofs.Common.{Some, None, ap, ◌∙◌, sym}
use Rattle.suspicion.specs.Suspicions.{is_due}
use Rattle.suspicion.proofs.Entries.{is_due-found}
use Rattle.suspicion.proofs.suspicions.Suspicions.due.Goals as goal

pub returns-in_default : goal.returns-in_default
returns-in_default c =
    sym (is_due-found c.self.inside.standing.entries c.args.subject c.args.generation None c.in_default.ensures.value)
    ∙ ap (λ held. is_due held c.args.subject c.args.generation) c.self.view_is

pub returns : goal.returns
returns c =
    sym (is_due-found c.self.inside.standing.entries c.args.subject c.args.generation (Some c.in-Some.standing.now) c.in-Some.ensures.value)
    ∙ ap (λ held. is_due held c.args.subject c.args.generation) c.self.view_is
