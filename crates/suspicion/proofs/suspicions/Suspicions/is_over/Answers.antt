use Rattle.std.proofs.Common.{Some, None, ap, ◌∙◌, sym}
use Rattle.suspicion.specs.Suspicions.{is_over_of}
use Rattle.suspicion.proofs.Entries.{is_over_of-found}
use Rattle.suspicion.proofs.suspicions.Suspicions.is_over.Goals as goal

pub returns-in_default : goal.returns-in_default
returns-in_default c =
    sym (is_over_of-found c.self.inside.standing.entries c.args.subject c.args.now None c.in_default.ensures.value)
    ∙ ap (λ held. is_over_of held c.args.subject c.args.now) c.self.view_is

pub returns : goal.returns
returns c =
    c.has_passed.ensures
    ∙ sym (is_over_of-found c.self.inside.standing.entries c.args.subject c.args.now (Some c.in-Some.standing.now) c.in-Some.ensures.value)
    ∙ ap (λ held. is_over_of held c.args.subject c.args.now) c.self.view_is
