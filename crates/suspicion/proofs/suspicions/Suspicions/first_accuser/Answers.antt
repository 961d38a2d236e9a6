use Rattle.std.proofs.Common.{◌≡◌, Some, None, [], ap, ◌∙◌, sym}
use Rattle.std.proofs.lemmas.List.{nil_from_length}
use Rattle.suspicion.specs.Suspicions.{first_accuser_of}
use Rattle.suspicion.proofs.Entries.{found, first_accuser_of-found}
use Rattle.suspicion.proofs.suspicions.Suspicions.first_accuser.Goals as goal

pub returns-then-is_empty : goal.returns-then-is_empty
returns-then-is_empty c =
    let entries = c.self.inside.standing.entries in
    let none : entries ≡ [] = nil_from_length entries (c.is_empty.ensures.0 c.if-is_empty.true) in
    sym (first_accuser_of-found entries c.args.subject None (ap (λ es. found es c.args.subject) (sym none))) ∙ ap (λ held. first_accuser_of held c.args.subject) c.self.view_is

pub returns-in_err-standing : goal.returns-in_err-standing
returns-in_err-standing c =
    c.from_residual.ensures ∙ sym (first_accuser_of-found c.self.inside.standing.entries c.args.subject None c.in_err-standing.ensures.value)
    ∙ ap (λ held. first_accuser_of held c.args.subject) c.self.view_is

pub returns : goal.returns
returns c =
    sym (first_accuser_of-found c.self.inside.standing.entries c.args.subject (Some c.in_ok-standing.standing.now) c.in_ok-standing.ensures.value)
    ∙ ap (λ held. first_accuser_of held c.args.subject) c.self.view_is
