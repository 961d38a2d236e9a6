use Rattle.std.proofs.Common.{ap, ◌∙◌, sym, subst, refl}
use Rattle.std.specs.Option.{option_map, IsSome}
use Rattle.suspicion.specs.Suspicions.{answer_of}
use Rattle.suspicion.specs.SuspicionOf.{held_of}
use Rattle.suspicion.proofs.Entries.{accused_of-found, accused_of-none, after_accusation-found, after_accusation-none}
use Rattle.suspicion.proofs.suspicions.accuse_in.Goals as goal

pub returns-in_err-suspicion-clause-answer : goal.returns-in_err-suspicion-clause-answer
returns-in_err-suspicion-clause-answer c =
    c.from_residual.ensures
    ∙ ap (option_map (answer_of c.args.now)) (sym (accused_of-none c.args.standing.now.entries c.args.subject c.args.accuser c.args.generation c.in_err-suspicion.ensures.value))

pub returns-in_err-suspicion-clause-after : goal.returns-in_err-suspicion-clause-after
returns-in_err-suspicion-clause-after c =
    ap (λ m. held_of m.entries) c.get_mut.follows.holds-at-none
    ∙ after_accusation-none c.args.standing.now.entries c.args.subject c.args.accuser c.args.generation c.in_err-suspicion.ensures.value

pub returns-clause-answer : goal.returns-clause-answer
returns-clause-answer c =
    c.add_accuser.ensures.answer
    ∙ ap (option_map (answer_of c.args.now)) (sym (accused_of-found c.args.standing.now.entries c.args.subject c.args.accuser c.args.generation c.in_ok-suspicion.suspicion.now c.in_ok-suspicion.ensures.value))

pub returns-clause-after : goal.returns-clause-after
returns-clause-after c =
    after_accusation-found c.args.standing.now.entries _ c.args.subject c.args.accuser c.args.generation c.in_ok-suspicion.suspicion.now c.add_accuser.new.suspicion
    c.in_ok-suspicion.ensures.value c.add_accuser.ensures.after
    ((c.get_mut.follows.holds c.add_accuser.new.suspicion).3 (subst IsSome c.in_ok-suspicion.ensures.value refl)).0
