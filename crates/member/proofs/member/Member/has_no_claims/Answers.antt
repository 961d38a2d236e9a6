use Rattle.std.proofs.Common.{Option, ap, sym, ◌∙◌}
use Rattle.scenario.specs.declared.settings.Queue.{Queue}
use Rattle.member.specs.StateOf.{state_of}
use Rattle.member.specs.Riding.{has_no_claims}
use Rattle.member.proofs.Samples.{none_left, told_out}
use Rattle.member.proofs.member.Member.has_no_claims.Goals as goal

pub returns-in-Some : goal.returns-in-Some
returns-in-Some c =
    none_left c.has_empty_queue.result _ c.has_empty_queue.ensures
    ∙ ap (λ (q : Option Queue). has_no_claims q (state_of c.args.self.now)) (sym c.in-Some.is ∙ c.queue.ensures.value)

pub returns-in-None : goal.returns-in-None
returns-in-None c =
    told_out c.is_empty.result _ c.is_empty.ensures
    ∙ ap (λ (q : Option Queue). has_no_claims q (state_of c.args.self.now)) (sym c.in-None.is ∙ c.queue.ensures.value)
