use Rattle.std.proofs.Common.{Option, ap, sym, ◌∙◌}
use Rattle.scenario.specs.declared.settings.Queue.{Queue}
use Rattle.member.specs.StateOf.{state_of}
use Rattle.member.specs.Riding.{is_claim_held}
use Rattle.member.proofs.member.Member.holds_claim_of.Goals as goal

pub returns-in-Some : goal.returns-in-Some
returns-in-Some c =
    c.is_queued.ensures ∙ ap (λ (q : Option Queue). is_claim_held q c.args.subject (state_of c.args.self.now)) (sym c.in-Some.is ∙ c.queue.ensures.value)
