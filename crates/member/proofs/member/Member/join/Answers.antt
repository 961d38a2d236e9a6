use Rattle.std.proofs.Common.{ℕ, Some, false, subst}
use Rattle.trace.specs.declared.row.What.TheVariants as what
use Rattle.member.specs.declared.announce.Announce.TheVariants.{Quietly}
use Rattle.member.specs.declared.member.Phase.TheVariants.{Running}
use Rattle.member.specs.Effects.{Effect, with_row}
use Rattle.member.specs.Apply.{all_applied}
use Rattle.member.specs.Step.{joined}
use Rattle.member.specs.StateOf.{effect_of}
use Rattle.member.specs.CounterOverflow.{IsOverflowed}
use Rattle.member.proofs.CounterOverflow.{kept_first_period, refused}
use Rattle.member.proofs.member.Member.join.Goals as goal

pub returns-in_err-apply_all : goal.returns-in_err-apply_all
unfolding joined
returns-in_err-apply_all c =
    let s = c.args.here.now.scenario.now in
    let k = c.args.here.now.key in
    let running = effect_of (record c.args.self.now { phase = Running }) c.args.effects.now in
    refused _ _ c.from_residual-in_err-apply_all.ensures.1 (λ h. kept_first_period s k _
    (subst (λ (n : ℕ). IsOverflowed (all_applied s Quietly k c.args.entries.now (with_row k what.Joined (Some k.from) n false running)).state) c.count_others-others.ensures
    (subst (λ (p : Effect). IsOverflowed (all_applied s Quietly k c.args.entries.now p).state) c.in_ok-write_row.ensures.ok (c.in_err-apply_all.ensures.overflow h))))
