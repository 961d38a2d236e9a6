use Rattle.std.proofs.Common.{◌≡◌, ℕ, List, Result, Ok, Err, MatchResult, sym, subst}
use Rattle.lengths.specs.declared.fault.LengthFault.{LengthFault}
use Rattle.lengths.specs.declared.fault.LengthFault.TheVariants.{OutOfRange}
use Rattle.lengths.specs.Lengths.{AreTicks, IsTick, SaysTick}
use Rattle.lengths.proofs.ticks.tick_of.Goals as goal

says : (word : List ℕ) (tick : ℕ) (r : Result ℕ LengthFault) → AreTicks 1 word tick → MatchResult r (λ it. (it ≡ tick) × IsTick tick) (λ e. (e ≡ OutOfRange) × ¬ (IsTick tick)) → SaysTick word r
says word tick (Ok it) is (same, within) = subst (λ (n : ℕ). AreTicks 1 word n × IsTick n) (sym same) (is, within)
says word tick (Err fault) is (same, out) = subst (λ (e : LengthFault). SaysTick word (Err e)) (sym same) (tick, is, out)

pub returns-in-Ok : goal.returns-in-Ok
returns-in-Ok c = says c.args.word.now c.in-Ok.tick c.tick_within.result c.in-Ok.ensures.0 c.tick_within.ensures
