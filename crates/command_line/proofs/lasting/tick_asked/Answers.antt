use Rattle.std.proofs.Common.{rules, ◌≡◌, refl, subst, codes, Option, Some, None}
use Rattle.clap.specs.Words.{Text, first_of, found_of, rows_of}
use Rattle.ticks.specs.Ticks.{IsTickWord}
use Rattle.ticks.specs.declared.tick.Tick.{Tick}
use Rattle.command_line.specs.Words.{AsksForTick}
use Rattle.command_line.proofs.lasting.tick_asked.Goals as goal

-- a word that says no length asks for none
no_tick : (word : Text) → ((tick : Tick) → ¬ (IsTickWord word tick)) → (tick : Option Tick) → ¬ (AsksForTick (Some word) tick)
no_tick word none None asks = asks
no_tick word none (Some tick) asks = none tick asks

pub returns-in-None-clause-none : goal.returns-in-None-clause-none
returns-in-None-clause-none c _ tick asks =
    let given : first_of (codes "tick") (rows_of (found_of c.args.matches.now)) ≡ Some c.in-Some.word.now = search rules in
    no_tick c.in-Some.word.now (c.in-None.ensures.none refl) tick (subst (λ word. AsksForTick word tick) given asks)
