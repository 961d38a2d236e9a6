use Rattle.std.proofs.Common.{rules, subst, inr}
use Rattle.std.proofs.lemmas.Result.{IfOk-weaker}
use Rattle.command_line.specs.Words.{NamesNoPreset}
use Rattle.command_line.proofs.Asking.{answers, asks_for_none}
use Rattle.command_line.proofs.words.parse.Goals as goal

pub returns-in-Ok-clause-answer : goal.returns-in-Ok-clause-answer
returns-in-Ok-clause-answer g c =
    IfOk-weaker c.asked_by.result _ _ (λ asked h. answers _ _ asked c.in-Ok.ensures.kinds c.in-Ok.ensures.run h) c.asked_by.ensures.answer

pub returns-in-Ok-clause-usage : goal.returns-in-Ok-clause-usage
returns-in-Ok-clause-usage g c e = inr (asks_for_none _ _ c.in-Ok.ensures.kinds c.in-Ok.ensures.run (c.asked_by.ensures.usage e))

pub returns-in-Ok-clause-preset : goal.returns-in-Ok-clause-preset
returns-in-Ok-clause-preset g c e =
    let names = c.asked_by.ensures.preset e in
    (subst NamesNoPreset c.in-Ok.ensures.run names.0, asks_for_none _ _ c.in-Ok.ensures.kinds c.in-Ok.ensures.run names.1)

pub returns-in-OutOfMemory-clause-usage : goal.returns-in-OutOfMemory-clause-usage
returns-in-OutOfMemory-clause-usage g c e = absurd cc

pub returns-in-DisplayHelp-clause-answer : goal.returns-in-DisplayHelp-clause-answer
returns-in-DisplayHelp-clause-answer g c = search rules fits 100

pub returns-in-DisplayHelp-clause-usage : goal.returns-in-DisplayHelp-clause-usage
returns-in-DisplayHelp-clause-usage g c e = cc

pub returns : goal.returns
returns g c = search rules
