use Rattle.std.proofs.Common.{rules, sym, subst, codes, IfOk}
use Rattle.clap.specs.Words.{found_of, rows_of}
use Rattle.command_line.specs.Words.{IsSweepIn}
use Rattle.command_line.proofs.RunRows.{met_rows}
use Rattle.command_line.proofs.sweeping.sweep_asked.Goals as goal

pub returns-in-Some-clause-sweep : goal.returns-in-Some-clause-sweep
returns-in-Some-clause-sweep c =
    let met = met_rows c.args.matches.now (codes "sweep") (rows_of (found_of c.in-Some.sweep.now)) (search rules) (search rules) in
    subst (λ met. IfOk c.words_asked.result (IsSweepIn met)) (sym met) c.words_asked.ensures.sweep

pub returns-in-Some-clause-usage : goal.returns-in-Some-clause-usage
returns-in-Some-clause-usage c e wish h =
    let met = met_rows c.args.matches.now (codes "sweep") (rows_of (found_of c.in-Some.sweep.now)) (search rules) (search rules) in
    c.words_asked.ensures.usage e wish (subst (λ met. IsSweepIn met wish) met h)
