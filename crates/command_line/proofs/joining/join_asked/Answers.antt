use Rattle.std.proofs.Common.{rules, ◌≡◌, subst, refl, codes}
use Rattle.clap.specs.Words.{first_of, found_of, rows_of, subcommand_rows_of}
use Rattle.command_line.specs.Words.{AsksForTick}
use Rattle.command_line.proofs.RunRows.{same_rows}
use Rattle.command_line.proofs.joining.join_asked.Goals as goal

pub returns-in_default-tick_asked-clause-none : goal.returns-in_default-tick_asked-clause-none
returns-in_default-tick_asked-clause-none c _ join h =
    let rows = rows_of (found_of c.in-Some.join.now) in
    let same : h.rows ≡ rows = same_rows (subcommand_rows_of c.args.matches.now) (codes "join") rows h.rows (search rules) h.met_join in
    c.in_default-tick_asked.ensures.none refl join.tick (subst (λ r. AsksForTick (first_of (codes "tick") r) join.tick) same h.tick)
