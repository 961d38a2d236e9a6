use Rattle.std.proofs.Common.{rules, ◌≡◌, subst, refl, codes}
use Rattle.clap.specs.Words.{first_of, found_of, rows_of, subcommand_rows_of}
use Rattle.command_line.specs.Words.{AsksForTick}
use Rattle.command_line.proofs.RunRows.{same_rows}
use Rattle.command_line.proofs.paging.page_asked.Goals as goal

pub returns-in_default-tick_asked-clause-none : goal.returns-in_default-tick_asked-clause-none
returns-in_default-tick_asked-clause-none c _ page h =
    let rows = rows_of (found_of c.in-Some.words.now) in
    let same : h.rows ≡ rows = same_rows (subcommand_rows_of c.args.matches.now) (codes "page") rows h.rows (search rules) h.met_page in
    c.in_default-tick_asked.ensures.none refl page.tick (subst (λ r. AsksForTick (first_of (codes "tick") r) page.tick) same h.tick)
