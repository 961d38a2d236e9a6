use Rattle.std.proofs.Common.{sym}
use Rattle.std.proofs.lemmas.Bool.Decides.{Decides-eqb}
use Rattle.std.proofs.lemmas.Slice.Eq.{strip_prefix_is}
use Rattle.sweep_plan.proofs.Names.{after_table, no_table}
use Rattle.sweep_plan.proofs.keys.is_dotted.Goals as goal

pub returns-in-Some : goal.returns-in-Some
returns-in-Some c =
    let parts = strip_prefix_is Decides-eqb c.args.word.now c.args.table.now c.strip_prefix.result c.strip_prefix.ensures.cases in
    after_table c.args.table.now c.args.key.now c.in-Some.rest.now c.args.word.now c.is_after_dot.result (rw c.in-Some.is at parts) c.is_after_dot.ensures

pub returns-in-None : goal.returns-in-None
returns-in-None c =
    let parts = strip_prefix_is Decides-eqb c.args.word.now c.args.table.now c.strip_prefix.result c.strip_prefix.ensures.cases in
    sym (no_table c.args.table.now c.args.key.now c.args.word.now (rw c.in-None.is at parts))
