use Rattle.std.proofs.lemmas.Result.{IfOk-weaker}
use Rattle.toml.specs.View.{view}
use Rattle.plain_entries.specs.Script.{lists_of}
use Rattle.expanded_text.proofs.Judged.{few_read}
use Rattle.script_summary.specs.Summary.{StandsFor}
use Rattle.script_summary.proofs.Stands.{read_by}
use Rattle.script_summary.proofs.text.plain_entries.Goals as goal

pub drawn-requires-clause-few : goal.drawn-requires-clause-few
drawn-requires-clause-few c =
    few_read c.args.tick (view c.args.tree.now) c.in-Ok.roster c.args.groups.now c.in-Ok-read_script.script c.in-Ok-read_script.ensures.read

pub drawn-requires-clause-ranges : goal.drawn-requires-clause-ranges
drawn-requires-clause-ranges c = c.in-Ok-read_script.ensures.read.range

pub returns-in-Ok-read_script : goal.returns-in-Ok-read_script
returns-in-Ok-read_script c =
    let d = view c.args.tree.now in
    let groups = c.args.groups.now in
    let read = read_by d c.args.tick c.in-Ok.roster groups c.in-Ok-read_script.script c.in-Ok.ensures.made c.in-Ok-read_script.ensures.read in
    IfOk-weaker c.drawn.result _ (λ plain. StandsFor d c.args.tick groups (lists_of plain))
    (λ plain is. record { script = c.in-Ok-read_script.script; read = read; plain = is }) c.drawn.ensures
