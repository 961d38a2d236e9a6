use Rattle.std.proofs.Common.{Some, ap, sym, ◌∙◌}
use Rattle.toml.specs.Errors.{IsMemory}
use Rattle.toml.specs.View.{table_view}
use Rattle.toml.proofs.Views.{view-Table}
use Rattle.scenario_reader.proofs.Chain.{has_tree, no_tree}
use Rattle.scenario_reader.proofs.reader.document.Goals as goal

pub returns-in-Ok-clause-read : goal.returns-in-Ok-clause-read
returns-in-Ok-clause-read c =
    has_tree c.args.bytes.now (table_view c.in-Ok.table) c.in-Ok.ensures.ok.0 c.in-Ok.ensures.ok.1 ∙ ap Some (sym (view-Table c.in-Ok.table))

pub returns-in-Err-clause-refused : goal.returns-in-Err-clause-refused
returns-in-Err-clause-refused c = λ other.
    let not_memory : ¬ IsMemory c.in-Err.error = λ memory. other (c.unread.ensures.memory memory) in
    (no_tree c.args.bytes.now (c.in-Err.ensures.refused not_memory), c.unread.ensures.other not_memory)
