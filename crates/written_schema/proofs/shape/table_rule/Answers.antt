use Rattle.std.proofs.Common.{ap, ◌∙◌}
use Rattle.std.specs.List.{list_all}
use Rattle.written_schema.specs.Values.{is_low}
use Rattle.written_schema.specs.declared.rows.WrittenRow.{WrittenRow}
use Rattle.written_schema.proofs.Low.{rows_are_low}
use Rattle.written_schema.proofs.shape.table_rule.Goals as goal

pub keys_rule-requires-clause-low : goal.keys_rule-requires-clause-low
keys_rule-requires-clause-low c = ap (list_all (λ (row : WrittenRow). is_low row.kind)) c.rows-rows.ensures ∙ rows_are_low c.args.section
