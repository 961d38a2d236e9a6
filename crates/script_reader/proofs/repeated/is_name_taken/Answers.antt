use Rattle.std.proofs.Common.{not, ap, ◌∙◌}
use Rattle.std.specs.List.{list_any}
use Rattle.std.specs.String.{string_eq}
use Rattle.script_reader.proofs.Twice.{not_free, taken_word}
use Rattle.script_reader.proofs.repeated.is_name_taken.Goals as goal
use Rattle.script_reader.proofs.repeated.is_name_taken.Goals.{in-Ok-insert, in-Err}

pub returns-clause-taken : goal.returns-clause-taken
returns-clause-taken c =
    elim c.match-insert.branch [
      | in-Ok-insert w ↦
          rw w.result-is
          (ap not w.in-Ok-insert.ensures.added
          ∙ not_free (list_any (string_eq c.in-Ok.key) c.args.names.now.keys)
          ∙ taken_word c.args.names.now.keys c.in-Ok.key c.args.name.now c.in-Ok.ensures.ok)
      | in-Err w ↦ rw w.result-is tt
    ]
