use Rattle.figures.proofs.Fields.{written_more, on_same}
use Rattle.figures.proofs.lines.write_field.Goals as goal
use Rattle.figures.proofs.lines.write_field.Goals.{in-Ok, in-Err}

pub returns : goal.returns
returns c =
    elim c.match-write_field.branch [
      | in-Ok w ↦ on_same _ _ _ w.result-is
          (λ fields has. written_more c.args.writer.now c.write_field.new.self fields c.args.field.now has w.in-Ok.ensures.same w.in-Ok.ensures.count w.in-Ok.ensures.text)
      | in-Err w ↦ on_same _ _ _ w.result-is tt
    ]
