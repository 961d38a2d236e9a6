use Rattle.std.proofs.Common.{◌∙◌, ap, map}
use Rattle.incidents.specs.declared.lines.Line.{Line}
use Rattle.incidents.proofs.Listing.{if_ok_more, told_of_lines}
use Rattle.incidents.proofs.lines.Lines.returns.Goals as goal

pub returns : goal.returns
returns c = if_ok_more c.told_of.result (λ told is count rows are. is ∙ ap (map (λ (l : Line). l.told)) c.as_slice.ensures.value ∙ told_of_lines c.args.self.now count rows are) c.told_of.ensures
