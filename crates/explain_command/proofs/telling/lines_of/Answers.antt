use Rattle.std.proofs.Common.{ap, ◌∙◌}
use Rattle.meaning_text.specs.Text.{text_of}
use Rattle.explain_command.proofs.telling.lines_of.Goals as goal

pub returns : goal.returns
returns c = record {
  found = c.in_ok-findings.findings;
  placed = c.in_ok-placed.placed.items;
  script = c.in_ok-script.script;
  sums = c.in_ok-script.ensures;
  is = record { are = c.in_ok-findings.ensures.found; each = c.in_ok-placed.ensures ∙ c.as_slice-warnings.ensures.value };
  lines = c.in_ok-lines.ensures ∙ ap (text_of c.args.file.now c.args.scenario.now c.in_ok-script.script c.in_ok-findings.findings) c.as_slice-places.ensures.value;
}
