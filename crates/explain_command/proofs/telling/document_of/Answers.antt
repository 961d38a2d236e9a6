use Rattle.std.proofs.Common.{ap, ◌∙◌, subst}
use Rattle.std.specs.String.{string_bytes}
use Rattle.serde_json.specs.Written.{IsInOrder}
use Rattle.meaning_json.specs.Document.{document}
use Rattle.explain_command.proofs.telling.document_of.Goals as goal

pub returns : goal.returns
returns c =
    let value = c.in_ok-value.ensures ∙ ap (document c.args.file.now c.args.scenario.now c.in_ok-script.script c.in_ok-findings.findings) c.as_slice-places.ensures.value in
    record {
      found = c.in_ok-findings.findings;
      placed = c.in_ok-placed.placed.items;
      script = c.in_ok-script.script;
      sums = c.in_ok-script.ensures;
      is = record { are = c.in_ok-findings.ensures.found; each = c.in_ok-placed.ensures ∙ c.as_slice-warnings.ensures.value };
      json = string_bytes c.in_ok-document.document;
      written = subst (IsInOrder (string_bytes c.in_ok-document.document)) value c.in_ok-document.ensures.order;
      whole = c.in_ok-push_str.ensures.bytes;
    }
