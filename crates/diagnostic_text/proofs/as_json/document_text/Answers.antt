use Rattle.std.proofs.Common.{◌≡◌, ◌∙◌, ◌≤◌, Some, ap, map, sym, subst}
use Rattle.serde_json.specs.Data.{Data, depth}
use Rattle.serde_json.specs.View.{view}
use Rattle.serde_json.proofs.Views.{view-Array}
use Rattle.diagnostic_text.specs.Told.{document_of, document_with}
use Rattle.diagnostic_text.proofs.Values.{document_reads}
use Rattle.diagnostic_text.proofs.as_json.document_text.Goals as goal

pub returns : goal.returns
returns c shallow =
    let file = c.args.file.now in
    let values = map view c.args.values.items in
    let built : view c.in_ok-document.document ≡ document_of file values c.args.more
    = c.in_ok-document.ensures ∙ ap (λ (d : Data). document_with file d c.args.more) (view-Array c.args.values) in
    c.in_ok-to_string.ensures.reads_back (subst (λ d. depth d ≤ 127) (sym built) (document_reads file values c.args.more shallow)) ∙ ap Some built
