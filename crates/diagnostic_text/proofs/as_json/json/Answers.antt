use Rattle.std.proofs.Common.{◌≡◌, ◌-◌, Some, length, map, rules, string_bytes, subst}
use Rattle.serde_json.specs.Read.{read}
use Rattle.serde_json.specs.View.{view}
use Rattle.diagnostic_text.specs.Told.{AreRulesOf, document_of}
use Rattle.diagnostic_text.proofs.as_json.json.Goals as goal

pub returns : goal.returns
returns c =
    let found = c.args.diagnostics.now.list.items in
    let values = map view c.in_ok-values.values.items in
    let line = string_bytes c.in_ok-text.text in
    let more : c.saturating_sub-more.result ≡ length found - 50 = search rules in
    record {
      found = found;
      shown = c.in_ok-shown.shown.items;
      are = c.in_ok-shown.ensures;
      values = values;
      rules = subst (λ ms. AreRulesOf ms values) c.as_slice.ensures.value c.in_ok-values.ensures.rules;
      file = c.args.file.now;
      line = line;
      reads = subst (λ n. read line ≡ Some (document_of c.args.file.now values n)) more (c.in_ok-text.ensures c.in_ok-values.ensures.shallow);
      whole = c.in_ok-push_str.ensures.bytes;
    }
