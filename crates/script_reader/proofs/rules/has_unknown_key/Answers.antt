use Rattle.std.proofs.Common.{◌≡◌, not, ap, sym, ◌∙◌, rules, tests, string_bytes}
use Rattle.std.specs.List.{list_any}
use Rattle.std.specs.Map.{keys_of}
use Rattle.std.proofs.lemmas.Iterator.Search.{any_from_yields_List}
use Rattle.std.proofs.lemmas.Iterator.Consumers.{YieldsList-from_rest}
use Rattle.toml.specs.View.{view}
use Rattle.toml.proofs.Views.{view-Table}
use Rattle.schema.specs.Tree.{keys_of as keys_of_data}
use Rattle.schema.proofs.Trees.{any_key}
use Rattle.script_reader.specs.Keys.{is_key}
use Rattle.script_reader.proofs.rules.has_unknown_key.Goals as goal

pub returns-in-Table : goal.returns-in-Table
returns-in-Table c =
    let list = c.args.list in
    let entries = c.in-Table.table.entries in
    let found : c.any.result ≡ list_any (λ k. not (is_key list (string_bytes k))) (keys_of entries) =
    any_from_yields_List (λ k. not (is_key list (string_bytes k))) _ _ c.any.result c.any.ensures.ran (YieldsList-from_rest (keys_of entries) c.keys.ensures.rest) (λ x b q k. search (rules, tests)) in
    found
    ∙ sym (ap (λ v. list_any (λ key. not (is_key list key)) (keys_of_data (view v))) c.in-Table.is
    ∙ ap (λ d. list_any (λ key. not (is_key list key)) (keys_of_data d)) (view-Table c.in-Table.table)
    ∙ any_key (λ key. not (is_key list key)) entries)
