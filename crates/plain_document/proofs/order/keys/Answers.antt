use Rattle.std.proofs.Common.{String, Global, string_bytes, rules}
use Rattle.std.proofs.lemmas.List.Sorted.{IsNonDecreasingBy-from_sort_by_key}
use Rattle.toml.specs.View.{view}
use Rattle.schema.specs.Tree.{keys_of}
use Rattle.plain_document.specs.Order.{number_of}
use Rattle.plain_document.proofs.Ordered.{sorted_keys}
use Rattle.plain_document.proofs.order.keys.Goals as goal

pub returns : goal.returns
returns c =
    sorted_keys c.args.places.now c.args.place (keys_of (view c.args.value.now)) c.in_ok-names.names.items c.sort_by_key.new.self.items c.in_ok-names.ensures.all c.in_ok-names.ensures.once
    c.sort_by_key.ensures.permutation
    (IsNonDecreasingBy-from_sort_by_key (λ (name : String Global). number_of c.args.places.now c.args.place (string_bytes name)) c.sort_by_key.new.self.items
    c.in_ok-sort_by_key.ensures.sorted (λ a r f k. search rules))
