use Rattle.std.proofs.Common.{◌+◌, List, Vec, String, Global, ℕ, map, drop, string_bytes, subst}
use Rattle.plain_text.specs.Document.{expression_of}
use Rattle.plain_text.specs.declared.line.PlainLine.{PlainLine}
use Rattle.toml.specs.View.{view}
use Rattle.plain_document.specs.Document.{AddsItems}
use Rattle.plain_document.specs.Order.{words}
use Rattle.plain_document.specs.Pairs.{AddsItem}
use Rattle.plain_document.proofs.Walks.{lent, next_item, no_keys, not_lent, past_items}
use Rattle.plain_document.proofs.document.add_items.Goals as goal
use Rattle.plain_document.proofs.document.add_items.Goals.{in-Some+in_ok-add_item, in_default}

abbrev keys_of : Vec (String Global) Global → List (List ℕ)
keys_of keys = words keys.items

pub loop-place-preserved : goal.loop-place-preserved
loop-place-preserved c = λ after more.
    let items = c.args.items.now in
    let lists = c.args.key_lists.now in
    let place = c.loop-place.place in
    let name = c.args.name.now in
    let before = map expression_of c.loop-place.lines.items in
    elim c.match-get.branch [
      | in-Some+in_ok-add_item w ↦
          let own = c.index-key_lists-place.result in
          let it = lent items place c.get.result w.in-Some.item w.in-Some.is c.get.ensures.lookup in
          let adds : AddsItem c.args.tick name (view w.in-Some.item.now) (keys_of own) before (map expression_of w.add_item.new.lines.items) =
          subst (λ (keys : List (String Global)). AddsItem c.args.tick name (view w.in-Some.item.now) (map string_bytes keys) before (map expression_of w.add_item.new.lines.items))
          w.as_slice.ensures.value w.in_ok-add_item.ensures in
          let rest : AddsItems c.args.tick name (map view (drop (place + 1) items)) (map keys_of (drop (place + 1) lists)) (map expression_of w.add_item.new.lines.items) after =
          subst (λ (v : Vec PlainLine Global). AddsItems c.args.tick name (map view (drop (place + 1) items)) (map keys_of (drop (place + 1) lists)) (map expression_of v.items) after)
          w.lines-is more in
          c.loop-place.invariant after
          (next_item view keys_of c.args.tick name items lists place w.in-Some.item.now own before (map expression_of w.add_item.new.lines.items) after it.0 c.loop-place-test.true
          it.1 c.index-key_lists-place.is adds rest)
      | in_default w ↦
          let past = not_lent items place c.get.result w.in_default.is c.get.ensures.lookup in
          let rest : AddsItems c.args.tick name (map view (drop (place + 1) items)) (map keys_of (drop (place + 1) lists)) before after =
          subst (λ (v : Vec PlainLine Global). AddsItems c.args.tick name (map view (drop (place + 1) items)) (map keys_of (drop (place + 1) lists)) (map expression_of v.items) after)
          w.lines-is more in
          c.loop-place.invariant after (past_items view keys_of c.args.tick name items lists place before after past rest)
    ]

pub returns : goal.returns
returns c =
    let lines = map expression_of c.loop-place.lines.items in
    c.loop-place.invariant lines (no_keys view keys_of c.args.tick c.args.name.now c.args.items.now c.args.key_lists.now c.loop-place.place lines c.loop-place-test.false)
