use Rattle.std.proofs.Common.{◌≡◌, ◌+◌, ℕ, List, [], ◌∷◌, ◌++◌, cond, get_or, map, take, string_bytes, sym, ap, ◌∙◌, arith}
use Rattle.std.specs.List.{count_by}
use Rattle.std.proofs.lemmas.List.{map_more, map-append}
use Rattle.toml.specs.View.{view}
use Rattle.sweep_plan.specs.Items.{name_of_item}
use Rattle.sweep_plan.specs.Meant.{marks}
use Rattle.sweep_plan.specs.Numbered.{is_stem}
use Rattle.sweep_plan.proofs.Marks.{count_push, mark_more}
use Rattle.sweep_plan.proofs.meant.marks.Goals as goal

pub loop-item-preserved : goal.loop-item-preserved
loop-item-preserved c =
    let xs = c.args.items.now in
    let i = c.loop-item.item-index in
    let cut = c.cut_number-cut.result in
    let own : List ℕ = string_bytes c.in_ok-own.own in
    let names : List (List ℕ) = map name_of_item (map view (take i xs)) in
    let own_is : name_of_item (view (get_or xs i c.item-item.result)) ≡ own = ap (λ v. name_of_item (view v)) (sym c.item-item.is) ∙ sym c.in_ok-own.ensures in
    let more : map name_of_item (map view (take (i + 1) xs)) ≡ names ++ own ∷ [] =
    ap (map name_of_item) (map_more view xs i c.item-item.result c.loop-item-test.true) ∙ map-append name_of_item (map view (take i xs)) (view (get_or xs i c.item-item.result) ∷ [])
    ∙ ap (λ l. names ++ l ∷ []) own_is in
    let found : c.with_found-found.result ≡ count_by (is_stem cut) (names ++ own ∷ []) =
    c.with_found-found.ensures ∙ (λ k. c.loop-item.invariant.found k + cond (is_stem cut (c.as_str.ensures.value k)) 1 0) ∙ sym (count_push (is_stem cut) names own) in
    record {
      found = found ∙ ap (count_by (is_stem cut)) (sym more);
      marks = mark_more cut c.args.name.now own c.as_str-in-loop-item.result.now names c.with_found-found.result c.is_meant.result c.loop-item.marks.items c.push.new.self.items c.cut_number-cut.ensures (omega (arith, c.push.new.self.small, c.push.new.self.ok))
          c.as_str-in-loop-item.ensures.value found c.is_meant.ensures c.loop-item.invariant.marks c.in_ok-push.ensures.items
          ∙ ap (λ l. marks c.args.name.now [] l) (sym more);
    }
