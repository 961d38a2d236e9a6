use Rattle.std.proofs.Common.{◌++◌, ◌∙◌, List, ℕ, Ok, Option, map, ap, sym, arith, String, Global}
use Rattle.std.proofs.lemmas.List.{take_all}
use Rattle.toml.specs.View.{view}
use Rattle.toml.specs.declared.value.Value.{Value}
use Rattle.scenario_reader.specs.Rules.{any_two}
use Rattle.script_reader.specs.Twice.{is_among, name_or_none, words}
use Rattle.script_reader.proofs.Twice.{fine_still, names_in, names_more, same, twice_here, twice_names}
use Rattle.script_reader.proofs.repeated.is_name_twice.Goals as goal

pub loop-item-init : goal.loop-item-init
loop-item-init c = record {
  names = ap words c.new-names.ensures.empty;
  fine = ap (λ (keys : List (String Global)). any_two same (words keys)) c.new-names.ensures.empty;
}

pub returns-then-taken : goal.returns-then-taken
returns-then-taken c =
    let names = words c.loop-item.names.keys in
    sym
    (twice_here c.args.items.now c.loop-item.item-index c.item-item.result names c.loop-item-test.true (sym c.item-item.is) c.loop-item.invariant.names c.loop-item.invariant.fine
    (ap (is_among names) (sym c.text_at.ensures) ∙ sym c.in_ok-taken.ensures.taken ∙ c.if-taken.true))

pub loop-item-preserved : goal.loop-item-preserved
loop-item-preserved c =
    let names = words c.loop-item.names.keys in
    let new = words c.is_taken.new.names.keys in
    let added = c.in_ok-taken.ensures.added (ap Ok c.if-taken.false) ∙ ap (λ (here : Option (List ℕ)). names ++ name_or_none here) c.text_at.ensures in
    record {
      names = added ∙ names_more c.args.items.now c.loop-item.item-index c.item-item.result names c.loop-item-test.true (sym c.item-item.is) c.loop-item.invariant.names;
      fine = fine_still c.args.items.now c.loop-item.item-index c.item-item.result names c.loop-item-test.true (sym c.item-item.is) c.loop-item.invariant.names new added c.loop-item.invariant.fine
          (ap (is_among names) (sym c.text_at.ensures) ∙ sym c.in_ok-taken.ensures.taken ∙ c.if-taken.false);
    }

pub returns : goal.returns
returns c =
    let items = c.args.items.now in
    sym
    (twice_names (map view items)
    ∙ ap (λ (vs : List Value). any_two same (names_in (map view vs))) (sym (take_all c.loop-item.item-index items (omega (arith, c.loop-item-test.false))))
    ∙ ap (any_two same) (sym c.loop-item.invariant.names)
    ∙ c.loop-item.invariant.fine)
