use Rattle.std.proofs.Common.{◌≡◌, ◌≢◌, List, true, false, map, ap, sym, ◌∙◌}
use Rattle.toml.specs.Data.{Data}
use Rattle.toml.specs.View.{view}
use Rattle.toml.specs.declared.value.Value.{Value}
use Rattle.scenario.specs.Setup.{Group}
use Rattle.scenario_reader.specs.Reading.{slow_in, slows_in, crash_in, crashes_in}
use Rattle.scenario_reader.specs.Rules.{any_two, is_same_member, overlaps, breaks_pairs}
use Rattle.scenario_reader.specs.Spans.{span_in}
use Rattle.schema.specs.declared.schema.Section.TheVariants as section
use Rattle.schema.specs.Tree.{items_at}
use Rattle.schema.specs.declared.schema.FormatKey.TheVariants as key
use Rattle.scenario_reader.specs.declared.refusal.Refusal.{Refusal}
use Rattle.scenario_reader.proofs.Trees.{map_map, map_items}
use Rattle.scenario_reader.proofs.Sweep.{two-map}
use Rattle.scenario_reader.proofs.Chain.{crash_pairs, slow_pairs, ok_so, err_so}
use Rattle.scenario_reader.proofs.pairs.check_pairs.Goals as goal

-- slow times overlap where their spans do
spans_are : (gs : List Group) (ds : List Data) (list : List Value) → map view list ≡ ds → any_two overlaps (map (λ v. span_in section.Slow gs (view v)) list) ≡ any_two overlaps (map (slow_in gs) ds)
spans_are gs ds list items = ap (any_two overlaps) (map_items (span_in section.Slow gs) ds list items) ∙ two-map overlaps (span_in section.Slow gs) ds ∙ sym (two-map overlaps (slow_in gs) ds)

pub returns-in-Err-clause-err : goal.returns-in-Err-clause-err
returns-in-Err-clause-err c = λ other.
    let gs = c.args.roster.now in
    let tree = view c.args.tree.now in
    let crashes = sym (map_map (crash_in gs) view c.items_at.result.now) ∙ ap (map (crash_in gs)) c.items_at.ensures in
    let broken = c.in-Err.ensures.err other in
    (broken.0, crash_pairs (crashes_in gs tree) (slows_in gs tree) (ap (any_two is_same_member) (sym crashes) ∙ broken.1))

pub returns-in-Ok-clause-ok : goal.returns-in-Ok-clause-ok
returns-in-Ok-clause-ok c =
    let gs = c.args.roster.now in
    let tree = view c.args.tree.now in
    let crashes = sym (map_map (crash_in gs) view c.items_at.result.now) ∙ ap (map (crash_in gs)) c.items_at.ensures in
    let slows = spans_are gs (items_at key.Slow tree) c.items_at-in-Ok.result.now c.items_at-in-Ok.ensures in
    ok_so (λ _. any_two overlaps (map (λ v. span_in section.Slow gs (view v)) c.items_at-in-Ok.result.now) ≡ false) (λ _. breaks_pairs (crashes_in gs tree) (slows_in gs tree) ≡ false) c.check_spans.result c.check_spans.ensures.ok
    (λ _ fine. slow_pairs (crashes_in gs tree) (slows_in gs tree) false (ap (any_two is_same_member) (sym crashes) ∙ c.in-Ok.ensures.ok) (sym slows ∙ fine))

pub returns-in-Ok-clause-err : goal.returns-in-Ok-clause-err
returns-in-Ok-clause-err c =
    let gs = c.args.roster.now in
    let tree = view c.args.tree.now in
    let crashes = sym (map_map (crash_in gs) view c.items_at.result.now) ∙ ap (map (crash_in gs)) c.items_at.ensures in
    let slows = spans_are gs (items_at key.Slow tree) c.items_at-in-Ok.result.now c.items_at-in-Ok.ensures in
    err_so (λ (r : Refusal). r.rule ≢ 11 → (r.rule ≡ 8) × (any_two overlaps (map (λ v. span_in section.Slow gs (view v)) c.items_at-in-Ok.result.now) ≡ true))
    (λ (r : Refusal). r.rule ≢ 11 → (r.rule ≡ 8) × (breaks_pairs (crashes_in gs tree) (slows_in gs tree) ≡ true)) c.check_spans.result c.check_spans.ensures.err
    (λ r broken other. let b = broken other in (b.0, slow_pairs (crashes_in gs tree) (slows_in gs tree) true (ap (any_two is_same_member) (sym crashes) ∙ c.in-Ok.ensures.ok) (sym slows ∙ b.1)))
