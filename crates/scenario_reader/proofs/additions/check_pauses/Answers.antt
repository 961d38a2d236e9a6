use Rattle.std.proofs.Common.{◌≡◌, ◌≢◌, List, map, true, false, sym, ap, ◌∙◌}
use Rattle.toml.specs.Data.{Data}
use Rattle.toml.specs.View.{view}
use Rattle.toml.specs.declared.value.Value.{Value}
use Rattle.schema.specs.declared.schema.Version.{Version}
use Rattle.schema.specs.declared.schema.Section.TheVariants as section
use Rattle.scenario.specs.Setup.{Group}
use Rattle.scenario_reader.specs.Reading.{pause_items, pause_in, pauses_in}
use Rattle.scenario_reader.specs.Rules.{any_two, overlaps, pauses_overlap, breaks_pauses}
use Rattle.scenario_reader.specs.Spans.{span_in}
use Rattle.scenario_reader.specs.declared.refusal.Refusal.{Refusal}
use Rattle.scenario_reader.proofs.Chain.{ok_so, err_so}
use Rattle.scenario_reader.proofs.Sweep.{two-map}
use Rattle.scenario_reader.proofs.Trees.{map_items}
use Rattle.scenario_reader.proofs.additions.check_pauses.Goals as goal

-- pauses overlap where their spans do
spans_are : (gs : List Group) (v : Version) (tree : Data) (list : List Value) → map view list ≡ pause_items v tree
    → any_two overlaps (map (λ d. span_in section.Pause gs (view d)) list) ≡ breaks_pauses (pauses_in v gs tree)
unfolding breaks_pauses
spans_are gs v tree list items =
    ap (any_two overlaps) (map_items (span_in section.Pause gs) (pause_items v tree) list items)
    ∙ two-map overlaps (span_in section.Pause gs) (pause_items v tree) ∙ sym (two-map pauses_overlap (pause_in gs) (pause_items v tree))

pub returns-clause-ok : goal.returns-clause-ok
returns-clause-ok c =
    let same = spans_are c.args.roster.now c.args.version (view c.args.tree.now) c.pause_items.result.now c.pause_items.ensures in
    ok_so (λ _. any_two overlaps (map (λ v. span_in section.Pause c.args.roster.now (view v)) c.pause_items.result.now) ≡ false)
    (λ _. breaks_pauses (pauses_in c.args.version c.args.roster.now (view c.args.tree.now)) ≡ false) c.check_spans.result c.check_spans.ensures.ok
    (λ _ fine. sym same ∙ fine)

pub returns-clause-err : goal.returns-clause-err
returns-clause-err c =
    let same = spans_are c.args.roster.now c.args.version (view c.args.tree.now) c.pause_items.result.now c.pause_items.ensures in
    err_so (λ (r : Refusal). r.rule ≢ 11 → (r.rule ≡ 8) × (any_two overlaps (map (λ v. span_in section.Pause c.args.roster.now (view v)) c.pause_items.result.now) ≡ true))
    (λ (r : Refusal). r.rule ≢ 11 → (r.rule ≡ 8) × (breaks_pauses (pauses_in c.args.version c.args.roster.now (view c.args.tree.now)) ≡ true)) c.check_spans.result c.check_spans.ensures.err
    (λ r broken other. let b = broken other in (b.0, sym same ∙ b.1))
