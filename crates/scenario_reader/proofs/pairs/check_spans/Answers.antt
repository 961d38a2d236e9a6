use Rattle.std.proofs.Common.{◌≡◌, List, map, is_some, subst, ap, sym, ◌∙◌}
use Rattle.std.specs.List.Sorted.{IsPermutation, IsSorted}
use Rattle.toml.specs.View.{view}
use Rattle.toml.specs.declared.value.Value.{Value}
use Rattle.scenario.specs.Setup.{Group}
use Rattle.schema.specs.declared.schema.Section.{Section}
use Rattle.scenario_reader.specs.Rules.{any_two, overlaps}
use Rattle.scenario_reader.specs.Spans.{slow_of, span_in, span_cmp}
use Rattle.scenario_reader.specs.declared.pairs.Span.{Span}
use Rattle.scenario_reader.proofs.Sweep.{meet, meet-flip, no_span, two-map, two_moved}
use Rattle.scenario_reader.proofs.pairs.check_spans.Goals as goal

-- the items of a list overlap where its spans do, in any order
same_pairs : (s : Section) (gs : List Group) (list : List Value) (spans sorted : List Span) → map slow_of spans ≡ map (λ v. span_in s gs (view v)) list → IsPermutation spans sorted
    → any_two overlaps (map (λ v. span_in s gs (view v)) list) ≡ any_two meet sorted
same_pairs s gs list spans sorted read order = ap (any_two overlaps) (sym read) ∙ two-map overlaps slow_of spans ∙ two_moved meet meet-flip no_span spans sorted order

pub first_overlap-requires : goal.first_overlap-requires
unfolding span_cmp
first_overlap-requires c = subst (λ xs. IsSorted span_cmp xs) (sym c.as_slice.ensures.value) c.in-Ok-sort.ensures.sorted

pub returns-in-Some-clause-err : goal.returns-in-Some-clause-err
returns-in-Some-clause-err c = λ _. (
  c.in_item.ensures,
  same_pairs c.args.section c.args.roster.now c.args.list.now c.in-Ok.spans.items c.sort.new.self.items c.in-Ok.ensures c.sort.ensures.permutation ∙ ap (any_two meet) (sym c.as_slice.ensures.value)
      ∙ sym c.first_overlap.ensures ∙ ap is_some c.in-Some.is,
)

pub returns-clause-ok : goal.returns-clause-ok
returns-clause-ok c =
    same_pairs c.args.section c.args.roster.now c.args.list.now c.in-Ok.spans.items c.sort.new.self.items c.in-Ok.ensures c.sort.ensures.permutation ∙ ap (any_two meet) (sym c.as_slice.ensures.value)
    ∙ sym c.first_overlap.ensures ∙ ap is_some c.in-None.is
