use Rattle.std.proofs.Common.{◌≡◌, ◌+◌, ◌++◌, ◌∷◌, [], Ok, None, true, false, map, take, ap, refl, subst, sym, ◌∙◌, arith, String, Global}
use Rattle.std.specs.List.{sum_by}
use Rattle.std.proofs.lemmas.List.{map_more}
use Rattle.std.proofs.lemmas.List.Sums.{sum_by_push}
use Rattle.toml.specs.View.{view}
use Rattle.toml.specs.declared.value.Value.{Value}
use Rattle.scenario.specs.Setup.{Group}
use Rattle.scenario_reader.specs.Roster.{named_group, AreNumberedFrom}
use Rattle.scenario_reader.specs.Reading.{plain_group}
use Rattle.scenario_reader.specs.Rules.{breaks_name, breaks_names_in}
use Rattle.scenario_reader.specs.declared.roster.Block.{Block}
use Rattle.scenario_reader.proofs.Find.{total_blocks}
use Rattle.scenario_reader.proofs.Groups.{apart_of, name_refused, name_fits, broken_by, fits_by, numbered-last}
use Rattle.scenario_reader.proofs.roster.Roster.read.Goals as goal

abbrev group : Value → Group
group g = plain_group (view g)

abbrev block : (String Global × Block) → Block
block e = e.1

pub loop-i-init : goal.loop-i-init
unfolding breaks_names_in
loop-i-init c =
    let empty = c.new-groups.ensures.empty in
    record {
      groups = ap (map named_group) empty;
      fine = refl;
      numbered = subst (λ bs. AreNumberedFrom 0 bs) (sym (ap (map block) empty)) tt;
      first = sym (ap (λ es. sum_by (λ (b : Block). b.count) (map block es)) empty);
      small = omega arith;
    }

pub returns-in-Ok-false-clause-err : goal.returns-in-Ok-false-clause-err
returns-in-Ok-false-clause-err c = λ _.
    let v = c.args.version in
    let list = c.args.list.now in
    let item = c.index-list-i.result in
    let broken : breaks_name v (map group (take c.loop-i.i list)) (group item).name ≡ true =
    ap (λ gs. breaks_name v gs (group item).name) (sym c.loop-i.invariant.groups)
    ∙ ap (breaks_name v (map named_group c.loop-i.groups.entries)) (sym c.text.ensures)
    ∙ broken_by (breaks_name v (map named_group c.loop-i.groups.entries) c.text.result.now) c.in-Ok-false.field-0 c.in-Ok-false.ensures.fine c.in-Ok-false.field-0-test in
    (c.in_item.ensures, name_refused v group list c.loop-i.i item c.loop-i-test.true (sym c.index-list-i.is) broken)

pub loop-i-preserved : goal.loop-i-preserved
loop-i-preserved c =
    let v = c.args.version in
    let list = c.args.list.now in
    let item = c.index-list-i.result in
    let old = c.loop-i.groups.entries in
    let new = c.add_group.new.groups.entries in
    let b = c.read_block-block.result in
    let done : Ok c.in-Ok-true.field-0 ≡ Ok true = ap Ok c.in-Ok-true.field-0-test in
    let fits : breaks_name v (map group (take c.loop-i.i list)) (group item).name ≡ false =
    ap (λ gs. breaks_name v gs (group item).name) (sym c.loop-i.invariant.groups)
    ∙ ap (breaks_name v (map named_group old)) (sym c.text.ensures)
    ∙ fits_by (breaks_name v (map named_group old) c.text.result.now) c.in-Ok-true.field-0 c.in-Ok-true.ensures.fine c.in-Ok-true.field-0-test in
    let added : map named_group new ≡ map group (take (c.loop-i.i + 1) list) =
    c.in-Ok-true.ensures.added done
    ∙ ap (λ gs. gs ++ record { name = c.text.result.now; count = b.count; start = b.start; contact = None } ∷ []) c.loop-i.invariant.groups
    ∙ ap (λ name. map group (take c.loop-i.i list) ++ record { name = name; count = b.count; start = b.start; contact = None } ∷ []) c.text.ensures
    ∙ ap (λ n. map group (take c.loop-i.i list) ++ record { name = (group item).name; count = n; start = b.start; contact = None } ∷ []) c.read_block-block.ensures.count
    ∙ ap (λ n. map group (take c.loop-i.i list) ++ record { name = (group item).name; count = (group item).count; start = n; contact = None } ∷ []) c.read_block-block.ensures.start
    ∙ sym (map_more group list c.loop-i.i item c.loop-i-test.true ∙ ap (λ w. map group (take c.loop-i.i list) ++ group w ∷ []) (sym c.index-list-i.is)) in
    let blocks : map block new ≡ map block old ++ b ∷ [] = c.in-Ok-true.ensures.numbered done in
    let more : sum_by (λ (d : Block). d.count) (map block new) ≡ sum_by (λ (d : Block). d.count) (map block old) + b.count =
    ap (sum_by (λ (d : Block). d.count)) blocks ∙ sum_by_push (λ (d : Block). d.count) (map block old) b in
    record {
      groups = added;
      fine = name_fits v group list c.loop-i.i item c.loop-i-test.true (sym c.index-list-i.is) fits c.loop-i.invariant.fine;
      numbered = subst (λ bs. AreNumberedFrom 0 bs) (sym blocks) (numbered-last 0 (map block old) b c.loop-i.invariant.numbered (omega (arith, c.read_block-block.ensures.first, c.loop-i.invariant.first)) (omega arith));
      first = omega (arith, c.loop-i.invariant.first, c.from-first.ensures, more);
      small = omega (arith, c.loop-i.invariant.small, c.from-first.ensures);
    }

pub invariant_of-result : goal.invariant_of-result
invariant_of-result c =
    record {
      numbered = c.loop-i.invariant.numbered;
      small = omega (arith, total_blocks c.loop-i.groups.entries, c.loop-i.invariant.first, c.loop-i.invariant.small);
      apart = apart_of c.args.version (map named_group c.loop-i.groups.entries) (ap (breaks_names_in c.args.version) c.loop-i.invariant.groups ∙ c.loop-i.invariant.fine);
    }
