use Rattle.std.proofs.Common.{◌<◌, List, subst, arith}
use Rattle.toml.specs.View.{view}
use Rattle.scenario.specs.Setup.{Group}
use Rattle.script_reader.specs.Script.{Breaks}
use Rattle.written_schema.specs.Lowest.{no_rule}
use Rattle.written_schema.specs.References.{IsReferenceRule}
use Rattle.expanded_text.proofs.Lowest.{least_within, none_within}
use Rattle.expanded_text.proofs.lists.read_lists.Goals as goal

pub returns-then-low-clause-kept : goal.returns-then-low-clause-kept
returns-then-low-clause-kept c =
    let d = view c.args.document.now in
    let groups = c.args.groups.now in
    let found : Breaks c.args.tick d c.args.roster.now groups no_rule =
    record { written = c.in-Ok.ensures.read.written; reads = c.in-Ok.ensures.read.reads; lowest = c.in-Ok.ensures.read.fine } in
    record {
      references = c.reference_rule.result;
      lists = no_rule;
      of_references = subst (λ (roster : List Group). IsReferenceRule c.args.tick roster d c.reference_rule.result) c.requires.groups c.reference_rule.ensures;
      of_lists = subst (λ (roster : List Group). Breaks c.args.tick d roster groups no_rule) c.requires.groups found;
      lowest = none_within c.args.low c.reference_rule.result c.min-low.result c.min-low.ensures (omega (arith, c.if-low.true));
    }

pub returns-else-low-clause-refused : goal.returns-else-low-clause-refused
returns-else-low-clause-refused c =
    let d = view c.args.document.now in
    let groups = c.args.groups.now in
    let found : Breaks c.args.tick d c.args.roster.now groups no_rule =
    record { written = c.in-Ok.ensures.read.written; reads = c.in-Ok.ensures.read.reads; lowest = c.in-Ok.ensures.read.fine } in
    let low : c.args.low < 256 = omega (arith, c.ranges.low.fits) in (
      λ is. omega (arith, c.if-low.false, is),
      record {
        references = c.reference_rule.result;
        lists = no_rule;
        of_references = subst (λ (roster : List Group). IsReferenceRule c.args.tick roster d c.reference_rule.result) c.requires.groups c.reference_rule.ensures;
        of_lists = subst (λ (roster : List Group). Breaks c.args.tick d roster groups no_rule) c.requires.groups found;
        lowest = least_within c.args.low c.reference_rule.result c.min-low.result c.min-low.ensures low;
      },
    )
