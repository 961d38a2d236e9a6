use Rattle.std.proofs.Common.{map, refl}
use Rattle.std.proofs.lemmas.List.{map-append}
use Rattle.sweep_plan.specs.Keys.{of_entry}
use Rattle.sweep_plan.proofs.Parted.{found_here, none_more}
use Rattle.sweep_plan.proofs.listed.key_of_entries.Goals as goal

pub returns-in-Some-clause-some : goal.returns-in-Some-clause-some
returns-in-Some-clause-some c =
    found_here (map of_entry) (map-append of_entry) c.args.word.now c.args.entries.now c.loop-entry.entry-index _ c.loop-entry-test.true c.in-Some.key c.in-Some.ensures.some

pub loop-entry-preserved : goal.loop-entry-preserved
loop-entry-preserved c =
    none_more (map of_entry) (map-append of_entry) c.args.word.now c.args.entries.now c.loop-entry.entry-index _ c.loop-entry-test.true c.loop-entry.invariant (c.in_default.ensures.none refl)
