use Rattle.std.proofs.Common.{refl, subst, sym, append-nil}
use Rattle.std.specs.List.{flat_map}
use Rattle.std.proofs.lemmas.Grind.{flat_map-append}
use Rattle.sweep_plan.specs.Keys.{keys_of_items}
use Rattle.sweep_plan.specs.Listed.{IsNamedIn, NamesNone}
use Rattle.sweep_plan.proofs.Parted.{found_here, none_more}
use Rattle.sweep_plan.proofs.listed.key_of_lists.Goals as goal

pub returns-in-Some-clause-some : goal.returns-in-Some-clause-some
returns-in-Some-clause-some c =
    found_here (flat_map keys_of_items) (flat_map-append keys_of_items) c.args.word.now c.args.rows.now c.loop-row.row-index _ c.loop-row-test.true c.in-Some.key
    (subst (λ l. IsNamedIn l c.args.word.now c.in-Some.key) (sym (append-nil _)) c.in-Some.ensures.some)

pub loop-row-preserved : goal.loop-row-preserved
loop-row-preserved c =
    none_more (flat_map keys_of_items) (flat_map-append keys_of_items) c.args.word.now c.args.rows.now c.loop-row.row-index _ c.loop-row-test.true c.loop-row.invariant
    (subst (λ l. NamesNone l c.args.word.now) (sym (append-nil _)) (c.in_default.ensures.none refl))
