use Rattle.std.proofs.Common.{◌∙◌, None, ap, get_or, refl, sym}
use Rattle.shard_merge.proofs.PlacesMore.{place_more}
use Rattle.shard_merge.proofs.places.take_place.Goals as goal

pub returns-in-Some-clause-refused : goal.returns-in-Some-clause-refused
returns-in-Some-clause-refused c =
    let found = ap (λ l. get_or l c.args.number None) (sym c.as_slice.ensures.value) ∙ sym c.place_of_run.ensures ∙ c.in-Some.is in
    (refl, (c.in-Some._earlier, found))

pub returns-in-None-clause-kept : goal.returns-in-None-clause-kept
returns-in-None-clause-kept c texts text mark columns sweep of are there begins =
    let free = ap (λ l. get_or l c.args.number None) (sym c.as_slice.ensures.value) ∙ sym c.place_of_run.ensures ∙ c.in-None.is in
    place_more texts mark columns sweep of c.args.number c.args.place text _ _ c.requires free refl are there begins
