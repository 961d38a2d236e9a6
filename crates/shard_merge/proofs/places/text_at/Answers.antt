use Rattle.std.proofs.Common.{◌≡◌, arith}
use Rattle.std.specs.Prelude.{Some, slice_get}
use Rattle.std.proofs.lemmas.Option.{gets}
use Rattle.shard_merge.proofs.places.text_at.Goals as goal

pub returns : goal.returns
returns c =
    let there : slice_get c.args.texts.now c.args.place ≡ Some c.index-texts-place.result = grind (arith, gets, c.index-texts-place.is, c.requires) in
    (c.index-texts-place.result, there, c.as_slice.ensures.value)
