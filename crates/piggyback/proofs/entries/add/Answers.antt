use Rattle.std.proofs.Common.{not, arith}
use Rattle.std.proofs.lemmas.List.Sums.{prefix_len-le-length}
use Rattle.piggyback.specs.Picked.{goes_before}
use Rattle.piggyback.proofs.entries.add.Goals as goal

pub insert-requires : goal.insert-requires
insert-requires c = omega (arith, c.place_among-place.ensures, c.deref.ensures.len, prefix_len-le-length (λ it. not (goes_before c.args.entry it)) c.deref.result.now)
