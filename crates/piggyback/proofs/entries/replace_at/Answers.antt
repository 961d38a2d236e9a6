use Rattle.std.proofs.Common.{not, arith}
use Rattle.std.proofs.lemmas.List.Sums.{prefix_len-le-length}
use Rattle.piggyback.specs.Picked.{goes_before}
use Rattle.piggyback.proofs.Sending.{order_is, order_test, taken-in_order}
use Rattle.piggyback.proofs.entries.replace_at.Goals as goal

pub place_among-place-requires : goal.place_among-place-requires
place_among-place-requires c =
    rw (c.deref.ensures.value, c.remove.ensures.items) (order_test _ (taken-in_order _ c.args.place (order_is _ c.requires.ordered) (omega (arith, c.requires.place))))

pub insert-requires : goal.insert-requires
insert-requires c = omega (arith, c.place_among-place.ensures, c.deref.ensures.len, prefix_len-le-length (λ it. not (goes_before c.args.entry it)) c.deref.result.now)
