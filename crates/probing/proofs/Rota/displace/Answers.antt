use Rattle.std.proofs.Common.{◌≡◌, ◌+◌, ◌<◌, [], ◌∷◌, ◌++◌, length, vec_len, ap, ◌∙◌, arith}
use Rattle.std.specs.List.{swap}
use Rattle.probing.specs.ProbeOrder.{ProbeOrder, times_in}
use Rattle.probing.proofs.SoundLemmas.{members_bounded}
use Rattle.probing.proofs.DisplacedLemmas.{sound_swapped}
use Rattle.probing.proofs.Rota.displace.Goals as goal

pub place_among-place-requires : goal.place_among-place-requires
place_among-place-requires c = omega (arith, members_bounded _ c.self.invariant.sound.listed, c.len-last.ensures)

pub swap-requires-clause-i_in_bounds : goal.swap-requires-clause-i_in_bounds
swap-requires-clause-i_in_bounds c = omega (arith, c.place_among-place.ensures.within, c.len-last.ensures, c.push_reserved.ensures.len, c.reserve-room.ensures.len)

pub swap-requires-clause-j_in_bounds : goal.swap-requires-clause-j_in_bounds
swap-requires-clause-j_in_bounds c = omega (arith, c.len-last.ensures, c.push_reserved.ensures.len, c.reserve-room.ensures.len)

pub invariant_of-self-2 : goal.invariant_of-self-2
invariant_of-self-2 c = record {
  sound =
      sound_swapped c.self.inside.members.items _ c.args.member c.place_among-place.result c.self.inside.mark c.self.invariant.sound (omega (arith, c.place_among-place.ensures.within, c.len-last.ensures))
      (rw (c.swap.ensures.items, c.push_reserved.ensures.items, c.reserve-room.ensures.items, c.len-last.ensures)
      (ap (swap (c.self.inside.members.items ++ c.args.member ∷ []) c.place_among-place.result) (let same : vec_len c.self.inside.members ≡ length c.self.inside.members.items = omega arith in same)))
      (c.see_numbers.ensures 0 0 (omega arith))
      (ap (λ (order : ProbeOrder). times_in order.members c.args.member) c.self.view_is ∙ c.requires);
  ahead = rw c.deref.ensures.value at c.sixteen_from-self-inside.ensures;
}

pub returns-clause-sound : goal.returns-clause-sound
returns-clause-sound c = (invariant_of-self-2 c).sound
