use Rattle.std.proofs.Common.{ap}
use Rattle.scenario.specs.Profile.{profile_of}
use Rattle.streams.specs.Draw.{Words, words_of}
use Rattle.links.specs.Trips.{kept_arrival_of}
use Rattle.member.specs.StateOf.{state_of}
use Rattle.member.proofs.Ways.{drawn_on_way}
use Rattle.member.proofs.member.Member.kept_arrival.Goals as goal

pub returns-clause-drawn : goal.returns-clause-drawn
returns-clause-drawn c =
    let s = c.args.here.now.scenario.now in
    let k = c.args.here.now.key in
    let setting = c.args.here.now.setting in
    let made =
    drawn_on_way (profile_of s) s k c.args.to (kept_arrival_of s k.to c.args.to) (words_of c.args.self.now.stream) _ _ _ _ c.departs_by-departs.ensures.value
    (c.kept_arrival-arrival.ensures.drawn s setting.links setting.receiver c.requires.to) c.got_through_by.ensures in
    record {
      first = ap (λ p. p.0) made;
      rest = ap (λ (w : Words). record (state_of c.args.self.now) { words = w }) (ap (λ p. p.1) made);
    }
