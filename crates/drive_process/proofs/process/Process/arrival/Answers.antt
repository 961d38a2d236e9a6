use Rattle.scenario.specs.Profile.{profile_of}
use Rattle.streams.specs.Draw.{words_of}
use Rattle.member.proofs.Ways.{drawn_on_way}
use Rattle.drive_process.specs.Acts.{way_of, arrival_by}
use Rattle.drive_process.proofs.process.Process.arrival.Goals as goal

pub returns-clause-drawn : goal.returns-clause-drawn
returns-clause-drawn c =
    let s = c.args.here.now.scenario.now in
    let k = c.args.here.now.key in
    drawn_on_way (profile_of s) s k c.args.to (arrival_by (way_of c.args.what c.args.stream) s k.to c.args.to) (words_of c.args.self.now.stream) _ _ _ _
    c.departs_by-departs.ensures.value c.draw_arrival-drawn.ensures.drawn c.got_through_by.ensures
