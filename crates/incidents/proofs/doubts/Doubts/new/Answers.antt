use Rattle.incidents.proofs.doubts.Doubts.new.Goals as goal

pub returns : goal.returns
returns c = record {
  suspected = c.in_ok-suspected.ensures.none;
  dead = c.in_ok-dead.ensures.none;
  members = c.in_ok-suspected.ensures.room;
  also = c.in_ok-dead.ensures.room;
}
