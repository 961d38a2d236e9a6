use Rattle.turns.proofs.turns.course_of.Goals as goal

pub returns-clause-course : goal.returns-clause-course
returns-clause-course c = record {
  sound = c.end.ensures.sound;
  end = c.end.ensures.value;
  divides = c.requires.divides;
  below = c.requires.below;
}
