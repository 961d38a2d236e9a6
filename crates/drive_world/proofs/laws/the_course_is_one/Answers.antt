use Rattle.drive_world.proofs.OneWay.{one_way}
use Rattle.drive_world.proofs.laws.the_course_is_one.Goals as goal

pub returns : goal.returns
returns c = λ s least_delay course m n is first second taken. one_way s least_delay course.last m n first second taken
