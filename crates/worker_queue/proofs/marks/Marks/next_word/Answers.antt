use Rattle.std.proofs.Common.{◌*◌, refl, arith}
use Rattle.worker_queue.proofs.Bits.{first_in_word}
use Rattle.worker_queue.proofs.marks.Marks.next_word.Goals as goal

pub returns-then-marks-ne0-clause-first : goal.returns-then-marks-ne0-clause-first
returns-then-marks-ne0-clause-first c =
    first_in_word c.args.self.now.words (64 * c.args.from) c.loop-word.word _ refl (omega arith) (omega arith) (omega arith) (omega arith) c.loop-word.invariant
