use Rattle.std.proofs.Common.{◌*◌, arith}
use Rattle.written_values.proofs.Unique.{same_ticks, none_whole}
use Rattle.written_values.proofs.tick.tick_said.Goals as goal

pub returns-in-Err-NoLength : goal.returns-in-Err-NoLength
returns-in-Err-NoLength c = λ length. (rw c.in-Err-NoLength.field-0-is at c.in-Err-NoLength.ensures) length.0 length.1

pub returns-in-Err-PartTick : goal.returns-in-Err-PartTick
returns-in-Err-PartTick c =
    let part = rw c.in-Err-PartTick.field-0-is at c.in-Err-PartTick.ensures in
    ((part.total, part.is), λ number whole low high. none_whole 1 c.args.word.now part number whole)

pub returns-in-Err-OutOfRange : goal.returns-in-Err-OutOfRange
returns-in-Err-OutOfRange c =
    let other = rw c.in-Err-OutOfRange.field-0-is at c.in-Err-OutOfRange.ensures in (
      (other.0 * (1 * 1000000), other.1),
      λ number whole low high.
          let same = same_ticks 1 c.args.word.now other.0 number (omega arith) other.1 whole in
          other.2 (omega (arith, same, low), omega (arith, same, high)),
    )
