use Rattle.std.proofs.Common.{◌*◌, ◌∙◌, sym, arith}
use Rattle.written_values.proofs.Unique.{same_ticks, none_within, none_whole}
use Rattle.written_values.proofs.ticks.length_within.Goals as goal

pub returns-else-is_within : goal.returns-else-is_within
returns-else-is_within c =
    let is = c.in-Ok.ensures.0 in
    ((c.in-Ok.ticks * (c.args.tick * 1000000), is), none_within c.args.tick c.args.word.now c.in-Ok.ticks c.args.least c.args.most c.requires.tick.0 is (sym c.is_within.ensures ∙ c.if-is_within.false))

pub returns-in-Err-NoLength : goal.returns-in-Err-NoLength
returns-in-Err-NoLength c = λ length. (rw c.in-Err-NoLength.field-0-is at c.in-Err-NoLength.ensures) length.0 length.1

pub returns-in-Err-PartTick : goal.returns-in-Err-PartTick
returns-in-Err-PartTick c =
    let part = rw c.in-Err-PartTick.field-0-is at c.in-Err-PartTick.ensures in
    ((part.total, part.is), λ number whole low high. none_whole c.args.tick c.args.word.now part number whole)

pub returns-in-Err-OutOfRange : goal.returns-in-Err-OutOfRange
returns-in-Err-OutOfRange c =
    let large = rw c.in-Err-OutOfRange.field-0-is at c.in-Err-OutOfRange.ensures in (
      (large.0 * (c.args.tick * 1000000), large.1),
      λ number whole low high.
          let same = same_ticks c.args.tick c.args.word.now large.0 number c.requires.tick.0 large.1 whole in
          omega (arith, same, large.2, high, c.requires.low),
    )
