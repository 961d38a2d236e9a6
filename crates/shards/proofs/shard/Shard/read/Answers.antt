use Rattle.std.proofs.Common.{ap, is_some}
use Rattle.shards.proofs.Slashes.{unparted, number_there, of_there, unsound_too}
use Rattle.decimals.proofs.Numbers.{same_number}
use Rattle.shards.proofs.shard.Shard.read.Goals as goal

pub returns-in_default-clause-none : goal.returns-in_default-clause-none
returns-in_default-clause-none c _ p is = unparted c.args.word.now p is c.split_once.result c.in_default.is c.split_once.ensures.cases

pub returns-in_default-number-clause-none : goal.returns-in_default-number-clause-none
returns-in_default-number-clause-none c _ p is =
    c.number.ensures.none (ap is_some c.in_default-number.is) p.number
    (number_there c.args.word.now p is c.split_once.result c.in-Some.first c.in-Some.last c.in-Some.is c.split_once.ensures.cases)

pub returns-in_default-number-2-clause-none : goal.returns-in_default-number-2-clause-none
returns-in_default-number-2-clause-none c _ p is =
    c.number-2.ensures.none (ap is_some c.in_default-number-2.is) p.of
    (of_there c.args.word.now p is c.split_once.result c.in-Some.first c.in-Some.last c.in-Some.is c.split_once.ensures.cases)

pub returns-then-not-is_sound-clause-none : goal.returns-then-not-is_sound-clause-none
returns-then-not-is_sound-clause-none c _ p is =
    let first = number_there c.args.word.now p is c.split_once.result c.in-Some.first c.in-Some.last c.in-Some.is c.split_once.ensures.cases in
    let last = of_there c.args.word.now p is c.split_once.result c.in-Some.first c.in-Some.last c.in-Some.is c.split_once.ensures.cases in
    let number = same_number c.in-Some.first.now p.number c.in-Some-number.place first c.in-Some-number.ensures.some in
    let of = same_number c.in-Some.last.now p.of c.in-Some-number-2.of last c.in-Some-number-2.ensures.some in
    unsound_too p _ number of (c.is_sound.ensures.unsound c.if-not-is_sound.true) is.sound
