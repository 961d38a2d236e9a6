use Rattle.std.proofs.Common.{◌≡◌, ap, is_some, arith}
use Rattle.sweep_plan.proofs.Ranges.{unparted, undotted, first_number, last_number}
use Rattle.decimals.proofs.Numbers.{same_number}
use Rattle.sweep_plan.proofs.seeds.read_range.Goals as goal

pub returns-in_default-clause-none : goal.returns-in_default-clause-none
returns-in_default-clause-none c _ r range =
    unparted c.args.word.now r range c.split_once.result c.in_default.is c.split_once.ensures.cases

pub returns-in_default-strip_prefix-clause-none : goal.returns-in_default-strip_prefix-clause-none
returns-in_default-strip_prefix-clause-none c _ r range =
    undotted c.args.word.now r range c.split_once.result c.in-Some.first c.in-Some.rest c.in-Some.is c.split_once.ensures.cases c.strip_prefix.result c.strip_prefix.ensures.cases c.in_default-strip_prefix.is

pub returns-in_default-number-clause-none : goal.returns-in_default-number-clause-none
returns-in_default-number-clause-none c _ r range =
    let first = first_number c.args.word.now r range c.split_once.result c.in-Some.first c.in-Some.rest c.in-Some.is c.split_once.ensures.cases in
    c.number.ensures.none (ap is_some c.in_default-number.is) r.first first

pub returns-in_default-number-2-clause-none : goal.returns-in_default-number-2-clause-none
returns-in_default-number-2-clause-none c _ r range =
    let last = last_number c.args.word.now r range c.split_once.result c.in-Some.first c.in-Some.rest c.in-Some.is c.split_once.ensures.cases c.strip_prefix.result c.strip_prefix.ensures.cases c.in-Some-strip_prefix.last c.in-Some-strip_prefix.is in
    c.number-2.ensures.none (ap is_some c.in_default-number-2.is) r.last last

pub returns-then-last-first-clause-none : goal.returns-then-last-first-clause-none
returns-then-last-first-clause-none c _ r range =
    let first = first_number c.args.word.now r range c.split_once.result c.in-Some.first c.in-Some.rest c.in-Some.is c.split_once.ensures.cases in
    let last = last_number c.args.word.now r range c.split_once.result c.in-Some.first c.in-Some.rest c.in-Some.is c.split_once.ensures.cases c.strip_prefix.result c.strip_prefix.ensures.cases c.in-Some-strip_prefix.last c.in-Some-strip_prefix.is in
    let ordered = range.ordered in
    let one : r.first ≡ c.in-Some-number.first = same_number c.in-Some.first.now r.first c.in-Some-number.first first c.in-Some-number.ensures.some in
    let other : r.last ≡ c.in-Some-number-2.last = same_number c.in-Some-strip_prefix.last.now r.last c.in-Some-number-2.last last c.in-Some-number-2.ensures.some in
    omega arith
