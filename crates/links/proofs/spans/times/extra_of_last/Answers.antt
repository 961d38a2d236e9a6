use Rattle.std.proofs.Common.{◌-◌, get_or, arith}
use Rattle.std.proofs.lemmas.List.{get_or_default}
use Rattle.links.proofs.SlowOnes.{some_span, none_begun, last_covers, last_over}
use Rattle.links.proofs.spans.times.extra_of_last.Goals as goal

pub returns-then-begun-eq0 : goal.returns-then-begun-eq0
returns-then-begun-eq0 c = none_begun c.args.at c.begun_by-begun.result c.args.times.now c.if-begun-eq0.true c.begun_by-begun.ensures.later

pub returns-then-at-last : goal.returns-then-at-last
returns-then-at-last c =
    let xs = c.args.times.now in
    let k = c.begun_by-begun.result in
    let x = get_or xs (k - 1) some_span in
    last_covers xs c.requires c.args.at k x c.if-begun-eq0.false c.begun_by-begun.ensures.few (get_or_default xs (k - 1) some_span x (omega (arith, c.if-begun-eq0.false, c.begun_by-begun.ensures.few)))
    c.begun_by-begun.ensures.begun c.begun_by-begun.ensures.later c.if-at-last.true

pub returns-else-at-last : goal.returns-else-at-last
returns-else-at-last c =
    let xs = c.args.times.now in
    let k = c.begun_by-begun.result in
    let x = get_or xs (k - 1) some_span in
    last_over xs c.requires c.args.at k x c.if-begun-eq0.false c.begun_by-begun.ensures.few (get_or_default xs (k - 1) some_span x (omega (arith, c.if-begun-eq0.false, c.begun_by-begun.ensures.few)))
    c.begun_by-begun.ensures.begun c.begun_by-begun.ensures.later (omega (arith, c.if-at-last.false))
