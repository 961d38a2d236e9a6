use Rattle.std.proofs.Common.{◌≡◌, true, false, nat_eq}
use Rattle.std.specs.List.{list_any}
use Rattle.written_entries.proofs.Twice.{broken_by, fits_by, found_twice, once_more, seen_more}
use Rattle.written_entries.proofs.who.stands_twice.Goals as goal

pub returns-in-Ok-false : goal.returns-in-Ok-false
returns-in-Ok-false c =
    let old = c.loop-member.seen.keys in
    let again : list_any (nat_eq c.index.result) old ≡ true = broken_by (list_any (nat_eq c.index.result) old) c.in-Ok-false.field-0 c.in-Ok-false.ensures.added c.in-Ok-false.field-0-test in
    found_twice c.args.members.now c.loop-member.member-index c.member-item.result c.index.result old c.loop-member-test.true c.member-item.is c.index.ensures c.loop-member.invariant.seen again

pub loop-member-preserved : goal.loop-member-preserved
loop-member-preserved c =
    let old = c.loop-member.seen.keys in
    let fresh : list_any (nat_eq c.index.result) old ≡ false = fits_by (list_any (nat_eq c.index.result) old) c.in-Ok-true.field-0 c.in-Ok-true.ensures.added c.in-Ok-true.field-0-test in
    record {
      seen = seen_more c.args.members.now c.loop-member.member-index c.member-item.result c.index.result old c.loop-member-test.true c.member-item.is c.index.ensures c.loop-member.invariant.seen
          c.insert.new.self.keys fresh c.in-Ok-true.ensures.keys;
      once = once_more c.args.members.now c.loop-member.member-index c.member-item.result c.index.result old c.loop-member-test.true c.member-item.is c.index.ensures c.loop-member.invariant.seen
          fresh c.loop-member.invariant.once;
    }
