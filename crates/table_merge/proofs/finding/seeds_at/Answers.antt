use Rattle.std.proofs.Common.{ap, inr, is_some, refl, rules, subst}
use Rattle.shard_merge.specs.Reasons.{BeginsAsNone}
use Rattle.table_merge.proofs.FoundMore.{none_begin, other_seeds, others_none}
use Rattle.table_merge.proofs.finding.seeds_at.Goals as goal

pub returns-then-is_none-clause-refused : goal.returns-then-is_none-clause-refused
returns-then-is_none-clause-refused c =
    let same = (rw c.in-Ok.is at c.from_utf8.ensures.cases).0 in
    (refl, inr (subst BeginsAsNone same (c.number_of.ensures.none (search rules))))

pub returns-in_default-2-clause-refused : goal.returns-in_default-2-clause-refused
returns-in_default-2-clause-refused c =
    let same = (rw c.in-Ok.is at c.from_utf8.ensures.cases).0 in
    let first = c.args.first.now in
    (refl, others_none c.args.text.now c.in-Ok.words.now first.head.mark.now first.head.columns first.head.plan same (c.in_ok-found.ensures.none (search rules)))

pub returns-in_default-seeds_of-clause-refused : goal.returns-in_default-seeds_of-clause-refused
returns-in_default-seeds_of-clause-refused c =
    let same = (rw c.in-Ok.is at c.from_utf8.ensures.cases).0 in
    let first = c.args.first.now in
    let found = c.in-Some.found in
    let begins = rw c.in-Some.is at c.in_ok-found.ensures.found in (
      refl,
      none_begin c.args.text.now c.in-Ok.words.now first.head.mark.now found.mark.now first.head.columns found.columns first.head.plan found.plan found.shard same begins
          (c.seeds_of.ensures.none (ap is_some c.in_default-seeds_of.is)),
    )

pub returns-then-not-branch-clause-refused : goal.returns-then-not-branch-clause-refused
returns-then-not-branch-clause-refused c =
    let same = (rw c.in-Ok.is at c.from_utf8.ensures.cases).0 in
    let first = c.args.first.now in
    let found = c.in-Some.found in
    let begins = rw c.in-Some.is at c.in_ok-found.ensures.found in
    let some = rw c.in-Some-seeds_of.is at c.seeds_of.ensures.some in (
      refl,
      other_seeds c.args.text.now c.in-Ok.words.now first.head.mark.now found.mark.now first.head.columns found.columns first.head.plan found.plan found.shard c.in-Some-seeds_of.seeds same begins
          some.0 (c.in_ok-begins_with.ensures.other (search rules)),
    )
