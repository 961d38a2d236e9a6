use Rattle.std.proofs.Common.{ap, arith}
use Rattle.std.specs.Prelude.{is_some}
use Rattle.std.proofs.lemmas.Bool.{both_ways}
use Rattle.piggyback.proofs.Sending.{place_within, place_own, absent, put_on, put_over}
use Rattle.piggyback.proofs.entries.set.Goals as goal

pub replace_at-requires-clause-place : goal.replace_at-requires-clause-place
replace_at-requires-clause-place c = omega (arith, place_within c.args.update.subject _ _ c.in-Some.ensures, c.deref.ensures.len)

pub returns-in-Some-clause-ok : goal.returns-in-Some-clause-ok
returns-in-Some-clause-ok c =
    let there = rw c.deref.ensures.value at c.in-Some.ensures in
    put_over (c.args.update, 0) _ _ c.in-Some.place c.replace_at.ensures c.requires (place_within c.args.update.subject _ _ there) (place_own c.args.update.subject _ _ _ there)

pub returns-in-None-clause-ok : goal.returns-in-None-clause-ok
returns-in-None-clause-ok c =
    put_on c.add.result (c.args.update, 0) _ _ c.add.ensures.ok c.requires (rw c.deref.ensures.value at c.in-None.ensures)

pub returns-in-None-clause-replaces : goal.returns-in-None-clause-replaces
returns-in-None-clause-replaces c found =
    absurd (both_ways _ (ap is_some (absent c.args.update.subject _ (rw c.deref.ensures.value at c.in-None.ensures))) found)
