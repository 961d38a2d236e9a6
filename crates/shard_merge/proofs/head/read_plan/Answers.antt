use Rattle.std.proofs.Common.{ap, is_some, rules}
use Rattle.figures.proofs.MetadataWords.{if_ok_then}
use Rattle.shard_merge.proofs.Heads.{asked_by, no_plans_are, none_parted, none_split, one_parted, plans_are, number_said, words_cut}
use Rattle.shard_merge.proofs.head.read_plan.Goals as goal

pub returns-then-is_empty-clause-refused : goal.returns-then-is_empty-clause-refused
returns-then-is_empty-clause-refused c _ sweep asked is = none_split c.in_ok-all.all.items c.args.words.now sweep asked is (search rules) c.in_ok-all.ensures.all

pub returns-in_default-clause-asked : goal.returns-in_default-clause-asked
returns-in_default-clause-asked c = if_ok_then c.read.result _ _ c.read.ensures.read (λ plan is. asked_by _ _ _ plan is)

pub returns-in_default-clause-only : goal.returns-in_default-clause-only
returns-in_default-clause-only c =
    plans_are c.args.words.now c.first_or-first.result.now _ _ _ _ c.read.result c.seeds_of.ensures
    (words_cut c.in_ok-all.all.items c.as_slice-listed.result.now c.first_or-first.result c.args.words c.args.words.now c.as_slice-listed.ensures.value c.first_or-first.ensures
    c.in_ok-all.ensures.all)
    (none_parted c.as_slice-listed.result.now (c.width_behind.ensures.none (ap is_some c.in_default.is)))
    c.read.ensures.read

pub returns-in_default-clause-refused : goal.returns-in_default-clause-refused
returns-in_default-clause-refused c =
    no_plans_are c.args.words.now c.first_or-first.result.now _ _ _ _ c.read.result c.seeds_of.ensures
    (words_cut c.in_ok-all.all.items c.as_slice-listed.result.now c.first_or-first.result c.args.words c.args.words.now c.as_slice-listed.ensures.value c.first_or-first.ensures
    c.in_ok-all.ensures.all)
    (none_parted c.as_slice-listed.result.now (c.width_behind.ensures.none (ap is_some c.in_default.is)))
    c.read.ensures.refused

pub returns-in_default-number-clause-refused : goal.returns-in_default-number-clause-refused
returns-in_default-number-clause-refused c _ sweep asked is =
    number_said c.as_slice-listed.result.now c.first_or-first.result.now c.in-Some.word.now c.args.words.now sweep asked is c.in-Some.ensures.some
    (words_cut c.in_ok-all.all.items c.as_slice-listed.result.now c.first_or-first.result c.args.words c.args.words.now c.as_slice-listed.ensures.value c.first_or-first.ensures
    c.in_ok-all.ensures.all sweep asked is)
    (c.number.ensures.none (ap is_some c.in_default-number.is))

pub returns-clause-asked : goal.returns-clause-asked
returns-clause-asked c = if_ok_then c.read-2.result _ _ c.read-2.ensures.read (λ plan is. asked_by _ _ _ plan is)

pub returns-clause-only : goal.returns-clause-only
returns-clause-only c =
    plans_are c.args.words.now c.first_or-first.result.now _ _ _ _ c.read-2.result c.seeds_of-2.ensures
    (words_cut c.in_ok-all.all.items c.as_slice-listed.result.now c.first_or-first.result c.args.words c.args.words.now c.as_slice-listed.ensures.value c.first_or-first.ensures
    c.in_ok-all.ensures.all)
    (one_parted c.as_slice-listed.result.now c.in-Some.word.now c.in-Some-number.width c.in-Some.ensures.some c.in-Some-number.ensures.some)
    c.read-2.ensures.read

pub returns-clause-refused : goal.returns-clause-refused
returns-clause-refused c =
    no_plans_are c.args.words.now c.first_or-first.result.now _ _ _ _ c.read-2.result c.seeds_of-2.ensures
    (words_cut c.in_ok-all.all.items c.as_slice-listed.result.now c.first_or-first.result c.args.words c.args.words.now c.as_slice-listed.ensures.value c.first_or-first.ensures
    c.in_ok-all.ensures.all)
    (one_parted c.as_slice-listed.result.now c.in-Some.word.now c.in-Some-number.width c.in-Some.ensures.some c.in-Some-number.ensures.some)
    c.read-2.ensures.refused
