use Rattle.std.proofs.Common.{◌∙◌, ap, is_some, sym}
use Rattle.figures.proofs.Handing.{handed}
use Rattle.shard_merge.proofs.Heads.{same_shard, name_refused}
use Rattle.shard_merge.proofs.Names.{mark_read, marked_words}
use Rattle.shard_merge.proofs.head.read_head.Goals as goal

pub returns-in_default-clause-refused : goal.returns-in_default-clause-refused
returns-in_default-clause-refused c = c.parts_of_name.ensures.none (ap is_some c.in_default.is)

pub returns-in_default-read-clause-refused : goal.returns-in_default-read-clause-refused
returns-in_default-read-clause-refused c mark columns sweep p b =
    c.read.ensures.none (ap is_some c.in_default-read.is) p (record { written = sym (c.in-Some.ensures.some mark columns sweep p b).0; sound = b.sound })

pub returns-in_default-split_once-clause-refused : goal.returns-in_default-split_once-clause-refused
returns-in_default-split_once-clause-refused c mark columns sweep p b =
    rw c.in_default-split_once.is at (marked_words c.in-Some.rest.now mark _ c.split_once.result (c.in-Some.ensures.some mark columns sweep p b).1 b.marked c.split_once.ensures.cases)

pub returns-in_err-plan-clause-refused : goal.returns-in_err-plan-clause-refused
returns-in_err-plan-clause-refused c =
    handed c.from_residual.result _ _ c.from_residual.ensures.1 (λ e same. name_refused c.args.text.now e (λ is mark columns sweep p b.
    let parts = c.in-Some.ensures.some mark columns sweep p b in
    let cut = rw c.in-Some-split_once.is at (marked_words c.in-Some.rest.now mark _ c.split_once.result parts.1 b.marked c.split_once.ensures.cases) in
    c.in_err-plan.ensures.refused (sym same ∙ is) sweep b.asked cut.1))

pub returns-clause-marked : goal.returns-clause-marked
returns-clause-marked c =
    mark_read c.in-Some.rest.now c.split_once.result c.in-Some-split_once.mark c.in-Some-split_once.words c.in-Some-split_once.is c.split_once.ensures.cases c.in-Some.ensures.quoteless

pub returns-clause-only : goal.returns-clause-only
returns-clause-only c mark columns sweep p b =
    let parts = c.in-Some.ensures.some mark columns sweep p b in
    let cut = rw c.in-Some-split_once.is at (marked_words c.in-Some.rest.now mark _ c.split_once.result parts.1 b.marked c.split_once.ensures.cases) in
    (cut.0, c.in_ok-plan.ensures.only sweep b.asked cut.1, same_shard c.in-Some.word.now _ p c.in-Some-read.ensures.some parts.0 b.sound)
