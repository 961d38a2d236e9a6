use Rattle.std.proofs.lemmas.Bool.Decides.{Decides-eqb}
use Rattle.std.proofs.lemmas.Slice.Eq.{strip_prefix_is, strip_suffix_is}
use Rattle.sweep_plan.proofs.Parted.{parted_if, unlisted, unkeyed, undotted, unnamed_if}
use Rattle.sweep_plan.proofs.listed.item_in.Goals as goal

pub returns-in_default-clause-none : goal.returns-in_default-clause-none
returns-in_default-clause-none c _ item is =
    let parts = strip_prefix_is Decides-eqb c.args.word.now c.args.list.now c.strip_prefix.result c.strip_prefix.ensures.cases in
    unlisted c.args.list.now c.args.key.now c.args.word.now item is (rw c.in_default.is at parts)

pub returns-in_default-strip_suffix-clause-none : goal.returns-in_default-strip_suffix-clause-none
returns-in_default-strip_suffix-clause-none c _ item is =
    let parts = strip_prefix_is Decides-eqb c.args.word.now c.args.list.now c.strip_prefix.result c.strip_prefix.ensures.cases in
    let more = strip_suffix_is Decides-eqb c.in-Some.rest.now c.args.key.now c.strip_suffix.result c.strip_suffix.ensures.cases in
    unkeyed c.args.list.now c.args.key.now c.args.word.now item is c.in-Some.rest.now (rw c.in-Some.is at parts) (rw c.in_default-strip_suffix.is at more)

pub returns-in_default-strip_suffix-2-clause-none : goal.returns-in_default-strip_suffix-2-clause-none
returns-in_default-strip_suffix-2-clause-none c _ item is =
    let parts = strip_prefix_is Decides-eqb c.args.word.now c.args.list.now c.strip_prefix.result c.strip_prefix.ensures.cases in
    let more = strip_suffix_is Decides-eqb c.in-Some.rest.now c.args.key.now c.strip_suffix.result c.strip_suffix.ensures.cases in
    let last = strip_suffix_is Decides-eqb c.in-Some-strip_suffix.front.now c.as_bytes.result.now c.strip_suffix-2.result c.strip_suffix-2.ensures.cases in
    undotted c.args.list.now c.args.key.now c.args.word.now item is c.in-Some.rest.now (rw c.in-Some.is at parts) c.in-Some-strip_suffix.front.now (rw c.in-Some-strip_suffix.is at more)
    (rw c.as_bytes.ensures.value at (rw c.in_default-strip_suffix-2.is at last))

pub returns-clause-some : goal.returns-clause-some
returns-clause-some c =
    let parts = strip_prefix_is Decides-eqb c.args.word.now c.args.list.now c.strip_prefix.result c.strip_prefix.ensures.cases in
    let more = strip_suffix_is Decides-eqb c.in-Some.rest.now c.args.key.now c.strip_suffix.result c.strip_suffix.ensures.cases in
    let last = strip_suffix_is Decides-eqb c.in-Some-strip_suffix.front.now c.as_bytes.result.now c.strip_suffix-2.result c.strip_suffix-2.ensures.cases in
    parted_if c.args.list.now c.args.key.now c.args.word.now c.in-Some.rest.now c.in-Some-strip_suffix.front.now c.in-Some-strip_suffix-2.name.now c.read.result
    (rw c.in-Some.is at parts) (rw c.in-Some-strip_suffix.is at more) (rw c.as_bytes.ensures.value at (rw c.in-Some-strip_suffix-2.is at last)) c.read.ensures.some

pub returns-clause-none : goal.returns-clause-none
returns-clause-none c none item is =
    let parts = strip_prefix_is Decides-eqb c.args.word.now c.args.list.now c.strip_prefix.result c.strip_prefix.ensures.cases in
    let more = strip_suffix_is Decides-eqb c.in-Some.rest.now c.args.key.now c.strip_suffix.result c.strip_suffix.ensures.cases in
    let last = strip_suffix_is Decides-eqb c.in-Some-strip_suffix.front.now c.as_bytes.result.now c.strip_suffix-2.result c.strip_suffix-2.ensures.cases in
    unnamed_if c.args.list.now c.args.key.now c.args.word.now item is c.in-Some.rest.now (rw c.in-Some.is at parts) c.in-Some-strip_suffix.front.now (rw c.in-Some-strip_suffix.is at more)
    c.in-Some-strip_suffix-2.name.now (rw c.as_bytes.ensures.value at (rw c.in-Some-strip_suffix-2.is at last)) (c.read.ensures.none none)
