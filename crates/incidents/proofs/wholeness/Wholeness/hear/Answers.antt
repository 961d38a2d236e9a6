use Rattle.std.proofs.Common.{◌<◌, ◌∙◌, sym, arith}
use Rattle.incidents.specs.Kept.{count_of}
use Rattle.incidents.specs.Flags.{is_up_in}
use Rattle.incidents.specs.Views.{claims}
use Rattle.incidents.specs.Whole.{misses}
use Rattle.incidents.proofs.Sums.{few_pairs}
use Rattle.incidents.proofs.Holding.{unheard-silent, unheard-none}
use Rattle.incidents.proofs.Wholes.{views-same, views-hold, counted_pair, some_such, on_ok_two}
use Rattle.incidents.proofs.wholeness.Wholeness.hear.Goals as goal

pub hold-requires-clause-subject : goal.hold-requires-clause-subject
hold-requires-clause-subject c =
    let low = some_such (λ j. j < count_of c.args.cluster.now) c.args.row.now.about _ c.in-Some.is c.requires.about in
    omega (arith, low, c.requires.kept.1.members)

pub hold-requires-clause-counted : goal.hold-requires-clause-counted
hold-requires-clause-counted c =
    counted_pair c.args.self.now c.args.cluster.now c.args.lives.now c.requires.kept.0 c.args.row.now.member _ c.requires.kept.1 c.requires.kept.2 c.requires.member
    (some_such (λ j. j < count_of c.args.cluster.now) c.args.row.now.about _ c.in-Some.is c.requires.about)

pub hold-requires-clause-few : goal.hold-requires-clause-few
hold-requires-clause-few c =
    let few = few_pairs (count_of c.args.cluster.now) (misses c.args.cluster.now.founders.items c.requires.kept.0) c.requires.few in
    omega (arith, few, c.requires.kept.1.missed)

pub returns-then-not-is_heard-clause-whole : goal.returns-then-not-is_heard-clause-whole
returns-then-not-is_heard-clause-whole c rows views are =
    views-same c.args.self.now c.args.cluster.now c.args.lives.now rows c.args.row.now c.requires.no_turn
    (unheard-silent claims c.args.row.now (is_up_in c.args.lives.now) (sym c.is_heard.ensures ∙ c.if-not-is_heard.true)) views are

pub returns-in-Some-clause-whole : goal.returns-in-Some-clause-whole
returns-in-Some-clause-whole c =
    on_ok_two c.hold.result (λ odd missed rows views are.
    views-hold c.args.self.now _ c.args.cluster.now c.args.lives.now rows c.args.row.now _ _ c.requires.no_turn (sym c.is_heard.ensures ∙ c.if-not-is_heard.false) c.in-Some.is c.has_kind.ensures
    c.requires.member (some_such (λ j. j < count_of c.args.cluster.now) c.args.row.now.about _ c.in-Some.is c.requires.about) views are odd missed c.hold.ensures.members)
    c.hold.ensures.odd c.hold.ensures.missed

pub returns-in-None-clause-whole : goal.returns-in-None-clause-whole
returns-in-None-clause-whole c rows views are =
    views-same c.args.self.now c.args.cluster.now c.args.lives.now rows c.args.row.now c.requires.no_turn
    (unheard-none claims c.args.row.now (is_up_in c.args.lives.now) c.in-None.is) views are
