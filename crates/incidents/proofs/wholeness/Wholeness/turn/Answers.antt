use Rattle.std.proofs.Common.{◌∙◌, sym, arith}
use Rattle.incidents.specs.Lives.{is_up}
use Rattle.incidents.specs.Views.{holds_first}
use Rattle.incidents.specs.Flags.{is_up_in}
use Rattle.incidents.specs.Pairs.{has}
use Rattle.incidents.specs.Kept.{count_of}
use Rattle.incidents.specs.Missed.{misses_in, departs}
use Rattle.incidents.specs.Whole.{misses}
use Rattle.incidents.proofs.Sums.{few_pairs}
use Rattle.incidents.proofs.Keeping.{lives-push, none_of_down}
use Rattle.incidents.proofs.Wholes.{views-turn, around_within, few_around}
use Rattle.incidents.proofs.wholeness.Wholeness.turn.Goals as goal

pub drop_first-requires : goal.drop_first-requires
drop_first-requires c off b =
    let rows = c.requires.kept.0 in
    let i = c.args.row.now.member in
    let founders = c.args.cluster.now.founders.items in
    none_of_down (is_up rows i) (is_up_in c.args.lives.now i) (has c.args.self.now.odd i b) (departs (holds_first founders rows i b) rows i b)
    (c.requires.kept.1.odd i b) (c.requires.kept.2.up i) (sym c.is_up.ensures ∙ off)

pub overflow_sub-self : goal.overflow_sub-self
overflow_sub-self c =
    let within = around_within c.args.self.now c.args.cluster.now c.args.lives.now c.requires.kept.0 c.args.row.now.member c.missed_around-before.result c.requires.member c.requires.kept.1 c.requires.kept.2 c.missed_around-before.ensures in
    omega (arith, within)

pub overflow_add-self : goal.overflow_add-self
overflow_add-self c =
    let all = few_pairs (count_of c.args.cluster.now) (misses c.args.cluster.now.founders.items c.requires.kept.0) c.requires.few in
    let some = few_around (count_of c.args.cluster.now) (misses_in c.drop_first.new.self c.args.cluster.now c.follow.new.self) c.args.row.now.member c.requires.few in
    omega (arith, all, some, c.requires.kept.1.missed, c.missed_around-after.ensures)

pub returns-clause-lives : goal.returns-clause-lives
returns-clause-lives c rows are =
    lives-push c.args.lives.now _ (count_of c.args.cluster.now) rows c.args.row.now are c.follow.ensures.up c.follow.ensures.restarted c.follow.ensures.members c.follow.ensures.also

pub returns-clause-whole : goal.returns-clause-whole
returns-clause-whole c rows views are =
    let within = around_within c.args.self.now c.args.cluster.now c.args.lives.now rows c.args.row.now.member c.missed_around-before.result c.requires.member views are c.missed_around-before.ensures in
    let next = lives-push c.args.lives.now c.follow.new.self (count_of c.args.cluster.now) rows c.args.row.now are c.follow.ensures.up c.follow.ensures.restarted c.follow.ensures.members c.follow.ensures.also in
    views-turn c.args.self.now _ c.args.cluster.now c.args.lives.now c.follow.new.self rows c.args.row.now c.missed_around-before.result c.missed_around-after.result
    c.requires.turn c.requires.member views are next c.follow.ensures.up c.follow.ensures.restarted c.drop_first.ensures.dropped c.drop_first.ensures.room
    c.missed_around-before.ensures c.missed_around-after.ensures (omega (arith, within))
