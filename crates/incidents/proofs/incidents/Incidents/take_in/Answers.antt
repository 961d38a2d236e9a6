use Rattle.std.proofs.Common.{◌+◌, ◌∙◌, ◌∷◌, [], ap, sym, arith, length-append}
use Rattle.trace.specs.declared.row.What.TheVariants as what
use Rattle.incidents.specs.Lives.{is_up}
use Rattle.incidents.specs.Views.{says}
use Rattle.incidents.specs.Flags.{is_up_in}
use Rattle.incidents.specs.Pairs.{has}
use Rattle.incidents.specs.Kept.{count_of}
use Rattle.incidents.proofs.Turning.{turn_is_no_view, no_suspicion, no_death}
use Rattle.incidents.proofs.Keeping.{doubt-push, none_of_down}
use Rattle.incidents.proofs.Counting.{alarms-push, deaths-push, well-push, died-push, few_alarms, few_deaths, few_well}
use Rattle.incidents.proofs.incidents.Incidents.take_in.Goals as goal

pub follow-requires-clause-suspects_nobody : goal.follow-requires-clause-suspects_nobody
follow-requires-clause-suspects_nobody c off b =
    let rows = c.requires.kept.0 in
    let are = c.requires.kept.1 in
    let i = c.args.row.now.member in
    none_of_down (is_up rows i) (is_up_in c.args.self.now.lives i) (has c.args.self.now.doubts.suspected i b) (says what.Suspect rows i b) (are.doubts.suspected i b) (are.lives.up i) off

pub follow-requires-clause-holds_nobody_dead : goal.follow-requires-clause-holds_nobody_dead
follow-requires-clause-holds_nobody_dead c off b =
    let rows = c.requires.kept.0 in
    let are = c.requires.kept.1 in
    let i = c.args.row.now.member in
    none_of_down (is_up rows i) (is_up_in c.args.self.now.lives i) (has c.args.self.now.doubts.dead i b) (says what.Confirm rows i b) (are.doubts.dead i b) (are.lives.up i) off

pub follow-requires-3-clause-kept : goal.follow-requires-3-clause-kept
follow-requires-3-clause-kept c = (count_of c.args.self.now.cluster, c.requires.kept.0, c.requires.kept.1.lines)

pub follow-requires-3-clause-member : goal.follow-requires-3-clause-member
follow-requires-3-clause-member c = omega (arith, c.requires.member, c.requires.kept.1.lines.room)

pub count-requires-clause-alarms : goal.count-requires-clause-alarms
count-requires-clause-alarms c =
    let are = c.requires.kept.1.counts in
    omega (arith, are.alarms, are.all, few_alarms (count_of c.args.self.now.cluster) c.requires.kept.0, c.requires.rows)

pub count-requires-clause-deaths : goal.count-requires-clause-deaths
count-requires-clause-deaths c =
    let are = c.requires.kept.1.counts in
    omega (arith, are.deaths, are.all, few_deaths (count_of c.args.self.now.cluster) c.requires.kept.0, c.requires.rows)

pub count-requires-clause-well : goal.count-requires-clause-well
count-requires-clause-well c =
    let are = c.requires.kept.1.counts in
    omega (arith, are.well, are.all, few_well (count_of c.args.self.now.cluster) c.args.self.now.cluster.troubles.items c.args.self.now.cluster.reach c.requires.kept.0, c.requires.rows)

pub returns-clause-ok : goal.returns-clause-ok
returns-clause-ok c rows are =
    let row = c.args.row.now in
    let old = c.args.self.now in
    let count = count_of old.cluster in
    let told = c.told-told.ensures rows are in
    record {
      few = are.few;
      lives = c.in_ok-follow-2.ensures.lives rows are.lives;
      whole = c.in_ok-follow-2.ensures.whole rows are.whole are.lives;
      lines = c.in_ok-follow-3.ensures count rows are.few c.requires.member are.lines;
      doubts = record {
        suspected = doubt-push what.Suspect (is_up_in old.lives) (has old.doubts.suspected) _ rows row (λ turn. no_suspicion row (turn_is_no_view row turn)) are.lives.up are.doubts.suspected c.in_ok-follow.ensures.suspected;
        dead = doubt-push what.Confirm (is_up_in old.lives) (has old.doubts.dead) _ rows row (λ turn. no_death row (turn_is_no_view row turn)) are.lives.up are.doubts.dead c.in_ok-follow.ensures.dead;
        members = c.in_ok-follow.ensures.members ∙ are.doubts.members;
        also = c.in_ok-follow.ensures.also ∙ are.doubts.also;
      };
      counts = record {
        all = c.count.ensures.rows ∙ ap (λ n. n + 1) are.counts.all ∙ sym (length-append rows (row ∷ []));
        few = omega (arith, c.count.ensures.rows, c.requires.rows);
        alarms = alarms-push count _ _ _ rows row are.counts.alarms told.alarm c.count.ensures.alarms;
        deaths = deaths-push count _ _ _ rows row are.counts.deaths told.death c.count.ensures.deaths;
        well = well-push count _ _ _ _ _ rows row are.counts.well told.well c.count.ensures.well;
        died = λ m. died-push count m _ _ _ rows row (are.counts.died m) told.death (c.count.ensures.died m);
        members = c.count.ensures.members ∙ are.counts.members;
      };
    }
