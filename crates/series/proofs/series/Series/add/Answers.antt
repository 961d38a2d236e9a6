use Rattle.std.proofs.Common.{◌≡◌, ◌<◌, ◌≤◌, ◌+◌, ◌++◌, ◌∷◌, [], length, sym, ap, subst, ◌∙◌, arith, length-append}
use Rattle.std.specs.Prelude.{IfSome}
use Rattle.std.specs.Option.{option_to_list}
use Rattle.std.proofs.lemmas.List.Sums.{count_by-le-length}
use Rattle.series.specs.Spans.{span_in, span_at}
use Rattle.series.specs.Changes.{AreFlowsOf}
use Rattle.series.specs.Stories.{ComesNext}
use Rattle.series.specs.Series.{sends_in, loses_in, healths_of, health_told, health_change}
use Rattle.series.proofs.Gathering.{told_few, sent-push, lost-push, healths-push}
use Rattle.series.proofs.series.Series.add.Goals as goal

pub follow_subject-requires-clause-can : goal.follow_subject-requires-clause-can
follow_subject-requires-clause-can c =
    let rows = c.requires.gathered.0 in
    let are = c.requires.gathered.1 in
    record {
      setup = c.args._scenario.now;
      rows = rows;
      told = are.stories;
      few = omega (arith, are.counted, c.if-self-ge-COUNTER_LIMIT.false);
      member = omega (arith, are.told, c.requires.named.member);
      about = subst (λ n. IfSome c.args.row.now.about (λ m. m < n)) (sym are.told) c.requires.named.about;
    }

pub returns-in-Err-clause-err : goal.returns-in-Err-clause-err
returns-in-Err-clause-err c rows are =
    record {
      counted = are.counted;
      width = are.width;
      sent = are.sent;
      lost = are.lost;
      health = are.health;
      ready = are.ready;
      sent_room = are.sent_room;
      lost_room = are.lost_room;
      told = c.follow_subject.ensures.all ∙ are.told;
      stories = c.in-Err.ensures.err c.args._scenario.now rows are.stories;
      deaths = are.deaths;
      deaths_room = are.deaths_room;
    }

pub follow_message-requires-clause-sent_by_one : goal.follow_message-requires-clause-sent_by_one
follow_message-requires-clause-sent_by_one c place is =
    let s = c.args._scenario.now in
    let rows = c.requires.gathered.0 in
    let are = c.requires.gathered.1 in
    let kind = c.args.row.now.what in
    let span = c.span-span.result in
    let low : span < 120 = omega (arith, c.span-span.ensures.few) in
    omega (arith, are.sent kind place span is low, count_by-le-length (sends_in s kind span) rows, are.counted, c.if-self-ge-COUNTER_LIMIT.false)

pub follow_message-requires-clause-lost_by_one : goal.follow_message-requires-clause-lost_by_one
follow_message-requires-clause-lost_by_one c place is =
    let s = c.args._scenario.now in
    let rows = c.requires.gathered.0 in
    let are = c.requires.gathered.1 in
    let kind = c.args.row.now.what in
    let span = c.span-span.result in
    let low : span < 120 = omega (arith, c.span-span.ensures.few) in
    omega (arith, are.lost kind place span is low, count_by-le-length (loses_in s kind span) rows, are.counted, c.if-self-ge-COUNTER_LIMIT.false)

pub follow_health-requires-clause-can : goal.follow_health-requires-clause-can
follow_health-requires-clause-can c =
    let s = c.args._scenario.now in
    let rows = c.requires.gathered.0 in
    let are = c.requires.gathered.1 in
    let few : length (healths_of s rows) ≤ length rows = told_few (health_told s) rows in
    record {
      states = 17;
      changes = healths_of s rows;
      told = are.health;
      few = omega (arith, few, are.counted, c.if-self-ge-COUNTER_LIMIT.false);
      within = omega arith;
      room = are.ready c.args.row.now.member c.requires.named.member;
    }

pub follow-requires : goal.follow-requires
follow-requires c =
    let rows = c.requires.gathered.0 in
    let are = c.requires.gathered.1 in
    record {
      can = record {
        members = _;
        rows = rows;
        room = are.deaths_room;
        are = are.deaths;
        few = omega (arith, are.counted, c.if-self-ge-COUNTER_LIMIT.false);
        member = c.requires.named.member;
        about = c.requires.named.about;
      };
    }

pub returns-clause-ok : goal.returns-clause-ok
returns-clause-ok c rows are =
    let s = c.args._scenario.now in
    let row = c.args.row.now in
    let old = c.args.self.now in
    let span = c.span-span.result in
    let spanned : span ≡ span_at s row.at = c.span-span.ensures.value ∙ ap (λ width. span_in width row.at) are.width in
    let next : ComesNext s row span (old.rows + 2) rows = record { spanned = spanned; numbered = ap (λ n. n + 2) are.counted } in
    record {
      counted = omega (arith, are.counted, length-append rows (row ∷ []));
      width = are.width;
      sent = λ kind place k of_kind low. sent-push s kind rows row place k span old.sent c.follow_message.new.sent spanned (are.sent kind place k of_kind low) (c.follow_message.ensures.sent kind place k of_kind low);
      lost = λ kind place k of_kind low. lost-push s kind rows row place k span old.lost c.follow_message.new.lost spanned (are.lost kind place k of_kind low) (c.follow_message.ensures.lost kind place k of_kind low);
      health = subst (AreFlowsOf 17 c.follow_health.new.health) (sym (healths-push s rows row ∙ ap (λ x. healths_of s rows ++ option_to_list (health_change x row)) (sym spanned))) (c.follow_health.ensures.follows (healths_of s rows) are.health);
      ready = λ member low. c.follow_health.ensures.kept member (are.ready member low);
      sent_room = omega (arith, are.sent_room, c.follow_message.ensures.sent_kept);
      lost_room = omega (arith, are.lost_room, c.follow_message.ensures.lost_kept);
      told = c.follow_subject.ensures.all ∙ are.told;
      stories = c.in-Ok.ensures.ok s rows next are.stories;
      deaths = c.follow.ensures.follows rows next.numbered are.deaths;
      deaths_room = c.follow.ensures.kept _ are.deaths_room;
    }
