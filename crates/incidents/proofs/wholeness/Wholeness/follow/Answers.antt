use Rattle.std.proofs.Common.{◌∙◌, sym}
use Rattle.std.proofs.lemmas.Bool.{false≢true}
use Rattle.incidents.specs.Kept.{count_of}
use Rattle.incidents.proofs.Keeping.{lives-push}
use Rattle.incidents.proofs.Wholes.{since-more}
use Rattle.incidents.proofs.Beginnings.{whole-begun}
use Rattle.incidents.proofs.wholeness.Wholeness.follow.Goals as goal

pub see-requires-clause-kept : goal.see-requires-clause-kept
see-requires-clause-kept c = (c.requires.kept.0, c.requires.kept.1.views, c.requires.kept.2)

pub returns-then-is_first_start-clause-whole : goal.returns-then-is_first_start-clause-whole
returns-then-is_first_start-clause-whole c rows are lives = whole-begun c.args.self.now c.args.cluster.now rows c.args.row.now (sym c.is_first_start.ensures ∙ c.if-is_first_start.true) are

pub returns-then-is_first_start-clause-lives : goal.returns-then-is_first_start-clause-lives
returns-then-is_first_start-clause-lives c rows are =
    lives-push c.args.lives.now _ (count_of c.args.cluster.now) rows c.args.row.now are c.follow.ensures.up c.follow.ensures.restarted c.follow.ensures.members c.follow.ensures.also

pub returns-clause-whole : goal.returns-clause-whole
returns-clause-whole c rows are lives =
    let views = c.in_ok-see.ensures.whole rows are.views lives in
    record {
      views = record { odd = views.odd; missed = views.missed; members = views.members };
      since = since-more c.args.cluster.now rows c.args.row.now _ _ _ _ _ are.views.missed views.missed are.since c.in_ok-see.ensures.since c.since_after-self.ensures;
      begins = λ is. absurd (false≢true is);
    }
