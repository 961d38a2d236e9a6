use Rattle.std.proofs.Common.{◌≡◌, Some, sym, ap, ◌∙◌}
use Rattle.series.proofs.Answering.{after_one, after_two}
use Rattle.series.proofs.Dying.{is_same, not_same}
use Rattle.series.proofs.Gathering.{about_none, about_other, in_some}
use Rattle.series.proofs.deaths.follow_answers.Goals as goal

pub returns-in_default-clause-follows : goal.returns-in_default-clause-follows
returns-in_default-clause-follows c rows numbered probes are =
    let row = c.args.row.now in
    after_one _ _ rows row c.follow_answer.ensures.kept are (c.follow_answer.ensures.here rows numbered probes (are row.member c.requires.member)) c.follow_answer.ensures.others
    (λ other apart. about_none other row c.in_default.is)

pub returns-then-eq-clause-follows : goal.returns-then-eq-clause-follows
returns-then-eq-clause-follows c rows numbered probes are =
    let row = c.args.row.now in
    let itself : c.in-Some.about ≡ row.member = is_same c.in-Some.about row.member (sym c.eq.ensures ∙ c.if-eq.true) in
    after_one _ _ rows row c.follow_answer.ensures.kept are (c.follow_answer.ensures.here rows numbered probes (are row.member c.requires.member)) c.follow_answer.ensures.others
    (λ other apart. about_other other row.member row (c.in-Some.is ∙ ap Some itself) apart)

pub returns-clause-follows : goal.returns-clause-follows
returns-clause-follows c rows numbered probes are =
    let row = c.args.row.now in
    let about = c.in-Some.about in
    let here = are about (in_some row.about about _ c.in-Some.is c.requires.about) in
    let before = c.follow_answer.ensures.others about (not_same about row.member (sym c.eq.ensures ∙ c.if-eq.false)) in
    after_two _ _ _ about rows row (c.follow_answer-2.ensures.kept ∙ c.follow_answer.ensures.kept) are
    (c.follow_answer.ensures.here rows numbered probes (are row.member c.requires.member)) c.follow_answer.ensures.others
    (c.follow_answer-2.ensures.here rows numbered probes (before ∙ here)) c.follow_answer-2.ensures.others
    (λ other apart. about_other other about row c.in-Some.is apart)
