use Rattle.std.proofs.Common.{sym, ◌∙◌}
use Rattle.series.proofs.Answering.{begun_without, with_it}
use Rattle.series.proofs.answers.Answers.with.Goals as goal

pub returns-then-begins : goal.returns-then-begins
returns-then-begins c rows numbered probed is =
    c.none.ensures ∙ sym (begun_without c.args.member rows c.args.row.now (sym c.begins.ensures ∙ c.if-begins.true))

pub returns : goal.returns
returns c rows numbered probed is =
    with_it c.args.member c.args.number c.args.probe rows c.args.row.now c.args.self.now _ _ _ _ _ _ _ _ numbered c.ranges.number.fits probed is (sym c.begins.ensures ∙ c.if-begins.false)
    c.acks-acked.ensures c.asks-asks.ensures c.helps-helps.ensures c.last_reply-ack.ensures c.one_more-asked.ensures c.one_lost-requests_lost.ensures c.one_more-answered.ensures c.one_lost-answers_lost.ensures
