use Rattle.std.proofs.Common.{◌≡◌, None, sym, ap, ◌∙◌, rules}
use Rattle.streams.specs.Draw.{words_of}
use Rattle.links.proofs.Arrivals.{arrival_lost, arrival_comes}
use Rattle.links.proofs.table.Links.arrival.Goals as goal

pub returns-in_err-there-clause-drawn : goal.returns-in_err-there-clause-drawn
returns-in_err-there-clause-drawn c = λ s are sender receiver.
    let none : c.from_residual.result ≡ None = search rules in
    let lost : c.try_once.result ≡ None = search rules in
    ap (λ r. (r, words_of c.try_once.new.stream)) none
    ∙ arrival_lost s c.args.from c.args.to c.args.now (words_of c.args.stream.now) (words_of c.try_once.new.stream)
    (ap (λ r. (r, words_of c.try_once.new.stream)) (sym lost) ∙ c.try_once.ensures.drawn s are sender receiver)

pub returns-clause-drawn : goal.returns-clause-drawn
returns-clause-drawn c = λ s are sender receiver.
    arrival_comes s c.args.from c.args.to c.args.now c.in_ok-there.there c.comes.result (words_of c.args.stream.now) (words_of c.try_once.new.stream)
    (ap (λ r. (r, words_of c.try_once.new.stream)) (sym c.in_ok-there.was) ∙ c.try_once.ensures.drawn s are sender receiver)
    (c.comes.ensures.value s are (words_of c.try_once.new.stream))
