use Rattle.std.proofs.Common.{◌≡◌, ◌∙◌}
use Rattle.streams.specs.Draw.{words_of}
use Rattle.links.specs.Table.{link_at, is_cut_at}
use Rattle.links.proofs.Tries.{try_cut, try_not_cut, try_lost, try_comes}
use Rattle.links.proofs.table.Links.try_once.Goals as goal

pub returns-then-is_cut-clause-drawn : goal.returns-then-is_cut-clause-drawn
returns-then-is_cut-clause-drawn c = λ s are sender receiver.
    let cut : c.is_cut.result ≡ is_cut_at c.args.self.now c.args.from c.args.to c.args.now = cc in
    try_cut c.args.self.now s are c.args.from c.args.to c.args.now sender receiver c.is_cut.result cut c.if-is_cut.true (words_of c.args.stream.now)

pub returns-then-lost-clause-drawn : goal.returns-then-lost-clause-drawn
returns-then-lost-clause-drawn c = λ s are sender receiver.
    let cut : c.is_cut.result ≡ is_cut_at c.args.self.now c.args.from c.args.to c.args.now = cc in
    let is : c.link_between-link.result ≡ link_at c.args.self.now c.args.from c.args.to = cc in
    try_lost c.args.self.now s are c.args.from c.args.to c.args.now sender receiver c.link_between-link.result is (words_of c.args.stream.now) (words_of c.lost.new.self) c.lost.result c.lost.ensures c.if-lost.true
    ∙ try_not_cut c.args.self.now s are c.args.from c.args.to c.args.now sender receiver c.is_cut.result cut c.if-is_cut.false (words_of c.args.stream.now)

pub returns-clause-drawn : goal.returns-clause-drawn
returns-clause-drawn c = λ s are sender receiver.
    let cut : c.is_cut.result ≡ is_cut_at c.args.self.now c.args.from c.args.to c.args.now = cc in
    let is : c.link_between-link.result ≡ link_at c.args.self.now c.args.from c.args.to = cc in
    try_comes c.args.self.now s are c.args.from c.args.to c.args.now sender receiver c.link_between-link.result is (words_of c.args.stream.now) (words_of c.lost.new.self) c.lost.result c.lost.ensures c.if-lost.false
    c.below-jitter.result c.from.result c.ticks-2.result (words_of c.below-jitter.new.self) c.below-jitter.ensures.drawn c.from.ensures c.ticks-2.ensures
    ∙ try_not_cut c.args.self.now s are c.args.from c.args.to c.args.now sender receiver c.is_cut.result cut c.if-is_cut.false (words_of c.args.stream.now)
