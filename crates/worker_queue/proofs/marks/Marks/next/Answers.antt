use Rattle.std.proofs.Common.{refl, arith}
use Rattle.worker_queue.proofs.Bits.{first_later, first_after, none_after}
use Rattle.worker_queue.proofs.marks.Marks.next.Goals as goal

pub returns-then-later-ne0-clause-first : goal.returns-then-later-ne0-clause-first
returns-then-later-ne0-clause-first c = first_later c.args.self.now.words c.args.from _ refl c.requires (omega arith) (omega arith)

pub returns-clause-first : goal.returns-clause-first
returns-clause-first c = first_after c.args.self.now.words c.args.from _ refl c.if-later-ne0.false _ c.next_word.ensures.first

pub returns-clause-none : goal.returns-clause-none
returns-clause-none c = none_after c.args.self.now.words c.args.from _ refl c.if-later-ne0.false _ c.next_word.ensures.none
