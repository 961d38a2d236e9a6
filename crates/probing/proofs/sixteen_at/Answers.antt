use Rattle.probing.proofs.AheadLemmas.{still_ahead}
use Rattle.probing.proofs.sixteen_at.Goals as goal

pub returns-else-place-eq0 : goal.returns-else-place-eq0
returns-else-place-eq0 c = λ before next so_far. still_ahead c.args.members.now c.args.place before c.args.ahead c.if-place-eq0.false next so_far
