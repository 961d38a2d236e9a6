use Rattle.std.proofs.Common.{arith, add-one}
use Rattle.std.proofs.lemmas.List.{set_split}
use Rattle.broadcast_queue.proofs.contents.replace_at.Goals as goal

pub returns-in-Some-clause-items : goal.returns-in-Some-clause-items
returns-in-Some-clause-items c =
    let items = c.args.items.now.items in
    rw (c.in-Some.is, add-one) (set_split items c.args.place c.in-Some.item (omega (arith, c.requires)))
