use Rattle.item_reasons.proofs.Parts.{parted}
use Rattle.item_reasons.proofs.items.parts_of.Goals as goal

pub returns : goal.returns
returns c = parted c.args.word.now c.rsplit_once.result c.rsplit_once.ensures.cases
