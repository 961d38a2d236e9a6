use Rattle.links.proofs.Cuts.{not_changed}
use Rattle.links.proofs.laws.other_messages_are_not_changed.Goals as goal

pub returns : goal.returns
returns c = not_changed
