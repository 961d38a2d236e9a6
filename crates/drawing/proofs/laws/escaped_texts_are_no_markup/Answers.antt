use Rattle.drawing.proofs.Markup.{no_markup}
use Rattle.drawing.proofs.laws.escaped_texts_are_no_markup.Goals as goal

pub returns : goal.returns
returns c = no_markup
