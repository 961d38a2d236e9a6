use Rattle.drawing.proofs.Pushes.{and_then, and_last}
use Rattle.sweep_page.specs.Others.{unnamed_words}
use Rattle.sweep_page.proofs.others.push_unnamed_words.Goals as goal

pub returns : goal.returns
unfolding unnamed_words
returns c = and_last _ _ _ _ c.push_markup-2.result (and_then _ _ _ c.in_ok-push_markup.ensures c.in_ok-push_grouped.ensures) c.push_markup-2.ensures
