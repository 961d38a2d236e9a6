use Rattle.drawing.proofs.Pushes.{and_then}
use Rattle.sweep_page.specs.Best.{beaten_words}
use Rattle.sweep_page.proofs.best.push_beaten_words.Goals as goal

pub returns : goal.returns
unfolding beaten_words
returns c = and_then _ _ _ (and_then _ _ _ (and_then _ _ _ c.in_ok-push_markup.ensures (rw (c.one_beats-one.ensures, c.several_beat-several.ensures) at c.in_ok-push_count.ensures)) c.in_ok-push_others.ensures) c.in_ok-push_markup-2.ensures
