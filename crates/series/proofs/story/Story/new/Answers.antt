use Rattle.std.proofs.Common.{refl, lit<}
use Rattle.series.proofs.story.Story.new.Goals as goal

pub returns : goal.returns
returns c s subject is =
    record {
      claims = c.new.ensures 3 (lit< tt);
      refuted = λ k low. c.new-2.ensures 0 k;
      revived = λ k low. c.new-3.ensures 0 k;
      first_confirm = refl;
      last_refute = refl;
      spread = is;
      fails = refl;
    }
