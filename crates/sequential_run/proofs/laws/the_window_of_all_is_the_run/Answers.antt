use Rattle.sequential_run.proofs.Whole.{whole_window}
use Rattle.sequential_run.proofs.laws.the_window_of_all_is_the_run.Goals as goal

pub returns : goal.returns
returns c = λ s keys out rows after sound is. whole_window s sound keys out rows after is
