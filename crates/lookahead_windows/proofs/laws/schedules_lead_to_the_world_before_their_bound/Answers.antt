use Rattle.lookahead_windows.proofs.Bounded.{safe_before, clear_before}
use Rattle.lookahead_windows.proofs.laws.schedules_lead_to_the_world_before_their_bound.Goals as goal

pub returns-clause-safe : goal.returns-clause-safe
returns-clause-safe c = λ s d from bound w v keys rows sound least. safe_before s sound d least from bound w v keys rows

pub returns-clause-clear : goal.returns-clause-clear
returns-clause-clear c = λ s division between from bound w v keys rows sound lies. clear_before s sound division between lies from bound w v keys rows
