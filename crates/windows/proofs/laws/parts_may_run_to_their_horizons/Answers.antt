use Rattle.windows.proofs.Horizons.{clear_early, clear_windows, clear_none_left, clear_rows, clear_rows_by, clear_met, horizons_stay}
use Rattle.windows.proofs.laws.parts_may_run_to_their_horizons.Goals as goal

pub returns-clause-early : goal.returns-clause-early
returns-clause-early c = clear_early

pub returns-clause-windows : goal.returns-clause-windows
returns-clause-windows c = clear_windows

pub returns-clause-none_left : goal.returns-clause-none_left
returns-clause-none_left c = λ s division between bounds w v windows sound lies fact horizons are stands.
    clear_none_left s division between sound lies bounds w fact horizons windows v are stands

pub returns-clause-rows : goal.returns-clause-rows
returns-clause-rows c = λ s division between w v keys run_keys left_keys rows run left sound lies. clear_rows s division between sound lies w v keys run_keys left_keys rows run left

pub returns-clause-states : goal.returns-clause-states
returns-clause-states c = λ s division between w v keys rows m t sound lies. clear_met s division between sound lies w v keys rows m t

pub returns-clause-of_each_member : goal.returns-clause-of_each_member
returns-clause-of_each_member c = λ s division between w v keys run_keys left_keys rows run left sound lies.
    clear_rows_by s division between sound lies w v keys run_keys left_keys rows run left

pub returns-clause-horizons : goal.returns-clause-horizons
returns-clause-horizons c = λ s division between bounds w v k made sound lies. horizons_stay s division between sound lies bounds w v k made
