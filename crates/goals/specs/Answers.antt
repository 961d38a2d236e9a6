-- What the settings of a sweep answer to what is wanted, in words.
use Rattle.std.specs.Prelude.{◌≡◌, ℕ, ◌-◌, ◌==◌, List, [], ◌∷◌, ◌++◌, Option, Some, None, codes, count_by, decimal, flat_map, get_or, length, if◌then◌else◌}
use Rattle.std.specs.List.{zip}
use Rattle.std.specs.Option.{option_map_or}
use Rattle.sweep_plan.specs.Sweep.{KeyValues}
use Rattle.sweep_plan.specs.Settings.{settings_of, choices_text}
use Rattle.sweep_plan.specs.declared.choice.Choice.{Choice}
use Rattle.figures.specs.declared.summary.SettingSummary.{SettingSummary}
use Rattle.goals.specs.declared.want.Want.{Want}
use Rattle.goals.specs.Wants.{IsBestOf, may_meet, meets, more_runs, refutes, shows}

-- how many settings show that they meet what is wanted, and how many that they don't
abbrev pub showing : List SettingSummary → Want → ℕ
showing settings want = count_by (λ setting. shows want.statistic want.most setting) settings

abbrev pub refuting : List SettingSummary → Want → ℕ
refuting settings want = count_by (λ setting. refutes want.statistic want.most setting) settings

-- a line for each that is wanted: how many settings show it, may meet it, and show that they don't
abbrev pub want_line : List SettingSummary → Want → List ℕ
want_line settings want =
    codes "wanted: " ++ want.word.now ++ codes " shown=" ++ decimal (showing settings want) ++ codes " open=" ++ decimal (length settings - showing settings want - refuting settings want)
    ++ codes " refuted=" ++ decimal (refuting settings want) ++ codes "\n"

-- the choices of a setting; there are none where nothing is set
abbrev pub swept_keys_told : List Choice → List ℕ
swept_keys_told [] = codes "the scenario as it is"
swept_keys_told (choice ∷ more) = choices_text (choice ∷ more)

-- how many more runs would show whether the setting meets all, or a dash
abbrev pub more_text : Option ℕ → List ℕ
more_text more = codes " more_runs=" ++ option_map_or decimal more (codes "-")

-- a line for each setting that meets all, or may
abbrev pub setting_told : List Want → List Choice → SettingSummary → List ℕ
setting_told wants chosen setting =
    if meets wants setting then codes "meets: " ++ swept_keys_told chosen ++ codes "\n"
    else (if may_meet wants setting then codes "may: " ++ swept_keys_told chosen ++ more_text (more_runs wants setting) ++ codes "\n" else [])

-- and one for the best
abbrev pub best_line : List (List Choice) → Option ℕ → List ℕ
best_line settings None = codes "best: none\n"
best_line settings (Some place) = codes "best: " ++ swept_keys_told (get_or settings place []) ++ codes "\n"

-- these, in this order; nothing where nothing is wanted
abbrev pub answer_text : List KeyValues → List Want → List SettingSummary → Option ℕ → List ℕ
answer_text swept_keys wants settings best =
    if length wants == 0 then [] else flat_map (want_line settings) wants ++ flat_map (λ told. setting_told wants told.0 told.1) (zip (settings_of swept_keys) settings) ++ best_line (settings_of swept_keys) best

-- what these settings answer was added to a text
pub record AddsAnswer (swept_keys : List KeyValues) (wants : List Want) (settings : List SettingSummary) (old new : List ℕ) : Type 0 where
  pub best : Option ℕ
  pub chosen : IsBestOf wants settings best
  pub told : new ≡ old ++ answer_text swept_keys wants settings best
