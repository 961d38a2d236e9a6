-- The text of settings, by what stands for the plan's wants and for the settings.
use Rattle.std.proofs.Common.{◌≡◌, ℕ, Bool, List, subst}
use Rattle.sweep_plan.specs.Sweep.{Sweep}
use Rattle.goals.specs.declared.want.Want.{Want}
use Rattle.figures.specs.declared.column_set.ColumnSet.{ColumnSet}
use Rattle.figures.specs.declared.summary.SettingSummary.{SettingSummary}
use Rattle.sweep_output.specs.Telling.{TellsSettings}

pub printed_as : (jsonl : Bool) (plan : Sweep) (text : List ℕ) (columns columns' : ColumnSet) (wants wants' : List Want) (settings settings' : List SettingSummary)
    → columns ≡ columns' → wants ≡ wants' → settings ≡ settings' → TellsSettings jsonl columns plan wants settings text → TellsSettings jsonl columns' plan wants' settings' text
printed_as jsonl plan text columns columns' wants wants' settings settings' same_columns same_wants same_settings printed =
    subst (λ (r : ColumnSet). TellsSettings jsonl r plan wants' settings' text) same_columns
    (subst (λ (w : List Want). TellsSettings jsonl columns plan w settings' text) same_wants
    (subst (λ (l : List SettingSummary). TellsSettings jsonl columns plan wants l text) same_settings printed))
