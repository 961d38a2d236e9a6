use Rattle.std.proofs.Common.{◌≡◌, Some, All, List, Vec, Global, sym, ap, subst, ◌∙◌}
use Rattle.std.specs.List.{slice_get}
use Rattle.std.proofs.lemmas.Result.{IfOk-weaker}
use Rattle.sweep_plan.specs.Values.{FitsToml}
use Rattle.sweep_plan.specs.Sweep.{KeyValues, Sweep}
use Rattle.sweep_plan.specs.Asked.{IsSwept}
use Rattle.sweep_plan.specs.Settings.{settings_of}
use Rattle.sweep_plan.specs.declared.choice.Choice.{Choice}
use Rattle.sweep_plan.proofs.Choices.{setting_fits}
use Rattle.sweep_plan.proofs.plan.Plan.setting_at.Goals as goal

pub returns-clause-fits : goal.returns-clause-fits
returns-clause-fits c sound =
    let swept_keys = c.deref.result.now in
    let shown : swept_keys ≡ c.args.self.now.swept_keys = c.deref.ensures.value ∙ ap (λ (sweep : Sweep). sweep.swept_keys) c.self.view_is in
    let sound_here : All IsSwept swept_keys = subst (λ (l : List KeyValues). All IsSwept l) (sym shown) sound in
    IfOk-weaker c.choices.result (λ (setting : Vec Choice Global). slice_get (settings_of swept_keys) c.args.place ≡ Some setting.items) (λ (setting : Vec Choice Global). All (λ (x : Choice). FitsToml x.value) setting.items)
    (λ setting at. setting_fits swept_keys c.args.place setting.items at sound_here) c.choices.ensures
