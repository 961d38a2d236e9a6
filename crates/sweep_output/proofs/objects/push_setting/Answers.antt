use Rattle.std.proofs.Common.{◌≡◌, ◌∙◌, ◌++◌, ℕ, List, ap, map, string_bytes, sym}
use Rattle.sweep_plan.specs.declared.choice.Choice.{Choice}
use Rattle.std.proofs.lemmas.Option.{same_Some}
use Rattle.sweep_output.specs.Objects.{members_of, object_line}
use Rattle.sweep_output.proofs.Parts.{then_also}
use Rattle.sweep_output.proofs.objects.push_setting.Goals as goal

pub returns : goal.returns
returns c =
    let told : List Choice → List (List ℕ) = λ chosen. members_of c.args.columns c.args.wants.now c.args.all.now c.args.is_best chosen c.args.setting.now in
    then_also c.push_line.result _ _ c.push_line.ensures
    (λ is chosen there.
    let same : c.in_ok-chosen.chosen.items ≡ chosen = same_Some _ _ (sym c.in_ok-chosen.ensures.setting ∙ there) in
    is ∙ ap (λ l. string_bytes c.args.text.now ++ object_line l) (ap (map string_bytes) c.deref-2.ensures.value ∙ c.in_ok-members.ensures ∙ ap told (c.deref.ensures.value ∙ same)))
