use Rattle.std.proofs.Common.{None, ◌∙◌, ◌++◌, ◌∷◌, [], ap, append_assoc, codes, decimal, map, string_bytes, sym}
use Rattle.figures.specs.SettingLines.{hundredths}
use Rattle.sweep_output.specs.Objects.{day_members, incident_members, member}
use Rattle.sweep_output.proofs.Parts.{one_more, then_also}
use Rattle.sweep_output.proofs.figures_told.push_incidents.Goals as goal

pub returns-in_ok-push_number-in-Some-2 : goal.returns-in_ok-push_number-in-Some-2
unfolding incident_members
returns-in_ok-push_number-in-Some-2 c =
    let old = map string_bytes c.args.members.now.items in
    let told = c.in-Some.told in
    let alarms = member (codes "alarms") (hundredths told.alarms) in
    let deaths = member (codes "deaths") (decimal told.deaths) in
    let well = member (codes "deaths_well") (decimal told.deaths_well) in
    let three = one_more old (alarms ∷ deaths ∷ []) _ _ well c.in_ok-push_number-in-Some-2.ensures (one_more old (alarms ∷ []) _ _ deaths c.in_ok-push_number-in-Some.ensures c.in_ok-push_hundredths-in-Some.ensures) in
    then_also c.push_day.result _ _ c.push_day.ensures
    (λ is. is ∙ ap (λ l. l ++ day_members told.day) three ∙ append_assoc old (alarms ∷ deaths ∷ well ∷ []) (day_members told.day)
    ∙ ap (λ incidents. old ++ incident_members incidents) (sym c.in-Some.is))

pub returns-in_ok-push_member-in-None-3 : goal.returns-in_ok-push_member-in-None-3
unfolding incident_members
returns-in_ok-push_member-in-None-3 c =
    let old = map string_bytes c.args.members.now.items in
    let alarms = member (codes "alarms") (codes "null") in
    let deaths = member (codes "deaths") (codes "null") in
    let well = member (codes "deaths_well") (codes "null") in
    let three = one_more old (alarms ∷ deaths ∷ []) _ _ well c.in_ok-push_member-in-None-3.ensures (one_more old (alarms ∷ []) _ _ deaths c.in_ok-push_member-in-None-2.ensures c.in_ok-push_member-in-None.ensures) in
    then_also c.push_day-in-None.result _ _ c.push_day-in-None.ensures
    (λ is. is ∙ ap (λ l. l ++ day_members None) three ∙ append_assoc old (alarms ∷ deaths ∷ well ∷ []) (day_members None)
    ∙ ap (λ incidents. old ++ incident_members incidents) (sym c.in-None.is))
