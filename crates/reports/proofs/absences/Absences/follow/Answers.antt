use Rattle.std.proofs.Common.{◌<◌, ◌^◌, ◌++◌, ◌∷◌, [], map, sym, ap, ◌∙◌}
use Rattle.std.proofs.lemmas.List.Elements.{All-same}
use Rattle.trace.specs.declared.row.What.TheVariants as what
use Rattle.reports.specs.Away.{absences_kept, absence_with, absence_at}
use Rattle.reports.proofs.Detections.{has_kind-same, has_kind-not}
use Rattle.reports.proofs.Keeping.{on_ok, on_ok_three}
use Rattle.reports.proofs.Aways.{few_absences, no_absence, same_absences, one_absence, other_wrong, own_wrong}
use Rattle.reports.proofs.absences.Absences.follow.Goals as goal

pub add_claim-requires-clause-crashes : goal.add_claim-requires-clause-crashes
add_claim-requires-clause-crashes c = All-same (λ a. a.told.detection.confirmers < 2 ^ 63) c.args.self.now.crashes.items (absences_kept what.Crash c.requires.0) c.requires.1.crashed (few_absences what.Crash c.requires.0 c.requires.2)

pub add_claim-requires-clause-leaves : goal.add_claim-requires-clause-leaves
add_claim-requires-clause-leaves c = All-same (λ a. a.told.detection.confirmers < 2 ^ 63) c.args.self.now.leaves.items (absences_kept what.Leave c.requires.0) c.requires.1.left (few_absences what.Leave c.requires.0 c.requires.2)

pub add_claim-requires-in-Confirm-clause-crashes : goal.add_claim-requires-in-Confirm-clause-crashes
add_claim-requires-in-Confirm-clause-crashes c = All-same (λ a. a.told.detection.confirmers < 2 ^ 63) c.args.self.now.crashes.items (absences_kept what.Crash c.requires.0) c.requires.1.crashed (few_absences what.Crash c.requires.0 c.requires.2)

pub add_claim-requires-in-Confirm-clause-leaves : goal.add_claim-requires-in-Confirm-clause-leaves
add_claim-requires-in-Confirm-clause-leaves c = All-same (λ a. a.told.detection.confirmers < 2 ^ 63) c.args.self.now.leaves.items (absences_kept what.Leave c.requires.0) c.requires.1.left (few_absences what.Leave c.requires.0 c.requires.2)

pub see_both-requires-clause-crashes : goal.see_both-requires-clause-crashes
see_both-requires-clause-crashes c = All-same (λ a. a.told.detection.confirmers < 2 ^ 63) c.args.self.now.crashes.items (absences_kept what.Crash c.requires.0) c.requires.1.crashed (few_absences what.Crash c.requires.0 c.requires.2)

pub see_both-requires-clause-leaves : goal.see_both-requires-clause-leaves
see_both-requires-clause-leaves c = All-same (λ a. a.told.detection.confirmers < 2 ^ 63) c.args.self.now.leaves.items (absences_kept what.Leave c.requires.0) c.requires.1.left (few_absences what.Leave c.requires.0 c.requires.2)

pub returns-in-Crash : goal.returns-in-Crash
returns-in-Crash c =
    let row = c.args.row.now in
    let is = c.in-Crash.is in
    on_ok c.add_absence.result (λ added rows are. record {
      crashed = added ∙ ap (λ l. l ++ absence_at row ∷ []) are.crashed ∙ sym (one_absence what.Crash rows row (has_kind-same what.Crash what.Crash row is) (has_kind-same what.Crash what.Suspect row is) (has_kind-same what.Crash what.Confirm row is) (has_kind-same what.Crash what.Restart row is));
      left = are.left ∙ sym (same_absences what.Leave rows row (has_kind-same what.Crash what.Leave row is) (has_kind-same what.Crash what.Suspect row is) (has_kind-same what.Crash what.Confirm row is) (has_kind-same what.Crash what.Restart row is));
      suspected = are.suspected ∙ sym (other_wrong what.Suspect rows row (has_kind-same what.Crash what.Suspect row is));
      confirmed = are.confirmed ∙ sym (other_wrong what.Confirm rows row (has_kind-same what.Crash what.Confirm row is));
    }) c.add_absence.ensures

pub returns-in-Leave : goal.returns-in-Leave
returns-in-Leave c =
    let row = c.args.row.now in
    let is = c.in-Leave.is in
    on_ok c.add_absence-in-Leave.result (λ added rows are. record {
      crashed = are.crashed ∙ sym (same_absences what.Crash rows row (has_kind-same what.Leave what.Crash row is) (has_kind-same what.Leave what.Suspect row is) (has_kind-same what.Leave what.Confirm row is) (has_kind-same what.Leave what.Restart row is));
      left = added ∙ ap (λ l. l ++ absence_at row ∷ []) are.left ∙ sym (one_absence what.Leave rows row (has_kind-same what.Leave what.Leave row is) (has_kind-same what.Leave what.Suspect row is) (has_kind-same what.Leave what.Confirm row is) (has_kind-same what.Leave what.Restart row is));
      suspected = are.suspected ∙ sym (other_wrong what.Suspect rows row (has_kind-same what.Leave what.Suspect row is));
      confirmed = are.confirmed ∙ sym (other_wrong what.Confirm rows row (has_kind-same what.Leave what.Confirm row is));
    }) c.add_absence-in-Leave.ensures

pub returns-in-Suspect : goal.returns-in-Suspect
returns-in-Suspect c =
    let row = c.args.row.now in
    let is = c.in-Suspect.is in
    on_ok_three c.add_claim.result (λ crashes leaves made rows are. record {
      crashed = crashes ∙ ap (map (absence_with row)) are.crashed ∙ sym (no_absence what.Crash rows row (has_kind-same what.Suspect what.Crash row is));
      left = leaves ∙ ap (map (absence_with row)) are.left ∙ sym (no_absence what.Leave rows row (has_kind-same what.Suspect what.Leave row is));
      suspected = own_wrong what.Suspect rows row _ _ _ _ (has_kind-same what.Suspect what.Suspect row is) are.crashed are.left made are.suspected;
      confirmed = are.confirmed ∙ sym (other_wrong what.Confirm rows row (has_kind-same what.Suspect what.Confirm row is));
    }) c.add_claim.ensures.crashes c.add_claim.ensures.leaves c.add_claim.ensures.claims

pub returns-in-Confirm : goal.returns-in-Confirm
returns-in-Confirm c =
    let row = c.args.row.now in
    let is = c.in-Confirm.is in
    on_ok_three c.add_claim-in-Confirm.result (λ crashes leaves made rows are. record {
      crashed = crashes ∙ ap (map (absence_with row)) are.crashed ∙ sym (no_absence what.Crash rows row (has_kind-same what.Confirm what.Crash row is));
      left = leaves ∙ ap (map (absence_with row)) are.left ∙ sym (no_absence what.Leave rows row (has_kind-same what.Confirm what.Leave row is));
      suspected = are.suspected ∙ sym (other_wrong what.Suspect rows row (has_kind-same what.Confirm what.Suspect row is));
      confirmed = own_wrong what.Confirm rows row _ _ _ _ (has_kind-same what.Confirm what.Confirm row is) are.crashed are.left made are.confirmed;
    }) c.add_claim-in-Confirm.ensures.crashes c.add_claim-in-Confirm.ensures.leaves c.add_claim-in-Confirm.ensures.claims

pub returns-in-Restart : goal.returns-in-Restart
returns-in-Restart c rows are =
    let row = c.args.row.now in
    let is = c.in-Restart.is in
    record {
      crashed = c.see_both.ensures.crashes ∙ ap (map (absence_with row)) are.crashed ∙ sym (no_absence what.Crash rows row (has_kind-same what.Restart what.Crash row is));
      left = c.see_both.ensures.leaves ∙ ap (map (absence_with row)) are.left ∙ sym (no_absence what.Leave rows row (has_kind-same what.Restart what.Leave row is));
      suspected = are.suspected ∙ sym (other_wrong what.Suspect rows row (has_kind-same what.Restart what.Suspect row is));
      confirmed = are.confirmed ∙ sym (other_wrong what.Confirm rows row (has_kind-same what.Restart what.Confirm row is));
    }

pub returns-in_default : goal.returns-in_default
returns-in_default c rows are =
    let row = c.args.row.now in
    let crash = has_kind-not what.Crash row c.in_default.not-Crash in
    let leave = has_kind-not what.Leave row c.in_default.not-Leave in
    let suspect = has_kind-not what.Suspect row c.in_default.not-Suspect in
    let confirm = has_kind-not what.Confirm row c.in_default.not-Confirm in
    let restart = has_kind-not what.Restart row c.in_default.not-Restart in
    record {
      crashed = are.crashed ∙ sym (same_absences what.Crash rows row crash suspect confirm restart);
      left = are.left ∙ sym (same_absences what.Leave rows row leave suspect confirm restart);
      suspected = are.suspected ∙ sym (other_wrong what.Suspect rows row suspect);
      confirmed = are.confirmed ∙ sym (other_wrong what.Confirm rows row confirm);
    }
