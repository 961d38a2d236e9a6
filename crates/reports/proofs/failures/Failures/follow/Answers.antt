use Rattle.std.proofs.Common.{◌<◌, ◌^◌, ◌++◌, ◌∷◌, [], map, sym, ap, ◌∙◌}
use Rattle.std.proofs.lemmas.List.Elements.{All-same}
use Rattle.trace.specs.declared.row.What.TheVariants as what
use Rattle.reports.specs.Departures.{crashes_of, leaves_of}
use Rattle.reports.specs.Failures.{departure_with, departure_at}
use Rattle.reports.proofs.Detections.{has_kind-same, has_kind-not}
use Rattle.reports.proofs.Pushes.{few_confirmers}
use Rattle.reports.proofs.Keeping.{no_departure, one_departure, same_departures, own_claim, other_claim, on_ok, on_err, on_ok_three, on_err_three}
use Rattle.reports.proofs.failures.Failures.follow.Goals as goal

pub add_claim-requires-clause-crashes : goal.add_claim-requires-clause-crashes
add_claim-requires-clause-crashes c = All-same (λ d. d.detection.confirmers < 2 ^ 63) c.args.self.now.crashes.items (crashes_of c.requires.0) c.requires.1.crashed (few_confirmers what.Crash c.requires.0 c.requires.2)

pub add_claim-requires-clause-leaves : goal.add_claim-requires-clause-leaves
add_claim-requires-clause-leaves c = All-same (λ d. d.detection.confirmers < 2 ^ 63) c.args.self.now.leaves.items (leaves_of c.requires.0) c.requires.1.left (few_confirmers what.Leave c.requires.0 c.requires.2)

pub add_claim-requires-in-Confirm-clause-crashes : goal.add_claim-requires-in-Confirm-clause-crashes
add_claim-requires-in-Confirm-clause-crashes c = All-same (λ d. d.detection.confirmers < 2 ^ 63) c.args.self.now.crashes.items (crashes_of c.requires.0) c.requires.1.crashed (few_confirmers what.Crash c.requires.0 c.requires.2)

pub add_claim-requires-in-Confirm-clause-leaves : goal.add_claim-requires-in-Confirm-clause-leaves
add_claim-requires-in-Confirm-clause-leaves c = All-same (λ d. d.detection.confirmers < 2 ^ 63) c.args.self.now.leaves.items (leaves_of c.requires.0) c.requires.1.left (few_confirmers what.Leave c.requires.0 c.requires.2)

pub returns-in-Crash-clause-ok : goal.returns-in-Crash-clause-ok
returns-in-Crash-clause-ok c =
    let row = c.args.row.now in
    let is = c.in-Crash.is in
    on_ok c.add_departure.result (λ added rows are. record {
      crashed = added ∙ ap (λ l. l ++ departure_at row ∷ []) are.crashed ∙ sym (one_departure what.Crash rows row (has_kind-same what.Crash what.Crash row is) (has_kind-same what.Crash what.Suspect row is) (has_kind-same what.Crash what.Confirm row is));
      left = are.left ∙ sym (same_departures what.Leave rows row (has_kind-same what.Crash what.Leave row is) (has_kind-same what.Crash what.Suspect row is) (has_kind-same what.Crash what.Confirm row is));
      suspected = are.suspected ∙ sym (other_claim what.Suspect rows row (has_kind-same what.Crash what.Suspect row is));
      confirmed = are.confirmed ∙ sym (other_claim what.Confirm rows row (has_kind-same what.Crash what.Confirm row is));
    }) c.add_departure.ensures.ok

pub returns-in-Crash-clause-err : goal.returns-in-Crash-clause-err
returns-in-Crash-clause-err c = on_err c.add_departure.result (λ same rows are. record { crashed = same ∙ are.crashed; left = are.left; suspected = are.suspected; confirmed = are.confirmed }) c.add_departure.ensures.err

pub returns-in-Leave-clause-ok : goal.returns-in-Leave-clause-ok
returns-in-Leave-clause-ok c =
    let row = c.args.row.now in
    let is = c.in-Leave.is in
    on_ok c.add_departure-in-Leave.result (λ added rows are. record {
      crashed = are.crashed ∙ sym (same_departures what.Crash rows row (has_kind-same what.Leave what.Crash row is) (has_kind-same what.Leave what.Suspect row is) (has_kind-same what.Leave what.Confirm row is));
      left = added ∙ ap (λ l. l ++ departure_at row ∷ []) are.left ∙ sym (one_departure what.Leave rows row (has_kind-same what.Leave what.Leave row is) (has_kind-same what.Leave what.Suspect row is) (has_kind-same what.Leave what.Confirm row is));
      suspected = are.suspected ∙ sym (other_claim what.Suspect rows row (has_kind-same what.Leave what.Suspect row is));
      confirmed = are.confirmed ∙ sym (other_claim what.Confirm rows row (has_kind-same what.Leave what.Confirm row is));
    }) c.add_departure-in-Leave.ensures.ok

pub returns-in-Leave-clause-err : goal.returns-in-Leave-clause-err
returns-in-Leave-clause-err c =
    on_err c.add_departure-in-Leave.result (λ same rows are. record { crashed = are.crashed; left = same ∙ are.left; suspected = are.suspected; confirmed = are.confirmed }) c.add_departure-in-Leave.ensures.err

pub returns-in-Suspect-clause-ok : goal.returns-in-Suspect-clause-ok
returns-in-Suspect-clause-ok c =
    let row = c.args.row.now in
    let is = c.in-Suspect.is in
    on_ok_three c.add_claim.result (λ crashes leaves made rows are. record {
      crashed = crashes ∙ ap (map (departure_with row)) are.crashed ∙ sym (no_departure what.Crash rows row (has_kind-same what.Suspect what.Crash row is));
      left = leaves ∙ ap (map (departure_with row)) are.left ∙ sym (no_departure what.Leave rows row (has_kind-same what.Suspect what.Leave row is));
      suspected = own_claim what.Suspect rows row _ _ _ _ (has_kind-same what.Suspect what.Suspect row is) are.crashed are.left made are.suspected;
      confirmed = are.confirmed ∙ sym (other_claim what.Confirm rows row (has_kind-same what.Suspect what.Confirm row is));
    }) c.add_claim.ensures.crashes c.add_claim.ensures.leaves c.add_claim.ensures.claims

pub returns-in-Suspect-clause-err : goal.returns-in-Suspect-clause-err
returns-in-Suspect-clause-err c =
    on_err_three c.add_claim.result (λ crashes leaves claims rows are. record { crashed = crashes ∙ are.crashed; left = leaves ∙ are.left; suspected = claims ∙ are.suspected; confirmed = are.confirmed })
    c.add_claim.ensures.crashes_kept c.add_claim.ensures.leaves_kept c.add_claim.ensures.claims_kept

pub returns-in-Confirm-clause-ok : goal.returns-in-Confirm-clause-ok
returns-in-Confirm-clause-ok c =
    let row = c.args.row.now in
    let is = c.in-Confirm.is in
    on_ok_three c.add_claim-in-Confirm.result (λ crashes leaves made rows are. record {
      crashed = crashes ∙ ap (map (departure_with row)) are.crashed ∙ sym (no_departure what.Crash rows row (has_kind-same what.Confirm what.Crash row is));
      left = leaves ∙ ap (map (departure_with row)) are.left ∙ sym (no_departure what.Leave rows row (has_kind-same what.Confirm what.Leave row is));
      suspected = are.suspected ∙ sym (other_claim what.Suspect rows row (has_kind-same what.Confirm what.Suspect row is));
      confirmed = own_claim what.Confirm rows row _ _ _ _ (has_kind-same what.Confirm what.Confirm row is) are.crashed are.left made are.confirmed;
    }) c.add_claim-in-Confirm.ensures.crashes c.add_claim-in-Confirm.ensures.leaves c.add_claim-in-Confirm.ensures.claims

pub returns-in-Confirm-clause-err : goal.returns-in-Confirm-clause-err
returns-in-Confirm-clause-err c =
    on_err_three c.add_claim-in-Confirm.result (λ crashes leaves claims rows are. record { crashed = crashes ∙ are.crashed; left = leaves ∙ are.left; suspected = are.suspected; confirmed = claims ∙ are.confirmed })
    c.add_claim-in-Confirm.ensures.crashes_kept c.add_claim-in-Confirm.ensures.leaves_kept c.add_claim-in-Confirm.ensures.claims_kept

pub returns-in_default-clause-ok : goal.returns-in_default-clause-ok
returns-in_default-clause-ok c rows are =
    let row = c.args.row.now in
    let crash = has_kind-not what.Crash row c.in_default.not-Crash in
    let leave = has_kind-not what.Leave row c.in_default.not-Leave in
    let suspect = has_kind-not what.Suspect row c.in_default.not-Suspect in
    let confirm = has_kind-not what.Confirm row c.in_default.not-Confirm in
    record {
      crashed = are.crashed ∙ sym (same_departures what.Crash rows row crash suspect confirm);
      left = are.left ∙ sym (same_departures what.Leave rows row leave suspect confirm);
      suspected = are.suspected ∙ sym (other_claim what.Suspect rows row suspect);
      confirmed = are.confirmed ∙ sym (other_claim what.Confirm rows row confirm);
    }
