use Rattle.std.proofs.Common.{◌≡◌, ◌<◌, ◌++◌, length, map, ap, ◌∙◌}
use Rattle.std.specs.Prelude.{count_by}
use Rattle.std.proofs.lemmas.List.Elements.{All-same}
use Rattle.scenario.specs.Setup.{member_count}
use Rattle.trace.specs.declared.row.What.TheVariants as what
use Rattle.incidents.specs.Kept.{count_of}
use Rattle.incidents.specs.Cluster.{troubles_of}
use Rattle.incidents.specs.Incidents.{alarms, deaths, deaths_well, members_dead}
use Rattle.incidents.specs.Whole.{whole_since}
use Rattle.incidents.specs.Returns.{returns_of}
use Rattle.reports.specs.declared.absence.Absence.{Absence}
use Rattle.reports.specs.Failures.{is_healthy_maker}
use Rattle.reports.specs.Absences.{with_others_left, wrongs_of}
use Rattle.reports.proofs.Accounting.{member_counts, told_kept, wrong_makers}
use Rattle.reports.proofs.account.Account.of.Goals as goal

pub count_healthy-healthy_suspicions-requires : goal.count_healthy-healthy_suspicions-requires
count_healthy-healthy_suspicions-requires c =
    let rows = c.requires.named.0 in
    All-same (λ claim. claim.member < member_count c.args.scenario.now) c.as_slice-suspicions.result.now (wrongs_of what.Suspect (map with_others_left rows))
    (c.as_slice-suspicions.ensures.value ∙ c.requires.named.1.absences.suspected) (wrong_makers c.args.scenario.now what.Suspect rows c.requires.named.2)

pub count_healthy-healthy_confirmations-requires : goal.count_healthy-healthy_confirmations-requires
count_healthy-healthy_confirmations-requires c =
    let rows = c.requires.named.0 in
    All-same (λ claim. claim.member < member_count c.args.scenario.now) c.as_slice-confirmations.result.now (wrongs_of what.Confirm (map with_others_left rows))
    (c.as_slice-confirmations.ensures.value ∙ c.requires.named.1.absences.confirmed) (wrong_makers c.args.scenario.now what.Confirm rows c.requires.named.2)

pub returns : goal.returns
returns c rows are =
    let s = c.args.scenario.now in
    let cluster = c.args.watch.now.incidents.cluster in
    let count : count_of cluster ≡ member_count s = member_counts cluster s c.requires.cluster in
    let others = map with_others_left rows in
    record {
      crashes = c.in_ok-crashes.ensures ∙ ap (map (λ (a : Absence). a.told)) (c.as_slice-crashed.ensures.value ∙ are.absences.crashed) ∙ told_kept what.Crash others;
      leaves = c.in_ok-leaves.ensures ∙ ap (map (λ (a : Absence). a.told)) (c.as_slice-left.ensures.value ∙ are.absences.left) ∙ told_kept what.Leave others;
      returns = c.in_ok-returns.ensures rows are.incidents ∙ ap (λ n. returns_of n rows) count;
      suspicions = ap length (c.as_slice-suspicions.ensures.value ∙ are.absences.suspected);
      healthy_suspicions = c.count_healthy-healthy_suspicions.ensures ∙ ap (count_by (is_healthy_maker s)) (c.as_slice-suspicions.ensures.value ∙ are.absences.suspected);
      confirmations = ap length (c.as_slice-confirmations.ensures.value ∙ are.absences.confirmed);
      healthy_confirmations = c.count_healthy-healthy_confirmations.ensures ∙ ap (count_by (is_healthy_maker s)) (c.as_slice-confirmations.ensures.value ∙ are.absences.confirmed);
      confirmed = c.in_ok-extend_from_slice.ensures.items ∙ ap (λ l. l ++ c.as_slice-confirmations.result.now) c.new-confirmed.ensures.items ∙ c.as_slice-confirmations.ensures.value ∙ are.absences.confirmed;
      revivals = are.revivals.all;
      whole = c.whole_since.ensures rows are.incidents ∙ ap (λ f. whole_since f rows) c.requires.cluster.founders;
      alarms = c.alarms.ensures rows are.incidents ∙ ap (λ n. alarms n rows) count;
      deaths = c.deaths.ensures rows are.incidents ∙ ap (λ n. deaths n rows) count;
      members = c.members.ensures rows are.incidents ∙ ap (λ n. members_dead n rows) count;
      well = c.deaths_well.ensures rows are.incidents ∙ ap (λ n. deaths_well n cluster.troubles.items cluster.reach rows) count
          ∙ ap (λ l. deaths_well (member_count s) l cluster.reach rows) c.requires.cluster.troubles ∙ ap (λ r. deaths_well (member_count s) (troubles_of s) r rows) c.requires.cluster.reach;
    }
