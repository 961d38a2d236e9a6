use Rattle.std.proofs.Common.{[], sym, subst, rules}
use Rattle.std.proofs.lemmas.List.Elements.{All-from_recursion}
use Rattle.base.specs.declared.fault.Fault.TheVariants.{Memory}
use Rattle.reports.specs.contracts.tallies.Tallies.{the_row}
use Rattle.trace.specs.Text.{NamesMembers, trace_text}
use Rattle.trace.proofs.Beginnings.{beginning-none, Keeps-same}
use Rattle.drive_world.specs.Ends.{HasTaken, PausesAt, EndsEarly}
use Rattle.drive_world.specs.UnderWay.{IsUnderWay}
use Rattle.drive_world.proofs.RowOrder.{cmp, row_order}
use Rattle.drive_world.proofs.Coming.{come_first}
use Rattle.drive_world.proofs.Opened.{opening_way}
use Rattle.drive_world.proofs.Handed.{begins_none, under_way_first}
use Rattle.drive_world.proofs.Resting.{done_end, named_end, taken_end, part_end}
use Rattle.drive_world.proofs.Ending.{ends_fault, ends_halt, unfailed_halt}
use Rattle.drive_world.proofs.driving.drive.Goals as goal

pub returns-in_err-world-clause-early : goal.returns-in_err-world-clause-early
returns-in_err-world-clause-early g c =
    let s = c.args.setting.now.scenario.now in
    let held = g.T.RowSink.held c.args.place.now in
    ends_fault s _ _ held held c.from_residual.result Memory c.from_residual.ensures.1
    ([], begins_none cmp row_order s c.args.setting.now.least_delay c.requires.setting.sound c.requires.setting.least, beginning-none held held (trace_text s []) (Keeps-same held))

pub returns-in_err-begin-clause-early : goal.returns-in_err-begin-clause-early
returns-in_err-begin-clause-early g c =
    let s = c.args.setting.now.scenario.now in
    ends_fault s _ _ (g.T.RowSink.held c.args.place.now) _ c.from_residual-in_err-begin.result _ c.from_residual-in_err-begin.ensures.1
    ([], begins_none cmp row_order s c.args.setting.now.least_delay c.requires.setting.sound c.requires.setting.least, (c.in_err-begin.ensures.written s).part)

pub play-requires-clause-begun : goal.play-requires-clause-begun
play-requires-clause-begun g c =
    let s = c.args.setting.now.scenario.now in
    let w = c.in_ok-world.world in
    let told = g.H.Harness.told c.args.harness.now in
    let gave = g.H.Harness.gave c.args.harness.now in
    subst (IsUnderWay cmp s c.args.setting.now.least_delay w told gave) (sym c.new-tallies.ensures)
    (under_way_first cmp row_order s c.args.setting.now.least_delay w told gave (opening_way s w c.in_ok-world.ensures.drive c.in_ok-world.ensures.places)
    (come_first s c.args.setting.now.least_delay w told gave c.in_ok-world.ensures.drive c.in_ok-world.ensures.rows c.in_ok-world.ensures.answers c.requires.untold c.requires.ungiven) c.in_ok-world.ensures.rows)

pub play-requires-clause-gathered : goal.play-requires-clause-gathered
play-requires-clause-gathered g c =
    let s = c.args.setting.now.scenario.now in
    subst (g.T.RowSink.gathered c.begin.new.place s) (sym c.new-tallies.ensures) (c.in_ok-begin.ensures.gathered s [] c.requires.none_gathered)

pub returns-in_err-play-clause-early : goal.returns-in_err-play-clause-early
returns-in_err-play-clause-early g c =
    let s = c.args.setting.now.scenario.now in
    let first = g.T.RowSink.held c.args.place.now in
    let held = g.T.RowSink.held c.begin.new.place in
    let taken : HasTaken s first held c.new-tallies.result = subst (HasTaken s first held) (sym c.new-tallies.ensures) (c.in_ok-begin.ensures.written s) in
    ends_fault s _ _ first _ c.from_residual-in_err-play.result _ c.from_residual-in_err-play.ensures.1 (c.in_err-play.ensures.part first taken)

pub hand_on-requires-clause-named : goal.hand_on-requires-clause-named
hand_on-requires-clause-named g c =
    let at = subst (λ h. PausesAt cmp c.args.setting.now.scenario.now c.args.setting.now.least_delay h c.play.new.world (g.H.Harness.told c.play.new.harness) (g.H.Harness.gave c.play.new.harness) c.play.new.tallies)
    c.in-None.is c.in_ok-play.ensures.pauses in
    let named = All-from_recursion (NamesMembers c.args.setting.now.scenario.now) c.play.new.world.rows.items at.0.named in
    search (rules, named)

pub returns-in_err-hand_on-in-None-clause-early : goal.returns-in_err-hand_on-in-None-clause-early
returns-in_err-hand_on-in-None-clause-early g c =
    let at = subst (λ h. PausesAt cmp c.args.setting.now.scenario.now c.args.setting.now.least_delay h c.play.new.world (g.H.Harness.told c.play.new.harness) (g.H.Harness.gave c.play.new.harness) c.play.new.tallies)
    c.in-None.is c.in_ok-play.ensures.pauses in
    let s = c.args.setting.now.scenario.now in
    let first = g.T.RowSink.held c.args.place.now in
    let held = g.T.RowSink.held c.begin.new.place in
    let taken : HasTaken s first held c.new-tallies.result = subst (HasTaken s first held) (sym c.new-tallies.ensures) (c.in_ok-begin.ensures.written s) in
    ends_fault s _ _ first _ c.from_residual-in_err-hand_on-in-None.result _ c.from_residual-in_err-hand_on-in-None.ensures.1
    (part_end cmp row_order s c.args.setting.now.least_delay c.requires.setting.sound c.requires.setting.least c.play.new.world at.1 _ _ _ _ _ c.in_err-hand_on-in-None.ensures.handed _ _
    at.0 first (c.in_ok-play.ensures.taken first taken))

pub returns-in_ok-hand_on-in-None-clause-done : goal.returns-in_ok-hand_on-in-None-clause-done
returns-in_ok-hand_on-in-None-clause-done g c =
    let at = subst (λ h. PausesAt cmp c.args.setting.now.scenario.now c.args.setting.now.least_delay h c.play.new.world (g.H.Harness.told c.play.new.harness) (g.H.Harness.gave c.play.new.harness) c.play.new.tallies)
    c.in-None.is c.in_ok-play.ensures.pauses in
    done_end cmp row_order c.args.setting.now.scenario.now c.args.setting.now.least_delay c.requires.setting.sound c.requires.setting.least c.play.new.world at.1 _ _ _ _ _
    c.in_ok-hand_on-in-None.ensures.handed _ _ at.0

pub returns-in_ok-hand_on-in-None-clause-whole : goal.returns-in_ok-hand_on-in-None-clause-whole
returns-in_ok-hand_on-in-None-clause-whole g c =
    let at = subst (λ h. PausesAt cmp c.args.setting.now.scenario.now c.args.setting.now.least_delay h c.play.new.world (g.H.Harness.told c.play.new.harness) (g.H.Harness.gave c.play.new.harness) c.play.new.tallies)
    c.in-None.is c.in_ok-play.ensures.pauses in
    let s = c.args.setting.now.scenario.now in
    let first = g.T.RowSink.held c.args.place.now in
    let held = g.T.RowSink.held c.begin.new.place in
    let taken : HasTaken s first held c.new-tallies.result = subst (HasTaken s first held) (sym c.new-tallies.ensures) (c.in_ok-begin.ensures.written s) in
    (taken_end cmp row_order s c.args.setting.now.least_delay c.requires.setting.sound c.requires.setting.least c.play.new.world at.1 _ _ _ _ _ c.in_ok-hand_on-in-None.ensures.handed first
    (c.in_ok-play.ensures.taken first taken)).whole.0

pub returns-in_ok-hand_on-in-None-clause-named : goal.returns-in_ok-hand_on-in-None-clause-named
returns-in_ok-hand_on-in-None-clause-named g c =
    let at = subst (λ h. PausesAt cmp c.args.setting.now.scenario.now c.args.setting.now.least_delay h c.play.new.world (g.H.Harness.told c.play.new.harness) (g.H.Harness.gave c.play.new.harness) c.play.new.tallies)
    c.in-None.is c.in_ok-play.ensures.pauses in
    let s = c.args.setting.now.scenario.now in
    let named =
    All-from_recursion (NamesMembers s) c.hand_on.new.tallies
    (named_end cmp row_order s c.args.setting.now.least_delay c.requires.setting.sound c.requires.setting.least c.play.new.world at.1 _ _ _ _ _ c.in_ok-hand_on-in-None.ensures.handed _ _
    at.0) in
    search (rules, named)

pub end_early-requires-clause-pauses : goal.end_early-requires-clause-pauses
end_early-requires-clause-pauses g c =
    let at = subst (λ h. PausesAt cmp c.args.setting.now.scenario.now c.args.setting.now.least_delay h c.play.new.world (g.H.Harness.told c.play.new.harness) (g.H.Harness.gave c.play.new.harness) c.play.new.tallies)
    c.in-Some.is c.in_ok-play.ensures.pauses in
    (g.H.Harness.told c.play.new.harness, g.H.Harness.gave c.play.new.harness, at)

pub returns-in_err-end_early-in-Some-clause-early : goal.returns-in_err-end_early-in-Some-clause-early
returns-in_err-end_early-in-Some-clause-early g c =
    let s = c.args.setting.now.scenario.now in
    let first = g.T.RowSink.held c.args.place.now in
    let held = g.T.RowSink.held c.begin.new.place in
    let taken : HasTaken s first held c.new-tallies.result = subst (HasTaken s first held) (sym c.new-tallies.ensures) (c.in_ok-begin.ensures.written s) in
    ends_fault s _ _ first _ c.from_residual-in_err-end_early-in-Some.result _ c.from_residual-in_err-end_early-in-Some.ensures.1 (c.in_err-end_early-in-Some.ensures.part first (c.in_ok-play.ensures.taken first taken))

pub returns-in_ok-end_early-in-Some-clause-early : goal.returns-in_ok-end_early-in-Some-clause-early
returns-in_ok-end_early-in-Some-clause-early g c =
    let at = subst (λ h. PausesAt cmp c.args.setting.now.scenario.now c.args.setting.now.least_delay h c.play.new.world (g.H.Harness.told c.play.new.harness) (g.H.Harness.gave c.play.new.harness) c.play.new.tallies)
    c.in-Some.is c.in_ok-play.ensures.pauses in
    let s = c.args.setting.now.scenario.now in
    let first = g.T.RowSink.held c.args.place.now in
    let held = g.T.RowSink.held c.begin.new.place in
    let told = g.H.Harness.told c.play.new.harness in
    let gave = g.H.Harness.gave c.play.new.harness in
    let taken : HasTaken s first held c.new-tallies.result = subst (HasTaken s first held) (sym c.new-tallies.ensures) (c.in_ok-begin.ensures.written s) in
    subst (λ e. EndsEarly s e gave told first (g.T.RowSink.held c.end_early.new.place)) (sym c.error_of.ensures)
    (ends_halt s gave told first _ c.in-Some.halt (c.in_ok-end_early-in-Some.ensures.stops told gave first at (c.in_ok-play.ensures.taken first taken)))

pub returns-in_ok-end_early-in-Some-clause-failures : goal.returns-in_ok-end_early-in-Some-clause-failures
returns-in_ok-end_early-in-Some-clause-failures g c =
    unfailed_halt the_row.Denot _ _ _ _ c.error_of.result c.in-Some.halt c.error_of.ensures c.in_ok-begin.ensures.failures c.in_ok-play.ensures.failures c.in_ok-end_early-in-Some.ensures.failures
