-- what the files hold of a drive that was done, and of one that wasn't
use Rattle.std.proofs.Common.{◌<◌, subst}
use Rattle.base.specs.declared.fault.Fault.TheVariants as fault
use Rattle.scenario_files.specs.Shelves.{word_given}
use Rattle.scenario.specs.Setup.{Setup}
use Rattle.drive_command.specs.Playing.{LeavesBy, WritesAll}
use Rattle.drive_command.proofs.Counting.{all_counted, are_unfailed, grown, kept}
use Rattle.drive_command.proofs.Ending.{drive_done, drive_left, drive_untold}
use Rattle.drive_command.proofs.Told.{told_done, told_failed}
use Rattle.drive_command.proofs.Unmade.{unmade}
use Rattle.drive_command.proofs.driving.drive_scenario.Goals as goal

pub returns-clause-done : goal.returns-clause-done
returns-clause-done g c =
    let known = g.F.Files.known in
    let play = c.play-made in
    told_done c.told.result play.result.1 c.told.ensures.done c.told.ensures.was play.ensures.done (λ ended writes.
    drive_done g.F.Made.Write.contents c.args.scenario.now c.args.release.now.version.now (known c.args.files.now) (known c.make_files.new.files) (known c.close_files.new.files)
    (g.F.Files.making c.args.files.now) c.args.words c.in_ok-made.made play.result.0 (g.H.Harness.gave play.new.harness) (g.H.Harness.told play.new.harness)
    c.in_ok-made.ensures.made c.close_files.ensures.closed _ _ c.told.ensures.gave ended c.in_ok-made.ensures.apart (subst (λ (s : Setup). WritesAll g.F.Made.Write.contents s c.args.words.file.now c.args.release.now.version.now (g.H.Harness.gave play.new.harness) (g.H.Harness.told play.new.harness)
    c.in_ok-made.made play.result.0) c.setting_of-setting.ensures.scenario writes))

pub returns-clause-failed : goal.returns-clause-failed
returns-clause-failed g c =
    let known = g.F.Files.known in
    let refused = g.F.Files.refused in
    let holds = g.F.Made.Write.contents in
    let play = c.play-made in
    let s = c.args.scenario.now in
    let release = c.args.release.now.version.now in
    let start = known c.args.files.now in
    let made = known c.make_files.new.files in
    let end = known c.close_files.new.files in
    let making = g.F.Files.making c.args.files.now in
    let gave = g.H.Harness.gave play.new.harness in
    let heard = g.H.Harness.told play.new.harness in
    told_failed c.told.result play.result.1 c.told.ensures.failed play.ensures.done play.ensures.early c.told.ensures.told
    (λ failure by writes. drive_untold holds s release start made end making c.args.words c.in_ok-made.made play.result.0 gave heard
    c.in_ok-made.ensures.made c.close_files.ensures.closed (refused c.args.files.now < refused c.close_files.new.files) c.in_ok-made.ensures.apart _ _ c.told.ensures.gave failure by (subst (λ (s : Setup). WritesAll holds s c.args.words.file.now release gave heard c.in_ok-made.made play.result.0) c.setting_of-setting.ensures.scenario writes))
    (λ e failure tells early same. drive_left holds s release start made end making c.args.words c.in_ok-made.made play.result.0 gave heard
    c.in_ok-made.ensures.made c.close_files.ensures.closed (refused c.args.files.now < refused c.close_files.new.files) c.in_ok-made.ensures.apart _ _ c.told.ensures.gave same
    e failure tells (subst (λ (s : Setup). LeavesBy holds s c.args.words.file.now release gave heard c.in_ok-made.made play.result.0 e) c.setting_of-setting.ensures.scenario early.0) (λ write. grown _ _ _ _ _ c.make_files.ensures.counted c.close_files.ensures.refused (all_counted holds start made _ _ _ c.in_ok-made.made c.in_ok-made.ensures.made play.result.0 play.ensures.shape) (early.1 write)))

pub returns-clause-whole : goal.returns-clause-whole
returns-clause-whole g c =
    let known = g.F.Files.known in
    let play = c.play-made in
    told_done c.told.result play.result.1 c.told.ensures.done c.told.ensures.was play.ensures.whole (λ ended none.
    kept _ _ _ _ _ c.make_files.ensures.counted c.close_files.ensures.refused
    (all_counted g.F.Made.Write.contents (known c.args.files.now) (known c.make_files.new.files) _ _ _ c.in_ok-made.made c.in_ok-made.ensures.made play.result.0 play.ensures.shape) none)

pub play-made-requires-clause-unfailed : goal.play-made-requires-clause-unfailed
play-made-requires-clause-unfailed g c =
    are_unfailed g.F.Made.Write.contents (g.F.Files.known c.args.files.now) (g.F.Files.known c.make_files.new.files) _ _ _ c.in_ok-made.made c.in_ok-made.ensures.made

pub returns-in_err-made-clause-failed : goal.returns-in_err-made-clause-failed
returns-in_err-made-clause-failed g c =
    let refused = g.F.Files.refused in
    unmade (refused c.args.files.now < refused c.make_files.new.files) c.args.scenario.now c.args.release.now.version.now (g.F.Files.known c.args.files.now)
    (g.F.Files.known c.make_files.new.files) (g.F.Files.making c.args.files.now) c.args.words (g.H.Harness.gave c.args.harness.now) (g.H.Harness.told c.args.harness.now)
    _ _ c.from_residual.ensures.1 c.in_err-made.ensures.failed
