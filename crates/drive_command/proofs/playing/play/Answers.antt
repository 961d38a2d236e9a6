use Rattle.std.proofs.Common.{refl}
use Rattle.trace.specs.Writers.{put_failures}
use Rattle.drive_command.specs.Playing.{failures_of}
use Rattle.drive_command.proofs.Sinks.{grown_by, left_by}
use Rattle.drive_command.proofs.playing.play.Goals as goal

pub returns-in-Err-clause-early : goal.returns-in-Err-clause-early
returns-in-Err-clause-early g c =
    let made = c.args.made in (
      left_by g.M.Write.contents c.args.setting.now.scenario.now c.args.shown.now.name.now c.args.shown.now.release.now (g.H.Harness.gave c.write_trace.new.harness)
          (g.H.Harness.told c.write_trace.new.harness) made (record { trace = c.write_trace.new.place.trace; report = made.report; page = made.page }) c.in-Err.error
          refl refl c.in-Err.ensures.early,
      λ write. grown_by c.write_trace.result c.in-Err.error (put_failures c.write_trace.new.place.trace) (failures_of made.report) (failures_of made.page)
          c.in-Err.is c.write_trace.ensures.failures write,
    )
