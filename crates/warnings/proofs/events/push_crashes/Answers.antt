use Rattle.scenario.specs.Setup.{crash_of}
use Rattle.warnings.specs.Told.{told_of_crash}
use Rattle.meaning.proofs.More.{told_more}
use Rattle.warnings.proofs.events.push_crashes.Goals as goal

pub loop-member-preserved : goal.loop-member-preserved
loop-member-preserved c =
    let s = c.args.scenario.now in
    told_more (λ m. told_of_crash s m (crash_of s m)) _ _ _ c.loop-member.member c.loop-member.invariant c.in_ok-push_crash.ensures
