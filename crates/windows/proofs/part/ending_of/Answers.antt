use Rattle.std.proofs.Common.{◌∷◌, [], ap, ◌∙◌, sym}
use Rattle.base.specs.declared.key.Key.{Key}
use Rattle.scenario.specs.Setup.{crash_of, leave_of}
use Rattle.member.specs.declared.event_kind.EventKind.{EventKind}
use Rattle.windows.proofs.Admitting.{one_ending}
use Rattle.windows.proofs.part.ending_of.Goals as goal

pub returns-in-Some-clause-event : goal.returns-in-Some-clause-event
returns-in-Some-clause-event c =
    let s = c.args.scenario.now in
    ap (λ (e : Key × EventKind). e ∷ []) c.script_event.ensures
    ∙ one_ending c.args.member c.in-Some.at (crash_of s c.args.member) (leave_of s c.args.member) (sym c.crash.ensures.value ∙ c.in-Some.is) c.requires.once
