use Rattle.std.proofs.Common.{◌≡◌, ap, sym, ◌∙◌, subst, All}
use Rattle.scenario.specs.Setup.{Setup, script_of, IsSound, IsSoundEvent}
use Rattle.scenario.specs.Scripts.{script_at}
use Rattle.scenario.specs.SetupOf.{setup_of}
use Rattle.scenario.specs.declared.script.ScriptEvent.{ScriptEvent}
use Rattle.scenario.proofs.Happening.{events_sound}
use Rattle.scenario.proofs.scenario.Scenario.script.Goals as goal

pub returns-clause-value : goal.returns-clause-value
returns-clause-value c =
    c.script_for.ensures ∙ ap (λ scripts. script_at scripts c.index.result) c.as_slice.ensures.value ∙ c.self.invariant.scripts c.index.result ∙ ap (script_of (setup_of c.self.inside)) c.index.ensures
    ∙ ap (λ (s : Setup). script_of s c.args.member) c.self.view_is

pub returns-clause-events : goal.returns-clause-events
returns-clause-events c =
    let s = c.args.self.now in
    let sound : IsSound s = subst IsSound c.self.view_is c.self.invariant.sound in
    let value : c.script_for.result.now ≡ script_of s c.args.member =
    c.script_for.ensures ∙ ap (λ scripts. script_at scripts c.index.result) c.as_slice.ensures.value ∙ c.self.invariant.scripts c.index.result ∙ ap (script_of (setup_of c.self.inside)) c.index.ensures
    ∙ ap (λ (t : Setup). script_of t c.args.member) c.self.view_is in
    subst (All (λ (e : ScriptEvent). (e.member ≡ c.args.member) × IsSoundEvent s e)) (sym value) (events_sound s sound.events c.args.member)

pub returns-clause-sound : goal.returns-clause-sound
returns-clause-sound c = subst IsSound c.self.view_is c.self.invariant.sound
