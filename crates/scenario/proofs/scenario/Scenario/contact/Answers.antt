use Rattle.std.proofs.Common.{◌≡◌, ◌<◌, ℕ, List, map, Option, IfSome, subst, sym, ap, ◌∙◌}
use Rattle.std.specs.List.{slice_get}
use Rattle.std.specs.Option.{option_and_then}
use Rattle.scenario.specs.Setup.{Setup, Group, group_at, contact_of, member_count, IsSound}
use Rattle.scenario.specs.SetupOf.{group_of}
use Rattle.scenario.specs.declared.settings.Group.{Group as Stored}
use Rattle.scenario.proofs.Members.{contact_within}
use Rattle.scenario.proofs.scenario.Scenario.contact.Goals as goal

abbrev contact_at : List Stored → ℕ → Option ℕ
contact_at gs n = option_and_then (λ (g : Group). g.contact) (slice_get (map group_of gs) n)

pub returns-clause-member : goal.returns-clause-member
returns-clause-member c =
    let m = c.args.member in
    let gs = c.as_slice.result.now in
    let s = c.args.self.now in
    let sound : IsSound s = subst IsSound c.self.view_is c.self.invariant.sound in
    let value : c.contact_at.result ≡ contact_of s m =
    c.contact_at.ensures ∙ ap (λ hs. contact_at hs c.number.result) c.as_slice.ensures.value
    ∙ ap (λ (t : Setup). option_and_then (λ (g : Group). g.contact) (slice_get t.groups c.number.result)) c.self.view_is
    ∙ ap (λ n. option_and_then (λ (g : Group). g.contact) (slice_get s.groups n)) (c.number.ensures ∙ ap (group_at s.groups) c.index.ensures) in
    subst (λ (o : Option ℕ). IfSome o (λ n. n < member_count s)) (sym value) (contact_within s m (sound.contacts m c.requires))

pub returns-clause-sound : goal.returns-clause-sound
returns-clause-sound c = subst IsSound c.self.view_is c.self.invariant.sound
