use Rattle.std.proofs.Common.{◌≡◌, ◌<◌, ◌≤◌, ◌^◌, ℕ, nat_eq, Option, IfSome, subst, sym, ap, ◌∙◌}
use Rattle.std.specs.List.{find}
use Rattle.std.specs.Option.{option_map}
use Rattle.scenario.specs.Setup.{leave_of, start_of, IsSound}
use Rattle.scenario.specs.declared.settings.Leave.{Leave}
use Rattle.scenario.proofs.Members.{some_so}
use Rattle.scenario.proofs.scenario.Scenario.leave.Goals as goal

pub returns-clause-small : goal.returns-clause-small
returns-clause-small c =
    let m = c.args.member in
    let s = c.args.self.now in
    let sound : IsSound s = subst IsSound c.self.view_is c.self.invariant.sound in
    let value : c.leave_of.result ≡ leave_of s m =
    c.leave_of.ensures ∙ ap (λ n. option_map (λ (e : Leave). e.at) (find (λ (e : Leave). nat_eq e.member n) c.as_slice.result.now)) c.index.ensures
    ∙ ap (λ cs. option_map (λ (e : Leave). e.at) (find (λ (e : Leave). nat_eq e.member m) cs)) c.as_slice.ensures.value ∙ ap (λ t. leave_of t m) c.self.view_is in
    subst (λ (o : Option ℕ). IfSome o (λ t. t ≤ 2 ^ 40)) (sym value) (some_so (λ t. (start_of s m < t) × (t ≤ 2 ^ 40)) (λ t. t ≤ 2 ^ 40) (leave_of s m) (sound.leaves m) (λ t both. both.1))

pub returns-clause-sound : goal.returns-clause-sound
returns-clause-sound c = subst IsSound c.self.view_is c.self.invariant.sound
