use Rattle.std.proofs.Common.{◌≡◌, false, [], ◌∷◌, Option, ap, ◌∙◌, sym, subst}
use Rattle.std.specs.Option.{option_map_or}
use Rattle.std.specs.FinMap.{contains_key}
use Rattle.base.specs.declared.key.Key.{Key}
use Rattle.scenario.specs.Setup.{crash_of, leave_of}
use Rattle.member.specs.StateOf.{pair_of}
use Rattle.member.specs.declared.event.Event.{Event}
use Rattle.windows.specs.WorldOf.{contents_in}
use Rattle.windows.proofs.Admitting.{ending_key}
use Rattle.windows.proofs.part.push_ending.Goals as goal

pub push-requires : goal.push-requires
push-requires g c =
    let s = c.args.scenario.now in
    let before = contents_in (g.Q.EventQueue.set c.args.queue.now) in
    let key = ending_key c.args.member (crash_of s c.args.member) (leave_of s c.args.member) c.in-Some.ending
    (sym (ap (λ (o : Option Event). option_map_or (λ (ending : Event). pair_of ending ∷ []) o []) c.in-Some.is) ∙ c.ending_of.ensures.event) in
    subst (λ (q : Key). contains_key before q ≡ false) (sym key.1) (c.requires.new key.0)
