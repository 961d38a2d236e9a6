use Rattle.std.proofs.Common.{◌≤◌, eqb, ap, ◌∙◌, arith}
use Rattle.std.specs.List.{count_by}
use Rattle.incarnation.specs.declared.Update.{Update}
use Rattle.member.specs.Riding.{intents_that_fit}
use Rattle.member.proofs.FittingOnes.{fitting_few}
use Rattle.member.proofs.member.Member.pick_intents.Goals as goal

pub carry_intents-requires : goal.carry_intents-requires
carry_intents-requires c = record {
  once =
      λ subject.
      let s = c.args.here.now.scenario.now in
      let test = λ (u : Update). eqb u.subject subject in
      let waiting = c.in_ok-waiting-in-Bytes.waiting.items in
      let same = ap (count_by test) (c.deref-in-Bytes.ensures.value ∙ c.in_ok-fitting-in-Bytes.ensures.fitting ∙ ap (intents_that_fit s c.args.room) c.deref.ensures.value) in
      let few = fitting_few s test c.args.room waiting in
      let once : count_by test waiting ≤ 1 = c.in_ok-waiting-in-Bytes.ensures.each_subject_once subject in
      omega (arith, same, few, once);
}
