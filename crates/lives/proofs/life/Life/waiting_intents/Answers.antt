use Rattle.std.proofs.Common.{◌≤◌, eqb, List, sym, subst, ◌∙◌, arith}
use Rattle.std.specs.List.{count_by}
use Rattle.incarnation.specs.declared.Update.{Update}
use Rattle.lives.proofs.Held.{none_waits}
use Rattle.lives.proofs.life.Life.waiting_intents.Goals as goal

pub returns-in-None-clause-waiting : goal.returns-in-None-clause-waiting
returns-in-None-clause-waiting c = c.new.ensures.items ∙ sym (none_waits c.args.self.now c.in-None.is c.args.limit)

pub returns-in-None-clause-each_subject_once : goal.returns-in-None-clause-each_subject_once
returns-in-None-clause-each_subject_once c subject =
    subst (λ (intents : List Update). count_by (λ intent. eqb intent.subject subject) intents ≤ 1) (sym c.new.ensures.items) (omega arith)
