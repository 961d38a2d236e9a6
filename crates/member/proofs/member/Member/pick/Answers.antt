use Rattle.std.proofs.Common.{sym, ap, ◌∙◌}
use Rattle.piggyback.specs.Picked.{picked}
use Rattle.piggyback.proofs.Holding.{picked-empty, left-empty}
use Rattle.member.specs.StateOf.{state_of}
use Rattle.member.specs.Send.{limit_of}
use Rattle.member.proofs.member.Member.pick.Goals as goal

pub returns-then-is_empty-clause-updates : goal.returns-then-is_empty-clause-updates
returns-then-is_empty-clause-updates c =
    let scenario = c.args.here.now.scenario.now in
    let state = state_of c.args.self.now in
    c.of.ensures
    ∙ c.new.ensures.items
    ∙ sym (picked-empty state.buffer scenario.swim.carry (limit_of scenario state) c.args.buddy (c.is_empty.ensures.0 c.if-is_empty.true) c.if-is_none.ensures)

pub returns-then-is_empty-clause-state : goal.returns-then-is_empty-clause-state
returns-then-is_empty-clause-state c =
    let scenario = c.args.here.now.scenario.now in
    let state = state_of c.args.self.now in
    let limit = limit_of scenario state in
    record {
      ok = ap (λ buffer. record state { buffer = buffer }) (sym (left-empty state.buffer (picked state.buffer scenario.swim.carry limit c.args.buddy) limit (c.is_empty.ensures.0 c.if-is_empty.true)));
      memory = tt;
    }
