use Rattle.std.proofs.Common.{sym, ◌∙◌}
use Rattle.member.specs.StateOf.{state_of}
use Rattle.member.proofs.Ridings.{nothing_rides, nothing_changes}
use Rattle.member.proofs.member.Member.pick_both.Goals as goal

pub returns-then-is_all_told-clause-updates : goal.returns-then-is_all_told-clause-updates
returns-then-is_all_told-clause-updates c =
    c.of.ensures
    ∙ c.new.ensures.items
    ∙ nothing_rides c.args.here.now.scenario.now c.args.here.now.key.to c.args.bearer (state_of c.args.self.now) (sym c.is_all_told.ensures ∙ c.if-is_all_told.true)

pub returns-then-is_all_told-clause-state : goal.returns-then-is_all_told-clause-state
returns-then-is_all_told-clause-state c =
    record {
      ok = nothing_changes c.args.here.now.scenario.now c.args.here.now.key.to c.args.bearer (state_of c.args.self.now) (sym c.is_all_told.ensures ∙ c.if-is_all_told.true);
      memory = tt;
    }
