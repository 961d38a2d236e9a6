use Rattle.std.proofs.Common.{ℕ, Result, refl, inl, inr, subst}
use Rattle.toml.specs.View.{view}
use Rattle.written_values.specs.Values.{SaysTicksIn}
use Rattle.written_values.specs.declared.fault.ValueFault.{ValueFault}
use Rattle.written_groups.proofs.values.number_in.Goals as goal

pub returns-in-Ok : goal.returns-in-Ok
returns-in-Ok c = inl (subst (λ (r : Result ℕ ValueFault). SaysTicksIn c.args.tick c.args.least c.args.most (view c.args.value.now) r) c.in-Ok.is c.ticks_in.ensures)

pub returns-in-Err : goal.returns-in-Err
returns-in-Err c =
    inr (refl, (_, subst (λ (r : Result ℕ ValueFault). SaysTicksIn c.args.tick c.args.least c.args.most (view c.args.value.now) r) c.in-Err.is c.ticks_in.ensures))
