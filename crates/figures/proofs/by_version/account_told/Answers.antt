use Rattle.std.proofs.Common.{rules, ◌≡◌, refl, sym, subst}
use Rattle.std.specs.Prelude.{Some}
use Rattle.schema.specs.declared.schema.Version.TheVariants.{Four}
use Rattle.figures.specs.Told.{IsAccountTold}
use Rattle.figures.proofs.by_version.account_told.Goals as goal

pub returns-in_ok-account-in-Four : goal.returns-in_ok-account-in-Four
returns-in_ok-account-in-Four c =
    let four : c.args.scenario.now.version ≡ Four = search rules in
    subst (λ version. IsAccountTold version c.args.scenario.now c.args.tallies.now (Some c.in_ok-account-in-Four.account)) (sym four) (c.in_ok-account-in-Four.account, (refl, c.in_ok-account-in-Four.ensures))
