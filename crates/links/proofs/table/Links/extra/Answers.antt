use Rattle.std.proofs.Common.{◌≡◌, ◌≤◌, ◌^◌, subst, sym, rules}
use Rattle.links.specs.Table.{extra_at}
use Rattle.links.proofs.table.Links.extra.Goals as goal

pub returns-in-Some-clause-extra_fits : goal.returns-in-Some-clause-extra_fits
returns-in-Some-clause-extra_fits c =
    let value : c.extra.result ≡ extra_at c.args.self.now c.args.member c.args.at = search rules in
    subst (λ n. n ≤ 2 ^ 24) (sym value) (c.args.self.now.extras_sound c.args.member c.args.at)
