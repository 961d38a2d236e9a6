use Rattle.std.proofs.Common.{subst, sym}
use Rattle.std.specs.Prelude.{IfSome, All, IfOk}
use Rattle.trace.specs.Text.{NamesMembers}
use Rattle.reports.specs.Accounts.{IsAccountOf}
use Rattle.reports.specs.Watched.{IsWatchOf}
use Rattle.reports.proofs.Accounting.{same_cluster, if_ok_more}
use Rattle.reports.proofs.tallies.Tallies.account.Goals as goal

pub of-requires-2-clause-cluster : goal.of-requires-2-clause-cluster
of-requires-2-clause-cluster c = same_cluster _ _ c.args.scenario.now c.in_ok-cluster.ensures.is c.in_ok-watch.ensures.cluster

pub of-requires-2-clause-named : goal.of-requires-2-clause-named
of-requires-2-clause-named c = (
  c.self.inside.past,
  subst (λ o. IfSome o (λ w. IsWatchOf w c.self.inside.past)) c.in_ok-watch.ensures.kept c.self.invariant.4,
  subst (All (NamesMembers c.args.scenario.now)) (sym c.self.view_is) c.requires,
)

pub returns : goal.returns
returns c =
    subst (λ rows. IfOk c.of-2.result (λ account. IsAccountOf account c.args.scenario.now rows)) c.self.view_is
    (if_ok_more c.of-2.result (λ account is. is c.self.inside.past (subst (λ o. IfSome o (λ w. IsWatchOf w c.self.inside.past)) c.in_ok-watch.ensures.kept c.self.invariant.4)) c.of-2.ensures)
