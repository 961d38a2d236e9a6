use Rattle.std.proofs.Common.{refl}
use Rattle.sweep.proofs.Sharing.{one_shared}
use Rattle.sweep.proofs.shares.share_out.Goals as goal

pub returns-in_ok-push : goal.returns-in_ok-push
returns-in_ok-push c = λ first low are.
    one_shared first c.args.from c.args.till (record { from = c.args.from; till = c.args.till }) c.args.shares.now.items c.push.new.self.items low c.requires refl refl c.in_ok-push.ensures.items are
