use Rattle.std.proofs.Common.{◌≡◌, ◌∷◌, [], ◌++◌, map, refl, ap, ◌∙◌, sym, subst, append-nil}
use Rattle.board.specs.Deal.{hand}
use Rattle.board.specs.Posts.{dealt_at, record_at, taken_at}
use Rattle.parallel_run.specs.Processes.{account_entry}
use Rattle.parallel_run.specs.Returned.{ended_entry}
use Rattle.parallel_run.proofs.Dealing.{back_more}
use Rattle.parallel_run.proofs.closing.take_back.Goals as goal

pub loop-init : goal.loop-init
loop-init g c = record {
  can = tt;
  dealt = refl;
  taken = sym (ap (λ l. taken_at c.args.post.now ++ map ended_entry l) c.new-senders.ensures.items ∙ append-nil (taken_at c.args.post.now));
}

pub loop-preserved : goal.loop-preserved
loop-preserved g c =
    let was = c.loop.invariant in
    let one = c.in-Some-Ended.lines.lots in
    let is = subst (λ item. record_at c.take.new.self ≡ hand 1 (dealt_at c.loop.post) (taken_at c.loop.post ++ account_entry item ∷ [])) c.in-Some-Ended.field-0-is c.in-Some-Ended.ensures.item.0 in
    let more = back_more (record_at c.args.post.now) (record_at c.loop.post) (record_at c.take.new.self) c.loop.senders.items c.push.new.self.items one was.dealt was.taken is c.in_ok-push-in-Some-Ended.ensures.items in
    record { can = tt; dealt = more.0; taken = more.1 }
