use Rattle.std.proofs.Common.{◌++◌, length, Some, ap, ◌∙◌}
use Rattle.std.proofs.lemmas.List.Elements.{All-pop}
use Rattle.board.specs.Posts.{HasNone, dealt_at, record_at}
use Rattle.parallel_run.proofs.Dealing.{own_deals}
use Rattle.parallel_run.proofs.ClosingEndings.{if_same}
use Rattle.parallel_run.proofs.run.at_board.Goals as goal

pub returns-clause-trace : goal.returns-clause-trace
returns-clause-trace g c = c.relays_closed-ended.ensures.keeps _ _ _ _ _ c.run_threads-ended.ensures.trace

pub returns-clause-gathered : goal.returns-clause-gathered
returns-clause-gathered g c = if_same c.relays_closed-ended.result.0 c.run_threads-ended.result.0 _ c.relays_closed-ended.ensures.same c.run_threads-ended.ensures.gathered

pub returns-clause-own : goal.returns-clause-own
returns-clause-own g c =
    own_deals (length c.args.relays.now) c.relays_closed-ended.result.0 c.seats_back.result (record_at c.in-Some.own) (record_at c.deal_all.new.post) (record_at c.run_threads-ended.result.1) c.run_threads-ended.result.3.senders
    (All-pop HasNone c.in_ok-posts.posts.items c.pop.new.self.items (Some c.in-Some.own) c.in-Some.ensures.items c.in_ok-posts.ensures.none).1
    (c.in_ok-deal_all.ensures.dealt ∙ ap (λ l. dealt_at c.in-Some.own ++ l) c.requires.numbers) c.in_ok-deal_all.ensures.taken c.run_threads-ended.ensures.back c.relays_closed-ended.ensures.back c.seats_back.ensures.own
