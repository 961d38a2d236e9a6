use Rattle.std.proofs.Common.{◌<◌, ap, ◌∙◌, subst}
use Rattle.std.proofs.lemmas.Option.{IfSome_then}
use Rattle.worker_queue.specs.Queue.{NoneIsBelowFor}
use Rattle.worker_queue.specs.SetOf.{set_of}
use Rattle.worker_queue.proofs.Contents.{here_content, least_content_for, none_below_for, contents_by-remove}
use Rattle.windows.specs.WorldOf.{world_of, contents_in, content_of}
use Rattle.windows.proofs.PlaySafe.{if_none, of_both, of_none, safe_of, none_safe, none_pending}
use Rattle.windows.proofs.choices.take_safe.Goals as goal

pub returns-in_err-least-clause-none : goal.returns-in_err-least-clause-none
returns-in_err-least-clause-none c = if_none _ _ (none_pending c.args.end (world_of set_of c.args.part.now) c.args.least_delay c.args.member c.in_err-least.ensures.none)

pub returns-clause-here : goal.returns-clause-here
returns-clause-here c = IfSome_then c.take_for.result c.take_for.ensures.here (λ event here. here_content content_of (set_of c.args.part.now.queue) event.key event here)

pub returns-clause-safe : goal.returns-clause-safe
returns-clause-safe c =
    of_both c.take_for.result _ _ _
    (λ event first below.
    safe_of c.args.end (world_of set_of c.args.part.now) c.in_ok-least.least c.in_ok-least.ensures.least c.args.least_delay c.args.member event.key
    (least_content_for content_of (set_of c.args.part.now.queue) c.args.member event.key first) (subst (λ bound. event.key.at < bound) c.safe_before-bound.ensures below))
    c.take_for.ensures.first c.take_for.ensures.below

pub returns-clause-taken : goal.returns-clause-taken
returns-clause-taken c = IfSome_then c.take_for.result c.take_for.ensures.taken (λ event taken. ap contents_in taken ∙ contents_by-remove content_of (set_of c.args.part.now.queue) event.key)

pub returns-clause-none : goal.returns-clause-none
returns-clause-none c =
    of_none c.take_for.result _ _
    (λ none.
    none_safe c.args.end (world_of set_of c.args.part.now) c.in_ok-least.least c.in_ok-least.ensures.least c.args.least_delay c.args.member
    (none_below_for content_of (set_of c.args.part.now.queue) c.args.member _ (subst (NoneIsBelowFor (set_of c.args.part.now.queue) c.args.member) c.safe_before-bound.ensures none)))
    c.take_for.ensures.none
