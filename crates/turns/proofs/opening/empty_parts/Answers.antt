use Rattle.std.proofs.Common.{◌≡◌, ◌∷◌, [], ap, ◌∙◌, sym, subst, arith}
use Rattle.std.specs.List.{AllByRecursion}
use Rattle.std.specs.FinMap.{empty}
use Rattle.base.proofs.Rising.{all_append}
use Rattle.worker_queue.specs.SetOf.{set_of}
use Rattle.windows.specs.WorldOf.{world_of, contents_in, content_of}
use Rattle.worker_queue.proofs.Contents.{contents_by-empty}
use Rattle.windows.specs.Several.{numbers_of}
use Rattle.turns.specs.Parts.{nobody, CountFrom}
use Rattle.turns.proofs.Admitted.{one_more_counted}
use Rattle.turns.proofs.opening.empty_parts.Goals as goal

pub loop-number-preserved : goal.loop-number-preserved
loop-number-preserved c = record {
  count = omega (arith, c.in_ok-push.ensures.len);
  numbered =
      subst (λ parts. CountFrom 0 (numbers_of parts)) (sym c.in_ok-push.ensures.items)
      (one_more_counted 0 c.loop-number.parts.items c.new-part.result c.loop-number.invariant.numbered (omega (arith, c.new-part.ensures.number, c.loop-number.invariant.count)));
  empty =
      subst (AllByRecursion (λ part. world_of set_of part ≡ nobody)) (sym c.in_ok-push.ensures.items)
      (all_append (λ part. world_of set_of part ≡ nobody) c.loop-number.parts.items (c.new-part.result ∷ []) c.loop-number.invariant.empty
      (c.new-part.ensures.world ∙ ap (λ events. record { members = empty; pending = events }) (ap contents_in c.new.ensures ∙ contents_by-empty content_of), tt));
}
