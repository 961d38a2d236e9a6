use Rattle.std.proofs.Common.{slice_set, get_or, false, true, ap, ◌∙◌, sym}
use Rattle.drive_world.specs.Next.{has_one_for, are_of_different}
use Rattle.drive_world.proofs.Busy.{agrees_pushed, apart_pushed}
use Rattle.drive_world.proofs.waiting.Waiting.push.Goals as goal

pub invariant_of-self-2 : goal.invariant_of-self-2
invariant_of-self-2 c =
    let busy = c.args.self.now.busy.items in
    let keys = c.args.self.now.keys.items in
    let k = c.args.key.now in
    record {
      agrees = λ m.
          ap (λ i. get_or (slice_set busy i true) m false) c.index.ensures ∙ agrees_pushed busy keys k c.requires.member c.args.self.now.agrees m
          ∙ ap (has_one_for m) (sym c.in_ok-push_back.ensures.items);
      apart = ap are_of_different c.in_ok-push_back.ensures.items ∙ apart_pushed keys k c.requires.free c.args.self.now.apart;
    }
