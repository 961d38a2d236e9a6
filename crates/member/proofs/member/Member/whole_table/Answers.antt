use Rattle.std.proofs.Common.{ap, ◌∙◌}
use Rattle.std.specs.FinMap.{remove}
use Rattle.membership.specs.Table.{Known}
use Rattle.member.specs.StateOf.{state_of}
use Rattle.member.proofs.Holds.{put_removed, own_absent}
use Rattle.member.proofs.member.Member.whole_table.Goals as goal

pub returns-clause-state : goal.returns-clause-state
returns-clause-state c =
    let none = own_absent _ _ _ _ _ _ c.requires in
    record {
      ok =
          ap (λ (t : Known). record (state_of c.args.self.now) { table = t })
          (c.remove.ensures ∙ ap (λ t. remove t c.args.here.now.key.to) c.in_ok-set.ensures.ok ∙ put_removed _ _ _ none);
      memory = tt;
    }
