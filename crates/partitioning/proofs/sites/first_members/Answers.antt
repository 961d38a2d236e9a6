use Rattle.std.proofs.Common.{◌≡◌, ◌+◌, ◌<◌, ◌&&◌, not, nat_lt, nat_eq, true, false, sym, ◌∙◌, subst, Vec, Global, arith}
use Rattle.base.specs.declared.key.MemberId.{MemberId}
use Rattle.scenario.specs.Setup.{member_count}
use Rattle.partitioning.proofs.Firsts.{StandSoFar, passed_over, taken}
use Rattle.partitioning.proofs.sites.first_members.Goals.{then-begins+in_ok-push, else-begins}
use Rattle.partitioning.proofs.sites.first_members.Goals as goal

pub loop-member-preserved : goal.loop-member-preserved
loop-member-preserved c =
    let s = c.args.scenario.now in
    let firsts = c.loop-member.firsts.items in
    let next = c.loop-member.member in
    let last = c.loop-member.last in
    let group = c.group_number-group.result in
    let so_far = c.loop-member.invariant in
    let within : next < member_count s = omega arith in
    elim c.if-begins.branch [
      | then-begins+in_ok-push w ↦
          let test : (nat_lt group 64 && not (nat_eq group last)) ≡ true = sym c.begins.ensures ∙ w.if-begins.true in
          subst (λ (v : Vec MemberId Global). StandSoFar s v.items (next + 1) c.if-begins.last) (sym w.firsts-is)
          (subst (StandSoFar s w.push.new.self.items (next + 1)) (sym w.last-is)
          (taken s firsts next last group c.group_number-group.ensures so_far w.push.new.self.items within test w.in_ok-push.ensures.items))
      | else-begins w ↦
          let test : (nat_lt group 64 && not (nat_eq group last)) ≡ false = sym c.begins.ensures ∙ w.if-begins.false in
          subst (λ (v : Vec MemberId Global). StandSoFar s v.items (next + 1) c.if-begins.last) (sym w.firsts-is)
          (subst (StandSoFar s firsts (next + 1)) (sym w.last-is)
          (passed_over s firsts next last group c.group_number-group.ensures so_far test))
    ]
