use Rattle.std.proofs.Common.{◌+◌, ◌||◌, drop, ap, ◌∙◌, sym, arith}
use Rattle.json.specs.Value.{members_view}
use Rattle.drive_answers.specs.Standing.{is_named}
use Rattle.drive_answers.proofs.Walking.{members_here}
use Rattle.drive_answers.proofs.standing.is_named.Goals as goal

pub returns-then-eq : goal.returns-then-eq
returns-then-eq c =
    let xs = c.args.members.now in
    let i = c.loop-member.member-index in
    let rest = is_named c.args.name.now (members_view (drop (i + 1) xs)) in
    let here = ap (is_named c.args.name.now) (members_here xs i c.member-item.result (omega arith) c.member-item.is) in
    ap (λ b. b || rest) c.if-eq.ensures ∙ sym here ∙ c.loop-member.invariant

pub loop-member-preserved : goal.loop-member-preserved
loop-member-preserved c =
    let xs = c.args.members.now in
    let i = c.loop-member.member-index in
    let rest = is_named c.args.name.now (members_view (drop (i + 1) xs)) in
    let here = ap (is_named c.args.name.now) (members_here xs i c.member-item.result (omega arith) c.member-item.is) in
    ap (λ b. b || rest) c.if-eq.ensures ∙ sym here ∙ c.loop-member.invariant
