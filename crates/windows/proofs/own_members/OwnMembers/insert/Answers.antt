use Rattle.std.proofs.Common.{◌≡◌, [], ◌∷◌, ◌++◌, ap, ◌∙◌, sym, subst}
use Rattle.std.specs.FinMap.{insert}
use Rattle.member.specs.StateOf.{state_of}
use Rattle.windows.specs.ByNumber.{states_of}
use Rattle.windows.proofs.Slots.{push_in_a_row}
use Rattle.windows.proofs.own_members.OwnMembers.insert.Goals as goal

pub returns-then-is_next : goal.returns-then-is_next
returns-then-is_next c =
    let own = c.args.self.now in
    let members = own.members.items in
    let number = c.index-number.result in
    let x = c.args.member in
    let empty = c.is_next.ensures.order c.if-is_next.true in
    let next = c.is_next.ensures.next c.if-is_next.true in
    ap (states_of own.places.items) c.in_ok-push.ensures.items
    ∙ subst (λ places. states_of places (members ++ x ∷ []) ≡ insert (states_of places members) number (state_of x)) (sym empty) (push_in_a_row members number x next)
    ∙ ap (λ q. insert (states_of own.places.items members) q (state_of x)) c.index-number.ensures
