use Rattle.std.proofs.Common.{◌<◌, List, length, ap, ◌∙◌, arith}
use Rattle.streams.specs.Draw.{Words, words_of}
use Rattle.script_draws.specs.Turns.{behind}
use Rattle.plain_entries.specs.declared.plain.Plain.{Plain}
use Rattle.plain_entries.specs.Entries.{made_again, members_of, start_in}
use Rattle.plain_entries.proofs.Turns.{made_again-append, at_turn, turn_made, no_room, met}
use Rattle.plain_entries.proofs.listing.add_members.Goals as goal

pub returns-in_err-add_member-clause-too_many : goal.returns-in_err-add_member-clause-too_many
returns-in_err-add_member-clause-too_many g c = λ failed.
    let same = met c.from_residual.result c.add_member.result c.in_err-add_member.field-0.0 _ c.from_residual.ensures.1 c.in_err-add_member.was failed in
    let more = c.add_member.ensures.too_many same in
    let known = c.requires.known c.loop-k.k c.index-members-k.result c.loop-k-test.true in
    let here = c.index-members-k.is in
    let place = c.index.ensures in
    let low : c.index.result < length c.args.starts.now = omega (arith, known, here, place) in
    let turn = at_turn g.W.When.timing c.args.entry c.loop-k.k c.index-members-k.result c.index.result c.index-starts-index.result c.args.when.now c.args.members.now c.args.starts.now
    (words_of c.loop-k.drawing.stream) here place c.index-starts-index.is low in
    let made = ap (λ (p : List (Plain _) × Words). made_again p.0) turn in
    let all = no_room _ _ _ _ _ _ _ _ c.index-members-k.result c.loop-k.invariant c.loop-k-test.true (omega (arith, more, made)) in
    let joined = made_again-append c.args.made.now.items (members_of g.W.When.timing (start_in c.args.starts.now) c.args.entry c.args.when.now c.args.members.now (words_of c.args.drawing.now.stream)).0 in
    omega (arith, all, joined)

pub loop-k-preserved : goal.loop-k-preserved
loop-k-preserved g c =
    let known = c.requires.known c.loop-k.k c.index-members-k.result c.loop-k-test.true in
    let here = c.index-members-k.is in
    let place = c.index.ensures in
    let low : c.index.result < length c.args.starts.now = omega (arith, known, here, place) in
    let turn = at_turn g.W.When.timing c.args.entry c.loop-k.k c.index-members-k.result c.index.result c.index-starts-index.result c.args.when.now c.args.members.now c.args.starts.now
    (words_of c.loop-k.drawing.stream) here place c.index-starts-index.is low in
    turn_made _ _ _ _ _ _ _ _ c.index-members-k.result _ _ _ c.loop-k.invariant c.loop-k-test.true
    (c.in_ok-add_member.ensures.made ∙ ap (behind c.loop-k.made.items) turn) c.in_ok-add_member.ensures.room
