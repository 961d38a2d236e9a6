use Rattle.std.proofs.Common.{◌≡◌, ◌+◌, ℕ, map, length, ap, sym, ◌∙◌, arith, if◌then◌else◌}
use Rattle.std.proofs.lemmas.Result.{on_ok_weaker}
use Rattle.streams.specs.Draw.{words_of}
use Rattle.plain_entries.specs.Entries.{made_again, plain_at}
use Rattle.plain_entries.proofs.Turns.{made_again-append, made_again-all, made_again-times, room_kept, met}
use Rattle.plain_entries.proofs.listing.add_member.Goals as goal

pub returns-in_err-times-clause-too_many : goal.returns-in_err-times-clause-too_many
returns-in_err-times-clause-too_many g c = λ failed.
    let same = met c.from_residual.result c.times.result c.in_err-times.field-0.0 _ c.from_residual.ensures.1 c.in_err-times.was failed in
    let again = c.times.ensures.again same in
    let more = c.times.ensures.too_many same in
    let all = made_again-all c.args.turn.now.entry c.args.turn.now.member (g.W.When.timing.recurs c.args.when.now)
    (g.W.When.timing.times c.args.when.now c.args.turn.now.k c.args.turn.now.start (words_of c.args.drawing.now.stream)).0 again in
    omega (arith, more, all)

pub returns-clause-room : goal.returns-clause-room
returns-clause-room g c =
    let counted = made_again-times c.args.turn.now.entry c.args.turn.now.member c.recurs-again.result c.as_slice.result.now in
    let joined = made_again-append c.args.made.now.items (map (plain_at c.args.turn.now.entry c.args.turn.now.member c.recurs-again.result) c.as_slice.result.now) in
    let as_slice = c.as_slice.ensures.len in
    let len = c.len.ensures in
    let long : length c.as_slice.result.now ≡ c.len.result = omega (arith, as_slice, len) in
    let used = c.made_by_every.ensures ∙ ap (λ (n : ℕ). if c.recurs-again.result then n else 0) (sym long) in
    on_ok_weaker c.add_times.result (λ made.
    room_kept c.recurs-again.result c.args.drawing.now.room c.made_by_every.result (length c.as_slice.result.now) (made_again c.args.made.now.items) (made_again c.add_times.new.made.items)
    used
    (λ again. let low = c.in_ok-times.ensures.within (sym c.recurs-again.ensures ∙ again) in omega (arith, low, as_slice))
    (ap made_again made ∙ joined ∙ ap (λ n. made_again c.args.made.now.items + n) counted)) c.add_times.ensures.made
