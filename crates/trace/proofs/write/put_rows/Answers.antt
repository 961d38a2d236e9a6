use Rattle.std.proofs.Common.{◌≡◌, ◌-◌, ◌∙◌, ◌++◌, length, take, drop, arith, sym, add-zero, append_assoc}
use Rattle.trace.specs.Text.{rows_text}
use Rattle.trace.proofs.Beginnings.{Appends-then, beginning-first, beginning-then, beginning-of}
use Rattle.trace.proofs.RowsText.{rows_text-split, named-later, from_place}
use Rattle.trace.proofs.write.put_rows.Goals as goal

pub returns-in-Err-clause-part : goal.returns-in-Err-clause-part
returns-in-Err-clause-part g c =
    let before = c.loop-left.invariant in
    let room = c.lay_lines-start.new.room in
    let text = take (length room - c.lay_lines-start.result) (drop c.lay_lines-start.result room) in
    let later = rows_text c.args.scenario.now c.split_at.result.1.now in
    let whole =
    sym (append_assoc before.front text later)
    ∙ rows_text-split c.args.scenario.now c.loop-left.left.now _ _ _ before.front text _ c.split_at.ensures.front c.split_at.ensures.back before.whole (from_place room c.lay_lines-start.result ∙ c.lay_lines-start.ensures.laid) in
    beginning-of _ _ _ _ whole (beginning-then _ _ _ before.front (text ++ later) before.appends (beginning-first _ _ text later c.in-Err.ensures.part))

pub loop-left-preserved : goal.loop-left-preserved
loop-left-preserved g c =
    let before = c.loop-left.invariant in
    let room = c.lay_lines-start.new.room in
    let text = take (length room - c.lay_lines-start.result) (drop c.lay_lines-start.result room) in
    let stays : g.S.Sink.failed c.put_all.new.sink ≡ g.S.Sink.failed c.loop-left.sink = c.in-Ok.ensures.failures ∙ add-zero _ in
    record {
      front = before.front ++ text;
      whole = rows_text-split c.args.scenario.now c.loop-left.left.now _ _ _ before.front text _ c.split_at.ensures.front c.split_at.ensures.back before.whole (from_place room c.lay_lines-start.result ∙ c.lay_lines-start.ensures.laid);
      appends = Appends-then _ _ _ before.front text before.appends c.in-Ok.ensures.whole;
      same = stays ∙ before.same;
      named = named-later c.args.scenario.now c.loop-left.left.now _ _ c.split_at.ensures.back before.named;
      fewer = omega arith;
      room = omega arith;
    }

pub lay_lines-start-requires-clause-room : goal.lay_lines-start-requires-clause-room
lay_lines-start-requires-clause-room g c =
    let before = c.loop-left.invariant in
    omega (arith, c.min.ensures, c.requires.room, before.room, before.fewer, c.split_at.ensures.front_len)
