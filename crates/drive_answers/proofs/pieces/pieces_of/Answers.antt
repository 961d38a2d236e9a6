use Rattle.std.proofs.Common.{◌≡◌, ℕ, List, ◌≤◌, ◌<◌, ◌+◌, ◌++◌, ◌∙◌, ap, sym, subst, append_assoc, drop, length, get_or, arith}
use Rattle.json.specs.Lex.{class}
use Rattle.drive_answers.specs.Modes.{mode_of, is_begun, begun_at, texts_of}
use Rattle.drive_answers.specs.Pieces.{Piece, pieces_from, ended, mode_after}
use Rattle.drive_answers.proofs.Cutting.{cut_more, cut_end, begun_within}
use Rattle.drive_answers.proofs.pieces.pieces_of.Goals as goal

pub loop-place-preserved : goal.loop-place-preserved
loop-place-preserved c =
    let l = c.loop-place in
    let text = c.args.text.now in
    let next = c.mode_after-next.result in
    let x = get_or text l.place 0 in
    let within : l.place < length text = omega (arith, c.loop-place-test.true) in
    let classed = c.class_of-class.ensures in
    let after : mode_of next ≡ mode_after (mode_of l.mode) (class x) = c.mode_after-next.ensures ∙ ap (mode_after (mode_of l.mode)) classed in
    let begun = c.begun_after-begun.ensures in
    let made = texts_of l.pieces.items in
    let over = ended (mode_of l.mode) (class x) x (begun_at l.mode l.begun l.place text) in
    let pushed = c.in_ok-push_ended.ensures ∙ ap (λ k. made ++ ended (mode_of l.mode) k x (begun_at l.mode l.begun l.place text)) classed in
    let later : ℕ → List Piece = λ n. pieces_from (mode_of next) (begun_at next n (l.place + 1) text) (drop (l.place + 1) text) in
    record {
      order = subst (λ n. n ≤ l.place + 1) (sym begun) (begun_within (is_begun l.mode next) l.begun l.place l.invariant.order);
      all = ap (λ ps. ps ++ later c.begun_after-begun.result) pushed ∙ append_assoc made over (later c.begun_after-begun.result)
          ∙ ap (λ n. made ++ (over ++ later n)) begun ∙ ap (λ ps. made ++ ps) (sym (cut_more l.mode next text l.begun l.place l.invariant.order within after)) ∙ l.invariant.all;
    }

pub returns : goal.returns
returns c =
    let l = c.loop-place in
    c.in_ok-push_last.ensures
    ∙ ap (λ ps. texts_of l.pieces.items ++ ps) (sym (cut_end l.mode c.args.text.now l.begun l.place (omega (arith, c.loop-place-test.false, c.loop-place.auto.place-end))))
    ∙ l.invariant.all
