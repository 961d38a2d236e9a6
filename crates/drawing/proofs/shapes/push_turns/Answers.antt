use Rattle.std.proofs.Common.{add-one, ◌++◌, ◌∷◌, ◌∙◌, ap, arith, get_or, slice_index, sym}
use Rattle.std.specs.List.{flat_map, range_with_len}
use Rattle.std.specs.String.{string_bytes}
use Rattle.drawing.specs.Shapes.{turn}
use Rattle.drawing.proofs.Ranges.{place_more}
use Rattle.drawing.proofs.shapes.push_turns.Goals as goal

pub loop-place-preserved : goal.loop-place-preserved
loop-place-preserved c = (
  place_more (λ place. turn c.args.step c.args.most place (slice_index (0 ∷ c.args.heights.now) place) (slice_index c.args.heights.now place)) c.loop-place.place
      _ _ _ c.loop-place.invariant.0
      (c.in_ok-push_turn.ensures ∙ ap (λ last. string_bytes c.loop-place.text ++ turn c.args.step c.args.most c.loop-place.place last (slice_index c.args.heights.now c.loop-place.place)) c.loop-place.invariant.1),
  sym (ap (λ n. get_or (0 ∷ c.args.heights.now) n 0) (add-one c.loop-place.place)),
)

pub returns : goal.returns
returns c =
    c.loop-place.invariant.0
    ∙ ap (λ n. string_bytes c.args.text.now ++ flat_map (λ place. turn c.args.step c.args.most place (slice_index (0 ∷ c.args.heights.now) place) (slice_index c.args.heights.now place)) (range_with_len 0 n))
    (omega (arith, c.loop-place-test.false, c.loop-place.auto.place-end))
