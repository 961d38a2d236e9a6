use Rattle.std.proofs.Common.{◌≡◌, ◌++◌, ◌∷◌, [], map, append_assoc, ap, ◌∙◌, sym, subst, refl}
use Rattle.std.specs.List.{AllByRecursion}
use Rattle.base.proofs.Rising.{all_append}
use Rattle.std.proofs.lemmas.List.{map-append}
use Rattle.turns.proofs.bounds.bound_all.Goals as goal

pub loop-part-preserved : goal.loop-part-preserved
loop-part-preserved g c =
    record {
      left = append_assoc c.loop-part.yielded (c.in-Some.part ∷ []) c.next.new.self.rest.items ∙ ap (λ ps. c.loop-part.yielded ++ ps) (sym c.in-Some.ensures.steps.0) ∙ c.loop-part.invariant.left;
      parts = ap (λ l. map (λ b. b.part) l) c.in_ok-push.ensures.items ∙ map-append (λ b. b.part) c.loop-part.bounded.items _ ∙ ap (λ l. l ++ c.in-Some.part ∷ []) c.loop-part.invariant.parts;
      bounds = subst (AllByRecursion (λ b. b.bound ≡ c.args.bound)) (sym c.in_ok-push.ensures.items) (all_append _ c.loop-part.bounded.items _ c.loop-part.invariant.bounds (refl, tt));
    }
