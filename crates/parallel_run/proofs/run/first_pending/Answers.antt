use Rattle.std.proofs.Common.{◌≡◌, ◌↔◌, ℕ, ◌+◌, List, [], ◌∷◌, ◌++◌, take, Option, ap, ◌∙◌, sym, subst, arith}
use Rattle.std.specs.List.{AllByRecursion}
use Rattle.std.proofs.lemmas.List.{take_more}
use Rattle.base.proofs.Rising.{all_append}
use Rattle.lookahead_windows.specs.Starts.{IsUpTo}
use Rattle.worker_queue.specs.Queue.{NoneIsBelow}
use Rattle.windows.specs.WorldOf.{world_of}
use Rattle.parallel_run.proofs.run.first_pending.Goals as goal

first_ones : {A : Type 0} (P : A → Type 0) (xs : List A) (y : A) → AllByRecursion P (xs ++ y ∷ []) → AllByRecursion P xs × P y
first_ones P [] y all = (tt, all.0)
first_ones P (x ∷ xs) y all = let rest = first_ones P xs y all.1 in ((all.0, rest.0), rest.1)

-- one part more
one_more : {A : Type 0} (P : ℕ → A → Type 0) (xs all : List A) (y : A) (least here first : Option ℕ) → all ≡ xs ++ y ∷ [] → ((t : ℕ) → AllByRecursion (P t) xs ↔ IsUpTo least t) → ((t : ℕ) → P t y ↔ IsUpTo here t)
    → ((t : ℕ) → (IsUpTo least t × IsUpTo here t) ↔ IsUpTo first t) → (t : ℕ) → AllByRecursion (P t) all ↔ IsUpTo first t
one_more P xs all y least here first same so_far is lesser t = (
  λ each. let both = first_ones (P t) xs y (subst (AllByRecursion (P t)) same each) in (lesser t).0 ((so_far t).0 both.0, (is t).0 both.1),
  λ up. let both = (lesser t).1 up in subst (AllByRecursion (P t)) (sym same) (all_append (P t) xs (y ∷ []) ((so_far t).1 both.0) ((is t).1 both.1, tt)),
)

pub loop-part-preserved : goal.loop-part-preserved
loop-part-preserved g c = record {
  first =
      one_more (λ t p. NoneIsBelow (world_of g.Q.EventQueue.set p).pending t) (take c.loop-part.part-index c.args.parts.now) (take (c.loop-part.part-index + 1) c.args.parts.now) c.part-item.result c.loop-part.first c.first_moment_of.result c.lesser_moment-first.result
      (take_more c.args.parts.now c.loop-part.part-index c.part-item.result (omega arith) ∙ ap (λ p. take c.loop-part.part-index c.args.parts.now ++ p ∷ []) (sym c.part-item.is)) c.loop-part.invariant.first c.first_moment_of.ensures c.lesser_moment-first.ensures;
}
