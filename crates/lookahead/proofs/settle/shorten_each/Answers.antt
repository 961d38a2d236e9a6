use Rattle.std.proofs.Common.{◌≡◌, ℕ, ◌+◌, ◌*◌, ◌<◌, ◌≤◌, ◌/◌, ◌%◌, Bool, true, false, List, Option, sym, ◌∙◌, subst, arith, inl, inr}
use Rattle.std.specs.Bool.{OnTrue, OnFalse}
use Rattle.std.proofs.lemmas.Bool.{cases_lt}
use Rattle.lookahead.specs.Lengths.{weight, IsSettledAt}
use Rattle.lookahead.proofs.settle.shorten_each.Invariants.{IsSettledUpTo}
use Rattle.lookahead.proofs.settle.shorten_each.Goals as goal
use Rattle.lookahead.proofs.settle.shorten_each.Goals.{then-shorten, else-shorten}

-- the place of two parts, and the parts of a place
parts_of_place : (from to place : ℕ) → to < 64 → 64 * from + to < place + 1 → place ≤ 64 * from + to → (from ≡ place / 64) × (to ≡ place % 64)
parts_of_place from to place low below past = (omega arith, omega arith)

settled_more : (before lengths new : List (Option ℕ)) (parts place : ℕ) → IsSettledUpTo parts place before lengths → new ≡ lengths → IsSettledAt parts lengths (place / 64) (place % 64) → IsSettledUpTo parts (place + 1) before new
settled_more before lengths new parts place so_far same here = record {
  same = same ∙ so_far.same;
  settled = λ from to low below up. elim (cases_lt (64 * from + to) place) as (λ _. IsSettledAt parts before from to) [
    | inl a ↦ so_far.settled from to low below a
    | inr b ↦ (
        let here_is = parts_of_place from to place below up b in
        subst (λ x. IsSettledAt parts before x to) (sym here_is.0) (subst (λ y. IsSettledAt parts before (place / 64) y) (sym here_is.1) (subst (λ t. IsSettledAt parts t (place / 64) (place % 64)) so_far.same here)))
  ];
}

-- past the last place, all
settled_all : (was : Bool) (before lengths : List (Option ℕ)) (parts place : ℕ) → place ≡ parts * 64 → OnFalse was (IsSettledUpTo parts place before lengths) → OnFalse was ((from to : ℕ) → from < parts → to < 64 → IsSettledAt parts lengths from to)
settled_all true before lengths parts place all so_far = tt
settled_all false before lengths parts place all so_far = λ from to here there.
    let below : 64 * from + to < place = omega arith in
    subst (λ t. IsSettledAt parts t from to) (sym so_far.same) (so_far.settled from to here there below)

still_settled : (was : Bool) (before lengths new : List (Option ℕ)) (parts place : ℕ) → OnFalse was (IsSettledUpTo parts place before lengths) → new ≡ lengths → IsSettledAt parts lengths (place / 64) (place % 64) → OnFalse was (IsSettledUpTo parts (place + 1) before new)
still_settled true before lengths new parts place so_far same here = tt
still_settled false before lengths new parts place so_far same here = settled_more before lengths new parts place so_far same here

still_less : (was : Bool) (before lengths new : List (Option ℕ)) → OnTrue was (weight lengths < weight before) → new ≡ lengths → OnTrue was (weight new < weight before)
still_less true before lengths new so_far same = subst (λ t. weight t < weight before) (sym same) so_far
still_less false before lengths new so_far same = tt

pub loop-place-preserved : goal.loop-place-preserved
loop-place-preserved c =
    let before = c.args.lengths.now in
    let lengths = c.loop-place.lengths in
    let new = c.shorten.new.lengths in
    let place = c.loop-place.place in
    let parts = c.args.parts in
    let so_far = c.loop-place.invariant in
    let less : c.shorten.result ≡ true → weight new < weight lengths = λ is. subst (λ b. OnTrue b (weight new < weight lengths)) is c.shorten.ensures.less in
    let same : c.shorten.result ≡ false → new ≡ lengths = λ is. subst (λ b. OnFalse b (new ≡ lengths)) is c.shorten.ensures.same in
    let here : c.shorten.result ≡ false → IsSettledAt parts lengths (place / 64) (place % 64) = λ is. subst (λ b. OnFalse b (IsSettledAt parts lengths (place / 64) (place % 64))) is c.shorten.ensures.settled in
    record {
      walks = λ s division between are. c.shorten.ensures.walks s division between (so_far.walks s division between are);
      settled = elim c.if-shorten.branch [
        | then-shorten w ↦ subst (λ b. OnFalse b (IsSettledUpTo parts (place + 1) before new)) (sym w.shortened-is) tt
        | else-shorten w ↦ subst (λ b. OnFalse b (IsSettledUpTo parts (place + 1) before new)) (sym w.shortened-is)
            (still_settled c.loop-place.shortened before lengths new parts place so_far.settled (same w.if-shorten.false) (here w.if-shorten.false))
      ];
      less = elim c.if-shorten.branch [
        | then-shorten w ↦ subst (λ b. OnTrue b (weight new < weight before)) (sym w.shortened-is) (let few = less w.if-shorten.true in omega (arith, so_far.no_more))
        | else-shorten w ↦ subst (λ b. OnTrue b (weight new < weight before)) (sym w.shortened-is) (still_less c.loop-place.shortened before lengths new so_far.less (same w.if-shorten.false))
      ];
      no_more = elim c.if-shorten.branch [
        | then-shorten w ↦ (let few = less w.if-shorten.true in omega (arith, so_far.no_more))
        | else-shorten w ↦ subst (λ t. weight t ≤ weight before) (sym (same w.if-shorten.false)) so_far.no_more
      ];
    }

pub returns-clause-settled : goal.returns-clause-settled
returns-clause-settled c =
    let all : c.loop-place.place ≡ c.args.parts * 64 = omega arith in
    settled_all c.loop-place.shortened c.args.lengths.now c.loop-place.lengths c.args.parts c.loop-place.place all c.loop-place.invariant.settled
