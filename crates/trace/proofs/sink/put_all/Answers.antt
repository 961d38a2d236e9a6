use Rattle.std.proofs.Common.{arith, ◌≡◌, ◌+◌, ◌-◌, Ok, ◌++◌, ◌∙◌, ℕ, List, length, take, drop, ap, append_assoc, take-append-drop}
use Rattle.std.proofs.lemmas.List.{take_rest}
use Rattle.std.proofs.lemmas.Grind.{common_steps}
use Rattle.trace.specs.Sinks.{failures_of_put}
use Rattle.trace.proofs.Beginnings.{Appends-then}
use Rattle.trace.proofs.sink.put_all.Goals as goal

-- what a put took goes from what is left to what was put
moves_front : (all front left : List ℕ) (n : ℕ) → front ++ left ≡ all → (front ++ take n left) ++ take (length left - n) (drop n left) ≡ all
moves_front all front left n whole =
    ap (λ l. (front ++ take n left) ++ l) (take_rest left n) ∙ append_assoc front (take n left) (drop n left) ∙ ap (λ l. front ++ l) (take-append-drop n left) ∙ whole

-- a put that took some bytes has not failed
no_failure : (n : ℕ) (bytes : List ℕ) (a b c : ℕ) → (n ≡ 0 → ⊥) → b ≡ a → c ≡ b + failures_of_put {E = ℕ} (Ok n) bytes → c ≡ a
no_failure n bytes a b c some before after = grind (arith, common_steps)

pub loop-left-preserved : goal.loop-left-preserved
loop-left-preserved g c =
    let before = c.loop-left.invariant in
    let left = c.loop-left.left.now in
    let n = c.in-Ok.taken in
    record {
      front = before.front ++ take n left;
      whole = moves_front _ before.front left n before.whole;
      appends = Appends-then _ _ _ before.front (take n left) before.appends c.in-Ok.ensures.taken;
      same = no_failure n left _ _ _ c.in-Ok.taken-test.1 before.same c.in-Ok.ensures.failures;
    }
