use Rattle.std.proofs.Common.{◌≡◌, ◌++◌, ◌∷◌, [], List, All, true, false, append_assoc, rules, sym, ap, subst, ◌∙◌}
use Rattle.std.specs.List.{list_any}
use Rattle.sweep_plan.specs.Keys.{sets_again}
use Rattle.sweep_plan.specs.Sweep.{KeyValues}
use Rattle.sweep_plan.specs.Asked.{AreApart, IsSwept}
use Rattle.sweep_plan.proofs.Gathered.{apart_more, set_twice}
use Rattle.sweep_plan.proofs.plan.push_axis.Goals as goal

pub returns-then-is_taken-clause-refused : goal.returns-then-is_taken-clause-refused
returns-then-is_taken-clause-refused c =
    let old = c.args.swept_keys.now.items in
    let swept_keys = c.loop-swept.swept_keys.items in
    let s = c.in-Some.swept in
    let rest = c.next.new.self.rest.items in
    let twice : list_any (λ t. sets_again s.key t.key) swept_keys ≡ true =
    ap (λ k. list_any (λ t. sets_again k t.key) swept_keys) (sym c.key.ensures) ∙ ap (λ l. list_any (λ t. sets_again c.key.result t.key) l) (sym c.deref.ensures.value) ∙ sym c.in-Ok.ensures ∙ c.if-is_taken.true in
    let all : c.args.axis.items ≡ c.loop-swept.yielded ++ s ∷ rest = search rules in
    let whole : old ++ c.args.axis.items ≡ swept_keys ++ s ∷ rest =
    ap (λ l. old ++ l) all ∙ sym (append_assoc old c.loop-swept.yielded (s ∷ rest)) ∙ ap (λ l. l ++ s ∷ rest) (sym c.loop-swept.invariant.so_far) in
    (λ apart. set_twice swept_keys s rest (subst (λ (l : List KeyValues). All IsSwept l) whole c.requires.known) twice (subst (λ (l : List KeyValues). AreApart l) whole apart))

pub loop-swept-preserved : goal.loop-swept-preserved
loop-swept-preserved c =
    let old = c.args.swept_keys.now.items in
    let swept_keys = c.loop-swept.swept_keys.items in
    let s = c.in-Some.swept in
    let rest = c.next.new.self.rest.items in
    let none : list_any (λ t. sets_again s.key t.key) swept_keys ≡ false =
    ap (λ k. list_any (λ t. sets_again k t.key) swept_keys) (sym c.key.ensures) ∙ ap (λ l. list_any (λ t. sets_again c.key.result t.key) l) (sym c.deref.ensures.value) ∙ sym c.in-Ok.ensures ∙ c.if-is_taken.false in
    let all : c.args.axis.items ≡ c.loop-swept.yielded ++ s ∷ rest = search rules in
    let pushed : c.push.new.self.items ≡ swept_keys ++ s ∷ [] = search rules in
    record {
      so_far = pushed ∙ ap (λ l. l ++ s ∷ []) c.loop-swept.invariant.so_far ∙ append_assoc old c.loop-swept.yielded (s ∷ []);
      all = all ∙ sym (append_assoc c.loop-swept.yielded (s ∷ []) rest);
      once = λ apart. subst (λ (l : List KeyValues). AreApart l) (sym pushed) (apart_more swept_keys s none (c.loop-swept.invariant.once apart));
    }
