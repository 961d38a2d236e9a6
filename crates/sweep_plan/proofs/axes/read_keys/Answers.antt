use Rattle.std.proofs.Common.{◌≡◌, ◌<◌, ◌++◌, ◌∷◌, [], ℕ, List, Bor, map, length, get_or, lit<, refl, rules, sym, ap, ◌∙◌, subst}
use Rattle.std.proofs.lemmas.List.{map_push}
use Rattle.std.proofs.lemmas.List.Elements.{All-push}
use Rattle.std.proofs.lemmas.Iterator.Consumers.{YieldsList-turn, YieldsList-end}
use Rattle.std.proofs.lemmas.Iterator.Splits.{YieldsList-from_str_split}
use Rattle.sweep_plan.specs.Asked.{parts_of}
use Rattle.sweep_plan.specs.Keys.{key_name, MaySet}
use Rattle.sweep_plan.specs.declared.keys.SweptKey.{SweptKey}
use Rattle.sweep_plan.proofs.Columns.{no_names}
use Rattle.sweep_plan.proofs.axes.read_keys.Goals as goal

pub returns-in-None-named-clause-refused : goal.returns-in-None-named-clause-refused
returns-in-None-named-clause-refused c =
    let names = c.args.names.now in
    let items = YieldsList-from_str_split {s = c.into_iter-name-iterator.result} 43 names (lit< tt) (cc) (cc) (cc) in
    let turn = YieldsList-turn items c.loop-name.yielded _ c.loop-name.yielded_by _ _ c.in-Some.name c.in-Some.is c.next.ensures.steps in
    no_names (parts_of names) (length c.loop-name.yielded) c.in-Some.name.now turn.0 turn.1 (c.in-None-named.ensures.none refl)

pub loop-name-preserved : goal.loop-name-preserved
loop-name-preserved c =
    let keys = c.loop-name.keys.items in
    let key = c.in-Some-named.key in
    let name = c.in-Some.name in
    let pushed : c.push.new.self.items ≡ keys ++ key ∷ [] = search rules in
    let told = c.in-Some-named.ensures.some in
    record {
      written = ap (map key_name) pushed ∙ map_push key_name keys key ∙ (λ i. c.loop-name.invariant.written i ++ told.named i ∷ [])
          ∙ sym (map_push (λ (name : Bor (List ℕ)). name.now) c.loop-name.yielded name);
      known = subst (λ ks. (k : ℕ) → (d : SweptKey) → k < length ks → MaySet (get_or ks k d)) (sym pushed) (All-push MaySet keys key c.loop-name.invariant.known told.known);
    }

pub returns-clause-read : goal.returns-clause-read
returns-clause-read c =
    let names = c.args.names.now in
    let items = YieldsList-from_str_split {s = c.into_iter-name-iterator.result} 43 names (lit< tt) (cc) (cc) (cc) in
    let all = YieldsList-end items c.loop-name.yielded _ c.loop-name.yielded_by _ _ c.in-None.is c.next.ensures.steps in
    record { written = c.loop-name.invariant.written ∙ all.0; known = c.loop-name.invariant.known }
