use Rattle.std.proofs.Common.{◌≡◌, ◌++◌, ◌∷◌, [], ◌||◌, ℕ, List, Bool, true, false, nat_eq, map, take, refl, ap, sym, ◌∙◌, if◌then◌else◌, eqb-true}
use Rattle.std.specs.List.{list_any}
use Rattle.std.proofs.lemmas.List.{map_more}
use Rattle.std.proofs.lemmas.List.Folds.{list_any-append}
use Rattle.toml.specs.View.{view}
use Rattle.toml.specs.declared.value.Value.{Value}
use Rattle.schema.specs.declared.schema.FormatKey.TheVariants as key
use Rattle.scenario.specs.Setup.{Group}
use Rattle.scenario_reader.specs.Reading.{member_at}
use Rattle.scenario_reader.proofs.Find.{nat_eq-sym}
use Rattle.scenario_reader.proofs.additions.list_members.Goals as goal

abbrev number : List Group → Value → ℕ
number gs v = member_at gs key.Member (view v)

-- a number that is among others already adds nothing
known_by : (ns : List ℕ) (n k : ℕ) (b : Bool) → list_any (nat_eq n) ns ≡ true → nat_eq n k ≡ b → list_any (nat_eq k) ns ≡ (list_any (nat_eq k) ns || (b || false))
known_by ns n k true there same = let is : list_any (nat_eq k) ns ≡ true = ap (λ m. list_any (nat_eq m) ns) (sym (eqb-true n k same)) ∙ there in is ∙ sym (ap (λ a. a || true) is)
known_by ns n k false there same = no_more (list_any (nat_eq k) ns)
  where
    no_more : (a : Bool) → a ≡ (a || false)
    no_more true = refl
    no_more false = refl

-- whether a number is there after one more
one_more : (ns : List ℕ) (n k : ℕ) (b : Bool) → list_any (nat_eq n) ns ≡ b → list_any (nat_eq k) (if b then ns else ns ++ n ∷ []) ≡ (list_any (nat_eq k) ns || (nat_eq n k || false))
one_more ns n k true there = known_by ns n k (nat_eq n k) there refl
one_more ns n k false new = list_any-append (nat_eq k) ns (n ∷ []) ∙ ap (λ b. list_any (nat_eq k) ns || (b || false)) (nat_eq-sym k n)

pub loop-item-init : goal.loop-item-init
loop-item-init c = λ k. ap (list_any (nat_eq k)) c.new-members.ensures.empty

pub loop-item-preserved : goal.loop-item-preserved
loop-item-preserved c = λ k.
    let gs = c.args.roster.now in
    let list = c.args.list.now in
    let i = c.loop-item.item-index in
    let item = c.item-item.result in
    let old = c.loop-item.members.keys in
    let n = c.member.result in
    let keys = ap (list_any (nat_eq k)) c.in-Ok.ensures.keys ∙ one_more old n k (list_any (nat_eq n) old) refl in
    let counted = ap (λ a. a || (nat_eq n k || false)) (c.loop-item.invariant k) ∙ ap (λ m. list_any (λ x. nat_eq x k) (map (number gs) (take i list)) || (nat_eq m k || false)) c.member.ensures in
    let placed = ap (list_any (λ x. nat_eq x k)) (map_more (number gs) list i item c.loop-item-test.true ∙ ap (λ w. map (number gs) (take i list) ++ number gs w ∷ []) (sym c.item-item.is))
    ∙ list_any-append (λ x. nat_eq x k) (map (number gs) (take i list)) (number gs item ∷ []) in
    keys ∙ counted ∙ sym placed
