use Rattle.std.proofs.Common.{◌≡◌, ◌<◌, ◌+◌, ◌++◌, ◌∷◌, ℕ, Some, None, length, get_or, ap, sym, refl, ◌∙◌, arith, bytes_eq}
use Rattle.std.specs.List.{position_or_len, sum_by}
use Rattle.std.specs.Map.{lookup}
use Rattle.std.specs.Fmt.{decimal}
use Rattle.std.specs.Option.{option_copied}
use Rattle.std.proofs.lemmas.Option.{MatchOption-at_some, MatchOption-at_none}
use Rattle.scenario.specs.Setup.{Group}
use Rattle.scenario_reader.specs.Reading.{member_named}
use Rattle.scenario_reader.specs.Roster.{start_in}
use Rattle.scenario_reader.proofs.Find.{groups_of, names_of, in_roster, small_count, none_named, absent_names, none_found, none_dashless, no_member, a_member, dash_free, different, unequal, length-names_of_all, split_last}
use Rattle.scenario_reader.proofs.roster.Roster.find.Goals as goal

pub returns-in_default-clause-number : goal.returns-in_default-clause-number
returns-in_default-clause-number c =
    let name = c.args.name.now in
    let no = MatchOption-at_none ((i : ℕ) → i < length name → get_or name i 0 ≡ 45 → ⊥) (λ x. _) c.in_default.is (split_last 45 name c.rsplit_once.result c.rsplit_once.ensures.cases (omega arith)) in
    no_member c.args.self.now name (none_dashless name (dash_free name no) c.args.self.now)

pub returns-in_default-get-clause-number : goal.returns-in_default-get-clause-number
returns-in_default-get-clause-number c =
    let name = c.args.name.now in
    let es = c.self.inside.groups.entries in
    let group = c.in-Some.group in
    let index = c.in-Some.index in
    let parts = MatchOption-at_some ((i : ℕ) → i < length name → get_or name i 0 ≡ 45 → ⊥)
    (λ x. (name ≡ x.0.now ++ 45 ∷ x.1.now) × ((i : ℕ) → i < length x.1.now → get_or x.1.now i 0 ≡ 45 → ⊥)) (group, index) c.in-Some.is (split_last 45 name c.rsplit_once.result c.rsplit_once.ensures.cases (omega arith)) in
    let plain = dash_free index.now parts.1 in
    let absent : lookup _ es ≡ None = sym c.get.ensures.value ∙ ap option_copied c.in_default-get.is in
    let none = none_named name group.now index.now parts.0 plain _ (λ k. refl) es 0 c.self.invariant.numbered (absent_names name group.now index.now parts.0 plain _ (λ k. refl) es absent) in
    no_member (groups_of es) name none ∙ ap (λ gs. member_named gs name) c.self.view_is

pub returns-in_default-index_spelt-clause-number : goal.returns-in_default-index_spelt-clause-number
returns-in_default-index_spelt-clause-number c =
    let name = c.args.name.now in
    let es = c.self.inside.groups.entries in
    let group = c.in-Some.group in
    let index = c.in-Some.index in
    let parts = MatchOption-at_some ((i : ℕ) → i < length name → get_or name i 0 ≡ 45 → ⊥)
    (λ x. (name ≡ x.0.now ++ 45 ∷ x.1.now) × ((i : ℕ) → i < length x.1.now → get_or x.1.now i 0 ≡ 45 → ⊥)) (group, index) c.in-Some.is (split_last 45 name c.rsplit_once.result c.rsplit_once.ensures.cases (omega arith)) in
    let plain = dash_free index.now parts.1 in
    let b = c.in-Some-get.block.now in
    let found : lookup _ es ≡ Some b = sym c.get.ensures.value ∙ ap option_copied c.in-Some-get.is in
    let small = small_count name group.now index.now parts.0 plain _ (λ k. refl) es 0 b c.self.invariant.numbered found in
    let none = none_found name group.now index.now parts.0 plain _ (λ k. refl) es 0 b c.self.invariant.numbered c.self.invariant.apart found (λ i below. unequal index.now (decimal i) (c.in_default-index_spelt.ensures.none i (omega arith))) in
    no_member (groups_of es) name none ∙ ap (λ gs. member_named gs name) c.self.view_is

pub returns-then-index-block-clause-number : goal.returns-then-index-block-clause-number
returns-then-index-block-clause-number c =
    let name = c.args.name.now in
    let es = c.self.inside.groups.entries in
    let group = c.in-Some.group in
    let index = c.in-Some.index in
    let parts = MatchOption-at_some ((i : ℕ) → i < length name → get_or name i 0 ≡ 45 → ⊥)
    (λ x. (name ≡ x.0.now ++ 45 ∷ x.1.now) × ((i : ℕ) → i < length x.1.now → get_or x.1.now i 0 ≡ 45 → ⊥)) (group, index) c.in-Some.is (split_last 45 name c.rsplit_once.result c.rsplit_once.ensures.cases (omega arith)) in
    let plain = dash_free index.now parts.1 in
    let b = c.in-Some-get.block.now in
    let found : lookup _ es ≡ Some b = sym c.get.ensures.value ∙ ap option_copied c.in-Some-get.is in
    let small = small_count name group.now index.now parts.0 plain _ (λ k. refl) es 0 b c.self.invariant.numbered found in
    let none = none_found name group.now index.now parts.0 plain _ (λ k. refl) es 0 b c.self.invariant.numbered c.self.invariant.apart found (λ k below. ap (λ t. bytes_eq t (decimal k)) c.in-Some-index_spelt.ensures.some ∙ different c.in-Some-index_spelt.index k (omega arith) (omega arith)) in
    no_member (groups_of es) name none ∙ ap (λ gs. member_named gs name) c.self.view_is

pub overflow_add-result : goal.overflow_add-result
overflow_add-result c =
    let name = c.args.name.now in
    let es = c.self.inside.groups.entries in
    let parts = MatchOption-at_some ((i : ℕ) → i < length name → get_or name i 0 ≡ 45 → ⊥)
    (λ x. (name ≡ x.0.now ++ 45 ∷ x.1.now) × ((i : ℕ) → i < length x.1.now → get_or x.1.now i 0 ≡ 45 → ⊥)) _ c.in-Some.is (split_last 45 name c.rsplit_once.result c.rsplit_once.ensures.cases (omega arith)) in
    let b = c.in-Some-get.block.now in
    let found : lookup _ es ≡ Some b = sym c.get.ensures.value ∙ ap option_copied c.in-Some-get.is in
    let place = in_roster c.self.inside c.self.invariant name _ _ parts.0 parts.1 _ (λ k. refl) b c.in-Some-index_spelt.index found c.in-Some-index_spelt.ensures.some (omega arith) in
    let total = length-names_of_all (groups_of es) in
    omega (arith, place.at, place.within, total, c.self.invariant.small, c.from.ensures)

pub returns-clause-number : goal.returns-clause-number
returns-clause-number c =
    let name = c.args.name.now in
    let es = c.self.inside.groups.entries in
    let parts = MatchOption-at_some ((i : ℕ) → i < length name → get_or name i 0 ≡ 45 → ⊥)
    (λ x. (name ≡ x.0.now ++ 45 ∷ x.1.now) × ((i : ℕ) → i < length x.1.now → get_or x.1.now i 0 ≡ 45 → ⊥)) _ c.in-Some.is (split_last 45 name c.rsplit_once.result c.rsplit_once.ensures.cases (omega arith)) in
    let b = c.in-Some-get.block.now in
    let found : lookup _ es ≡ Some b = sym c.get.ensures.value ∙ ap option_copied c.in-Some-get.is in
    let place = in_roster c.self.inside c.self.invariant name _ _ parts.0 parts.1 _ (λ k. refl) b c.in-Some-index_spelt.index found c.in-Some-index_spelt.ensures.some (omega arith) in
    let total = length-names_of_all (groups_of es) in
    a_member (groups_of es) name (b.first + c.from.result) (omega (arith, place.at, c.from.ensures)) (omega (arith, place.at, place.within, c.from.ensures)) ∙ ap (λ gs. member_named gs name) c.self.view_is

pub returns-clause-start : goal.returns-clause-start
returns-clause-start c =
    let name = c.args.name.now in
    let es = c.self.inside.groups.entries in
    let parts = MatchOption-at_some ((i : ℕ) → i < length name → get_or name i 0 ≡ 45 → ⊥)
    (λ x. (name ≡ x.0.now ++ 45 ∷ x.1.now) × ((i : ℕ) → i < length x.1.now → get_or x.1.now i 0 ≡ 45 → ⊥)) _ c.in-Some.is (split_last 45 name c.rsplit_once.result c.rsplit_once.ensures.cases (omega arith)) in
    let b = c.in-Some-get.block.now in
    let found : lookup _ es ≡ Some b = sym c.get.ensures.value ∙ ap option_copied c.in-Some-get.is in
    let place = in_roster c.self.inside c.self.invariant name _ _ parts.0 parts.1 _ (λ k. refl) b c.in-Some-index_spelt.index found c.in-Some-index_spelt.ensures.some (omega arith) in
    let total = length-names_of_all (groups_of es) in
    let at : position_or_len (bytes_eq name) (names_of es) ≡ b.first + c.from.result = omega (arith, place.at, c.from.ensures) in
    sym place.start ∙ ap (start_in (groups_of es)) at ∙ ap (λ gs. start_in gs (b.first + c.from.result)) c.self.view_is

pub returns-clause-within : goal.returns-clause-within
returns-clause-within c =
    let name = c.args.name.now in
    let es = c.self.inside.groups.entries in
    let parts = MatchOption-at_some ((i : ℕ) → i < length name → get_or name i 0 ≡ 45 → ⊥)
    (λ x. (name ≡ x.0.now ++ 45 ∷ x.1.now) × ((i : ℕ) → i < length x.1.now → get_or x.1.now i 0 ≡ 45 → ⊥)) _ c.in-Some.is (split_last 45 name c.rsplit_once.result c.rsplit_once.ensures.cases (omega arith)) in
    let b = c.in-Some-get.block.now in
    let found : lookup _ es ≡ Some b = sym c.get.ensures.value ∙ ap option_copied c.in-Some-get.is in
    let place = in_roster c.self.inside c.self.invariant name _ _ parts.0 parts.1 _ (λ k. refl) b c.in-Some-index_spelt.index found c.in-Some-index_spelt.ensures.some (omega arith) in
    let total = length-names_of_all (groups_of es) in
    omega (arith, place.at, place.within, total, c.from.ensures, ap (λ gs. sum_by (λ (g : Group). g.count) gs) c.self.view_is)
