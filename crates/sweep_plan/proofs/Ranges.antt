-- A range of seeds and the parts of its word.
use Rattle.std.proofs.Common.{◌≡◌, ◌≢◌, ◌+◌, ℕ, List, ◌∷◌, drop, Option, Some, None, Bor, decimal, length, sym, ◌∙◌, lit<, arith}
use Rattle.std.specs.Option.{MatchOption}
use Rattle.std.specs.Str.Pattern.{FindsCharPrefix}
use Rattle.std.proofs.lemmas.Str.Pattern.{IsSplitOnceResult, split_after, strip_prefix_char}
use Rattle.decimals.specs.Numbers.{IsDecimal}
use Rattle.sweep_plan.specs.Asked.{IsRange}
use Rattle.sweep_plan.specs.declared.seeds.Seeds.{Seeds}
use Rattle.sweep_plan.proofs.Words.{unlike, decimal_lacks}

abbrev Parted : Type 0
Parted = Option (Bor (List ℕ) × Bor (List ℕ))

abbrev IsStripped : List ℕ → Option (Bor (List ℕ)) → Type 0
IsStripped rest r = MatchOption r (FindsCharPrefix 46 rest None) (λ x. (n : ℕ) × FindsCharPrefix 46 rest (Some n) × (x.now ≡ drop n rest) × (length x.now + n ≡ length rest))

module _ (word : List ℕ) (r : Seeds) (range : IsRange word r) where
  at_dot : (parted : Parted) → IsSplitOnceResult 46 word parted → MatchOption parted ⊥ (λ x. (x.0.now ≡ decimal r.first) × (x.1.now ≡ 46 ∷ decimal r.last))
  at_dot parted is =
      let ordered = range.ordered in
      let low = range.low in
      split_after 46 word (decimal r.first) (46 ∷ decimal r.last) parted is (lit< tt) (sym range.written)
      (unlike 46 (decimal r.first) (decimal_lacks r.first 46 (omega arith) (lit< tt)))

  pub unparted : (parted : Parted) → parted ≡ None → IsSplitOnceResult 46 word parted → ⊥
  unparted parted none is = rw none at (at_dot parted is)

  module _ (parted : Parted) (first rest : Bor (List ℕ)) (some : parted ≡ Some (first, rest)) (is : IsSplitOnceResult 46 word parted) where
    parts : (first.now ≡ decimal r.first) × (rest.now ≡ 46 ∷ decimal r.last)
    parts = rw some at (at_dot parted is)

    pub first_number : IsDecimal first.now r.first
    first_number =
        let ordered = range.ordered in
        let low = range.low in
        record { written = sym parts.0; low = omega arith }

    module _ (stripped : Option (Bor (List ℕ))) (cut : IsStripped rest.now stripped) where
      pub undotted : stripped ≡ None → ⊥
      undotted none =
          let told : (more : List ℕ) → rest.now ≢ 46 ∷ more = rw none at (strip_prefix_char 46 rest.now stripped cut (lit< tt)) in
          told (decimal r.last) parts.1

      pub last_number : (last : Bor (List ℕ)) → stripped ≡ Some last → IsDecimal last.now r.last
      last_number last is_last =
          let told : rest.now ≡ 46 ∷ last.now = rw is_last at (strip_prefix_char 46 rest.now stripped cut (lit< tt)) in
          let whole : 46 ∷ last.now ≡ 46 ∷ decimal r.last = sym told ∙ parts.1 in
          let same : decimal r.last ≡ last.now = cc in
          record { written = same; low = range.low }
