-- What a row is, by its kind and by what is held of whom it is about.
use Rattle.std.proofs.Common.{◌≡◌, ℕ, Bool, true, false, ◌&&◌, Option, Some, None, sym, ap, ◌∙◌}
use Rattle.std.specs.Option.{option_map_or}
use Rattle.std.proofs.Math.Bool.{and-false}

-- a row of another kind
pub of_another : (kind rest : Bool) → kind ≡ false → false ≡ (kind && rest)
of_another kind rest is = sym (ap (λ b. b && rest) is)

-- one of the kind, about somebody
pub about_one : (kind : Bool) (P : ℕ → Bool) (about : Option ℕ) (j : ℕ) (answer : Bool) → kind ≡ true → about ≡ Some j → answer ≡ P j
    → answer ≡ (kind && option_map_or P about false)
about_one kind P about j answer is whom tells = tells ∙ sym (ap (λ b. b && option_map_or P about false) is ∙ ap (λ o. option_map_or P o false) whom)

-- one about nobody
pub about_nobody : (kind : Bool) (P : ℕ → Bool) (about : Option ℕ) → about ≡ None → false ≡ (kind && option_map_or P about false)
about_nobody kind P about whom = sym (ap (λ o. kind && option_map_or P o false) whom ∙ and-false kind)
