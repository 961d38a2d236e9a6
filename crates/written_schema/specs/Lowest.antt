-- The lowest rule that some things break. Where they break none it is 255, over the number of each rule.
use Rattle.std.specs.Prelude.{◌≡◌, ℕ, min, if◌then◌else◌, Bool, List, [], ◌∷◌}

abbrev pub no_rule : ℕ
no_rule = 255

-- a rule that is broken, or isn't
abbrev pub rule_if : Bool → ℕ → ℕ
rule_if broken rule = if broken then rule else no_rule

-- the lowest of these rules and of those that the things break, each of them one or none
abbrev pub LowestFrom : {A : Type 0} → (A → ℕ → Type 0) → (low : ℕ) → List A → (rule : ℕ) → Type 0
LowestFrom Breaks low [] rule = rule ≡ low
LowestFrom Breaks low (x ∷ xs) rule = (here : ℕ) × Breaks x here × LowestFrom Breaks (min low here) xs rule

abbrev pub Lowest : {A : Type 0} → (A → ℕ → Type 0) → List A → (rule : ℕ) → Type 0
Lowest Breaks xs rule = LowestFrom Breaks no_rule xs rule
