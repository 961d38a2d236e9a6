-- Which diagnostics may be reported of a text that is refused.
use Rattle.std.specs.Prelude.{◌≡◌, ℕ, List, Bool, true, nat_le, nat_eq}
use Rattle.std.specs.List.{list_any, list_all}
use Rattle.diagnostics.specs.declared.list.Diagnostic.{Diagnostic}

-- no diagnostic is of a rule below this one
abbrev pub are_from : ℕ → List Diagnostic → Bool
are_from rule found = list_all (λ m. nat_le rule m.rule) found

-- a diagnostic is of this rule
abbrev pub has_rule : ℕ → List Diagnostic → Bool
has_rule rule found = list_any (λ m. nat_eq m.rule rule) found

-- this is the least rule of the diagnostics
pub record IsLeastRule (rule : ℕ) (found : List Diagnostic) : Type 0 where
  pub from : are_from rule found ≡ true
  pub there : has_rule rule found ≡ true
