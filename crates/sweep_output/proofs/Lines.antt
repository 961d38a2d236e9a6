-- The lines of settings, one more at a time.
use Rattle.std.proofs.Common.{◌≡◌, ◌<◌, ◌≤◌, ◌+◌, ℕ, List, [], ◌∷◌, ◌++◌, Some, drop, length, get_or, slice_get, sym, ap, ◌∙◌, append_assoc, append-nil, arith}
use Rattle.std.proofs.lemmas.List.{drop_more, drop_all}
use Rattle.std.proofs.lemmas.Option.{get_or_from_slice_get}
use Rattle.sweep_plan.specs.declared.choice.Choice.{Choice}
use Rattle.figures.specs.declared.summary.SettingSummary.{SettingSummary}
use Rattle.sweep_output.specs.Objects.{lines_from}

module _ (line : ℕ → List Choice → SettingSummary → List ℕ) (choices : List (List Choice)) (settings : List SettingSummary) where
  -- a text, with the lines that are still to come
  abbrev pub with_rest : List ℕ → ℕ → List ℕ
  with_rest text place = text ++ lines_from line place (drop place choices) (drop place settings)

  -- the line of the next setting
  pub one_line : (place : ℕ) (chosen : List Choice) (setting other : SettingSummary) (old new : List ℕ) → length choices ≡ length settings → place < length settings
      → slice_get choices place ≡ Some chosen → setting ≡ get_or settings place other → new ≡ old ++ line place chosen setting → with_rest new (place + 1) ≡ with_rest old place
  one_line place chosen setting other old new same inside there is added =
      let within : place < length choices = omega (arith, same, inside) in
      let first : drop place choices ≡ chosen ∷ drop (place + 1) choices =
      drop_more choices place chosen within ∙ ap (λ x. x ∷ drop (place + 1) choices) (get_or_from_slice_get choices place chosen chosen there) in
      let second : drop place settings ≡ setting ∷ drop (place + 1) settings = drop_more settings place other inside ∙ ap (λ x. x ∷ drop (place + 1) settings) (sym is) in
      let rest = lines_from line (place + 1) (drop (place + 1) choices) (drop (place + 1) settings) in
      ap (λ l. l ++ rest) added ∙ append_assoc old (line place chosen setting) rest
      ∙ sym (ap (λ l. old ++ lines_from line place l (drop place settings)) first ∙ ap (λ l. old ++ lines_from line place (chosen ∷ drop (place + 1) choices) l) second)

  -- no setting is left
  pub no_rest : (place : ℕ) (text : List ℕ) → length settings ≤ place → length choices ≡ length settings → with_rest text place ≡ text
  no_rest place text all same =
      let few : length choices ≤ place = omega (arith, same, all) in
      ap (λ l. text ++ lines_from line place l (drop place settings)) (drop_all place choices few) ∙ append-nil text
