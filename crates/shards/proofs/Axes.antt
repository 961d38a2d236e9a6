-- Words of axes, one axis more at a time.
use Rattle.std.proofs.Common.{◌≡◌, ◌≤◌, ℕ, List, [], ◌∷◌, ◌++◌, drop, length, ap, sym, ◌∙◌, append-nil, append_assoc}
use Rattle.std.specs.List.{flat_map}
use Rattle.std.proofs.lemmas.List.{drop_all}
use Rattle.sweep_plan.specs.Axes.{axes_of}
use Rattle.sweep_plan.specs.Sweep.{KeyValues}

module _ (word : List KeyValues → List ℕ) (swept_keys : List KeyValues) where
  pub axis_more : (from end : ℕ) (axis : List KeyValues) (old new all : List ℕ) → axes_of (drop from swept_keys) ≡ axis ∷ axes_of (drop end swept_keys) → new ≡ old ++ word axis
      → old ++ flat_map word (axes_of (drop from swept_keys)) ≡ all → new ++ flat_map word (axes_of (drop end swept_keys)) ≡ all
  axis_more from end axis old new all begins is so_far =
      ap (λ l. l ++ flat_map word (axes_of (drop end swept_keys))) is ∙ append_assoc old (word axis) (flat_map word (axes_of (drop end swept_keys)))
      ∙ ap (λ axes. old ++ flat_map word axes) (sym begins) ∙ so_far

  pub no_axis_more : (from : ℕ) (text all : List ℕ) → length swept_keys ≤ from → text ++ flat_map word (axes_of (drop from swept_keys)) ≡ all → text ≡ all
  no_axis_more from text all past so_far = sym (ap (λ l. text ++ flat_map word (axes_of l)) (drop_all from swept_keys past) ∙ append-nil text) ∙ so_far
