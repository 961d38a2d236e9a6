-- A path, step by step.
use Rattle.std.proofs.Common.{◌≡◌, ℕ, ◌+◌, ◌<◌, List, ◌∷◌, length, get_or, drop, refl, ap, drop-cons, add-one}
use Rattle.std.specs.Option.{option_and_then}
use Rattle.toml_places.specs.declared.places.Places.{Places}
use Rattle.toml_places.specs.declared.places.Step.{Step}
use Rattle.toml_places.specs.Found.{path_end, step_of, content_at}

-- where what is left of a path leads is where the next step and what is then left lead
pub path_step : (p : Places) (i place : ℕ) (path : List Step) (d : Step) → i < length path
    → path_end p place (drop i path) ≡ option_and_then (λ next. path_end p next (drop (i + 1) path)) (option_and_then (step_of (get_or path i d)) (content_at p place))
path_step p i place path d h =
    let e : drop i path ≡ get_or path i d ∷ drop (i + 1) path = rw (add-one, drop-cons path i d) refl in
    ap (λ rest. path_end p place rest) e
