-- Of which commands more is printed than the line of a failure, and what is printed of a scenario.
use Rattle.std.specs.Prelude.{◌≡◌, ◌⊎◌, ◌++◌, ◌||◌, ℕ, List, [], ◌∷◌, Bool, true, bytes_eq, codes, if◌then◌else◌}
use Rattle.clap.specs.Words.{Text}
use Rattle.diagnostic_text.specs.Told.{TellsLines}

-- more is always printed of these commands
abbrev pub tells_always : Text → Bool
tells_always command =
    bytes_eq command (codes "init") || bytes_eq command (codes "explain") || bytes_eq command (codes "sweep")
    || bytes_eq command (codes "join") || bytes_eq command (codes "page")

-- of others only on a terminal; for no words more is always printed
abbrev pub tells_of_words : List Text → Bool
tells_of_words [] = true
tells_of_words (first ∷ rest) = tells_always first

abbrev pub tells_more : Bool → List Text → Bool
tells_more terminal words = if terminal then true else tells_of_words words

-- the text is a beginning of another
pub record IsBeginning (text whole : List ℕ) : Type 0 where
  pub rest : List ℕ
  pub split : text ++ rest ≡ whole

-- the text is a beginning of what is printed of all diagnostics of a scenario that is refused by this rule, or nothing
abbrev pub TellsFirst : ℕ → List ℕ → Type 0
TellsFirst rule text = (text ≡ []) ⊎ ((whole : List ℕ) × TellsLines rule whole × IsBeginning text whole)
