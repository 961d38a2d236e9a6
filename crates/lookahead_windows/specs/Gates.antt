-- What a gate must allow for that is handed to a run, of its workers.
use Rattle.std.specs.Prelude.{ℕ, ◌<◌}

-- so many workers may enter
abbrev pub KnowsAll : (ℕ → Type 0) → ℕ → Type 0
KnowsAll knows workers = (worker : ℕ) → worker < workers → knows worker
