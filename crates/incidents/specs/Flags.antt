-- What is kept of who is up.
use Rattle.std.specs.Prelude.{ℕ, Bool, false, slice_index_or}
use Rattle.incidents.specs.declared.lives.Lives.{Lives}

-- the member is marked as up
abbrev pub is_up_in : Lives → ℕ → Bool
is_up_in lives m = slice_index_or lives.up.items m false

-- the member is marked as having started again
abbrev pub has_restarted_in : Lives → ℕ → Bool
has_restarted_in lives m = slice_index_or lives.restarted.items m false
