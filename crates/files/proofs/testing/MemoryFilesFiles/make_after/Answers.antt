use Rattle.std.proofs.Common.{List, ℕ, Option, Some, ap}
use Rattle.files.proofs.testing.MemoryFilesFiles.make_after.Goals as goal

pub returns-in-Err-clause-same : goal.returns-in-Err-clause-same
returns-in-Err-clause-same c = ap {B = List ℕ → Option (Option (List ℕ))} (λ (held : List ℕ → Option (List ℕ)) (name : List ℕ). Some (held name)) c.in-Err.ensures.same
