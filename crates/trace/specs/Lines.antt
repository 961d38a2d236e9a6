-- How lines are laid into memory: what a writer of comma-separated fields has been given.
use Rattle.std.specs.Prelude.{ℕ, List, ◌++◌, Vec}
use Rattle.std.specs.declared.alloc.Global.{Global}
use Rattle.csv.specs.Writing.{writer_under, writer_pending}
use Rattle.csv.specs.declared.writer.Writer.{Writer}

-- all that a writer over memory has been given
abbrev pub laid_out : Writer (Vec ℕ Global) → List ℕ
laid_out writer = (writer_under writer).items ++ writer_pending writer
