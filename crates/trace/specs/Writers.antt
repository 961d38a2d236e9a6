-- What is said of a sink over a writer.
use Rattle.std.specs.Prelude.{ℕ}
use Rattle.trace.specs.declared.sink.Put.{Put}

abbrev pub writer_under : {W : Type 0} → Put W → W
writer_under put = put.writer

-- how often a write or a flush has failed
abbrev pub put_failures : {W : Type 0} → Put W → ℕ
put_failures put = put.failures
