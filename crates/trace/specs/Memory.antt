-- What is said of a sink over memory.
use Rattle.std.specs.Prelude.{ℕ, List, Some, None, Bool, true, false}
use Rattle.trace.specs.declared.testing.MemorySink.{MemorySink}
use Rattle.trace.specs.declared.testing.Faults.{Faults}

-- what it holds
abbrev pub memory_bytes : MemorySink → List ℕ
memory_bytes sink = sink.bytes.items

-- how often it has failed
abbrev pub memory_failures : MemorySink → ℕ
memory_failures sink = sink.failures

-- how many puts there were
abbrev pub puts_so_far : MemorySink → ℕ
puts_so_far sink = sink.faults.puts

-- where it fails
abbrev pub faults_of : MemorySink → Faults
faults_of sink = sink.faults

-- whether its flushes fail
abbrev pub fails_at_flush : MemorySink → Bool
fails_at_flush sink = sink.faults.flush

-- nowhere
abbrev pub no_faults : Faults
no_faults = record { puts = 0; put = None; room = None; flush = false; short = false; zero = false }

-- the same sink with one setting changed
abbrev pub with_failing_put : MemorySink → ℕ → MemorySink
with_failing_put sink number = record sink { faults = record sink.faults { put = Some number } }

abbrev pub with_room : MemorySink → ℕ → MemorySink
with_room sink bytes = record sink { faults = record sink.faults { room = Some bytes } }

abbrev pub with_failing_flush : MemorySink → MemorySink
with_failing_flush sink = record sink { faults = record sink.faults { flush = true } }

abbrev pub with_short_puts : MemorySink → MemorySink
with_short_puts sink = record sink { faults = record sink.faults { short = true } }

abbrev pub with_zeros : MemorySink → MemorySink
with_zeros sink = record sink { faults = record sink.faults { zero = true } }
