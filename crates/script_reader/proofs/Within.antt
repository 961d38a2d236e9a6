-- What a key says is in its range.
use Rattle.std.proofs.Common.{ℕ, Option, Some, None, Result, Ok, Err}
use Rattle.toml.specs.Data.{Data}
use Rattle.written_values.specs.declared.fault.ValueFault.{ValueFault}
use Rattle.script_reader.specs.Numbers.{IsIn, SaysReading}

pub is_in : (tick least most : ℕ) (d : Option Data) (reading : Option (Result ℕ ValueFault)) → SaysReading tick least most d reading → IsIn least most reading
is_in tick least most d None says = tt
is_in tick least most None (Some (Ok number)) says = cc
is_in tick least most (Some d) (Some (Ok number)) says = says.1
is_in tick least most d (Some (Err fault)) says = tt
