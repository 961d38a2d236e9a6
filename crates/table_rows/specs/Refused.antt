-- Why a text isn't read.
use Rattle.table_rows.specs.declared.fault.LineFault.{LineFault}
use Rattle.table_rows.specs.declared.fault.LineFault.TheVariants as fault

-- what was to stand there doesn't, or memory was refused
abbrev pub Refuses : Type 0 → LineFault → Type 0
Refuses There fault.Torn = ¬ There
Refuses There fault.Memory = Unit {0}
