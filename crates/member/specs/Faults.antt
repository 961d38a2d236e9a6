-- What a run answers where one of its steps was refused.
use Rattle.base.specs.declared.fault.Fault.{Fault}
use Rattle.base.specs.declared.fault.Fault.TheVariants as fault
use Rattle.member.specs.declared.step_error.StepError.{StepError}
use Rattle.member.specs.declared.step_error.StepError.TheVariants as step_error

abbrev pub fault_of : StepError → Fault
fault_of step_error.Memory = fault.Memory
fault_of step_error.CounterOverflow = fault.CounterOverflow
