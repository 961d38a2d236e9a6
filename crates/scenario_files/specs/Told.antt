-- How what ended a command is reported.
use Rattle.std.specs.Prelude.{ℕ, ◌==◌, List, Result, Ok, Err, if◌then◌else◌}
use Rattle.text_reader.specs.Answers.{Answers}
use Rattle.base.specs.declared.fault.Fault.{Fault}
use Rattle.command_line.specs.declared.failure.Failure.{Failure}
use Rattle.command_line.specs.declared.failure.Failure.TheVariants.{Rule, Run, Memory}

-- a text that is refused is reported by its rule, but by want of memory where that is the cause, which is rule 11
abbrev pub text_failure : ℕ → Failure
text_failure rule = if rule == 11 then Memory else Rule rule

-- a run is reported by its own fault
abbrev pub run_result : {T : Type 0} → Result T Fault → Result T Failure
run_result (Ok summary) = Ok summary
run_result (Err cause) = Err (Run cause)

-- what a scenario's text may be refused by: a rule, by which it is answered, or want of memory
abbrev pub RefusesText : List ℕ → Failure → Type 0
RefusesText bytes (Rule rule) = Answers bytes (Err rule)
RefusesText bytes Memory = Unit {0}
RefusesText bytes _ = ⊥
