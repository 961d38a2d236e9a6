-- What users read of a scenario that is refused, and of a run that ended early.
use Rattle.std.specs.Prelude.{ℕ, List, ◌++◌, codes}
use Rattle.shown_names.specs.Shown.{shown_name}
use Rattle.reasons.specs.declared.runs.RunReason.{RunReason}
use Rattle.reasons.specs.declared.runs.RunReason.TheVariants.{Rule, Setting, Unread, Values, Memory, Counter, Write, Thread}

-- what prints all errors of a file
abbrev pub explain_text : List ℕ → List ℕ
explain_text name = codes "for all errors and how to fix them: swimsim explain " ++ shown_name name

-- the file is accepted without the values of a setting
abbrev pub set_text : List ℕ → List ℕ
set_text name = codes "without these values the scenario is accepted; write them into a copy of " ++ shown_name name
    ++ codes ", and swimsim explain prints what is wrong"

-- one of the files of these names was refused a write
abbrev pub full_text : List ℕ → List ℕ
full_text names = codes "a file took only a part of its text, as when the disk is full: " ++ names

-- what is wrong with the scenario or the run
abbrev pub run_reason_text : RunReason → List ℕ
run_reason_text (Rule name) = explain_text name.now
run_reason_text (Setting name) = set_text name.now
run_reason_text Unread = codes "write the scenario to a file, and swimsim explain prints all errors and how to fix them"
run_reason_text Values = codes "write these values into a copy of the scenario, and swimsim explain prints what is wrong"
run_reason_text Memory = codes "the system refused memory; give the program more, or take a shorter run, fewer members or fewer workers"
run_reason_text Counter = codes "a counter would pass 2^63; take a shorter run or smaller numbers"
run_reason_text (Write names) = full_text names.now
run_reason_text Thread = codes "the system gave no thread; take fewer workers"
