-- a command that the words ask for: done, with its result printed, or not
use Rattle.std.proofs.lemmas.Result.{on_ok_weaker}
use Rattle.cli.proofs.Commands.{asked_drive_done, asked_check_done, asked_check_unprinted, asked_drive_failed, asked_undriven, asked_expand_done, asked_expand_fails, asked_expand_unprinted, asked_explain_done, asked_explain_failed, asked_init_done, asked_init_failed, asked_join_done, asked_join_fails, asked_join_unprinted, asked_page_done, asked_page_failed, asked_shard, asked_run_done, asked_run_fails, asked_run_unprinted, asked_run_untold, asked_sweep_done, asked_sweep_fails, asked_sweep_unprinted, asked_untold, asked_wants, is_command, joined_wants, on_done}
use Rattle.scenario_files.proofs.Held.{handed_on}
use Rattle.cli.proofs.program.perform.Goals as goal

pub returns-in_ok-summary-in-Run-clause-done : goal.returns-in_ok-summary-in-Run-clause-done
returns-in_ok-summary-in-Run-clause-done g c =
    asked_run_done c.args.release.now _ _ _ _ _ _ _ _ _ _ _ c.print_rows.result c.in-Run.is c.in_ok-help.ensures.answer c.in_ok-summary-in-Run.ensures.done c.print_rows.ensures.printed

pub returns-in_ok-summary-in-Run-clause-failed : goal.returns-in_ok-summary-in-Run-clause-failed
returns-in_ok-summary-in-Run-clause-failed g c =
    asked_run_unprinted _ _ _ _ _ _ _ _ _ _ _ _ _ c.print_rows.result c.in-Run.is c.in_ok-help.ensures.answer c.in_ok-summary-in-Run.ensures.done c.print_rows.ensures.failure

pub returns-in_err-summary-in-Run-clause-failed : goal.returns-in_err-summary-in-Run-clause-failed
returns-in_err-summary-in-Run-clause-failed g c =
    handed_on _ _ _ c.from_residual-in_err-summary-in-Run.ensures.1
    (asked_run_fails _ _ _ _ _ _ _ _ _ _ _ _ _ c.in-Run.is c.in_ok-help.ensures.answer c.in_err-summary-in-Run.ensures.failed)

pub returns-in_ok-summary-in-Run-clause-unasked : goal.returns-in_ok-summary-in-Run-clause-unasked
returns-in_ok-summary-in-Run-clause-unasked g c none =
    c.run.ensures.unasked (asked_run_untold _ _ _ c.in-Run.is c.in_ok-help.ensures.answer none)

pub returns-in_err-summary-in-Run-clause-unasked : goal.returns-in_err-summary-in-Run-clause-unasked
returns-in_err-summary-in-Run-clause-unasked g c none =
    c.run.ensures.unasked (asked_run_untold _ _ _ c.in-Run.is c.in_ok-help.ensures.answer none)

pub returns-in-Explain-clause-done : goal.returns-in-Explain-clause-done
returns-in-Explain-clause-done g c =
    asked_explain_done c.args.release.now _ _ _ _ _ _ _ _ _ _ c.explain_file.result c.in-Explain.is c.in_ok-help.ensures.answer c.explain_file.ensures.same c.explain_file.ensures.done

pub returns-in-Explain-clause-failed : goal.returns-in-Explain-clause-failed
returns-in-Explain-clause-failed g c =
    asked_explain_failed _ _ _ _ _ _ _ _ _ _ _ c.explain_file.result c.in-Explain.is c.in_ok-help.ensures.answer c.explain_file.ensures.same c.explain_file.ensures.failed

pub returns-in-Explain-clause-other : goal.returns-in-Explain-clause-other
returns-in-Explain-clause-other g c none = absurd (none (is_command _ _ c.in_ok-help.ensures.answer))

pub returns-in_ok-lines-in-Sweep-clause-done : goal.returns-in_ok-lines-in-Sweep-clause-done
returns-in_ok-lines-in-Sweep-clause-done g c =
    asked_sweep_done c.args.release.now _ _ _ _ _ _ _ _ _ _ _ _ c.print_text.result c.in-Sweep.is c.in_ok-help.ensures.answer c.in_ok-lines-in-Sweep.ensures.done c.as_str.ensures.value c.print_text.ensures.printed

pub returns-in_ok-lines-in-Sweep-clause-failed : goal.returns-in_ok-lines-in-Sweep-clause-failed
returns-in_ok-lines-in-Sweep-clause-failed g c =
    asked_sweep_unprinted _ _ _ _ _ _ _ _ _ _ _ _ _ c.print_text.result c.in-Sweep.is c.in_ok-help.ensures.answer c.in_ok-lines-in-Sweep.ensures.done c.print_text.ensures.failure

pub returns-in_ok-lines-in-Sweep-clause-command : goal.returns-in_ok-lines-in-Sweep-clause-command
returns-in_ok-lines-in-Sweep-clause-command g c =
    on_ok_weaker c.print_text.result (λ _. is_command _ _ c.in_ok-help.ensures.answer) c.print_text.ensures.printed

pub returns-in_ok-lines-in-Sweep-clause-other : goal.returns-in_ok-lines-in-Sweep-clause-other
returns-in_ok-lines-in-Sweep-clause-other g c none = absurd (none (is_command _ _ c.in_ok-help.ensures.answer))

pub returns-in_ok-lines-in-Sweep-clause-unasked : goal.returns-in_ok-lines-in-Sweep-clause-unasked
returns-in_ok-lines-in-Sweep-clause-unasked g c none =
    c.sweep_file.ensures.unasked (asked_untold _ _ _ c.in-Sweep.is c.in_ok-help.ensures.answer none)

pub returns-in_err-lines-in-Sweep-clause-failed : goal.returns-in_err-lines-in-Sweep-clause-failed
returns-in_err-lines-in-Sweep-clause-failed g c =
    handed_on _ _ _ c.from_residual-in_err-lines-in-Sweep.ensures.1
    (asked_sweep_fails _ _ _ _ _ _ _ _ _ _ _ _ c.in-Sweep.is c.in_ok-help.ensures.answer c.in_err-lines-in-Sweep.ensures.failed)

pub returns-in_err-lines-in-Sweep-clause-unasked : goal.returns-in_err-lines-in-Sweep-clause-unasked
returns-in_err-lines-in-Sweep-clause-unasked g c none =
    c.sweep_file.ensures.unasked (asked_untold _ _ _ c.in-Sweep.is c.in_ok-help.ensures.answer none)

pub returns-in_err-lines-in-Sweep-clause-other : goal.returns-in_err-lines-in-Sweep-clause-other
returns-in_err-lines-in-Sweep-clause-other g c none = absurd (none (is_command _ _ c.in_ok-help.ensures.answer))

pub sweep_file-requires-clause-shard : goal.sweep_file-requires-clause-shard
sweep_file-requires-clause-shard g c _ _ = asked_shard _ _ _ c.in-Sweep.is c.in_ok-help.ensures.answer

pub sweep_file-requires-clause-wants : goal.sweep_file-requires-clause-wants
sweep_file-requires-clause-wants g c _ _ = asked_wants _ _ _ c.in-Sweep.is c.in_ok-help.ensures.answer

pub returns-in_ok-joined-in-Join-clause-done : goal.returns-in_ok-joined-in-Join-clause-done
returns-in_ok-joined-in-Join-clause-done g c =
    asked_join_done c.args.release.now _ _ _ _ _ _ _ _ _ _ _ _ c.print_text-in-Join.result c.in-Join.is c.in_ok-help.ensures.answer c.in_ok-joined-in-Join.ensures.done c.as_str-in-Join.ensures.value c.print_text-in-Join.ensures.printed

pub returns-in_ok-joined-in-Join-clause-failed : goal.returns-in_ok-joined-in-Join-clause-failed
returns-in_ok-joined-in-Join-clause-failed g c =
    asked_join_unprinted _ _ _ _ _ _ _ _ _ _ _ _ _ c.print_text-in-Join.result c.in-Join.is c.in_ok-help.ensures.answer c.in_ok-joined-in-Join.ensures.done c.print_text-in-Join.ensures.failure

pub returns-in_ok-joined-in-Join-clause-command : goal.returns-in_ok-joined-in-Join-clause-command
returns-in_ok-joined-in-Join-clause-command g c =
    on_ok_weaker c.print_text-in-Join.result (λ _. is_command _ _ c.in_ok-help.ensures.answer) c.print_text-in-Join.ensures.printed

pub returns-in_ok-joined-in-Join-clause-other : goal.returns-in_ok-joined-in-Join-clause-other
returns-in_ok-joined-in-Join-clause-other g c none = absurd (none (is_command _ _ c.in_ok-help.ensures.answer))

pub returns-in_err-joined-in-Join-clause-failed : goal.returns-in_err-joined-in-Join-clause-failed
returns-in_err-joined-in-Join-clause-failed g c =
    handed_on _ _ _ c.from_residual-in_err-joined-in-Join.ensures.1
    (asked_join_fails _ _ _ _ _ _ _ _ _ _ _ _ c.in-Join.is c.in_ok-help.ensures.answer c.in_err-joined-in-Join.ensures.failed)

pub returns-in_err-joined-in-Join-clause-other : goal.returns-in_err-joined-in-Join-clause-other
returns-in_err-joined-in-Join-clause-other g c none = absurd (none (is_command _ _ c.in_ok-help.ensures.answer))

pub join_files-requires : goal.join_files-requires
join_files-requires g c = record { wants = joined_wants _ _ _ c.in-Join.is c.in_ok-help.ensures.answer }

pub returns-in-Page-clause-done : goal.returns-in-Page-clause-done
returns-in-Page-clause-done g c =
    asked_page_done c.args.release.now _ _ _ _ _ _ _ _ _ c.page_files.result c.in-Page.is c.in_ok-help.ensures.answer c.page_files.ensures.done

pub returns-in-Page-clause-failed : goal.returns-in-Page-clause-failed
returns-in-Page-clause-failed g c =
    asked_page_failed _ _ _ _ _ _ _ _ _ _ _ c.page_files.result c.in-Page.is c.in_ok-help.ensures.answer c.page_files.ensures.failed

pub returns-in-Page-clause-command : goal.returns-in-Page-clause-command
returns-in-Page-clause-command g c = on_done c.page_files.result _ (is_command _ _ c.in_ok-help.ensures.answer)

pub returns-in-Page-clause-other : goal.returns-in-Page-clause-other
returns-in-Page-clause-other g c none = absurd (none (is_command _ _ c.in_ok-help.ensures.answer))

pub returns-in-Init-clause-done : goal.returns-in-Init-clause-done
returns-in-Init-clause-done g c =
    asked_init_done c.args.release.now _ _ _ _ _ _ _ _ _ c.print_preset.result c.in-Init.is c.in_ok-help.ensures.answer c.print_preset.ensures.printed

pub returns-in-Init-clause-failed : goal.returns-in-Init-clause-failed
returns-in-Init-clause-failed g c =
    asked_init_failed _ _ _ _ _ _ _ _ _ _ _ c.print_preset.result c.in-Init.is c.in_ok-help.ensures.answer c.print_preset.ensures.failed

pub returns-in-Init-clause-other : goal.returns-in-Init-clause-other
returns-in-Init-clause-other g c none = absurd (none (is_command _ _ c.in_ok-help.ensures.answer))

pub returns-in-Drive-clause-done : goal.returns-in-Drive-clause-done
returns-in-Drive-clause-done g c =
    asked_drive_done c.args.release.now _ _ _ _ _ _ _ _ _ c.drive.result c.in-Drive.is c.in_ok-help.ensures.answer c.drive.ensures.done

pub returns-in-Drive-clause-failed : goal.returns-in-Drive-clause-failed
returns-in-Drive-clause-failed g c =
    asked_drive_failed _ _ _ _ _ _ _ _ _ _ _ _ c.drive.result c.in-Drive.is c.in_ok-help.ensures.answer c.drive.ensures.failed

pub returns-in-Drive-clause-command : goal.returns-in-Drive-clause-command
returns-in-Drive-clause-command g c = on_done c.drive.result _ (is_command _ _ c.in_ok-help.ensures.answer)

pub returns-in-Drive-clause-other : goal.returns-in-Drive-clause-other
returns-in-Drive-clause-other g c none = absurd (none (is_command _ _ c.in_ok-help.ensures.answer))

pub returns-in-Drive-clause-undriven : goal.returns-in-Drive-clause-undriven
returns-in-Drive-clause-undriven g c none = asked_undriven _ _ _ c.in-Drive.is c.in_ok-help.ensures.answer none

pub returns-in_ok-text-in-Expand-clause-done : goal.returns-in_ok-text-in-Expand-clause-done
returns-in_ok-text-in-Expand-clause-done g c =
    asked_expand_done c.args.release.now _ _ _ _ _ _ _ _ _ _ _ _ c.print_text-in-Expand.result c.in-Expand.is c.in_ok-help.ensures.answer c.in_ok-text-in-Expand.ensures.same c.in_ok-text-in-Expand.ensures.done c.as_str-in-Expand.ensures.value c.print_text-in-Expand.ensures.printed

pub returns-in_ok-text-in-Expand-clause-failed : goal.returns-in_ok-text-in-Expand-clause-failed
returns-in_ok-text-in-Expand-clause-failed g c =
    asked_expand_unprinted _ _ _ _ _ _ _ _ _ _ _ _ c.print_text-in-Expand.result c.in-Expand.is c.in_ok-help.ensures.answer c.in_ok-text-in-Expand.ensures.same c.in_ok-text-in-Expand.ensures.done c.print_text-in-Expand.ensures.failure

pub returns-in_ok-text-in-Expand-clause-command : goal.returns-in_ok-text-in-Expand-clause-command
returns-in_ok-text-in-Expand-clause-command g c =
    on_ok_weaker c.print_text-in-Expand.result (λ _. is_command _ _ c.in_ok-help.ensures.answer) c.print_text-in-Expand.ensures.printed

pub returns-in_ok-text-in-Expand-clause-other : goal.returns-in_ok-text-in-Expand-clause-other
returns-in_ok-text-in-Expand-clause-other g c none = absurd (none (is_command _ _ c.in_ok-help.ensures.answer))

pub returns-in_err-text-in-Expand-clause-failed : goal.returns-in_err-text-in-Expand-clause-failed
returns-in_err-text-in-Expand-clause-failed g c =
    handed_on _ _ _ c.from_residual-in_err-text-in-Expand.ensures.1
    (asked_expand_fails _ _ _ _ _ _ _ _ _ _ _ _ c.in-Expand.is c.in_ok-help.ensures.answer c.in_err-text-in-Expand.ensures.same c.in_err-text-in-Expand.ensures.failed)

pub returns-in_err-text-in-Expand-clause-other : goal.returns-in_err-text-in-Expand-clause-other
returns-in_err-text-in-Expand-clause-other g c none = absurd (none (is_command _ _ c.in_ok-help.ensures.answer))

pub returns-in_ok-scenario-in-Check-clause-done : goal.returns-in_ok-scenario-in-Check-clause-done
returns-in_ok-scenario-in-Check-clause-done g c =
    asked_check_done c.args.release.now _ _ _ _ _ _ _ _ _ _ _ _ c.print_members.result c.in-Check.is c.in_ok-help.ensures.answer c.in_ok-scenario-in-Check.ensures.same c.in_ok-scenario-in-Check.ensures.accepted c.members.ensures.count c.print_members.ensures.printed

pub returns-in_ok-scenario-in-Check-clause-command : goal.returns-in_ok-scenario-in-Check-clause-command
returns-in_ok-scenario-in-Check-clause-command g c =
    on_ok_weaker c.print_members.result (λ _. is_command _ _ c.in_ok-help.ensures.answer) c.print_members.ensures.printed

pub returns-in_ok-scenario-in-Check-clause-failed : goal.returns-in_ok-scenario-in-Check-clause-failed
returns-in_ok-scenario-in-Check-clause-failed g c =
    asked_check_unprinted _ _ _ _ _ _ _ _ _ _ _ _ c.print_members.result c.in-Check.is c.in_ok-help.ensures.answer c.in_ok-scenario-in-Check.ensures.same c.in_ok-scenario-in-Check.ensures.accepted c.print_members.ensures.failure
