-- a page, or why there is none
use Rattle.std.proofs.Common.{inl}
use Rattle.trace.proofs.Beginnings.{Keeps-same}
use Rattle.scenario_files.proofs.Held.{on_err_of}
use Rattle.sweep_command.proofs.paging.write_page.Goals as goal

pub returns-in_err-text-clause-part : goal.returns-in_err-text-clause-part
returns-in_err-text-clause-part g c = on_err_of c.from_residual.result (inl (Keeps-same _))
