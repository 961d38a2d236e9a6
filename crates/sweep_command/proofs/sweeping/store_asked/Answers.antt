-- with a page, or without one
use Rattle.std.proofs.Common.{string_bytes}
use Rattle.sweep_command.proofs.Paged.{paged_apart, paged_asked, paged_failed, plain_apart, plain_asked, plain_failed}
use Rattle.sweep_command.proofs.sweeping.store_asked.Goals as goal

pub returns-in-Some-clause-done : goal.returns-in-Some-clause-done
returns-in-Some-clause-done g c =
    paged_asked string_bytes _ _ _ _ _ _ c.store_paged.result _ c.in-Some.page c.in-Some.is c.store_paged.ensures.done

pub returns-in-Some-clause-apart : goal.returns-in-Some-clause-apart
returns-in-Some-clause-apart g c = paged_apart c.store_paged.result _ _ _ _ c.in-Some.page c.in-Some.is c.store_paged.ensures.apart

pub returns-in-Some-clause-failed : goal.returns-in-Some-clause-failed
returns-in-Some-clause-failed g c = paged_failed _ _ _ _ _ _ _ c.store_paged.result c.in-Some.page c.in-Some.is c.store_paged.ensures.failed

pub returns-in-None-clause-done : goal.returns-in-None-clause-done
returns-in-None-clause-done g c = plain_asked string_bytes _ _ _ _ _ _ c.store_table.result _ c.in-None.is c.store_table.ensures.done

pub returns-in-None-clause-apart : goal.returns-in-None-clause-apart
returns-in-None-clause-apart g c = plain_apart c.store_table.result _ _ _ _ c.in-None.is c.store_table.ensures.apart

pub returns-in-None-clause-failed : goal.returns-in-None-clause-failed
returns-in-None-clause-failed g c = plain_failed _ _ _ _ _ _ _ c.store_table.result c.in-None.is c.store_table.ensures.failed
