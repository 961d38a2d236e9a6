-- a table and then a page, or a beginning of that
use Rattle.std.proofs.Common.{inl, inr}
use Rattle.trace.proofs.Beginnings.{Keeps-same}
use Rattle.scenario_files.proofs.Held.{on_err_of}
use Rattle.join_command.proofs.Stored.{each_on_err, each_on_ok}
use Rattle.join_command.proofs.storing.put_both.Goals as goal

pub returns-clause-whole : goal.returns-clause-whole
returns-clause-whole g c =
    each_on_ok c.put_whole-2.result c.put_whole-2.ensures.whole (λ written. (c.in_ok-put_whole.ensures.whole, written))

pub returns-clause-part : goal.returns-clause-part
returns-clause-part g c =
    each_on_err c.put_whole-2.result c.put_whole-2.ensures.part (λ begun. inr (c.in_ok-put_whole.ensures.whole, begun))

pub returns-in_err-put_whole-clause-part : goal.returns-in_err-put_whole-clause-part
returns-in_err-put_whole-clause-part g c = on_err_of c.from_residual.result (inl (c.in_err-put_whole.ensures.part, Keeps-same _))
