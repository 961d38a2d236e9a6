use Rattle.parallel_run.proofs.connections.Connections.tell.Goals as goal

pub tell_all-requires-clause-others : goal.tell_all-requires-clause-others
tell_all-requires-clause-others g c = λ basis run. (c.requires.lines basis run).peers
