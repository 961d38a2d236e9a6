use Rattle.lookahead_windows.proofs.Worlds.{some_world, one_world, one_list, opening_before, whole_before, ends_before, over_before, all_before_end, beginning_before}
use Rattle.lookahead_windows.proofs.laws.there_is_one_world_before_a_moment.Goals as goal

pub returns-clause-some : goal.returns-clause-some
returns-clause-some c = λ s t sound. some_world s sound t

pub returns-clause-one : goal.returns-clause-one
returns-clause-one c = λ s t u v sound. one_world s sound t u v

pub returns-clause-rows : goal.returns-clause-rows
returns-clause-rows c = λ s t first second sound. one_list s sound t first second

pub returns-clause-opening : goal.returns-clause-opening
returns-clause-opening c = opening_before

pub returns-clause-whole : goal.returns-clause-whole
returns-clause-whole c = λ s t w sound. whole_before s sound t w

pub returns-clause-ends : goal.returns-clause-ends
returns-clause-ends c = ends_before

pub returns-clause-over : goal.returns-clause-over
returns-clause-over c = over_before

pub returns-clause-all : goal.returns-clause-all
returns-clause-all c = all_before_end

pub returns-clause-beginning : goal.returns-clause-beginning
returns-clause-beginning c = λ s t rows run sound. beginning_before s sound t rows run
