use Rattle.windows.specs.Cluster.{IsPeopled}
use Rattle.lookahead.proofs.Joining.{ends_peopled}
use Rattle.lookahead.proofs.Progress.{straight, there_and_back, another}
use Rattle.lookahead.proofs.laws.parts_with_members_have_walks.Goals as goal

pub returns : goal.returns
returns c = record {
  ends = λ s division from to walk. (walk.begins, ends_peopled (IsPeopled s division) from to walk);
  apart = straight;
  back = there_and_back;
  by_another = another;
}
