use Rattle.std.proofs.Common.{◌&&◌}
use Rattle.incidents.specs.Lives.{is_up}
use Rattle.incidents.specs.Views.{holds_dead}
use Rattle.incidents.specs.Pairs.{has}
use Rattle.incidents.proofs.Members.{no_member, and-first}
use Rattle.incidents.proofs.doubts.Doubts.has_no_death.Goals as goal

pub returns : goal.returns
returns c count rows are low =
    no_member c.has_none.result (λ a. has c.args.self.now.dead a c.args.member) (λ a. is_up rows a && holds_dead rows a c.args.member) count
    (λ a. are.dead a c.args.member) (λ a is. low a (and-first _ _ is)) c.has_none.ensures.none c.has_none.ensures.some
