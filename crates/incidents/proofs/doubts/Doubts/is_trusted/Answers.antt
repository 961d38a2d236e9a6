use Rattle.std.proofs.Common.{◌&&◌, ◌||◌, ap, ◌∙◌}
use Rattle.incidents.specs.Lives.{is_up}
use Rattle.incidents.specs.Views.{suspects, holds_dead}
use Rattle.incidents.specs.Pairs.{has}
use Rattle.incidents.proofs.Members.{no_doubter, and-first, either}
use Rattle.incidents.proofs.doubts.Doubts.is_trusted.Goals as goal

pub returns : goal.returns
returns c count rows are low =
    let j = c.args.member in
    c.both.ensures
    ∙ no_doubter c.has_none.result c.has_none-2.result (λ a. has c.args.self.now.suspected a j) (λ a. has c.args.self.now.dead a j)
    (λ a. is_up rows a && (suspects rows a j || holds_dead rows a j)) count
    (λ a. ap (λ b. b || has c.args.self.now.dead a j) (are.suspected a j) ∙ ap (λ b. (is_up rows a && suspects rows a j) || b) (are.dead a j) ∙ either (is_up rows a) (suspects rows a j) (holds_dead rows a j))
    (λ a is. low a (and-first _ _ is)) c.has_none.ensures.none c.has_none.ensures.some c.has_none-2.ensures.none c.has_none-2.ensures.some
