use Rattle.std.proofs.Common.{Bool, ◌&&◌, nat_eq, ap, sym, ◌∙◌}
use Rattle.std.specs.FinMap.{len}
use Rattle.lives.specs.Lives.{life_of}
use Rattle.member.proofs.Samples.{told_out}
use Rattle.member.proofs.member.Member.is_all_told.Goals as goal

pub returns-then-has_no_claims : goal.returns-then-has_no_claims
returns-then-has_no_claims c =
    told_out c.has_no_intents.result _ c.has_no_intents.ensures
    ∙ ap (λ (b : Bool). b && nat_eq (len (life_of c.args.self.now.life).intents) 0) (sym c.if-has_no_claims.true ∙ c.has_no_claims.ensures)
