use Rattle.std.proofs.Common.{◌≡◌, ℕ, List, IfOk, sym, subst, arith}
use Rattle.script_reader.proofs.Whom.{named_low}
use Rattle.script_reader.proofs.who.listed.Goals as goal

pub returns-then-names-le-MOST_MEMBERS : goal.returns-then-names-le-MOST_MEMBERS
returns-then-names-le-MOST_MEMBERS c =
    subst (λ (members : List ℕ). IfOk c.found_among.result (λ made. made.items ≡ members))
    (sym (named_low c.args.roster.now c.args.names.now (omega (arith, c.if-names-le-MOST_MEMBERS.true)))) c.found_among.ensures
