use Rattle.std.proofs.Common.{◌≡◌, ℕ, ◌-◌, ◌<◌, ◌^◌, List, length, ap, sym, subst, arith}
use Rattle.std.specs.Prelude.{All, true}
use Rattle.std.specs.FinMap.{contains_key}
use Rattle.scenario.specs.Setup.{member_count}
use Rattle.streams.specs.Draw.{words_of}
use Rattle.streams.proofs.RangeLemmas.{words_of_fit}
use Rattle.member.proofs.Members.{few_members}
use Rattle.member.proofs.Helpers.{alive_below, alive_few, helpers_below, helpers_few}
use Rattle.member.proofs.member.Member.draw_helpers.Goals as goal

pub returns-clause-members : goal.returns-clause-members
returns-clause-members c =
    let n = member_count c.args.here.now.scenario.now in
    let self = c.args.self.now in
    let below : (q : ℕ) → contains_key self.table q ≡ true → q < n = λ q there. (c.requires.known.others q there).0 in
    let short : length c.in_ok-candidates.candidates.items < 2 ^ 32 - 1 =
    omega (arith, ap length c.in_ok-candidates.ensures, alive_few n c.args.but self.table below, few_members _ c.args.here.now.setting.sound) in
    subst (λ (l : List ℕ). All (λ q. q < n) l) (sym (ap (λ p. p.0) c.helpers.ensures))
    (helpers_below n c.args.count (words_of self.stream) c.in_ok-candidates.candidates.items (words_of_fit self.stream) short
    (subst (λ (l : List ℕ). All (λ q. q < n) l) (sym c.in_ok-candidates.ensures) (alive_below n c.args.but self.table below)))

pub returns-clause-helpers_within : goal.returns-clause-helpers_within
returns-clause-helpers_within c =
    let drawn = ap (λ p. length p.0) c.helpers.ensures in
    omega (arith, drawn, helpers_few c.args.count (words_of c.args.self.now.stream) c.in_ok-candidates.candidates.items, c.requires.few)
