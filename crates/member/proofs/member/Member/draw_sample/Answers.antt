use Rattle.std.proofs.Common.{◌≡◌, ℕ, ◌<◌, ◌≤◌, List, length, true, ap, sym, subst, ◌∙◌, arith}
use Rattle.std.specs.Prelude.{All}
use Rattle.std.specs.List.{AllByRecursion}
use Rattle.std.specs.FinMap.{contains_key}
use Rattle.scenario.specs.Setup.{member_count}
use Rattle.streams.specs.Draw.{Words, words_of}
use Rattle.membership.specs.declared.candidates.Candidate.{Candidate}
use Rattle.membership.specs.Candidates.{does_fit}
use Rattle.membership.specs.Deaths.{since_of}
use Rattle.member.proofs.Members.{few_members}
use Rattle.member.proofs.Samples.{FitsBelow, candidates_some, candidates_few, candidates_below, sample_below}
use Rattle.member.proofs.member.Member.draw_sample.Goals as goal

pub sample-requires-clause-some : goal.sample-requires-clause-some
sample-requires-clause-some c =
    let self = c.args.self.now in
    omega (arith, ap length (c.deref.ensures.value ∙ c.in_ok-candidates.ensures), candidates_some c.args.here.now.key.to (does_fit c.args.fitting.now (since_of self.deaths)) self.table)

pub sample-requires-clause-few : goal.sample-requires-clause-few
sample-requires-clause-few c =
    let self = c.args.self.now in
    let n = member_count c.args.here.now.scenario.now in
    let below : (q : ℕ) → contains_key self.table q ≡ true → q < n = λ q there. (c.requires.known.others q there).0 in
    omega (
      arith,
      ap length (c.deref.ensures.value ∙ c.in_ok-candidates.ensures),
      candidates_few n c.args.here.now.key.to (does_fit c.args.fitting.now (since_of self.deaths)) self.table below,
      few_members _ c.args.here.now.setting.sound,
    )

pub returns-clause-members : goal.returns-clause-members
returns-clause-members c =
    let self = c.args.self.now in
    let n = member_count c.args.here.now.scenario.now in
    let me = c.args.here.now.key.to in
    let fits = does_fit c.args.fitting.now (since_of self.deaths) in
    let below : (q : ℕ) → contains_key self.table q ≡ true → q < n = λ q there. (c.requires.known.others q there).0 in
    let all = subst (λ (cs : List Candidate). AllByRecursion (FitsBelow n) cs) (sym (c.deref.ensures.value ∙ c.in_ok-candidates.ensures)) (candidates_below n me fits self.table below) in
    subst (λ (l : List ℕ). All (λ q. q < n) l) (sym (ap (λ p. p.0) c.in_ok-them.ensures))
    (sample_below n _ _ all (c.samples_are_of_those_that_fit.ensures.each (words_of self.stream) c.args.count _))

within : {n drawn count most : ℕ} → n ≡ drawn → drawn ≤ count → count ≤ most → n ≤ most
within same few least = omega (arith, same, few, least)

pub returns-clause-drawn_within : goal.returns-clause-drawn_within
returns-clause-drawn_within c =
    within (ap (λ (p : List ℕ × Words). length p.0) c.in_ok-them.ensures) (c.samples_are_of_those_that_fit.ensures.number (words_of c.args.self.now.stream) c.args.count _) c.requires.few
