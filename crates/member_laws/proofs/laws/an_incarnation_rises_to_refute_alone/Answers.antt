use Rattle.std.proofs.Common.{ap, sym, subst, ◌+◌, ◌∙◌}
use Rattle.member_laws.specs.Words.{IsRefuted}
use Rattle.member_laws.proofs.Numbers.{refutes, else_same, never_falls, never_falls_by_older, refuted_by_papers, papers_refute}
use Rattle.member_laws.proofs.laws.an_incarnation_rises_to_refute_alone.Goals as goal

pub returns-clause-refuted : goal.returns-clause-refuted
returns-clause-refuted c = refutes

pub returns-clause-stays : goal.returns-clause-stays
returns-clause-stays c = else_same

pub returns-clause-refuted_by_papers : goal.returns-clause-refuted_by_papers
returns-clause-refuted_by_papers c = λ s telling k u o papers own.
    refutes s telling k u o (subst (λ profile. IsRefuted profile k.to o.state u) (sym papers) (refuted_by_papers k.to o.state u own)) ∙ ap (λ n. n + 1) own.present

pub returns-clause-stays_by_papers : goal.returns-clause-stays_by_papers
returns-clause-stays_by_papers c = λ s telling k u o papers other.
    else_same s telling k u o (λ is. other (papers_refute k.to o.state u (subst (λ profile. IsRefuted profile k.to o.state u) papers is)))

pub returns-clause-never_falls : goal.returns-clause-never_falls
returns-clause-never_falls c = never_falls

pub returns-clause-never_falls_by_older_rules : goal.returns-clause-never_falls_by_older_rules
returns-clause-never_falls_by_older_rules c = never_falls_by_older
