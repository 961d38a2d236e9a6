use Rattle.std.proofs.Common.{◌≡◌, ◌+◌, ◌-◌, ◌*◌, ◌≤◌, arith, ap, ◌∙◌}
use Rattle.suspicion.specs.Times.{accuser_log}
use Rattle.suspicion.proofs.Tables.{size_log-small, log-le_thousand, log-positive, log-rises}
use Rattle.suspicion.proofs.Timeouts.{most-le, max_timeout-le, way_fits, left-le, timeout_from_parts}
use Rattle.suspicion.proofs.terms.Terms.timeout.Goals as goal

-- few accusers count
few_most : (c : goal.After-logarithm-whole) → c.most_counted-most.result ≤ 9
few_most c = omega (arith, c.most_counted-most.ensures, most-le c.args.self c.args.members, c.requires.sound.accusers_wanted)

-- what is reached, and the whole of it, as the table has them
reached_is : (c : goal.After-logarithm-whole) → c.logarithm-reached.result ≡ accuser_log c.args.self.profile (c.args.accusers + 1)
reached_is c = c.logarithm-reached.ensures.value ∙ size_log-small c.args.self.profile (c.args.accusers + 1) (omega (arith, few_most c, c.if-accusers-most.false))

whole_is : (c : goal.After-logarithm-whole) → c.logarithm-whole.result ≡ accuser_log c.args.self.profile (c.most_counted-most.result + 1)
whole_is c = c.logarithm-whole.ensures.value ∙ size_log-small c.args.self.profile (c.most_counted-most.result + 1) (omega (arith, few_most c))

reached-le_whole : (c : goal.After-logarithm-whole) → c.logarithm-reached.result ≤ c.logarithm-whole.result
reached-le_whole c =
    let rise = log-rises c.args.self.profile (c.args.accusers + 1) (c.most_counted-most.result + 1) (omega arith) (omega (arith, c.if-accusers-most.false)) (omega (arith, few_most c)) in
    omega (arith, rise, reached_is c, whole_is c)

pub overflow_mul-result : goal.overflow_mul-result
overflow_mul-result c =
    let longest = max_timeout-le c.args.self.beta c.shortest-shortest.result c.requires.sound.beta.1 c.shortest-shortest.ensures.short in
    let small : c.logarithm-reached.result ≤ 1000 = omega (arith, reached_is c, log-le_thousand c.args.self.profile (c.args.accusers + 1) (omega arith) (omega (arith, few_most c, c.if-accusers-most.false))) in
    let fits = way_fits (c.args.self.beta * c.shortest-shortest.result - c.shortest-shortest.result) c.logarithm-reached.result (omega (arith, longest)) small in
    record { fits = fits }

pub nonzero_div-result : goal.nonzero_div-result
nonzero_div-result c =
    let positive = log-positive c.args.self.profile (c.most_counted-most.result + 1) (omega (arith, c.if-accusers-most.false)) (omega (arith, few_most c)) in
    omega (arith, positive, whole_is c)

pub overflow_sub-result-2 : goal.overflow_sub-result-2
overflow_sub-result-2 c = (left-le c.args.self.beta c.shortest-shortest.result c.logarithm-reached.result c.logarithm-whole.result c.requires.sound.beta.0 (reached-le_whole c)).1

pub returns-clause-value : goal.returns-clause-value
returns-clause-value c =
    timeout_from_parts c.args.self c.args.members c.args.accusers c.shortest-shortest.result c.logarithm-reached.result c.logarithm-whole.result
    c.shortest-shortest.ensures.value (reached_is c) (whole_is c ∙ ap (λ k. accuser_log c.args.self.profile (k + 1)) c.most_counted-most.ensures)
    c.if-not-self.false (omega (arith, c.if-accusers-most.false, c.most_counted-most.ensures))

pub returns-clause-positive : goal.returns-clause-positive
returns-clause-positive c =
    let left = (left-le c.args.self.beta c.shortest-shortest.result c.logarithm-reached.result c.logarithm-whole.result c.requires.sound.beta.0 (reached-le_whole c)).0 in
    omega (arith, left, c.shortest-shortest.ensures.positive)
