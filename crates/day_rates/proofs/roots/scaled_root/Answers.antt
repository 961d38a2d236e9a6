use Rattle.std.proofs.Common.{◌≡◌, ◌+◌, ◌-◌, ◌*◌, ◌<◌, ◌≤◌, ℕ, sym, ap, subst, arith}
use Rattle.day_rates.specs.Roots.{scaled, scaled_square}
use Rattle.day_rates.proofs.RootLemmas.{root_is}
use Rattle.day_rates.proofs.roots.scaled_root.Goals as goal

pub returns-clause-root : goal.returns-clause-root
returns-clause-root c =
    let whole : ℕ = c.isqrt-whole.result in
    let part : ℕ = c.part_of-part.result in
    let rest : ℕ = c.args.number - whole * whole in
    let all : whole * whole + rest ≡ 0 * 0 + c.args.number = omega (arith, c.isqrt-whole.ensures.square_le) in
    let same : scaled_square whole rest ≡ scaled_square 0 c.args.number = ap (λ (k : ℕ). 846720000000000 * 846720000000000 * k) all in
    let up : scaled whole (part + 1) ≡ scaled whole part + 1 = omega arith in
    sym (root_is (scaled_square 0 c.args.number) (scaled whole part)
    (subst (λ k. scaled whole part * scaled whole part ≤ k) same c.part_of-part.ensures.low)
    (subst (λ k. scaled_square 0 c.args.number < k * k) up (subst (λ k. k < scaled whole (part + 1) * scaled whole (part + 1)) same c.part_of-part.ensures.high)))
