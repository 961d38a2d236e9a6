use Rattle.std.proofs.Common.{◌≡◌, ◌*◌, ◌/◌, ◌%◌, ℕ, List, refl, sym, ap, subst, ◌∙◌, arith}
use Rattle.std.proofs.Math.Nat.{mul-mod_left}
use Rattle.std.proofs.lemmas.Nat.{div-add-mod'}
use Rattle.lengths.specs.Lengths.{IsLength}
use Rattle.lengths.proofs.ticks.ticks_of.Goals as goal

-- a length that is a whole number of ticks
whole_ticks : (word bytes : List ℕ) (total each tick : ℕ) → bytes ≡ word → each ≡ tick → IsLength bytes total → total % (each * 1000000) ≡ 0
    → IsLength word (total / (each * 1000000) * (tick * 1000000))
whole_ticks word bytes total each tick same ticks is rest =
    let parted = div-add-mod' total (each * 1000000) in
    let whole : total ≡ total / (each * 1000000) * (each * 1000000) = omega (arith, parted, rest) in
    let sum : total ≡ total / (each * 1000000) * (tick * 1000000) = whole ∙ ap (λ (n : ℕ). total / (each * 1000000) * (n * 1000000)) ticks in
    subst (λ (n : ℕ). IsLength word n) sum (subst (λ (w : List ℕ). IsLength w total) same is)

pub returns-in_default : goal.returns-in_default
returns-in_default c total is =
    c.in_default.ensures.none refl total (subst (λ (w : List ℕ). IsLength w total) (sym c.as_bytes.ensures.value) is)

pub returns-then-total-each-gt0 : goal.returns-then-total-each-gt0
returns-then-total-each-gt0 c =
    record {
      total = c.in-Some.total;
      is = subst (λ (w : List ℕ). IsLength w c.in-Some.total) c.as_bytes.ensures.value c.in-Some.ensures.some;
      not_whole = λ ticks whole.
          let rest : c.in-Some.total % (c.args.tick * 1000000) ≡ 0 = ap (λ (n : ℕ). n % (c.args.tick * 1000000)) whole ∙ mul-mod_left ticks (c.args.tick * 1000000) in
          let same : c.in-Some.total % (c.from-each.result * 1000000) ≡ c.in-Some.total % (c.args.tick * 1000000) = ap (λ (n : ℕ). c.in-Some.total % (n * 1000000)) c.from-each.ensures in
          omega (arith, rest, same, c.if-total-each-gt0.true);
    }

pub returns-then-ticks-lt-TOO_LARGE : goal.returns-then-ticks-lt-TOO_LARGE
returns-then-ticks-lt-TOO_LARGE c =
    (whole_ticks c.args.word.now c.as_bytes.result.now c.in-Some.total c.from-each.result c.args.tick c.as_bytes.ensures.value c.from-each.ensures c.in-Some.ensures.some (omega arith), omega arith)

pub returns-else-ticks-lt-TOO_LARGE : goal.returns-else-ticks-lt-TOO_LARGE
returns-else-ticks-lt-TOO_LARGE c =
    (c.in-Some.total / (c.from-each.result * 1000000), whole_ticks c.args.word.now c.as_bytes.result.now c.in-Some.total c.from-each.result c.args.tick c.as_bytes.ensures.value c.from-each.ensures c.in-Some.ensures.some (omega arith), omega arith)
