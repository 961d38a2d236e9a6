use Rattle.std.proofs.Common.{arith}
use Rattle.std.proofs.lemmas.Nat.{mul-le}
use Rattle.lengths.proofs.numeral.scaled.Goals as goal

pub overflow_mul-result : goal.overflow_mul-result
overflow_mul-result c =
    let few = mul-le c.value.result c.ten_to.result 1000000000000 1000000 (omega arith) (omega arith) in
    omega (arith, few)

pub returns-clause-few : goal.returns-clause-few
returns-clause-few c =
    let few = mul-le c.value.result c.ten_to.result 1000000000000 1000000 (omega arith) (omega arith) in
    omega (arith, few)
