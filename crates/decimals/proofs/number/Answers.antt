use Rattle.std.proofs.Common.{rules, ◌≡◌, ◌∙◌, true, false, sym, ap, subst, arith}
use Rattle.std.proofs.lemmas.Fmt.{decimal_injective}
use Rattle.std.proofs.lemmas.Option.{IfSome_then}
use Rattle.decimals.specs.Numbers.{has_sign_or_zero}
use Rattle.std.specs.Fmt.{decimal}
use Rattle.decimals.proofs.Numbers.{parsed, unparsed, unprefixed}
use Rattle.decimals.proofs.number.Goals as goal

pub returns-then-has_sign_or_zero-clause-none : goal.returns-then-has_sign_or_zero-clause-none
returns-then-has_sign_or_zero-clause-none c _ n number =
    let is : has_sign_or_zero c.args.word.now ≡ true = search rules in
    let bare = subst (λ word. has_sign_or_zero word ≡ false) number.written (unprefixed n number.low) in
    let bad : true ≡ false = sym is ∙ bare in
    cc

pub returns-in-Ok-clause-some : goal.returns-in-Ok-clause-some
returns-in-Ok-clause-some c =
    let bare : has_sign_or_zero c.args.word.now ≡ false = search rules in
    let written = parsed c.args.word.now c.in-Ok.number c.parse.result c.in-Ok.is c.parse.ensures.value.0 bare in
    IfSome_then c.at_most.result c.at_most.ensures.some (λ n h. record { written = ap decimal h.0 ∙ written.0; low = h.1 })

pub returns-in-Ok-clause-none : goal.returns-in-Ok-clause-none
returns-in-Ok-clause-none c gone n number =
    let bare : has_sign_or_zero c.args.word.now ≡ false = search rules in
    let written = parsed c.args.word.now c.in-Ok.number c.parse.result c.in-Ok.is c.parse.ensures.value.0 bare in
    let large = c.at_most.ensures.none gone in
    let low = number.low in
    let range = written.1 in
    let same : n ≡ c.in-Ok.number = decimal_injective n c.in-Ok.number (omega arith) (omega arith) (number.written ∙ sym written.0) in
    omega arith

pub returns-in-Err-clause-none : goal.returns-in-Err-clause-none
returns-in-Err-clause-none c _ n number =
    unparsed c.args.word.now n c.parse.result c.in-Err.field-0 c.in-Err.is c.parse.ensures.value.0 number
