use Rattle.std.proofs.Common.{◌≡◌, slice_index, max, vec_len, sym, ap, ◌∙◌, arith}
use Rattle.std.proofs.lemmas.Bool.{eqb-true}
use Rattle.std.proofs.lemmas.List.{get_or_past}
use Rattle.membership.proofs.Joined.{joined_at, joined_small}
use Rattle.membership.proofs.numbers.Numbers.at.Goals as goal

pub returns-then-is_empty : goal.returns-then-is_empty
returns-then-is_empty c =
    let smalls = c.args.self.now.smalls.items in
    let larges = c.args.self.now.larges.items in
    let few : vec_len c.args.self.now.larges ≡ 0 = eqb-true (vec_len c.args.self.now.larges) 0 (sym c.is_empty.ensures ∙ c.if-is_empty.true) in
    let none : slice_index larges c.args.place ≡ 0 = get_or_past larges c.args.place 0 (omega (arith, few)) in
    let small : c.from-small.result ≡ slice_index smalls c.args.place = c.from-small.ensures ∙ c.small_at.ensures ∙ ap (λ l. slice_index l c.args.place) c.deref.ensures.value in
    sym (joined_small smalls larges c.args.place c.from-small.result (sym small) none)

pub returns : goal.returns
returns c =
    let smalls = c.args.self.now.smalls.items in
    let larges = c.args.self.now.larges.items in
    let small : c.from-small.result ≡ slice_index smalls c.args.place = c.from-small.ensures ∙ c.small_at.ensures ∙ ap (λ l. slice_index l c.args.place) c.deref.ensures.value in
    let large : c.number_at.result ≡ slice_index larges c.args.place = c.number_at.ensures ∙ ap (λ l. slice_index l c.args.place) c.deref-2.ensures.value in
    let greater : c.max.result ≡ max c.from-small.result c.number_at.result = omega (arith, c.max.ensures) in
    greater ∙ (λ i. max (small i) (large i)) ∙ sym (joined_at smalls larges c.args.place)
