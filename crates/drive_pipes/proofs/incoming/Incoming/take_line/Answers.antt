use Rattle.std.proofs.Common.{◌≡◌, ◌-◌, ◌<◌, ◌≤◌, ℕ, List, length, get_or, drop, ap, ◌∙◌, subst, arith, rules}
use Rattle.std.specs.Prelude.{slice_range}
use Rattle.drive_pipes.specs.Lines.{longest}
use Rattle.drive_pipes.proofs.Cut.{taken}
use Rattle.drive_pipes.proofs.incoming.Incoming.take_line.Goals as goal

pub returns : goal.returns
returns c =
    let bytes = c.self.inside.bytes.items in
    let from = c.self.inside.from in
    let searched = c.self.inside.searched in
    let end = c.in-Some.end in
    let view = c.self.view_is in
    let seen : c.args.self.now ≡ drop from bytes = first_of (cc, search rules) in
    let At : List ℕ → Type 0 = λ xs. (searched ≤ end) × (end < length xs) × (get_or xs end 0 ≡ 10) in
    let Later : List ℕ → Type 0 = λ xs. (i : ℕ) → searched ≤ i → i < end → get_or xs i 0 ≡ 10 → ⊥ in
    let short : end - from ≤ longest = omega (arith, c.if-end-self-gt-LONGEST.false) in
    taken c.args.self.now c.let_go.new.self c.in_ok-line.line.items bytes from searched end seen c.self.invariant (subst At c.as_slice.ensures.value c.in-Some.ensures.some)
    (subst Later c.as_slice.ensures.value c.in-Some.ensures.before) (c.in_ok-line.ensures.items ∙ ap (λ xs. slice_range xs from end) c.deref.ensures.value) c.let_go.ensures short
