use Rattle.std.proofs.Common.{◌≡◌, ◌++◌, ◌∙◌, OnOk, ap, subst}
use Rattle.std.specs.String.{string_bytes}
use Rattle.drawing.specs.Numbers.{hundredths, percent, place}
use Rattle.drawing.proofs.number.push_place.Goals as goal

pub returns : goal.returns
unfolding place
returns c =
    let same : c.hundredths_of-hundredths.result ≡ hundredths c.args.value c.args.most
    = c.hundredths_of-hundredths.ensures.part ∙ (ap (λ v. hundredths v c.from-2.result) c.from.ensures ∙ ap (hundredths c.args.value) c.from-2.ensures) in
    subst (λ h. OnOk c.push_percent.result (string_bytes c.push_percent.new.text ≡ string_bytes c.args.text.now ++ percent h)) same c.push_percent.ensures
