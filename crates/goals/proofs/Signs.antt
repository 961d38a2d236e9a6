-- What stands behind the sign of a word by which something is wanted.
use Rattle.std.proofs.Common.{◌≡◌, ◌==◌, ℕ, List, ◌++◌, Option, Some, false, Bor, codes, refl, sym, subst, lit<}
use Rattle.std.specs.List.{list_any}
use Rattle.std.proofs.lemmas.Str.Pattern.{IsSplitOnceResult, split_after}
use Rattle.sweep_plan.proofs.Words.{unlike, lacks_from_test}
use Rattle.goals.specs.declared.statistic.Statistic.{Statistic}
use Rattle.goals.specs.declared.statistic.Statistic.TheVariants.{Out, SuspectP50, ConfirmP50, ConfirmP99, ConfirmGreatest, LastP50, LastGreatest, FalseSuspect, ThrownOut, Messages, Alarms, Deaths, DeathsWell, DeathsDay}
use Rattle.goals.specs.declared.want.Want.{Want}
use Rattle.goals.specs.Statistics.{word_of}
use Rattle.goals.specs.Words.{IsNumber, IsWantWord}

no_sign : (statistic : Statistic) → list_any (λ byte. byte == 61) (word_of statistic ++ codes "<") ≡ false
no_sign Out = refl
no_sign SuspectP50 = refl
no_sign ConfirmP50 = refl
no_sign ConfirmP99 = refl
no_sign ConfirmGreatest = refl
no_sign LastP50 = refl
no_sign LastGreatest = refl
no_sign FalseSuspect = refl
no_sign ThrownOut = refl
no_sign Messages = refl
no_sign Alarms = refl
no_sign Deaths = refl
no_sign DeathsWell = refl
no_sign DeathsDay = refl

-- it is a number, where the word is split there
pub number_behind : (word : List ℕ) (want : Want) → IsWantWord word want → (parted : Option (Bor (List ℕ) × Bor (List ℕ))) (front number : Bor (List ℕ)) → parted ≡ Some (front, number)
    → IsSplitOnceResult 61 word parted → IsNumber number.now want.most
number_behind word want is parted front number some cut =
    let before = word_of want.statistic ++ codes "<" in
    let parts : (front.now ≡ before) × (number.now ≡ is.number) =
    rw some at (split_after 61 word before is.number parted cut (lit< tt) is.written (unlike 61 before (lacks_from_test 61 before (no_sign want.statistic)))) in
    subst (λ w. IsNumber w want.most) (sym parts.1) is.bound
