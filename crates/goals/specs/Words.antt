-- The words by which something is wanted of a setting.
use Rattle.std.specs.Prelude.{◌≡◌, ◌≤◌, ◌⊎◌, ℕ, ◌+◌, ◌-◌, ◌*◌, ◌^◌, ◌==◌, Bool, false, List, [], ◌∷◌, ◌++◌, codes, length}
use Rattle.std.specs.List.{AllZip}
use Rattle.std.specs.Str.Parse.{IsNumeral, digits_value}
use Rattle.decimals.specs.Numbers.{IsDecimal}
use Rattle.goals.specs.declared.want.Want.{Want}
use Rattle.goals.specs.declared.reading.WantFault.{WantFault}
use Rattle.goals.specs.declared.reading.WantFault.TheVariants as fault
use Rattle.goals.specs.Statistics.{word_of}
use Rattle.goals.specs.Wants.{IsBounded}

-- a plus comes first
abbrev pub begins_with_plus : List ℕ → Bool
begins_with_plus [] = false
begins_with_plus (first ∷ rest) = first == 43

-- one to six digits are a part of one, in millionths
pub record IsFraction (digits : List ℕ) (part : ℕ) : Type 0 where
  pub numeral : IsNumeral 10 digits
  pub few : length digits ≤ 6
  pub value : part ≡ digits_value 10 digits * 10 ^ (6 - length digits)

-- a whole number in millionths
pub record IsWhole (word : List ℕ) (n : ℕ) : Type 0 where
  pub whole : ℕ
  pub decimal : IsDecimal word whole
  pub value : n ≡ whole * 1000000

-- one with a point and a part of one behind it
pub record IsBroken (word : List ℕ) (n : ℕ) : Type 0 where
  pub front : List ℕ
  pub back : List ℕ
  pub written : word ≡ front ++ 46 ∷ back
  pub whole : ℕ
  pub decimal : IsDecimal front whole
  pub part : ℕ
  pub fraction : IsFraction back part
  pub value : n ≡ whole * 1000000 + part

-- the word is this number of millionths: 20000, 0.01
abbrev pub IsNumber : List ℕ → ℕ → Type 0
IsNumber word n = IsWhole word n ⊎ IsBroken word n

-- the word wants this: out<=0.01
pub record IsWantWord (word : List ℕ) (want : Want) : Type 0 where
  pub number : List ℕ
  pub written : word ≡ (word_of want.statistic ++ codes "<") ++ 61 ∷ number
  pub bound : IsNumber number want.most
  pub low : IsBounded want
  pub kept : want.word.now ≡ word

-- the words want these, in their order
abbrev pub AreWants : List (List ℕ) → List Want → Type 0
AreWants words wants = AllZip IsWantWord words wants

-- the words want nothing, or memory was refused
abbrev pub RefusesWants : List (List ℕ) → WantFault → Type 0
RefusesWants words fault.Words = (wants : List Want) → ¬ (AreWants words wants)
RefusesWants words fault.Memory = Unit {0}
