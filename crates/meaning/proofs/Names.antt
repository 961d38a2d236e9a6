-- Names of members and of their groups.
use Rattle.std.proofs.Common.{◌≡◌, ◌≢◌, ℕ, ◌-◌, ◌≤◌, Bool, true, false, List, [], ◌++◌, take, drop, length, codes, refl, sym, ap, ◌∙◌, subst, if◌then◌else◌}
use Rattle.std.specs.Option.{unwrap_or}
use Rattle.std.specs.Str.{bytes_eq}
use Rattle.std.specs.Str.Pattern.{StripsSuffix, FindsTextSuffix}
use Rattle.std.proofs.lemmas.Bool.Decides.{Decides-eqb}
use Rattle.std.proofs.lemmas.Option.{slice_get_past}
use Rattle.std.proofs.lemmas.Slice.Eq.{ends_is}
use Rattle.scenario.specs.Setup.{Setup, member_count, member_names, name_of}
use Rattle.scenario.proofs.Names.{length-member_names}
use Rattle.meaning.specs.Groups.{without_index}

-- past the last member there is no name
pub nobody : (s : Setup) (m : ℕ) → member_count s ≤ m → name_of s m ≡ []
nobody s m past = ap (λ o. unwrap_or o []) (slice_get_past (member_names s) m (subst (λ n. n ≤ m) (sym (length-member_names s)) past))

-- the name of a group's first member without what ends it
pub stripped : (name x : List ℕ) → StripsSuffix (FindsTextSuffix (codes "-0")) name x → x ≡ without_index name
stripped name x (n, finds, is, _) =
    let ends : bytes_eq (codes "-0") (drop (length name - 2) name) ≡ true = (ends_is Decides-eqb name (codes "-0") _ refl).1 (take (length name - n) name) finds.1 in
    is ∙ ap (λ k. take (length name - k) name) finds.0 ∙ sym (ap (λ b. if b then take (length name - 2) name else name) ends)

by_test : (name : List ℕ) → ((front : List ℕ) → name ≢ front ++ codes "-0") → (b : Bool) → b ≡ bytes_eq (codes "-0") (drop (length name - 2) name)
    → name ≡ (if b then take (length name - 2) name else name)
by_test name none true is = absurd (none (take (length name - 2) name) ((ends_is Decides-eqb name (codes "-0") true is).0 refl))
by_test name none false is = refl

pub unstripped : (name : List ℕ) → ((front : List ℕ) → name ≢ front ++ codes "-0") → name ≡ without_index name
unstripped name none = by_test name none (bytes_eq (codes "-0") (drop (length name - 2) name)) refl
