-- From what a document breaks as it is written, and what its lists break, to the rule that it breaks.
use Rattle.std.proofs.Common.{◌≡◌, ◌≢◌, ◌≤◌, ℕ, ◌+◌, List, [], ◌∷◌, Bool, true, false, length, nat_eq, Option, refl, ap, sym, ◌∙◌, arith}
use Rattle.std.specs.List.{sum_by}
use Rattle.std.proofs.lemmas.Bool.Decides.{nat_tests}
use Rattle.std.proofs.lemmas.List.Sums.{sum_by-cons}
use Rattle.toml.specs.Data.{Data}
use Rattle.scenario.specs.Setup.{Group}
use Rattle.expansion.specs.Verdict.{rule_of, script_rule}
use Rattle.expansion.specs.declared.refusal.ScriptRefusal.{ScriptRefusal}
use Rattle.expansion.specs.declared.refusal.ScriptRefusal.TheVariants.{Entry, TooMany, Late, Memory}
use Rattle.plain_entries.specs.Entries.{start_in}
use Rattle.plain_entries.specs.declared.script.Script.{Script}
use Rattle.script_reader.specs.Script.{IsScriptIn}
use Rattle.script_reader.specs.Who.{member_total}
use Rattle.script_reader.proofs.Written.{few_members}
use Rattle.written_names.specs.declared.roster.WrittenGroup.{WrittenGroup}
use Rattle.written_schema.specs.Lowest.{no_rule}
use Rattle.expanded_text.specs.Rule.{error_of, rule_or_none, seed_in, starts_of, IfRefused, IsDocumentRule, IsRuleAfter, IsWrittenRule, Says}
use Rattle.expanded_text.specs.Written.{IsWrittenText}
use Rattle.expanded_text.specs.declared.error.ExpandError.{ExpandError}
use Rattle.expanded_text.specs.declared.error.ExpandError.TheVariants as error
use Rattle.expanded_text.specs.declared.written.WrittenText.{WrittenText}

-- ---- members

total_sum : (groups : List WrittenGroup) → sum_by (λ (g : WrittenGroup). g.count) groups ≡ member_total groups
total_sum [] = refl
total_sum (g ∷ groups) = sum_by-cons (λ (h : WrittenGroup). h.count) g groups ∙ ap (λ n. g.count + n) (total_sum groups)

pub all_members : (seen groups : List WrittenGroup) (count : ℕ) → seen ≡ groups → count ≡ sum_by (λ (g : WrittenGroup). g.count) seen → count ≡ member_total groups
all_members seen groups count same sum = sum ∙ ap (sum_by (λ (g : WrittenGroup). g.count)) same ∙ total_sum groups

pub few_read : (tick : ℕ) (d : Data) (roster : List Group) (groups : List WrittenGroup) (script : Script) → IsScriptIn tick d roster groups script → member_total groups ≤ 16384
few_read tick d roster groups script is = few_members roster groups is.written is.fine

-- ---- the document as it is written

module _ (d : Data) (tick : ℕ) (groups : List WrittenGroup) (says : Says d tick groups) where
  broken_by : (rule : ℕ) (fine : Bool) → nat_eq rule no_rule ≡ fine → rule ≢ no_rule → IsRuleAfter tick groups d fine rule rule
  broken_by rule true is not = absurd (not (grind (arith, nat_tests)))
  broken_by rule false is not = refl

  -- one that is refused as it is written breaks that rule
  pub refused_written : (e : ExpandError) → IfRefused (λ rule. (rule ≢ no_rule) × IsWrittenRule tick groups d rule) e → IfRefused (IsDocumentRule d) e
  refused_written (error.Rule rule) is =
      record { tick = tick; groups = groups; written = rule; says = says; of_written = is.1; lowest = broken_by rule (nat_eq rule no_rule) refl is.0 }
  refused_written error.Memory is = tt

  -- and it is a rule
  pub is_broken : (e : ExpandError) → IfRefused (λ rule. (rule ≢ no_rule) × IsWrittenRule tick groups d rule) e → IfRefused (λ rule. rule ≢ no_rule) e
  is_broken (error.Rule rule) is = is.0
  is_broken error.Memory is = tt

-- ---- its lists

module _ (d : Data) (text : WrittenText) (is : IsWrittenText d text) where
  abbrev pub rule_under : (starts : List ℕ) → (seed : ℕ) → Option ℕ
  rule_under starts seed = script_rule (start_in starts) (length starts) text.script seed

  -- the rule that the lists break is the document's
  pub entries_rule : (now : List ℕ) (seed : ℕ) (rule : Option ℕ) → now ≡ starts_of text.groups.items → seed ≡ seed_in d → rule_under now seed ≡ rule
      → IsDocumentRule d (rule_or_none rule)
  entries_rule now seed rule same drawn lists = record {
    tick = text.tick;
    groups = text.groups.items;
    written = no_rule;
    says = is.says;
    of_written = is.fine;
    lowest = record { script = text.script; read = is.read; lowest = ap rule_or_none (sym lists ∙ (λ i. rule_under (same i) (drawn i))) };
  }

-- an error of lists that are refused
pub refused_lists : (Is : ℕ → Type 0) (refusal : ScriptRefusal) → (rule_of refusal ≢ 11 → Is (rule_of refusal)) → IfRefused Is (error_of refusal)
refused_lists Is (Entry fault) is = is (λ e. omega (arith, e))
refused_lists Is TooMany is = is (λ e. omega (arith, e))
refused_lists Is Late is = is (λ e. omega (arith, e))
refused_lists Is Memory is = tt

pub broken_lists : (refusal : ScriptRefusal) → IfRefused (λ rule. rule ≢ no_rule) (error_of refusal)
broken_lists (Entry fault) = λ e. omega (arith, e)
broken_lists TooMany = λ e. omega (arith, e)
broken_lists Late = λ e. omega (arith, e)
broken_lists Memory = tt
