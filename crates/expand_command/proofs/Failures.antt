-- Why no plain text is printed, from what refuses a text to what ends the command.
use Rattle.std.proofs.Common.{◌≡◌, ◌≢◌, ℕ, List, Bool, true, false, cond, nat_eq, Option, Some, inr, refl, sym, subst, arith}
use Rattle.std.proofs.lemmas.Bool.Decides.{nat_tests}
use Rattle.clap.specs.Words.{Text}
use Rattle.toml.specs.Data.{Data}
use Rattle.files.specs.Files.{KnownFile, Holds}
use Rattle.scenario_reader.specs.Rules.{tree_of}
use Rattle.scenario_files.specs.Shelves.{IsUnread}
use Rattle.scenario_files.specs.Told.{text_failure}
use Rattle.command_line.specs.declared.failure.Failure.{Failure}
use Rattle.command_line.specs.declared.failure.Failure.TheVariants.{File, Usage, Preset, NoItem, Rule, Mistaken, Setting, Shards, Workers, Division, Run, Memory, Drive, Output}
use Rattle.expanded_text.specs.Rule.{IfRefused, IsDocumentRule}
use Rattle.expanded_text.specs.declared.error.ExpandError.{ExpandError}
use Rattle.expanded_text.specs.declared.error.ExpandError.TheVariants as error
use Rattle.expand_command.specs.Outcomes.{ExpandFails}
use Rattle.expand_command.specs.Texts.{failure_of, is_fourth, BreaksRule, BreaksRuleBy, IfNamed, KeepsVersion, RefusesBytes, RefusesTree, SaysScenario}

-- ---- a rule that is named

named_by : (Is : ℕ → Type 0) (rule : ℕ) (memory : Bool) → nat_eq rule 11 ≡ memory → (rule ≢ 11 → Is rule) → IfNamed Is (cond memory Memory (Rule rule))
named_by Is rule true is why = tt
named_by Is rule false is why = why (λ same. grind (arith, nat_tests))

-- 11 stands for want of memory
pub named : (Is : ℕ → Type 0) (rule : ℕ) → (rule ≢ 11 → Is rule) → IfNamed Is (text_failure rule)
named Is rule why = named_by Is rule (nat_eq rule 11) refl why

breaks_by : (d : Data) (rule : ℕ) (fourth : Bool) → SaysScenario fourth d → IsDocumentRule d rule → BreaksRuleBy fourth d rule
breaks_by d rule true says is = is
breaks_by d rule false says is = inr (says, is)

-- a document that isn't expanded
pub unexpanded : (d : Data) (e : ExpandError) → KeepsVersion d → IfRefused (IsDocumentRule d) e → IfNamed (BreaksRule d) (failure_of e)
unexpanded d (error.Rule rule) keeps is = breaks_by d rule (is_fourth d) keeps is
unexpanded d error.Memory keeps is = tt

-- the bytes of a document that breaks a rule
pub refused_bytes : (bytes : List ℕ) (d : Data) (failure : Failure) → tree_of bytes ≡ Some d → IfNamed (BreaksRule d) failure → IfNamed (RefusesBytes bytes) failure
refused_bytes bytes d (Rule rule) read is = subst (λ (tree : Option Data). RefusesTree tree rule) (sym read) is
refused_bytes bytes d Memory read is = tt
refused_bytes bytes d (File name) read is = absurd is
refused_bytes bytes d Usage read is = absurd is
refused_bytes bytes d Preset read is = absurd is
refused_bytes bytes d (NoItem key) read is = absurd is
refused_bytes bytes d (Mistaken rule) read is = absurd is
refused_bytes bytes d (Setting rule settings) read is = absurd is
refused_bytes bytes d (Shards cause) read is = absurd is
refused_bytes bytes d Workers read is = absurd is
refused_bytes bytes d (Division cause) read is = absurd is
refused_bytes bytes d (Run cause) read is = absurd is
refused_bytes bytes d (Drive cause) read is = absurd is
refused_bytes bytes d Output read is = absurd is

-- ---- what ends the command

pub fails : (known : KnownFile) (file : Text) (bytes : List ℕ) (failure : Failure) → Holds known bytes → IfNamed (RefusesBytes bytes) failure → ExpandFails known file failure
fails known file bytes (Rule rule) holds is = (bytes, holds, is)
fails known file bytes Memory holds is = tt
fails known file bytes (File name) holds is = absurd is
fails known file bytes Usage holds is = absurd is
fails known file bytes Preset holds is = absurd is
fails known file bytes (NoItem key) holds is = absurd is
fails known file bytes (Mistaken rule) holds is = absurd is
fails known file bytes (Setting rule settings) holds is = absurd is
fails known file bytes (Shards cause) holds is = absurd is
fails known file bytes Workers holds is = absurd is
fails known file bytes (Division cause) holds is = absurd is
fails known file bytes (Run cause) holds is = absurd is
fails known file bytes (Drive cause) holds is = absurd is
fails known file bytes Output holds is = absurd is

-- a file that wasn't read
pub unread : (known : KnownFile) (file : Text) (failure : Failure) → IsUnread known file failure → ExpandFails known file failure
unread known file (Rule rule) is = absurd is
unread known file (File name) is = is
unread known file Memory is = is
unread known file Usage is = is
unread known file Preset is = is
unread known file (NoItem key) is = is
unread known file (Mistaken rule) is = is
unread known file (Setting rule settings) is = is
unread known file (Shards cause) is = is
unread known file Workers is = is
unread known file (Division cause) is = is
unread known file (Run cause) is = is
unread known file (Drive cause) is = is
unread known file Output is = is
