-- What users read of words that are refused: the option and its word, what is wrong with it, and what to write.
use Rattle.std.specs.Prelude.{ℕ, List, [], ◌++◌, Option, Some, None, codes, String, string_bytes}
use Rattle.std.specs.Fmt.{decimal}
use Rattle.shown_names.specs.Shown.{shown_name}
use Rattle.reasons.specs.declared.words.Clash.{Clash}
use Rattle.reasons.specs.declared.words.Clash.TheVariants as clash
use Rattle.reasons.specs.declared.words.OutputFile.{OutputFile}
use Rattle.reasons.specs.declared.words.OutputFile.TheVariants as written
use Rattle.reasons.specs.declared.words.WordFault.{WordFault}
use Rattle.reasons.specs.declared.words.WordFault.TheVariants as fault
use Rattle.reasons.specs.declared.words.WordReason.{WordReason}
use Rattle.reasons.specs.declared.words.WordReason.TheVariants as reason

-- the option that names a file that is written
abbrev pub written_name : OutputFile → List ℕ
written_name written.Trace = codes "trace"
written_name written.Report = codes "report"
written_name written.Table = codes "table"
written_name written.Page = codes "page"
written_name written.Out = codes "out"

-- such a file is named `-`
abbrev pub dash_text : OutputFile → List ℕ
dash_text file = codes "--" ++ written_name file ++ codes " -: - isn't standard output here; write the name of a file, or ./- for one with the name -"

-- the option that has the word
abbrev pub option_of : WordFault → List ℕ
option_of fault.Workers = codes "--workers"
option_of fault.Parts = codes "--parts"
option_of fault.PartNumber = codes "--division"
option_of fault.ListLength = codes "--division"
option_of fault.Until = codes "--until"
option_of fault.Shard = codes "--shard"
option_of fault.Seeds = codes "--seeds"
option_of fault.SeedsOrder = codes "--seeds"
option_of fault.SeedsMany = codes "--seeds"
option_of fault.Swept = codes "--set"
option_of fault.Joined = codes "--set"
option_of fault.KeyTwice = codes "--set"
option_of fault.Want = codes "--want"
option_of fault.Tick = codes "--tick"

-- what is wrong with it, and what to write
abbrev pub advice_of : WordFault → List ℕ
advice_of fault.Workers = codes "write a whole number from 1 to 64"
advice_of fault.Parts = codes "write a whole number from 1 to 64"
advice_of fault.PartNumber = codes "write whole numbers from 0 to 63 with commas between them"
advice_of fault.ListLength = codes "write the number of a part for each member of the scenario"
advice_of fault.Until = codes "write a whole number from 1 to 100"
advice_of fault.Shard = codes "write I/N, where N is at most 10000 and I is from 1 to N"
advice_of fault.Seeds = codes "write A..B, two whole numbers with two dots between them"
advice_of fault.SeedsOrder = codes "the first seed is greater than the last"
advice_of fault.SeedsMany = codes "a sweep has at most 1000000 runs"
advice_of fault.Swept = codes "write KEY=VALUE,VALUE,.., as swim.period=200,300"
advice_of fault.Joined = codes "keys joined by + take values joined by +; write KEY1+KEY2=VALUE1+VALUE2,.., as 3+1,4+2"
advice_of fault.KeyTwice = codes "the key is set twice; write all its values behind one --set"
advice_of fault.Want = codes "write 'STATISTIC<=N', as 'out<=0.01', with at most six digits behind the point"
advice_of fault.Tick = codes "write a whole number and us, ms or s, from 1us to 1s, as 1ms"

-- what is wrong with options that don't go together
abbrev pub clash_text : Clash → List ℕ
clash_text clash.PartsAndDivision = codes "--parts and --division exclude each other"
clash_text clash.ResumeAlone = codes "--resume needs --shard I/N; 1/1 is the whole sweep"
clash_text clash.ShardTelling = codes "--shard makes one shard, which has no --page and no --jsonl; join makes them of all shards"
clash_text clash.NameAlone = codes "--name needs --page P"

-- an option and its word
unfoldable pub word_text : List ℕ → List ℕ → List ℕ
word_text option word = option ++ codes " " ++ shown_name word ++ codes ": "

-- there is no such key
abbrev pub no_key : List ℕ → List ℕ
no_key key = codes "there is no key " ++ shown_name key

-- which key was perhaps meant
abbrev pub guess_text : {A : Type 0} → Option (String A) → List ℕ
guess_text None = []
guess_text (Some guess) = codes "; did you mean " ++ string_bytes guess ++ codes "?"

-- what a value may be
abbrev pub no_value : List ℕ → List ℕ
no_value value = codes "write a whole number, true or false in place of '" ++ shown_name value ++ codes "'"

-- how many parts in a million a share is
abbrev pub parts_text : ℕ → List ℕ
parts_text parts = codes "write a whole number per million: " ++ decimal parts

-- which statistics there are
abbrev pub no_statistic : List ℕ → List ℕ
no_statistic name = codes "there is no statistic " ++ shown_name name
    ++ codes "; the statistics are out, suspect_p50, confirm_p50, confirm_p99, confirm_greatest, last_p50, last_greatest, false_suspect, thrown_out and messages, and in version 4 alarms, deaths, deaths_well and deaths_day"

-- what is wrong with the words
abbrev pub word_reason_text : WordReason → List ℕ
word_reason_text (reason.Clash clash) = clash_text clash
word_reason_text (reason.Dash file) = dash_text file
word_reason_text (reason.Word fault word) = word_text (option_of fault) word.now ++ advice_of fault
word_reason_text (reason.Key word key guess) = word_text (codes "--set") word.now ++ (no_key key.now ++ guess_text guess)
word_reason_text (reason.Value word value) = word_text (codes "--set") word.now ++ no_value value.now
word_reason_text (reason.Share word parts) = word_text (codes "--set") word.now ++ parts_text parts
word_reason_text (reason.Statistic word name) = word_text (codes "--want") word.now ++ no_statistic name.now
word_reason_text reason.Runs = codes "a sweep has at most 1000000 runs; leave out values or seeds"
word_reason_text reason.NoText = codes "a word isn't text in UTF-8"
