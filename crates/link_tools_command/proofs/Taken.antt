-- Facts about words in which `clap` finds no error.
use Rattle.std.proofs.Common.{◌≡◌, ◌∙◌, true, false, true≢false, List, [], ◌∷◌, Option, Some, None, Result, Ok, inl, inr, ⊎_elim, ap, codes, refl, sym}
use Rattle.std.proofs.lemmas.Bool.{cases_Bool, not-true}
use Rattle.std.specs.{Prelude.{◌⊎◌, find, is_some, option_map}, Str.bytes_eq}
use Rattle.clap.specs.Words.{App, FailsBy, HasMatchesOf, IsAmong, IsParsedFrom, Shape, Text, app_of, built, fault_of, has_subcommand, is_simple_and_free, subcommand_of, subcommand_rows_of}
use Rattle.clap.specs.Walk.{Names, answers_to, nothing_held, stop_after, walk_from}
use Rattle.clap.specs.Simple.{argument_words, entered, label_of, names_of, rows_at}
use Rattle.clap.specs.Faults.{built_fault, walk_fault}
use Rattle.clap.proofs.{CallerLemmas.subcommand_required, OnLiterals.clap_on_literals}
use Rattle.link_tools_command.specs.Table.{blocks_words, check_words, list_words, pack_words, table, unpack_words}
use Rattle.clap.specs.declared.builder.command.Command.{Command}
use Rattle.clap.specs.declared.parser.matches.ArgMatches.{ArgMatches}
use Rattle.clap.specs.declared.error.{Error.Error, kind.{ErrorKind.ErrorKind, ErrorKind.TheVariants.OutOfMemory}}
use Rattle.clap.proofs.WalkLemmas.{both}
use Rattle.link_tools_command.proofs.Stopped.{StopsElsewhere, first_empty, not_help, walk_stops}
use Rattle.link_tools_command.specs.Usage.{AreValidWords, MayBeFaultOfWords, is_request}
use Rattle.link_tools_command.specs.Reading.{MayBeFaultOfMatches, IsToolName, HasToolName, MayBeFaultOfClapError}
use Rattle.link_tools_command.specs.declared.usage.UsageFault.{UsageFault}
use Rattle.link_tools_command.specs.declared.usage.UsageFault.TheVariants.{Help, Words, Memory}

pub table_is_simple : is_simple_and_free table ≡ true
unfolding clap_on_literals table list_words unpack_words blocks_words check_words pack_words
table_is_simple = refl

-- ---- a tool is named

-- Each subcommand that answers to the word is a tool.
data AreTools (word : Text) : List Shape → Type 0 where
  no_others : AreTools word []
  another : {s : Shape} {subs : List Shape}
      → (answers_to word (label_of s) ≡ true → IsToolName s.name)
      → AreTools word subs → AreTools word (s ∷ subs)

entered_tool : {word : Text} {subs : List Shape} (rest : List Text) → AreTools word subs
    → is_some (option_map (λ s. rows_at s rest) (find (λ s. answers_to word (label_of s)) subs))
    ≡ true
    → HasToolName (option_map (λ s. rows_at s rest) (find (λ s. answers_to word (label_of s)) subs))
entered_tool rest no_others some = absurd (true≢false (sym some))
entered_tool {word = word} {subs = s ∷ subs} rest (another tool tools) some =
    ⊎_elim (λ yes. rw yes (tool yes)) (λ no. rw no (entered_tool rest tools (rw no at some)))
    (cases_Bool (answers_to word (label_of s)))

stopped_tool : (app : App) (stop : Option (Text × List Text))
    → ((word : Text) → bytes_eq word (codes "help") ≡ false → AreTools word app.subs)
    → StopsElsewhere stop → is_some (entered app stop) ≡ true → HasToolName (entered app stop)
stopped_tool app None tools elsewhere some = absurd (true≢false (sym some))
stopped_tool app (Some (word, rest)) tools elsewhere some =
    entered_tool rest (tools word elsewhere) some

-- Words in which nothing is wrong name a tool, if they name a subcommand.
built_names : (app : App) (words : List Text) → app.top.disable_help_subcommand ≡ false
    → ((word : Text) → bytes_eq word (codes "help") ≡ false → AreTools word app.subs)
    → built_fault app nothing_held words ≡ []
    → is_some (entered app (stop_after app.top.rules (names_of app) words)) ≡ true
    → HasToolName (entered app (stop_after app.top.rules (names_of app) words))
built_names app words enabled tools none some =
    let names : Names = names_of app in
    stopped_tool app (stop_after app.top.rules names words) tools
    (walk_stops app.top names words (walk_from nothing_held) enabled tt
    (first_empty (walk_fault app.top names (walk_from nothing_held) words) _ none)) some

taken_names : (words : List Text) → AreValidWords words
    → is_some (subcommand_of table words) ≡ true → HasToolName (subcommand_of table words)
unfolding table list_words unpack_words blocks_words check_words pack_words
taken_names words taken some =
    built_names (built table) (argument_words table words) refl
    (λ word other.
    another (λ named. inl refl)
    (another (λ named. inr (inl refl))
    (another (λ named. inr (inr (inl refl)))
    (another (λ named. inr (inr (inr (inl refl))))
    (another (λ named. inr (inr (inr (inr refl))))
    (another (λ help. absurd (true≢false (sym help ∙ not_help word other))) no_others))))))
    taken some

-- ---- the results of a parse, if the command is that of the table

pub failed : (a : App) (words : List Text) (r : Result ArgMatches Error) → a ≡ table
    → (is_simple_and_free a ≡ true → FailsBy (fault_of a words) r)
    → FailsBy (fault_of table words) r
failed a words r is fails = (rw is at fails) table_is_simple

subcommand_rows_of-table : (a : App) (words : List Text) (m : ArgMatches) → a ≡ table → HasMatchesOf a words m
    → subcommand_rows_of m ≡ subcommand_of table words
subcommand_rows_of-table a words m is has = ((rw is at has) (both _ _ table_is_simple).0).1

-- `clap` ensures that a required subcommand is met.
subcommand_met : (command : Command) (m : ArgMatches) → app_of command ≡ table
    → IsParsedFrom command m → has_subcommand m ≡ true
unfolding table
subcommand_met command m is parsed =
    let plain : (app_of command).top.is_plain ≡ true = ap (λ (a : App). a.top.is_plain) is in
    let no_globals = (both _ _ (both _ _ (both _ _ plain).1).1).0 in
    subcommand_required command m parsed (not-true _ no_globals)
    (ap (λ (a : App). a.top.subcommand_required) is)

some_mapped : {A B : Type 0} (f : A → B) (option : Option A) → is_some option ≡ true
    → is_some (option_map f option) ≡ true
some_mapped f None some = some
some_mapped f (Some value) some = refl

-- The words are accepted, the matches are those of the words, and the words name a tool.
pub parsed : (command : Command) (words : List Text) (m : ArgMatches) → app_of command ≡ table
    → (is_simple_and_free (app_of command) ≡ true
    → FailsBy (fault_of (app_of command) words) (Ok m))
    → HasMatchesOf (app_of command) words m → IsParsedFrom command m
    → AreValidWords words × (subcommand_rows_of m ≡ subcommand_of table words)
    × HasToolName (subcommand_rows_of m)
parsed command words m is fails has from =
    let taken : AreValidWords words = failed (app_of command) words (Ok m) is fails in
    let same = subcommand_rows_of-table (app_of command) words m is has in
    let some : is_some (subcommand_rows_of m) ≡ true =
    some_mapped _ _ (subcommand_met command m is from) in (
      taken,
      same,
      rw same (taken_names words taken (rw same at some)),
    )

pub tool_fault : (words : List Text) → AreValidWords words → (fault : UsageFault)
    → MayBeFaultOfMatches (subcommand_of table words) fault → MayBeFaultOfWords words fault
tool_fault words taken fault (inl long) = rw long.0 (taken, long.1)
tool_fault words taken fault (inr (inl none)) = rw none.0 (taken, none.1)
tool_fault words taken fault (inr (inr (inl mixed))) = rw mixed.0 (taken, mixed.1)
tool_fault words taken fault (inr (inr (inr (inl limited)))) = rw limited.0 (taken, limited.1)
tool_fault words taken fault (inr (inr (inr (inr memory)))) = rw memory tt

pub clap_fault : (words : List Text) (kind : ErrorKind) (fault : UsageFault) → MayBeFaultOfClapError kind fault
    → (kind ≡ OutOfMemory) ⊎ IsAmong kind (fault_of table words) → MayBeFaultOfWords words fault
clap_fault words kind (Help text) stands (inl memory) =
    absurd (true≢false (sym stands ∙ ap is_request memory))
clap_fault words kind (Help text) stands (inr among) = (kind, among, stands)
clap_fault words kind (Words text) stands (inl memory) = absurd (stands.1 memory)
clap_fault words kind (Words text) stands (inr among) = (kind, among, stands.0)
clap_fault words kind Memory stands among = tt
clap_fault words kind _ stands among = absurd stands
