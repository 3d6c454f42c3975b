use Rattle.std.proofs.Common.{◌≡◌, ◌∙◌, ap, ap₂, refl, subst, sym, ℕ, Bool, true, false, List}
use Rattle.std.proofs.Common.{[], ◌∷◌, ◌++◌, codes, Option, Some, None, Result, Ok, Err, arith}
use Rattle.std.specs.Prelude.{◌==◌, ◌&&◌, ◌<◌, ◌^◌, pos, IfSome, IsSome, option_and_then}
use Rattle.std.specs.Result.{IsErrAnd}
use Rattle.std.specs.Str.{bytes_eq}
use Rattle.std.specs.Str.Parse.{AllDigits, IsNumeral, digits_value, without_leading_plus}
use Rattle.std.proofs.lemmas.Bool.{eqb-true, lt-ltb, le-leb}
use Rattle.clap.specs.Lexer.{long_of, short_of, without_minus}
use Rattle.clap.specs.ValueTests.{is_numeral, is_signed_in, is_unsigned_in}
use Rattle.clap.specs.Words.{Accepts}
use Rattle.clap.specs.declared.builder.value_parser.ValueParser.TheVariants.{Unsigned}
use Rattle.clap.proofs.ValueTestLemmas.{accepts-Accepts}
use Rattle.clap.proofs.WalkLemmas.{both}
use Rattle.clap.specs.Values.{kind_of}
use Rattle.clap.specs.Faults.{fault_of, is_simple_and_free}
use Rattle.clap.specs.Kinds.{FailsBy, HasKind}
use Rattle.clap.specs.declared.error.Error.{Error}
use Rattle.clap.specs.declared.error.kind.ErrorKind.TheVariants.{OutOfMemory}
use Rattle.ipc_command.specs.declared.command.Request.{Request}
use Rattle.ipc_command.specs.declared.command.Request.TheVariants as request
use Rattle.clap.specs.Words.{App, Text, app_of, is_simple, subcommand_of, subcommand_rows_of, takes}
use Rattle.clap.specs.declared.builder.command.Command.{Command}
use Rattle.clap.specs.declared.parser.matches.ArgMatches.{ArgMatches}
use Rattle.clap.specs.Simple.{HasMatchesOf}
use Rattle.clap.proofs.OnLiterals.{clap_on_literals}
use Rattle.ipc_command.specs.Command.{PlainRequest, plain_request, asked, declared, is_no_flag, parsed_number}
use Rattle.ipc_command.specs.Command.{small_words, sectors_words, turns_words, metrics_words, AsksFor, IsTakenAs}
use Rattle.ipc_command.specs.Command.PlainRequest.{Replay, Format, Upgrade, Run, Dump, ListObjects, Backup, Check, Serve}
use Rattle.ipc_command.proofs.command.parse.Goals as goal

abbrev standard_words : List ℕ → List Text
standard_words name = name ∷ codes "replay" ∷ []

abbrev small_replay : List ℕ → List Text
small_replay name = name ∷ codes "replay" ∷ codes "--small" ∷ []

standard-read : (name : List ℕ) → asked (subcommand_of declared (standard_words name)) ≡ Replay false
unfolding clap_on_literals
standard-read name = refl

small-read : (name : List ℕ) → asked (subcommand_of declared (small_replay name)) ≡ Replay true
unfolding clap_on_literals
small-read name = refl

standard-taken : (name : List ℕ) → takes declared (standard_words name) ≡ true
unfolding clap_on_literals
standard-taken name = refl

small-taken : (name : List ℕ) → takes declared (small_replay name) ≡ true
unfolding clap_on_literals
small-taken name = refl

-- the parser reads such a word as a value
pub record IsValue (word : Text) : Type 0 where
  pub dashes : bytes_eq word (45 ∷ 45 ∷ []) ≡ false
  pub long : long_of word ≡ None
  pub short : short_of word ≡ None

value-of : (word : Text) → is_no_flag word ≡ true → IsValue word
value-of [] no_flag = record { dashes = refl; long = refl; short = refl }
value-of (x ∷ []) no_flag = by (x == 45) refl
  where
    by : (is : Bool) → (x == 45) ≡ is → IsValue (x ∷ [])
    by false is = record { dashes = rw is refl; long = rw is refl; short = rw is refl }
    by true is = record { dashes = rw is refl; long = rw is refl; short = rw is refl }
value-of (x ∷ y ∷ rest) no_flag = by (x == 45) refl
  where
    by : (is : Bool) → (x == 45) ≡ is → IsValue (x ∷ y ∷ rest)
    by false is = record { dashes = rw is refl; long = rw is refl; short = rw is refl }
    by true is = let never : false ≡ true = rw is at no_flag in cc

run-read : (name device : List ℕ) → IsValue device → asked (subcommand_of declared (name ∷ codes "run" ∷ device ∷ [])) ≡ Run device
unfolding clap_on_literals
run-read name device v = rw (v.dashes, v.long, v.short) refl

run-taken : (name device : List ℕ) → IsValue device → takes declared (name ∷ codes "run" ∷ device ∷ []) ≡ true
unfolding clap_on_literals
run-taken name device v = rw (v.dashes, v.long, v.short) refl

dump-read : (name device : List ℕ) → IsValue device → asked (subcommand_of declared (name ∷ codes "dump" ∷ device ∷ [])) ≡ Dump device
unfolding clap_on_literals
dump-read name device v = rw (v.dashes, v.long, v.short) refl

dump-taken : (name device : List ℕ) → IsValue device → takes declared (name ∷ codes "dump" ∷ device ∷ []) ≡ true
unfolding clap_on_literals
dump-taken name device v = rw (v.dashes, v.long, v.short) refl

list-read : (name device : List ℕ) → IsValue device → asked (subcommand_of declared (name ∷ codes "list" ∷ device ∷ [])) ≡ ListObjects device
unfolding clap_on_literals
list-read name device v = rw (v.dashes, v.long, v.short) refl

list-taken : (name device : List ℕ) → IsValue device → takes declared (name ∷ codes "list" ∷ device ∷ []) ≡ true
unfolding clap_on_literals
list-taken name device v = rw (v.dashes, v.long, v.short) refl

check-read : (name device : List ℕ) → IsValue device → asked (subcommand_of declared (name ∷ codes "check" ∷ device ∷ [])) ≡ Check device
unfolding clap_on_literals
check-read name device v = rw (v.dashes, v.long, v.short) refl

check-taken : (name device : List ℕ) → IsValue device → takes declared (name ∷ codes "check" ∷ device ∷ []) ≡ true
unfolding clap_on_literals
check-taken name device v = rw (v.dashes, v.long, v.short) refl

backup-read : (name device copy : List ℕ) → IsValue device → IsValue copy
    → asked (subcommand_of declared (name ∷ codes "backup" ∷ device ∷ copy ∷ [])) ≡ Backup device copy
unfolding clap_on_literals
backup-read name device copy v w = rw (v.dashes, v.long, v.short, w.dashes, w.long, w.short) refl

backup-taken : (name device copy : List ℕ) → IsValue device → IsValue copy
    → takes declared (name ∷ codes "backup" ∷ device ∷ copy ∷ []) ≡ true
unfolding clap_on_literals
backup-taken name device copy v w = rw (v.dashes, v.long, v.short, w.dashes, w.long, w.short) refl

-- the parser reads such a word as a number from one to another
pub record IsNumberIn (low high : ℕ) (word : Text) : Type 0 where
  pub value : IsValue word
  pub same : without_minus word ≡ word
  pub passes : is_signed_in (pos low) (pos high) word ≡ true

abbrev pub IsNumber : Text → Type 0
IsNumber = IsNumberIn 0 4294967295

abbrev pub IsJournal : Text → Type 0
IsJournal = IsNumberIn 8 65535

-- a numeral has no hyphen, so it is read alike with a sign and without
number-from : (low high : ℕ) → high < 2 ^ 63 → (word : Text) → is_unsigned_in low high word ≡ true → IsNumberIn low high word
number-from low high few [] is =
    let fits = accepts-Accepts false (Unsigned low high) [] is in absurd (omega (arith, fits.0.0))
number-from low high few (x ∷ rest) is = by (x == 45) refl
  where
    fits : Accepts false (Unsigned low high) (x ∷ rest)
    fits = accepts-Accepts false (Unsigned low high) (x ∷ rest) is

    minus : (y : ℕ) → y ≡ 45 → IsNumeral 10 (without_leading_plus (y ∷ rest)) → ⊥
    minus y same numeral =
        let digits : (36 < 10) × AllDigits 10 rest = subst (λ (k : ℕ). AllDigits 10 (without_leading_plus (k ∷ rest))) same numeral.1 in
        omega (arith, digits.0)

    by : (has : Bool) → (x == 45) ≡ has → IsNumberIn low high (x ∷ rest)
    by true has = absurd (minus x (eqb-true x 45 has) fits.0)
    by false has =
        let numeral : is_numeral (without_leading_plus (x ∷ rest)) ≡ true = (both _ _ is).0 in
        record {
          value = record { dashes = rw has refl; long = rw has refl; short = rw has refl };
          same = rw has refl;
          passes = rw (
            has,
            numeral,
            lt-ltb (digits_value 10 (without_leading_plus (x ∷ rest))) (2 ^ 63) (omega (arith, few, fits.3)),
            le-leb low (digits_value 10 (without_leading_plus (x ∷ rest))) fits.2,
            le-leb (digits_value 10 (without_leading_plus (x ∷ rest))) high fits.3,
          ) refl;
        }

number-at : (word : Text) → IsSome (parsed_number word) → IsNumber word
number-at word some = by (is_unsigned_in 0 4294967295 word) refl
  where
    by : (is : Bool) → is_unsigned_in 0 4294967295 word ≡ is → IsNumber word
    by true is = number-from 0 4294967295 (omega arith) word is
    by false is = let never : false ≡ true = rw is at some in cc

numbers-of : (number : Option Text) → IfSome number (λ word. IsSome (parsed_number word)) → IfSome number IsNumber
numbers-of None some = tt
numbers-of (Some word) some = number-at word some

abbrev sized_line : List ℕ → Text → List ℕ → Bool → Option Text → List Text
sized_line name command device small number = name ∷ command ∷ device ∷ small_words small ++ sectors_words number

format-read : (name device : List ℕ) (small : Bool) (number : Option Text) → IsValue device → IfSome number IsNumber
    → asked (subcommand_of declared (sized_line name (codes "format") device small number))
    ≡ Format device small (option_and_then parsed_number number) None
unfolding clap_on_literals
format-read name device false None v n = rw (v.dashes, v.long, v.short) refl
format-read name device true None v n = rw (v.dashes, v.long, v.short) refl
format-read name device false (Some word) v n =
    rw (v.dashes, v.long, v.short, n.value.dashes, n.value.long, n.value.short) (ap (λ (t : Text). Format device false (parsed_number t) None) n.same)
format-read name device true (Some word) v n =
    rw (v.dashes, v.long, v.short, n.value.dashes, n.value.long, n.value.short) (ap (λ (t : Text). Format device true (parsed_number t) None) n.same)

abbrev journal_line : List ℕ → List ℕ → Bool → Text → List Text
journal_line name device small journal = name ∷ codes "format" ∷ device ∷ small_words small ++ codes "--journal" ∷ journal ∷ []

journal-read : (name device : List ℕ) (small : Bool) (journal : Text) → IsValue device → IsJournal journal
    → asked (subcommand_of declared (journal_line name device small journal)) ≡ Format device small None (parsed_number journal)
unfolding clap_on_literals
journal-read name device false journal v n =
    rw (v.dashes, v.long, v.short, n.value.dashes, n.value.long, n.value.short) (ap (λ (t : Text). Format device false None (parsed_number t)) n.same)
journal-read name device true journal v n =
    rw (v.dashes, v.long, v.short, n.value.dashes, n.value.long, n.value.short) (ap (λ (t : Text). Format device true None (parsed_number t)) n.same)

upgrade-read : (name device : List ℕ) (small : Bool) (number : Option Text) → IsValue device → IfSome number IsNumber
    → asked (subcommand_of declared (sized_line name (codes "upgrade") device small number)) ≡ Upgrade device small (option_and_then parsed_number number)
unfolding clap_on_literals
upgrade-read name device false None v n = rw (v.dashes, v.long, v.short) refl
upgrade-read name device true None v n = rw (v.dashes, v.long, v.short) refl
upgrade-read name device false (Some word) v n =
    rw (v.dashes, v.long, v.short, n.value.dashes, n.value.long, n.value.short) (ap (λ (t : Text). Upgrade device false (parsed_number t)) n.same)
upgrade-read name device true (Some word) v n =
    rw (v.dashes, v.long, v.short, n.value.dashes, n.value.long, n.value.short) (ap (λ (t : Text). Upgrade device true (parsed_number t)) n.same)

-- the number is the one value that is tested
abbrev passes_all : Bool → Bool
passes_all b = ((b && true) && true) && true

format-taken : (name device : List ℕ) (small : Bool) (number : Option Text) → IsValue device → IfSome number IsNumber
    → takes declared (sized_line name (codes "format") device small number) ≡ true
unfolding clap_on_literals
format-taken name device false None v n = rw (v.dashes, v.long, v.short) refl
format-taken name device true None v n = rw (v.dashes, v.long, v.short) refl
format-taken name device false (Some word) v n =
    rw (v.dashes, v.long, v.short, n.value.dashes, n.value.long, n.value.short) (ap passes_all n.passes)
format-taken name device true (Some word) v n =
    rw (v.dashes, v.long, v.short, n.value.dashes, n.value.long, n.value.short) (ap passes_all n.passes)

journal-taken : (name device : List ℕ) (small : Bool) (journal : Text) → IsValue device → IsJournal journal
    → takes declared (journal_line name device small journal) ≡ true
unfolding clap_on_literals
journal-taken name device false journal v n =
    rw (v.dashes, v.long, v.short, n.value.dashes, n.value.long, n.value.short) (ap passes_all n.passes)
journal-taken name device true journal v n =
    rw (v.dashes, v.long, v.short, n.value.dashes, n.value.long, n.value.short) (ap passes_all n.passes)

upgrade-taken : (name device : List ℕ) (small : Bool) (number : Option Text) → IsValue device → IfSome number IsNumber
    → takes declared (sized_line name (codes "upgrade") device small number) ≡ true
unfolding clap_on_literals
upgrade-taken name device false None v n = rw (v.dashes, v.long, v.short) refl
upgrade-taken name device true None v n = rw (v.dashes, v.long, v.short) refl
upgrade-taken name device false (Some word) v n =
    rw (v.dashes, v.long, v.short, n.value.dashes, n.value.long, n.value.short) (ap passes_all n.passes)
upgrade-taken name device true (Some word) v n =
    rw (v.dashes, v.long, v.short, n.value.dashes, n.value.long, n.value.short) (ap passes_all n.passes)

abbrev serve_line : List ℕ → List ℕ → List ℕ → Option Text → Option Text → List Text
serve_line name device socket number metrics =
    name ∷ codes "serve" ∷ device ∷ socket ∷ turns_words number ++ metrics_words metrics

serve-read : (name device socket : List ℕ) (number metrics : Option Text) → IsValue device → IsValue socket → IfSome number IsNumber
    → IfSome metrics IsValue → asked (subcommand_of declared (serve_line name device socket number metrics))
    ≡ Serve device socket (option_and_then parsed_number number) metrics
unfolding clap_on_literals
serve-read name device socket None None v w n m = rw (v.dashes, v.long, v.short, w.dashes, w.long, w.short) refl
serve-read name device socket None (Some file) v w n m =
    rw (v.dashes, v.long, v.short, w.dashes, w.long, w.short, m.dashes, m.long, m.short) refl
serve-read name device socket (Some word) None v w n m =
    rw (v.dashes, v.long, v.short, w.dashes, w.long, w.short, n.value.dashes, n.value.long, n.value.short)
    (ap (λ (t : Text). Serve device socket (parsed_number t) None) n.same)
serve-read name device socket (Some word) (Some file) v w n m =
    rw (v.dashes, v.long, v.short, w.dashes, w.long, w.short, n.value.dashes, n.value.long, n.value.short, m.dashes, m.long, m.short)
    (ap (λ (t : Text). Serve device socket (parsed_number t) (Some file)) n.same)

serve-taken : (name device socket : List ℕ) (number metrics : Option Text) → IsValue device → IsValue socket → IfSome number IsNumber
    → IfSome metrics IsValue → takes declared (serve_line name device socket number metrics) ≡ true
unfolding clap_on_literals
serve-taken name device socket None None v w n m = rw (v.dashes, v.long, v.short, w.dashes, w.long, w.short) refl
serve-taken name device socket None (Some file) v w n m =
    rw (v.dashes, v.long, v.short, w.dashes, w.long, w.short, m.dashes, m.long, m.short) refl
serve-taken name device socket (Some word) None v w n m =
    rw (v.dashes, v.long, v.short, w.dashes, w.long, w.short, n.value.dashes, n.value.long, n.value.short) (ap passes_all n.passes)
serve-taken name device socket (Some word) (Some file) v w n m =
    rw (v.dashes, v.long, v.short, w.dashes, w.long, w.short, n.value.dashes, n.value.long, n.value.short)
    (rw n.passes (rw (m.dashes, m.long) (rw m.short refl)))

-- the option's value, if there is one, is read as a value
values-of : (metrics : Option Text) → IfSome metrics (λ word. is_no_flag word ≡ true) → IfSome metrics IsValue
values-of None some = tt
values-of (Some word) some = value-of word some

-- what the parser finds in these words
found-in : (command : Command) (words : List Text) (m : ArgMatches) → app_of command ≡ declared
    → HasMatchesOf (app_of command) words m → subcommand_rows_of m ≡ subcommand_of declared words
found-in command words m app has = (has (ap is_simple app)).1 ∙ ap (λ (a : App). subcommand_of a words) app

-- what it is asked for by them
asks : (command : Command) (words read : List Text) (m : ArgMatches) (r : Request) (wanted : PlainRequest) → app_of command ≡ declared
    → HasMatchesOf (app_of command) words m → plain_request r ≡ asked (subcommand_rows_of m)
    → words ≡ read → asked (subcommand_of declared read) ≡ wanted → plain_request r ≡ wanted
asks command words read m r wanted app has is same reads =
    is ∙ ap asked (found-in command words m app has) ∙ ap (λ (w : List Text). asked (subcommand_of declared w)) same ∙ reads

-- an error for want of memory
memory-alone : (request : Request) (result : Result Request Error) (error : Error) → IsErrAnd result (λ e. e ≡ error)
    → kind_of error ≡ OutOfMemory → IsTakenAs request result
memory-alone request (Ok asked) error is kind = absurd is
memory-alone request (Err e) error is kind = record { ok = tt; err = ap kind_of is ∙ kind }

memory-only : (wanted : PlainRequest) (result : Result Request Error) (error : Error) → IsErrAnd result (λ e. e ≡ error)
    → kind_of error ≡ OutOfMemory → AsksFor wanted result
memory-only wanted (Ok asked) error is kind = absurd is
memory-only wanted (Err e) error is kind = record { ok = tt; err = ap kind_of is ∙ kind }

-- words that the command line takes have no fault
no-fault : (app : App) (words : List Text) → app ≡ declared → (is_simple_and_free app ≡ true → fault_of app words ≡ [])
    → fault_of declared words ≡ []
no-fault app words same none =
    subst (λ (a : App). fault_of a words ≡ []) same (none (ap is_simple_and_free same))

-- an error of the kinds of the command line's faults
fails : (app : App) (words : List Text) (result : Result Request Error) (error : Error) → app ≡ declared → IsErrAnd result (λ e. e ≡ error)
    → (is_simple_and_free app ≡ true → HasKind (fault_of app words) error) → FailsBy (fault_of declared words) result
fails app words (Ok asked) error same is kinds = absurd is
fails app words (Err e) error same is kinds =
    subst (λ (x : Error). HasKind (fault_of declared words) x) (sym is)
    (subst (λ (a : App). HasKind (fault_of a words) error) same (kinds (ap is_simple_and_free same)))

-- the one request for a replay
replay-only : (r : Request) (small : Bool) → plain_request r ≡ Replay small → r ≡ request.Replay small
replay-only (request.Replay b) small is = let same : b ≡ small = cc in ap (λ (s : Bool). request.Replay s) same
replay-only (request.Format device b sectors journal) small is = cc
replay-only (request.Upgrade device b sectors) small is = cc
replay-only (request.Run device) small is = cc
replay-only (request.Dump device) small is = cc
replay-only (request.ListObjects device) small is = cc
replay-only (request.Backup device copy) small is = cc
replay-only (request.Check device) small is = cc
replay-only (request.Serve device socket turns metrics) small is = cc

pub returns-clause-refused : goal.returns-clause-refused
returns-clause-refused g c = no-fault _ _ c.in_ok-command_line.ensures c.in_ok-matches.ensures.kinds

pub returns-in_err-matches-clause-refused : goal.returns-in_err-matches-clause-refused
returns-in_err-matches-clause-refused g c =
    fails _ _ _ _ c.in_ok-command_line.ensures c.from_residual-in_err-matches.ensures.1 c.in_err-matches.ensures.kinds

pub returns-clause-asked : goal.returns-clause-asked
returns-clause-asked g c =
    c.in_ok-request_in.ensures ∙ ap asked (found-in _ _ _ c.in_ok-command_line.ensures c.in_ok-matches.ensures.matches)

pub returns-in_err-matches-clause-standard : goal.returns-in_err-matches-clause-standard
returns-in_err-matches-clause-standard g c = λ name words.
    memory-alone _ _ _ c.from_residual-in_err-matches.ensures.1
    (c.in_err-matches.ensures.passes (ap₂ takes c.in_ok-command_line.ensures words ∙ standard-taken name))

pub returns-in_err-matches-clause-small : goal.returns-in_err-matches-clause-small
returns-in_err-matches-clause-small g c = λ name words.
    memory-alone _ _ _ c.from_residual-in_err-matches.ensures.1
    (c.in_err-matches.ensures.passes (ap₂ takes c.in_ok-command_line.ensures words ∙ small-taken name))

pub returns-in_err-matches-clause-format : goal.returns-in_err-matches-clause-format
returns-in_err-matches-clause-format g c = λ name device small number no_flag some words.
    memory-only _ _ _ c.from_residual-in_err-matches.ensures.1
    (c.in_err-matches.ensures.passes (ap₂ takes c.in_ok-command_line.ensures words
    ∙ format-taken name device small number (value-of device no_flag) (numbers-of number some)))

pub returns-in_err-matches-clause-journal : goal.returns-in_err-matches-clause-journal
returns-in_err-matches-clause-journal g c = λ name device journal small no_flag sized words.
    memory-only _ _ _ c.from_residual-in_err-matches.ensures.1
    (c.in_err-matches.ensures.passes (ap₂ takes c.in_ok-command_line.ensures words
    ∙ journal-taken name device small journal (value-of device no_flag) (number-from 8 65535 (omega arith) journal sized)))

pub returns-in_err-matches-clause-upgrade : goal.returns-in_err-matches-clause-upgrade
returns-in_err-matches-clause-upgrade g c = λ name device small number no_flag some words.
    memory-only _ _ _ c.from_residual-in_err-matches.ensures.1
    (c.in_err-matches.ensures.passes (ap₂ takes c.in_ok-command_line.ensures words
    ∙ upgrade-taken name device small number (value-of device no_flag) (numbers-of number some)))

pub returns-in_err-matches-clause-run : goal.returns-in_err-matches-clause-run
returns-in_err-matches-clause-run g c = λ name device no_flag words.
    memory-only _ _ _ c.from_residual-in_err-matches.ensures.1
    (c.in_err-matches.ensures.passes (ap₂ takes c.in_ok-command_line.ensures words ∙ run-taken name device (value-of device no_flag)))

pub returns-in_err-matches-clause-dump : goal.returns-in_err-matches-clause-dump
returns-in_err-matches-clause-dump g c = λ name device no_flag words.
    memory-only _ _ _ c.from_residual-in_err-matches.ensures.1
    (c.in_err-matches.ensures.passes (ap₂ takes c.in_ok-command_line.ensures words ∙ dump-taken name device (value-of device no_flag)))

pub returns-in_err-matches-clause-list : goal.returns-in_err-matches-clause-list
returns-in_err-matches-clause-list g c = λ name device no_flag words.
    memory-only _ _ _ c.from_residual-in_err-matches.ensures.1
    (c.in_err-matches.ensures.passes (ap₂ takes c.in_ok-command_line.ensures words ∙ list-taken name device (value-of device no_flag)))

pub returns-in_err-matches-clause-backup : goal.returns-in_err-matches-clause-backup
returns-in_err-matches-clause-backup g c = λ name device copy no_flag no_option words.
    memory-only _ _ _ c.from_residual-in_err-matches.ensures.1
    (c.in_err-matches.ensures.passes (ap₂ takes c.in_ok-command_line.ensures words
    ∙ backup-taken name device copy (value-of device no_flag) (value-of copy no_option)))

pub returns-in_err-matches-clause-check : goal.returns-in_err-matches-clause-check
returns-in_err-matches-clause-check g c = λ name device no_flag words.
    memory-only _ _ _ c.from_residual-in_err-matches.ensures.1
    (c.in_err-matches.ensures.passes (ap₂ takes c.in_ok-command_line.ensures words ∙ check-taken name device (value-of device no_flag)))

pub returns-in_err-matches-clause-serve : goal.returns-in_err-matches-clause-serve
returns-in_err-matches-clause-serve g c = λ name device socket number metrics no_flag no_option some file words.
    memory-only _ _ _ c.from_residual-in_err-matches.ensures.1
    (c.in_err-matches.ensures.passes (ap₂ takes c.in_ok-command_line.ensures words ∙ serve-taken name device socket number metrics
    (value-of device no_flag) (value-of socket no_option) (numbers-of number some) (values-of metrics file)))

pub returns-clause-standard : goal.returns-clause-standard
returns-clause-standard g c = λ name words. record {
  ok = replay-only _ false (asks _ _ _ _ _ _ c.in_ok-command_line.ensures c.in_ok-matches.ensures.matches
      c.in_ok-request_in.ensures words (standard-read name));
  err = tt;
}

pub returns-clause-small : goal.returns-clause-small
returns-clause-small g c = λ name words. record {
  ok = replay-only _ true (asks _ _ _ _ _ _ c.in_ok-command_line.ensures c.in_ok-matches.ensures.matches
      c.in_ok-request_in.ensures words (small-read name));
  err = tt;
}

pub returns-clause-format : goal.returns-clause-format
returns-clause-format g c = λ name device small number no_flag some words. record {
  ok = asks _ _ _ _ _ _ c.in_ok-command_line.ensures c.in_ok-matches.ensures.matches
      c.in_ok-request_in.ensures words (format-read name device small number (value-of device no_flag) (numbers-of number some));
  err = tt;
}

pub returns-clause-journal : goal.returns-clause-journal
returns-clause-journal g c = λ name device journal small no_flag sized words. record {
  ok = asks _ _ _ _ _ _ c.in_ok-command_line.ensures c.in_ok-matches.ensures.matches c.in_ok-request_in.ensures words
      (journal-read name device small journal (value-of device no_flag) (number-from 8 65535 (omega arith) journal sized));
  err = tt;
}

pub returns-clause-upgrade : goal.returns-clause-upgrade
returns-clause-upgrade g c = λ name device small number no_flag some words. record {
  ok = asks _ _ _ _ _ _ c.in_ok-command_line.ensures c.in_ok-matches.ensures.matches
      c.in_ok-request_in.ensures words (upgrade-read name device small number (value-of device no_flag) (numbers-of number some));
  err = tt;
}

pub returns-clause-run : goal.returns-clause-run
returns-clause-run g c = λ name device no_flag words. record {
  ok = asks _ _ _ _ _ _ c.in_ok-command_line.ensures c.in_ok-matches.ensures.matches
      c.in_ok-request_in.ensures words (run-read name device (value-of device no_flag));
  err = tt;
}

pub returns-clause-dump : goal.returns-clause-dump
returns-clause-dump g c = λ name device no_flag words. record {
  ok = asks _ _ _ _ _ _ c.in_ok-command_line.ensures c.in_ok-matches.ensures.matches
      c.in_ok-request_in.ensures words (dump-read name device (value-of device no_flag));
  err = tt;
}

pub returns-clause-list : goal.returns-clause-list
returns-clause-list g c = λ name device no_flag words. record {
  ok = asks _ _ _ _ _ _ c.in_ok-command_line.ensures c.in_ok-matches.ensures.matches
      c.in_ok-request_in.ensures words (list-read name device (value-of device no_flag));
  err = tt;
}

pub returns-clause-backup : goal.returns-clause-backup
returns-clause-backup g c = λ name device copy no_flag no_option words. record {
  ok = asks _ _ _ _ _ _ c.in_ok-command_line.ensures c.in_ok-matches.ensures.matches
      c.in_ok-request_in.ensures words (backup-read name device copy (value-of device no_flag) (value-of copy no_option));
  err = tt;
}

pub returns-clause-check : goal.returns-clause-check
returns-clause-check g c = λ name device no_flag words. record {
  ok = asks _ _ _ _ _ _ c.in_ok-command_line.ensures c.in_ok-matches.ensures.matches
      c.in_ok-request_in.ensures words (check-read name device (value-of device no_flag));
  err = tt;
}

pub returns-clause-serve : goal.returns-clause-serve
returns-clause-serve g c = λ name device socket number metrics no_flag no_option some file words. record {
  ok = asks _ _ _ _ _ _ c.in_ok-command_line.ensures c.in_ok-matches.ensures.matches c.in_ok-request_in.ensures words
      (serve-read name device socket number metrics (value-of device no_flag) (value-of socket no_option) (numbers-of number some)
      (values-of metrics file));
  err = tt;
}
