-- What the words ask for, by what clap says.
use Rattle.std.proofs.Common.{◌≡◌, ◌^◌, ◌<◌, ◌≤◌, ℕ, ◌≢◌, Bool, true, false, List, [], ◌∷◌, refl, sym, ◌∙◌, ap, subst, arith, inl, inr}
use Rattle.std.specs.Prelude.{Option, Some, None, Result, Ok, Err, codes, if◌then◌else◌, nat_lt, option_and_then, option_map}
use Rattle.std.specs.Str.{bytes_eq}
use Rattle.std.proofs.lemmas.Bool.Decides.{nat_tests}
use Rattle.std.specs.Str.Parse.{ParsesUnsigned, digits_value, without_leading_plus}
use Rattle.clap.specs.Faults.{fault_of, is_simple_and_free}
use Rattle.clap.specs.Kinds.{HasKind, Kinds}
use Rattle.clap.specs.Matches.{ReadsOne, found_of, one_text}
use Rattle.clap.specs.ValueTests.{accepts}
use Rattle.clap.specs.Values.{kind_of}
use Rattle.clap.specs.Walk.{Row, first_of, is_empty, rows_of}
use Rattle.clap.specs.declared.parser.matches.Found.{Found}
use Rattle.clap.proofs.ValueTestLemmas.{accepts-Accepts, Accepts-accepts}
use Rattle.clap.proofs.WalkLemmas.{one_text-rows}
use Rattle.clap.specs.Simple.{HasMatchesOf, app_of, app_of_fields, matches_of, new_app, on_top}
use Rattle.clap.specs.declared.error.Error.{Error}
use Rattle.clap.specs.declared.error.kind.ErrorKind.TheVariants.{OutOfMemory}
use Rattle.clap.specs.declared.parser.matches.ArgMatches.{ArgMatches}
use Rattle.clap.specs.declared.builder.command.Command.{Command}
use Rattle.clap.specs.declared.builder.command.Command.TheViews.{out-Command}
use Rattle.gw_run.specs.Words.{bare_command, gateway_command, mode_of, most_payments, number_in, number_of, number_parser, order_in, order_of, order_with, payments_within}
use Rattle.gw_run.specs.declared.words.Mode.{Mode}
use Rattle.gw_run.specs.declared.words.Mode.TheVariants.{Serve, Replay, Drill}
use Rattle.gw_run.specs.declared.words.Order.{Order}

number-small : (n : ℕ) → n < 2 ^ 64 → n ≤ 18446744073709551615
number-small n lt = omega arith

-- what is read of a text as a number of 64 bits is the number that it is
number-read : (E : Type 0) (text : List ℕ) (read : Option ℕ) → ReadsOne (λ bytes result. ParsesUnsigned {E = E} 64 10 bytes result) text read → read ≡ number_of text
number-read E text (Some n) read = by_test (accepts false number_parser text) refl
  where
    passes : accepts false number_parser text ≡ true
    passes = Accepts-accepts false number_parser text (read.0.0, read.0.1, omega arith, number-small _ read.0.1)

    by_test : (test : Bool) → accepts false number_parser text ≡ test → Some n ≡ (if test then Some (digits_value 10 (without_leading_plus text)) else None)
    by_test true e = ap Some read.1
    by_test false e = absurd (let h : true ≡ false = sym passes ∙ e in cc)
number-read E text None read = by_test (accepts false number_parser text) refl
  where
    by_test : (test : Bool) → accepts false number_parser text ≡ test → None ≡ (if test then Some (digits_value 10 (without_leading_plus text)) else None)
    by_test true e = let h = accepts-Accepts false number_parser text e in absurd (read.1 (h.0, h.1))
    by_test false e = refl

-- what is read of an option is the number that it has
pub option-read : (E : Type 0) (Gives : List ℕ → Result ℕ E → Type 0) → ((text : List ℕ) (result : Result ℕ E) → Gives text result → ParsesUnsigned 64 10 text result) →
    (found : Found) (name : List ℕ) (read : Option ℕ) → (one_text found name ≡ None → read ≡ None) → ((text : List ℕ) → one_text found name ≡ Some text → ReadsOne Gives text read) → read ≡ number_in name (rows_of found)
option-read E Gives only found name read none value = by_text (one_text found name) refl ∙ ap (option_and_then number_of) (one_text-rows found name)
  where
    weaker : (text : List ℕ) (read : Option ℕ) → ReadsOne Gives text read → ReadsOne (λ bytes result. ParsesUnsigned {E = E} 64 10 bytes result) text read
    weaker text (Some n) h = only text (Ok n) h
    weaker text None h = (h.0, only text (Err h.0) h.1)

    by_text : (text : Option (List ℕ)) → one_text found name ≡ text → read ≡ option_and_then number_of (one_text found name)
    by_text None e = none e ∙ ap (option_and_then number_of) (sym e)
    by_text (Some text) e = number-read E text read (weaker text read (value text e)) ∙ ap (option_and_then number_of) (sym e)

-- ---- the command

-- with these three settings a new command is bare
pub bare-settings : (name : List ℕ) (first second third last : Command) → app_of first ≡ new_app name → out-Command second ≡ record (out-Command first) { no_binary_name = true } →
    out-Command third ≡ record (out-Command second) { disable_help_flag = true } → out-Command last ≡ record (out-Command third) { disable_version_flag = true } → app_of last ≡ bare_command name
bare-settings name first second third last is a b c =
    ap app_of_fields c ∙ ap (on_top (λ shape. record shape { disable_version_flag = true }))
    (ap app_of_fields b ∙ ap (on_top (λ shape. record shape { disable_help_flag = true }))
    (ap app_of_fields a ∙ ap (on_top (λ shape. record shape { no_binary_name = true })) is))

-- ---- what it says of words

order-by : (faults : Kinds) (rows matches : List Row) → faults ≡ [] → rows ≡ matches → order_in rows ≡ (if is_empty faults then order_in matches else None)
order-by [] rows matches e is = ap order_in is
order-by (fault ∷ faults) rows matches e is = cc

none-by : (faults : Kinds) (order : Option Order) → faults ≢ [] → None ≡ (if is_empty faults then order else None)
none-by [] order some = absurd (some refl)
none-by (fault ∷ faults) order some = grind (arith, nat_tests)

-- the command takes these words and was given this, or it doesn't take them
abbrev pub IsTaken : List (List ℕ) → Option ArgMatches → Type 0
IsTaken words None = fault_of gateway_command words ≢ []
IsTaken words (Some matches) = (fault_of gateway_command words ≡ []) × (rows_of (found_of matches) ≡ matches_of gateway_command words)

-- what words ask for that the command takes
pub order-taken : (words : List (List ℕ)) (matches : ArgMatches) → IsTaken words (Some matches) → order_in (rows_of (found_of matches)) ≡ order_of words
order-taken words matches taken = order-by (fault_of gateway_command words) (rows_of (found_of matches)) (matches_of gateway_command words) taken.0 taken.1

-- nothing, where it doesn't take them
pub order-refused : (words : List (List ℕ)) → IsTaken words None → None ≡ order_of words
order-refused words refused = none-by (fault_of gateway_command words) (order_in (matches_of gateway_command words)) refused

-- the command takes the words that clap has read
pub command-takes : (command : Command) (words : List (List ℕ)) (matches : ArgMatches) → app_of command ≡ gateway_command → HasMatchesOf (app_of command) words matches →
    (is_simple_and_free (app_of command) ≡ true → fault_of (app_of command) words ≡ []) → IsTaken words (Some matches)
command-takes command words matches is has free = (
  subst (λ app. is_simple_and_free app ≡ true → fault_of app words ≡ []) is free refl,
  (subst (λ app. HasMatchesOf app words matches) is has refl).0,
)

with-fault : (faults : Kinds) (error : Error) → HasKind faults error → kind_of error ≢ OutOfMemory → faults ≢ []
with-fault [] error (inl memory) other = absurd (other memory)
with-fault [] error (inr among) other = absurd among
with-fault (fault ∷ faults) error has other = λ e. cc

-- it doesn't take those that clap refuses
pub command-refuses : (command : Command) (words : List (List ℕ)) (error : Error) → app_of command ≡ gateway_command →
    (is_simple_and_free (app_of command) ≡ true → HasKind (fault_of (app_of command) words) error) → kind_of error ≢ OutOfMemory → IsTaken words None
command-refuses command words error is kinds other =
    with-fault (fault_of gateway_command words) error (subst (λ app. is_simple_and_free app ≡ true → HasKind (fault_of app words) error) is kinds refl) other

-- ---- how many payments

mode-drills : (from payments : ℕ) (name : List ℕ) (first second : ℕ) → mode_of from payments name ≡ Some (Drill first second) → payments ≡ second
mode-drills from payments name first second = by_tests (bytes_eq name (codes "serve")) (bytes_eq name (codes "replay")) (bytes_eq name (codes "drill"))
  where
    by_tests : (serve replay drill : Bool) → (if serve then Some Serve else if replay then Some Replay else if drill then Some (Drill from payments) else None) ≡ Some (Drill first second) → payments ≡ second
    by_tests true replay drill e = absurd (let n : Some Serve ≡ Some (Drill first second) = e in cc)
    by_tests false true drill e = absurd (let n : Some Replay ≡ Some (Drill first second) = e in cc)
    by_tests false false true e = let n : Some (Drill from payments) ≡ Some (Drill first second) = e in cc
    by_tests false false false e = absurd (let n : None ≡ Some (Drill first second) = e in cc)

few-enough : (number : ℕ) → nat_lt most_payments number ≡ false → number ≤ 10000
few-enough number e = grind (arith, nat_tests)

within-few : (number payments : ℕ) → payments_within number ≡ Some payments → payments ≤ 10000
within-few number payments = by_test (nat_lt most_payments number) refl
  where
    by_test : (test : Bool) → nat_lt most_payments number ≡ test → (if test then None else Some number) ≡ Some payments → payments ≤ 10000
    by_test true t e = absurd (let n : None ≡ Some payments = e in cc)
    by_test false t e = let same : number ≡ payments = (let n : Some number ≡ Some payments = e in cc) in subst (λ n. n ≤ 10000) same (few-enough number t)

number-few : (number : Option ℕ) (payments : ℕ) → option_and_then payments_within number ≡ Some payments → payments ≤ 10000
number-few None payments e = absurd (let n : None ≡ Some payments = e in cc)
number-few (Some number) payments e = within-few number payments e

order-few : (turns from within : Option ℕ) (name : Option (List ℕ)) (order : Order) (first second : ℕ) → ((payments : ℕ) → within ≡ Some payments → payments ≤ 10000)
    → option_and_then (λ polls. option_and_then (λ seed. option_and_then (λ payments. option_map (order_with polls) (option_and_then (mode_of seed payments) name)) within) from) turns ≡ Some order → order.mode ≡ Drill first second → second ≤ 10000
order-few None from within name order first second few e mode = absurd (let n : None ≡ Some order = e in cc)
order-few (Some polls) None within name order first second few e mode = absurd (let n : None ≡ Some order = e in cc)
order-few (Some polls) (Some seed) None name order first second few e mode = absurd (let n : None ≡ Some order = e in cc)
order-few (Some polls) (Some seed) (Some payments) None order first second few e mode = absurd (let n : None ≡ Some order = e in cc)
order-few (Some polls) (Some seed) (Some payments) (Some name) order first second few e mode = by_mode (mode_of seed payments name) refl e
  where
    by_mode : (named : Option Mode) → mode_of seed payments name ≡ named → option_map (order_with polls) named ≡ Some order → second ≤ 10000
    by_mode None is e = absurd (let n : None ≡ Some order = e in cc)
    by_mode (Some named) is e =
        let same : order_with polls named ≡ order = (let n : Some (order_with polls named) ≡ Some order = e in cc) in
        let drill : named ≡ Drill first second = ap (λ (o : Order). o.mode) same ∙ mode in
        subst (λ n. n ≤ 10000) (mode-drills seed payments name first second (is ∙ ap Some drill)) (few payments refl)

-- a drill that words ask for has no more payments than may be
pub drill-few : (words : List (List ℕ)) (order : Order) (from payments : ℕ) → Some order ≡ order_of words → order.mode ≡ Drill from payments → payments ≤ 10000
drill-few words order from payments is mode = by_test (is_empty (fault_of gateway_command words)) (sym is)
  where
    by_test : (test : Bool) → (if test then order_in (matches_of gateway_command words) else None) ≡ Some order → payments ≤ 10000
    by_test false e = absurd (let n : None ≡ Some order = e in cc)
    by_test true e =
        order-few (number_in (codes "turns") (matches_of gateway_command words)) (number_in (codes "from") (matches_of gateway_command words)) (option_and_then payments_within (number_in (codes "payments") (matches_of gateway_command words)))
        (first_of (codes "mode") (matches_of gateway_command words)) order from payments (λ n is. number-few (number_in (codes "payments") (matches_of gateway_command words)) n is) e mode
