-- What the words ask for: the mode and the numbers of a list of words, or nothing where they are refused.
use Rattle.std.specs.Prelude.{◌≡◌, ◌⊎◌, ℕ, List, [], ◌∷◌, Option, Some, None, codes, nat_lt, if◌then◌else◌, option_and_then, option_map, true, false}
use Rattle.std.specs.Str.{bytes_eq}
use Rattle.std.specs.Str.Parse.{digits_value, without_leading_plus}
use Rattle.clap.specs.Faults.{fault_of}
use Rattle.clap.specs.Simple.{App, matches_of, new_app, new_rule, on_top, with_rule}
use Rattle.clap.specs.ValueTests.{accepts}
use Rattle.clap.specs.Walk.{Row, Rule, first_of, is_empty, one_of}
use Rattle.clap.specs.declared.builder.value_parser.ValueParser.{ValueParser}
use Rattle.clap.specs.declared.builder.value_parser.ValueParser.TheVariants.{Unsigned}
use Rattle.gw_run.specs.declared.words.Mode.{Mode}
use Rattle.gw_run.specs.declared.words.Mode.TheVariants.{Serve, Replay, Drill}
use Rattle.gw_run.specs.declared.words.Order.{Order}

-- ---- the command

-- the numbers that an option may have: those of 64 bits
abbrev pub number_parser : ValueParser
number_parser = Unsigned 0 18446744073709551615

-- an option with one number, and the number that counts where it isn't given
abbrev pub number_rule : List ℕ → List ℕ → Rule
number_rule name default = record (new_rule name) { long = Some name; parser = Some number_parser; defaults = default ∷ [] }

-- the one word that has to be there
abbrev pub mode_rule : Rule
mode_rule = record (new_rule (codes "mode")) { required = true }

-- a command of this name, whose words hold no program's name, without flags for help and version
abbrev pub bare_command : List ℕ → App
bare_command name = on_top (λ shape. record shape { no_binary_name = true; disable_help_flag = true; disable_version_flag = true }) (new_app name)

-- the command that the words are for: `MODE`, `--turns N`, `--from N` and `--payments N`
abbrev pub gateway_command : App
gateway_command =
    with_rule (with_rule (with_rule (with_rule (bare_command (codes "gateway")) mode_rule)
    (number_rule (codes "turns") (codes "18446744073709551615")))
    (number_rule (codes "from") (codes "1")))
    (number_rule (codes "payments") (codes "100"))

-- ---- what it is given

-- the number that a text is
abbrev pub number_of : List ℕ → Option ℕ
number_of text = if accepts false number_parser text then Some (digits_value 10 (without_leading_plus text)) else None

-- the number that an option has
abbrev pub number_in : List ℕ → List Row → Option ℕ
number_in name rows = option_and_then number_of (one_of name rows)

-- the mode with this name, for a drill with these numbers
abbrev pub mode_of : ℕ → ℕ → List ℕ → Option Mode
mode_of from payments name =
    if bytes_eq name (codes "serve") then Some Serve
    else if bytes_eq name (codes "replay") then Some Replay
    else if bytes_eq name (codes "drill") then Some (Drill from payments)
    else None

-- the mode that is named
abbrev pub mode_in : ℕ → ℕ → List Row → Option Mode
mode_in from payments rows = option_and_then (mode_of from payments) (first_of (codes "mode") rows)

-- how many payments may be asked for
abbrev pub most_payments : ℕ
most_payments = 10000

-- so many payments, where no more are
abbrev pub payments_within : ℕ → Option ℕ
payments_within payments = if nat_lt most_payments payments then None else Some payments

-- so many polls in this mode
abbrev pub order_with : ℕ → Mode → Order
order_with polls mode = record { mode = mode; polls = polls }

-- what is asked for by what the command was given
abbrev pub order_in : List Row → Option Order
order_in rows =
    option_and_then (λ polls.
    option_and_then (λ from.
    option_and_then (λ payments. option_map (order_with polls) (mode_in from payments rows))
    (option_and_then payments_within (number_in (codes "payments") rows)))
    (number_in (codes "from") rows))
    (number_in (codes "turns") rows)

-- what the words ask for, where the command takes them, they name a mode, and they ask for no more payments than may be
abbrev pub order_of : List (List ℕ) → Option Order
order_of words = if is_empty (fault_of gateway_command words) then order_in (matches_of gateway_command words) else None

-- the words ask for a replay
abbrev pub AskForReplay : List (List ℕ) → Type 0
AskForReplay words = (polls : ℕ) × (order_of words ≡ Some (record { mode = Replay; polls = polls }))

-- the words ask to serve for so many polls
abbrev pub AskToServe : List (List ℕ) → ℕ → Type 0
AskToServe words polls = order_of words ≡ Some (record { mode = Serve; polls = polls })

-- the words ask for the drill with these two numbers
abbrev pub AskForDrill : List (List ℕ) → ℕ → ℕ → Type 0
AskForDrill words from payments = (polls : ℕ) × (order_of words ≡ Some (record { mode = Drill from payments; polls = polls }))

-- the words are refused
abbrev pub AreRefused : List (List ℕ) → Type 0
AreRefused words = order_of words ≡ None

-- the words ask for a replay, or are refused
abbrev pub AskForReplayOrNothing : List (List ℕ) → Type 0
AskForReplayOrNothing words = AskForReplay words ⊎ AreRefused words

-- the words ask for a drill, or are refused: nothing is to be read
abbrev pub AskToReadNothing : List (List ℕ) → Type 0
AskToReadNothing words = AreRefused words ⊎ ((from : ℕ) × (payments : ℕ) × AskForDrill words from payments)

-- the words don't ask to serve: they ask for a replay or a drill, or are refused
abbrev pub AskNotToServe : List (List ℕ) → Type 0
AskNotToServe words = AskForReplay words ⊎ AskToReadNothing words
