-- The grammar of scripts as a function, from a text to the script or to the number of the first wrong line; `Grammar` is the relation, a row for each form.
use Rattle.std.specs.Prelude.{ℕ, pos, ◌+◌, Bool, nat_lt, nat_le, ◌==◌, ◌&&◌, not, if◌then◌else◌, List, [], ◌∷◌, ◌++◌, Option, Some, None, is_some, option_map, option_and_then, Result, Ok, Err, codes, bytes_eq, length}
use Rattle.std.specs.List.{list_all}
use Rattle.std.specs.Str.{is_utf8}
use Rattle.std.specs.Result.{result_ok}
use Rattle.hex.specs.Hex.{decode_of}
use Rattle.gw_base.specs.Bcd.{is_bcd}
use Rattle.gw_base.specs.Currency.{currency_letters}
use Rattle.gw_base.specs.Moment.{last_moment}
use Rattle.gw_base.specs.declared.currency.Currency.{Currency}
use Rattle.gw_base.specs.declared.currency.Currency.TheVariants.{Eur, Chf, Gbp, Usd, Dkk, Sek, Nok, Pln, Czk}
use Rattle.gw_base.specs.declared.setup.Pt.{Pt}
use Rattle.sale_frame.specs.Grammar.{frame}
use Rattle.gw_site.specs.Steps.{ImageKind, Old, New, Junk}
use Rattle.gw_script.specs.Decode.{WordAndRest, is_blank, is_empty, is_name, number, split_at_space, split_lines}
use Rattle.gw_script.specs.site.ScriptLine.{SetupLine, Name, Queue, Wait, Slots, Terminal, Event, Open, Close, FromTill, FromPt, Lose, Tick, Failing, FailOpen, FailLink, FailSendTill, FailSendPt, FailWrite, FailSync, FailLength, FailRead, PlayedLine, At, Poll, Fail, Power, Entry, Blank, Setting, Playing, Given, Script, nothing_given}

-- ---- words

-- the text's first word decides, and then what follows its space
abbrev pub after_word : {A B : Type 0} → (List ℕ → Option A) → (A → List ℕ → Option B) → Option WordAndRest → Option B
after_word word rest None = None
after_word word rest (Some split) = option_and_then (λ value. rest value split.rest) (word split.word)

-- a value where a test holds of it
abbrev pub kept_if : {A : Type 0} → (A → Bool) → Option A → Option A
kept_if test None = None
kept_if test (Some value) = if test value then Some value else None

-- a number that lies between these
abbrev pub number_within : ℕ → ℕ → List ℕ → Option ℕ
number_within least most text = kept_if (λ n. nat_le least n && nat_le n most) (number text)

-- a number of a terminal
abbrev pub link_number : List ℕ → Option ℕ
link_number text = number_within 0 65535 text

-- a name or POIID, one word
abbrev pub name_word : List ℕ → Option (List ℕ)
name_word text = if is_name text then Some text else None

-- 1 to so many bytes
abbrev pub few_bytes : ℕ → List ℕ → Bool
few_bytes most bytes = nat_le 1 (length bytes) && nat_le (length bytes) most

-- 1 to 4,096 bytes in hexadecimal
abbrev pub chunk : List ℕ → Option (List ℕ)
chunk text = kept_if (few_bytes 4096) (result_ok (decode_of text))

-- a text of 1 to 4,092 bytes, which is framed
abbrev pub said : List ℕ → Option (List ℕ)
said text = if few_bytes 4092 text then Some (frame text) else None

-- ---- setup lines

-- the currency of these letters
abbrev pub currency_among : List Currency → List ℕ → Option Currency
currency_among [] letters = None
currency_among (currency ∷ currencies) letters = if bytes_eq letters (currency_letters currency) then Some currency else currency_among currencies letters

-- the currency of these letters, of all that there are
abbrev pub currency_word : List ℕ → Option Currency
currency_word letters = currency_among (Eur ∷ Chf ∷ Gbp ∷ Usd ∷ Dkk ∷ Sek ∷ Nok ∷ Pln ∷ Czk ∷ []) letters

-- a password of six digits
abbrev pub password_word : List ℕ → Option (List ℕ)
password_word text = kept_if (λ bytes. (length bytes == 3) && is_bcd bytes) (result_ok (decode_of text))

-- a terminal with its defaults
abbrev pub terminal : List ℕ → Currency → List ℕ → ℕ → ℕ → Pt
terminal poi currency password config none = record { poi = poi; address = []; password = password; currency = currency; config = config; none = none; answer = 5; command = 180 }

-- a number of one byte
abbrev pub byte_number : List ℕ → Option ℕ
byte_number text = number_within 0 255 text

-- `CONFIG NONE`
abbrev pub terminal_codes : List ℕ → Currency → List ℕ → List ℕ → Option SetupLine
terminal_codes poi currency password text = after_word byte_number (λ config rest. option_map (λ none. Terminal (terminal poi currency password config none)) (byte_number rest)) (split_at_space text)

-- `PASSWORD CONFIG NONE`
abbrev pub terminal_password : List ℕ → Currency → List ℕ → Option SetupLine
terminal_password poi currency text = after_word password_word (λ password rest. terminal_codes poi currency password rest) (split_at_space text)

-- `CURRENCY PASSWORD CONFIG NONE`
abbrev pub terminal_currency : List ℕ → List ℕ → Option SetupLine
terminal_currency poi text = after_word currency_word (λ currency rest. terminal_password poi currency rest) (split_at_space text)

-- `POI CURRENCY PASSWORD CONFIG NONE`
abbrev pub terminal_words : List ℕ → Option SetupLine
terminal_words text = after_word name_word (λ poi rest. terminal_currency poi rest) (split_at_space text)

-- ---- lines that are played

-- `T HEX`
abbrev pub till_bytes : List ℕ → Option Event
till_bytes text = after_word number (λ till rest. option_map (FromTill till) (chunk rest)) (split_at_space text)

-- `T TEXT`
abbrev pub till_said : List ℕ → Option Event
till_said text = after_word number (λ till rest. option_map (FromTill till) (said rest)) (split_at_space text)

-- `J HEX`
abbrev pub pt_bytes : List ℕ → Option Event
pt_bytes text = after_word link_number (λ pt rest. option_map (FromPt pt) (chunk rest)) (split_at_space text)

-- the `fail` line of a call with a connection, and where it is a send with how many bytes it takes
abbrev pub failing_on : List ℕ → List ℕ → Option Failing
failing_on word rest =
    if bytes_eq word (codes "link") then option_map FailLink (link_number rest)
    else if bytes_eq word (codes "send-till") then after_word number (λ till most. option_map (FailSendTill till) (number most)) (split_at_space rest)
    else if bytes_eq word (codes "send-pt") then after_word link_number (λ pt most. option_map (FailSendPt pt) (number most)) (split_at_space rest)
    else None

-- the `fail` line of a call
abbrev pub failing_parts : Option WordAndRest → Option Failing
failing_parts None = None
failing_parts (Some split) = failing_on split.word split.rest

-- what follows `fail`
abbrev pub failing_of : List ℕ → Option Failing
failing_of text =
    if bytes_eq text (codes "open") then Some FailOpen
    else if bytes_eq text (codes "write") then Some FailWrite
    else if bytes_eq text (codes "sync") then Some FailSync
    else if bytes_eq text (codes "length") then Some FailLength
    else if bytes_eq text (codes "read") then Some FailRead
    else failing_parts (split_at_space text)

-- one byte
abbrev pub single : List ℕ → Option ℕ
single [] = None
single (byte ∷ []) = Some byte
single (byte ∷ next ∷ bytes) = None

-- `junk B`
abbrev pub junk_of : Option WordAndRest → Option ImageKind
junk_of None = None
junk_of (Some split) = if bytes_eq split.word (codes "junk") then option_map Junk (option_and_then single (result_ok (decode_of split.rest))) else None

-- what a power failure leaves
abbrev pub image_of : List ℕ → Option ImageKind
image_of text =
    if bytes_eq text (codes "old") then Some Old
    else if bytes_eq text (codes "new") then Some New
    else junk_of (split_at_space text)

-- `N IMAGE`
abbrev pub power_of : List ℕ → Option PlayedLine
power_of text = after_word number (λ calls rest. option_map (Power calls) (image_of rest)) (split_at_space text)

-- ---- all lines

-- a setup line
abbrev pub setting : Option SetupLine → Option Entry
setting line = option_map Setting line

-- a line that polls
abbrev pub polling : Option Event → Option Entry
polling event = option_map (λ event. Playing (Poll event)) event

-- a line's first word, and what is read after its space
pub record Form : Type 0 where
  pub word : List ℕ
  pub decodes : List ℕ → Option Entry

-- the forms of lines by which a poll brings something, or something fails
abbrev pub event_forms : List Form
event_forms =
    record { word = codes "open"; decodes = λ rest. polling (option_map Open (number rest)) }
    ∷ record { word = codes "close"; decodes = λ rest. polling (option_map Close (number rest)) }
    ∷ record { word = codes "till"; decodes = λ rest. polling (till_bytes rest) }
    ∷ record { word = codes "say"; decodes = λ rest. polling (till_said rest) }
    ∷ record { word = codes "pt"; decodes = λ rest. polling (pt_bytes rest) }
    ∷ record { word = codes "lost"; decodes = λ rest. polling (option_map Lose (link_number rest)) }
    ∷ record { word = codes "fail"; decodes = λ rest. option_map (λ failing. Playing (Fail failing)) (failing_of rest) }
    ∷ record { word = codes "power"; decodes = λ rest. option_map Playing (power_of rest) }
    ∷ []

-- the forms of lines with a space
abbrev pub forms : List Form
forms =
    record { word = codes "name"; decodes = λ rest. setting (option_map Name (name_word rest)) }
    ∷ record { word = codes "line"; decodes = λ rest. setting (option_map Queue (number_within 0 8 rest)) }
    ∷ record { word = codes "wait"; decodes = λ rest. setting (option_map Wait (number_within 1 3600 rest)) }
    ∷ record { word = codes "slots"; decodes = λ rest. setting (option_map Slots (number_within 2 1000000 rest)) }
    ∷ record { word = codes "terminal"; decodes = λ rest. setting (terminal_words rest) }
    ∷ record { word = codes "at"; decodes = λ rest. option_map (λ n. Playing (At (pos n))) (number_within 0 last_moment rest) }
    ∷ event_forms

-- the line of a first word and of what follows its space, by the form with that word
abbrev pub formed : List Form → List ℕ → List ℕ → Option Entry
formed [] word rest = None
formed (form ∷ forms) word rest = if bytes_eq word form.word then form.decodes rest else formed forms word rest

-- the line of a text by its first word; a text without a space has none
abbrev pub formed_parts : Option WordAndRest → Option Entry
formed_parts None = None
formed_parts (Some split) = formed forms split.word split.rest

-- the line that a text spells
abbrev pub spelled : List ℕ → Option Entry
spelled text = if is_blank text then Some Blank else if bytes_eq text (codes "tick") then Some (Playing (Poll Tick)) else formed_parts (split_at_space text)

-- the line that a text in UTF-8 spells
abbrev pub entry_of : List ℕ → Option Entry
entry_of text = if is_utf8 text then spelled text else None

-- ---- the script

-- no terminal has this POIID
abbrev pub lacks_poi : List Pt → List ℕ → Bool
lacks_poi terminals poi = list_all (λ (other : Pt). not (bytes_eq other.poi poi)) terminals

-- what the setup lines give with one more, where it may come there: each of the first four once, and at most 32 terminals with distinct POIIDs
abbrev pub with_setting : Given → SetupLine → Option Given
with_setting given (Name name) = if is_some given.name then None else Some (record given { name = Some name })
with_setting given (Queue n) = if is_some given.queue then None else Some (record given { queue = Some n })
with_setting given (Wait n) = if is_some given.wait then None else Some (record given { wait = Some n })
with_setting given (Slots n) = if is_some given.slots then None else Some (record given { slots = Some n })
with_setting given (Terminal pt) = if nat_lt (length given.terminals) 32 && lacks_poi given.terminals pt.poi then Some (record given { terminals = given.terminals ++ pt ∷ [] }) else None

-- the script with one line more, where it may come there: setup lines before the lines that are played
abbrev pub with_entry : Script → Entry → Option Script
with_entry script Blank = Some script
with_entry script (Setting line) = if is_empty script.lines then option_map (λ given. record script { given = given }) (with_setting script.given line) else None
with_entry script (Playing line) = Some (record script { lines = script.lines ++ line ∷ [] })

-- before the first line
abbrev pub no_lines : Script
no_lines = record { given = nothing_given; lines = [] }

-- what comes of the script so far, and the number of the line where none can be made with it
abbrev pub script_goes_on : Option Script → ℕ → (Script → Result Script ℕ) → Result Script ℕ
script_goes_on None line next = Err line
script_goes_on (Some script) line next = next script

-- the script with the lines of these texts after its own, of which the first has this number
abbrev pub script_from : Script → ℕ → List (List ℕ) → Result Script ℕ
script_from script line [] = Ok script
script_from script line (text ∷ texts) = script_goes_on (option_and_then (with_entry script) (entry_of text)) line (λ more. script_from more (line + 1) texts)

-- the script of a text, or the number of the first line of another form, counted from 1 over all lines
abbrev pub script_of : List ℕ → Result Script ℕ
script_of text = script_from no_lines 1 (split_lines text)
