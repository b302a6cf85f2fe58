-- What the lines of a script spell, in the words of its two tables, and which lines make a script.
use Rattle.std.specs.Prelude.{◌≡◌, ◌≢◌, ◌⊎◌, ℕ, pos, ◌-◌, ◌^◌, ◌<◌, ◌≤◌, List, [], ◌∷◌, ◌++◌, length, take, Ok, codes}
use Rattle.std.specs.List.{AllByRecursion, flat_map}
use Rattle.std.specs.Option.{option_to_list}
use Rattle.std.specs.Fmt.{decimal}
use Rattle.std.specs.Str.{IsUtf8}
use Rattle.hex.specs.Hex.{decode_of}
use Rattle.gw_base.specs.Bcd.{IsBcd}
use Rattle.gw_base.specs.Currency.{currency_letters}
use Rattle.gw_base.specs.Ident.{IsIdent}
use Rattle.gw_base.specs.Moment.{last_moment}
use Rattle.gw_base.specs.Setup.{HaveDistinctPois}
use Rattle.gw_base.specs.declared.setup.Pt.{Pt}
use Rattle.gw_site.specs.Turns.{IsCount}
use Rattle.sale_frame.specs.Grammar.{frame}
use Rattle.gw_site.specs.Steps.{ImageKind, Old, New, Junk}
use Rattle.gw_script.specs.site.ScriptLine.{SetupLine, Name, Queue, Wait, Slots, Terminal, Event, Open, Close, FromTill, FromPt, Lose, Tick, Failing, FailOpen, FailLink, FailSendTill, FailSendPt, FailWrite, FailSync, FailLength, FailRead, PlayedLine, At, Poll, Fail, Power, ForgetPower, Entry, Blank, Setting, Playing, Script}

-- ---- words

-- a word: no space is in it
abbrev pub IsWord : List ℕ → Type 0
IsWord text = AllByRecursion (λ byte. byte ≢ 32) text

-- a name or POIID: one word of 1 to 40 bytes of printable ASCII
abbrev pub IsNameWord : List ℕ → Type 0
IsNameWord name = IsIdent 40 name × IsWord name

-- a number of a till or of calls or bytes: below 2^64
abbrev pub IsNumber : ℕ → Type 0
IsNumber n = n < 2 ^ 64

-- a number of a terminal
abbrev pub IsLink : ℕ → Type 0
IsLink pt = pt ≤ 65535

-- the text spells these bytes, 1 to 4,096, in hexadecimal
abbrev pub SpellsChunk : List ℕ → List ℕ → Type 0
SpellsChunk bytes hex = (decode_of hex ≡ Ok bytes) × IsCount (length bytes)

-- ---- the lines

-- `terminal POI CURRENCY PASSWORD CONFIG NONE`, with its defaults; the password has six digits
pub record SpellsTerminal (pt : Pt) (text : List ℕ) : Type 0 where
  pub password : List ℕ
  pub poi : IsNameWord pt.poi
  pub password_is : (decode_of password ≡ Ok pt.password) × (length pt.password ≡ 3) × IsBcd pt.password
  pub config : pt.config ≤ 255
  pub none : pt.none ≤ 255
  pub defaults : (pt.address ≡ []) × (pt.answer ≡ 5) × (pt.command ≡ 180)
  pub text_is : text ≡ codes "terminal " ++ (pt.poi ++ 32 ∷ (currency_letters pt.currency ++ 32 ∷ (password ++ 32 ∷ (decimal pt.config ++ 32 ∷ decimal pt.none))))

-- the setup lines, one row for each form
abbrev pub SpellsSetting : SetupLine → List ℕ → Type 0
SpellsSetting (Name name) text = IsNameWord name × (text ≡ codes "name " ++ name)
SpellsSetting (Queue n) text = (n ≤ 8) × (text ≡ codes "line " ++ decimal n)
SpellsSetting (Wait n) text = (1 ≤ n) × (n ≤ 3600) × (text ≡ codes "wait " ++ decimal n)
SpellsSetting (Slots n) text = (2 ≤ n) × (n ≤ 1000000) × (text ≡ codes "slots " ++ decimal n)
SpellsSetting (Terminal pt) text = SpellsTerminal pt text

-- `till T HEX`
abbrev pub SpellsTillBytes : ℕ → List ℕ → List ℕ → Type 0
SpellsTillBytes till bytes text = (hex : List ℕ) × SpellsChunk bytes hex × (text ≡ codes "till " ++ (decimal till ++ 32 ∷ hex))

-- `say T TEXT`: 1 to 4,092 bytes, which are framed
abbrev pub SpellsSaid : ℕ → List ℕ → List ℕ → Type 0
SpellsSaid till bytes text = (said : List ℕ) × (bytes ≡ frame said) × (1 ≤ length said) × (length said ≤ 4092) × (text ≡ codes "say " ++ (decimal till ++ 32 ∷ said))

-- the lines that poll, one row for each form
abbrev pub SpellsEvent : Event → List ℕ → Type 0
SpellsEvent (Open till) text = IsNumber till × (text ≡ codes "open " ++ decimal till)
SpellsEvent (Close till) text = IsNumber till × (text ≡ codes "close " ++ decimal till)
SpellsEvent (FromTill till bytes) text = IsNumber till × (SpellsTillBytes till bytes text ⊎ SpellsSaid till bytes text)
SpellsEvent (FromPt pt bytes) text = IsLink pt × (hex : List ℕ) × SpellsChunk bytes hex × (text ≡ codes "pt " ++ (decimal pt ++ 32 ∷ hex))
SpellsEvent (Lose pt) text = IsLink pt × (text ≡ codes "lost " ++ decimal pt)
SpellsEvent Tick text = text ≡ codes "tick"

-- the `fail` lines, one row for each form
abbrev pub SpellsFailing : Failing → List ℕ → Type 0
SpellsFailing FailOpen text = text ≡ codes "fail open"
SpellsFailing (FailLink pt) text = IsLink pt × (text ≡ codes "fail link " ++ decimal pt)
SpellsFailing (FailSendTill till most) text = IsNumber till × IsNumber most × (text ≡ codes "fail send-till " ++ (decimal till ++ 32 ∷ decimal most))
SpellsFailing (FailSendPt pt most) text = IsLink pt × IsNumber most × (text ≡ codes "fail send-pt " ++ (decimal pt ++ 32 ∷ decimal most))
SpellsFailing FailWrite text = text ≡ codes "fail write"
SpellsFailing FailSync text = text ≡ codes "fail sync"
SpellsFailing FailLength text = text ≡ codes "fail length"
SpellsFailing FailRead text = text ≡ codes "fail read"

-- what a power failure leaves: `old`, `new`, or `junk B` with a byte in hexadecimal
abbrev pub SpellsImage : ImageKind → List ℕ → Type 0
SpellsImage Old text = text ≡ codes "old"
SpellsImage New text = text ≡ codes "new"
SpellsImage (Junk byte) text = (hex : List ℕ) × (decode_of hex ≡ Ok (byte ∷ [])) × (text ≡ codes "junk " ++ hex)

-- the lines that are played, one row for each form
abbrev pub SpellsPlayed : PlayedLine → List ℕ → Type 0
SpellsPlayed (At moment) text = (n : ℕ) × (moment ≡ pos n) × (n ≤ last_moment) × (text ≡ codes "at " ++ decimal n)
SpellsPlayed (Poll event) text = SpellsEvent event text
SpellsPlayed (Fail failing) text = SpellsFailing failing text
SpellsPlayed (Power calls kind) text = IsNumber calls × (image : List ℕ) × SpellsImage kind image × (text ≡ codes "power " ++ (decimal calls ++ 32 ∷ image))
SpellsPlayed ForgetPower text = ⊥

-- an empty line or a comment, a setup line, or a line that is played
abbrev pub SpellsLine : Entry → List ℕ → Type 0
SpellsLine Blank text = (text ≡ []) ⊎ ((comment : List ℕ) × (text ≡ 35 ∷ comment))
SpellsLine (Setting setting) text = SpellsSetting setting text
SpellsLine (Playing line) text = SpellsPlayed line text

-- the text of a line is in UTF-8, and is this
abbrev pub IsEntry : Entry → List ℕ → Type 0
IsEntry entry text = IsUtf8 text × SpellsLine entry text

-- these texts are these lines, one by one
abbrev pub AreEntries : List Entry → List (List ℕ) → Type 0
AreEntries [] [] = Unit {0}
AreEntries [] (text ∷ texts) = ⊥
AreEntries (entry ∷ entries) [] = ⊥
AreEntries (entry ∷ entries) (text ∷ texts) = IsEntry entry text × AreEntries entries texts

-- ---- the lines of a text

-- these lines, each with its end
abbrev pub ended_lines : List (List ℕ) → List ℕ
ended_lines [] = []
ended_lines (line ∷ lines) = line ++ 10 ∷ ended_lines lines

-- the last of these lines has no end, and isn't empty
abbrev pub IsOpenEnded : List (List ℕ) → List ℕ → Type 0
IsOpenEnded lines text = (first : List (List ℕ)) × (last : List ℕ) × (lines ≡ first ++ last ∷ []) × (last ≢ []) × (text ≡ ended_lines first ++ last)

-- these are the lines of the text: each ends with LF and has none in it, and the last LF may be absent
pub record AreLinesOf (lines : List (List ℕ)) (text : List ℕ) : Type 0 where
  pub no_end_within : AllByRecursion (λ line. AllByRecursion (λ byte. byte ≢ 10) line) lines
  pub text_is : (text ≡ ended_lines lines) ⊎ IsOpenEnded lines text

-- ---- the script

-- the setup line, where the line is one
abbrev pub setting_of : Entry → List SetupLine
setting_of Blank = []
setting_of (Setting setting) = setting ∷ []
setting_of (Playing line) = []

-- the setup lines, in order
abbrev pub settings : List Entry → List SetupLine
settings entries = flat_map setting_of entries

-- the line that is played, where the line is one
abbrev pub played_of : Entry → List PlayedLine
played_of Blank = []
played_of (Setting setting) = []
played_of (Playing line) = line ∷ []

-- the lines that are played, in order
abbrev pub played_lines : List Entry → List PlayedLine
played_lines entries = flat_map played_of entries

-- setup lines come before all lines that are played
abbrev pub SetupComesFirst : List Entry → Type 0
SetupComesFirst [] = Unit {0}
SetupComesFirst (Blank ∷ entries) = SetupComesFirst entries
SetupComesFirst (Setting setting ∷ entries) = SetupComesFirst entries
SetupComesFirst (Playing line ∷ entries) = settings entries ≡ []

-- the gateway's name, where the line gives it
abbrev pub given_name : SetupLine → List (List ℕ)
given_name (Name name) = name ∷ []
given_name (Queue n) = []
given_name (Wait n) = []
given_name (Slots n) = []
given_name (Terminal pt) = []

-- how many requests may wait, where the line gives it
abbrev pub given_queue : SetupLine → List ℕ
given_queue (Name name) = []
given_queue (Queue n) = n ∷ []
given_queue (Wait n) = []
given_queue (Slots n) = []
given_queue (Terminal pt) = []

-- how long a request may wait, where the line gives it
abbrev pub given_wait : SetupLine → List ℕ
given_wait (Name name) = []
given_wait (Queue n) = []
given_wait (Wait n) = n ∷ []
given_wait (Slots n) = []
given_wait (Terminal pt) = []

-- how many records the journal holds, where the line gives it
abbrev pub given_slots : SetupLine → List ℕ
given_slots (Name name) = []
given_slots (Queue n) = []
given_slots (Wait n) = []
given_slots (Slots n) = n ∷ []
given_slots (Terminal pt) = []

-- the terminal, where the line gives one
abbrev pub given_terminal : SetupLine → List Pt
given_terminal (Name name) = []
given_terminal (Queue n) = []
given_terminal (Wait n) = []
given_terminal (Slots n) = []
given_terminal (Terminal pt) = pt ∷ []

-- these texts make the script: setup lines first, each of the first four once at most, and at most 32 terminals with distinct POIIDs
pub record AreScript (texts : List (List ℕ)) (script : Script) : Type 0 where
  pub entries : List Entry
  pub spelled : AreEntries entries texts
  pub first : SetupComesFirst entries
  pub name : flat_map given_name (settings entries) ≡ option_to_list script.given.name
  pub queue : flat_map given_queue (settings entries) ≡ option_to_list script.given.queue
  pub wait : flat_map given_wait (settings entries) ≡ option_to_list script.given.wait
  pub slots : flat_map given_slots (settings entries) ≡ option_to_list script.given.slots
  pub terminals : flat_map given_terminal (settings entries) ≡ script.given.terminals
  pub few : length script.given.terminals ≤ 32
  pub distinct : HaveDistinctPois script.given.terminals
  pub lines : played_lines entries ≡ script.lines

-- the text is that of the script
abbrev pub SpellsScript : List ℕ → Script → Type 0
SpellsScript text script = (lines : List (List ℕ)) × AreLinesOf lines text × AreScript lines script

-- the line of this number, counted from 1, is the first that is wrong: the lines before it make a script, and with it they make none
pub record IsFirstWrong (number : ℕ) (texts : List (List ℕ)) : Type 0 where
  pub counted : 1 ≤ number
  pub there : number ≤ length texts
  pub before : (script : Script) × AreScript (take (number - 1) texts) script
  pub wrong : (script : Script) → ¬ AreScript (take number texts) script

-- the line of this number is the text's first that is wrong
abbrev pub HasFirstWrong : List ℕ → ℕ → Type 0
HasFirstWrong text number = (lines : List (List ℕ)) × AreLinesOf lines text × IsFirstWrong number lines
