-- How the top call ends, and what it prints.
use Rattle.std.specs.Prelude.{◌≡◌, ◌⊎◌, ℕ, ◌+◌, ◌<◌, ◌≤◌, true, List, [], ◌++◌, Option, Some, None, Ok, Err, codes, length}
use Rattle.std.specs.Fmt.{decimal}
use Rattle.gw_site.specs.Failures.{Rose}
use Rattle.gw_bytes.specs.Bytes.{IsPrefix}
use Rattle.gw_site.specs.declared.turn.Turn.{Turn}
use Rattle.gw_script.specs.Decode.{script_limit}
use Rattle.gw_script.specs.site.ScriptLine.{Script, setup_of}
use Rattle.gw_site.specs.declared.turn.Turn.TheVariants.{OpenFailed, Stopped, DiskFailed}
use Rattle.gw_script.specs.site.Playing.{PlaysLines}
use Rattle.gw_rules.specs.Lawful.{IsLawful}
use Rattle.gw_books.specs.PastLaws.{AgreesThroughout}
use Rattle.gw_run.specs.ScriptLog.{AreOpenings, HasLastTurn, IsLogOf}
use Rattle.gw_script.specs.site.Decode.{script_of}
use Rattle.gw_run.specs.Words.{AreRefused, AskForReplay}
use Rattle.gw_script.specs.LogText.{log_text}
use Rattle.gw_run.specs.declared.ending.Ending.{Ending}
use Rattle.gw_run.specs.declared.ending.Ending.TheVariants.{Played, Words, Long, Line as AtLine, Input, NotOpened, Memory, OutputFailed, Disk, LongJournal, CutJournal, BadSlot}

-- the status of each end
abbrev pub status_of : Ending → ℕ
status_of Played = 0
status_of Words = 64
status_of Long = 65
status_of (AtLine line) = 65
status_of Input = 66
status_of NotOpened = 69
status_of Memory = 71
status_of OutputFailed = 73
status_of Disk = 74
status_of (LongJournal size) = 76
status_of (CutJournal slot) = 76
status_of (BadSlot slot) = 76

-- the fault line, where there is one, and the status line
abbrev pub tail_of : Ending → List ℕ
tail_of Played = codes "status 0\n"
tail_of Words = codes "words\nstatus 64\n"
tail_of Long = codes "script long\nstatus 65\n"
tail_of (AtLine line) = codes "script " ++ (decimal line ++ codes "\nstatus 65\n")
tail_of Input = codes "input\nstatus 66\n"
tail_of NotOpened = codes "open\nstatus 69\n"
tail_of Memory = codes "memory\nstatus 71\n"
tail_of OutputFailed = []
tail_of Disk = codes "disk\nstatus 74\n"
tail_of (LongJournal size) = codes "journal long " ++ (decimal size ++ codes "\nstatus 76\n")
tail_of (CutJournal slot) = codes "journal cut " ++ (decimal slot ++ codes "\nstatus 76\n")
tail_of (BadSlot slot) = codes "journal slot " ++ (decimal slot ++ codes "\nstatus 76\n")

-- a stream before a call and after it
pub record Stream : Type 0 where
  -- its bytes before the call, where they are observed: those to be read, or those written
  pub before : Option (List ℕ)
  -- its bytes after the call: those left to be read, or those written
  pub after : Option (List ℕ)
  -- how often a read or a write of it has failed, before the call
  pub faults_before : ℕ
  -- how often a read or a write of it has failed, after the call
  pub faults_after : ℕ

-- what is observed of a stream before a call and after it, by what its bytes and its faults are
abbrev pub stream_observed : {S : Type 0} → (S → Option (List ℕ)) → (S → ℕ) → S → S → Stream
stream_observed bytes faults old new = record { before = bytes old; after = bytes new; faults_before = faults old; faults_after = faults new }

-- a read or a write of the stream has failed in the call
abbrev pub HasRisen : Stream → Type 0
HasRisen stream = Rose stream.faults_before stream.faults_after

-- a fact of the bytes of a stream, where they are observed
abbrev pub IfBytesObserved : Option (List ℕ) → (List ℕ → Type 0) → Type 0
IfBytesObserved observed P = (bytes : List ℕ) → observed ≡ Some bytes → P bytes

-- a script of the grammar
abbrev pub IsScript : List ℕ → Type 0
IsScript text = (length text ≤ script_limit) × ((script : Script) × (script_of text ≡ Ok script))

-- the text has this line as its first that is of another form
abbrev pub IsWrongAt : ℕ → List ℕ → Type 0
IsWrongAt line text = (length text ≤ script_limit) × (script_of text ≡ Err line)

-- what was read of the text is above the limit, and no further than a chunk beyond it
pub record IsReadBeyond (limit : ℕ) (text : List ℕ) (left : Option (List ℕ)) : Type 0 where
  pub rest : List ℕ
  pub left_is : left ≡ Some rest
  pub long : limit + length rest < length text
  pub no_further : length text ≤ limit + 4096 + length rest

-- what was read of the text is not above the limit
pub record IsReadWithin (limit : ℕ) (text : List ℕ) (left : Option (List ℕ)) : Type 0 where
  pub taken : List ℕ
  pub rest : List ℕ
  pub text_is : text ≡ taken ++ rest
  pub left_is : left ≡ Some rest
  pub within : length taken ≤ limit

-- the input was read to its end, and its text is such
abbrev pub IsReadWhole : Stream → (List ℕ → Type 0) → Type 0
IsReadWhole input P = IfBytesObserved input.before (λ text. (input.after ≡ Some []) × P text)

-- a log after which a play ends so: the stop, an opening that failed, or a failure of the disk is its last turn
abbrev pub ShowsEnd : Ending → List Turn → Type 0
ShowsEnd Played log = HasLastTurn Stopped log
ShowsEnd Words log = ⊥
ShowsEnd Long log = ⊥
ShowsEnd (AtLine line) log = ⊥
ShowsEnd Input log = ⊥
ShowsEnd NotOpened log = HasLastTurn OpenFailed log
ShowsEnd Memory log = ⊥
ShowsEnd OutputFailed log = ⊥
ShowsEnd Disk log = HasLastTurn DiskFailed log
ShowsEnd (LongJournal size) log = ⊥
ShowsEnd (CutJournal slot) log = ⊥
ShowsEnd (BadSlot slot) log = ⊥

-- the script of this text has a log after which a play ends so
abbrev pub HasLogBefore : Ending → List ℕ → Type 0
HasLogBefore ending text = (log : List Turn) × IsLogOf text log × ShowsEnd ending log

-- a script, with such a log
abbrev pub IsScriptBefore : Ending → List ℕ → Type 0
IsScriptBefore ending text = IsScript text × HasLogBefore ending text

-- the cause of each end of a replay, or of words that are refused, by the words, the input and the output; no journal of a script is refused
abbrev pub Cause : Ending → List (List ℕ) → Stream → Stream → Type 0
Cause Played words input out = AskForReplay words × IsReadWhole input (IsScriptBefore Played)
Cause Words words input out = AreRefused words
Cause Long words input out = AskForReplay words × IfBytesObserved input.before (λ text. IsReadBeyond script_limit text input.after)
Cause (AtLine line) words input out = AskForReplay words × IsReadWhole input (IsWrongAt line)
Cause Input words input out = AskForReplay words × HasRisen input × IfBytesObserved input.before (λ text. IsReadWithin script_limit text input.after)
Cause NotOpened words input out = AskForReplay words × IsReadWhole input (IsScriptBefore NotOpened)
Cause Memory words input out = Unit {0}
Cause OutputFailed words input out = HasRisen out
Cause Disk words input out = AskForReplay words × IsReadWhole input (IsScriptBefore Disk)
Cause (LongJournal size) words input out = ⊥
Cause (CutJournal slot) words input out = ⊥
Cause (BadSlot slot) words input out = ⊥

-- the script is the one that was read
abbrev pub IsInput : Option (List ℕ) → List ℕ → Type 0
IsInput input script = IfBytesObserved input (λ bytes. script ≡ bytes)

-- the text of the log of the script that was read, after which a play ends so
pub record IsPlayedWhole (ending : Ending) (input : Option (List ℕ)) (text : List ℕ) : Type 0 where
  pub script : List ℕ
  pub log : List Turn
  pub input_is : IsInput input script
  pub log_is : IsLogOf script log
  pub end : ShowsEnd ending log
  -- the headline, of each prefix of the log
  pub agrees : AgreesThroughout log
  pub is : text ≡ log_text log ++ tail_of ending

-- the text of a lawful log that plays a prefix of the script that was read, before memory was refused; each of its runs is opened with the script's setup
pub record IsPlayedInPart (input : Option (List ℕ)) (text : List ℕ) : Type 0 where
  pub script_text : List ℕ
  pub script : Script
  pub log : List Turn
  pub input_is : IsInput input script_text
  pub script_is : script_of script_text ≡ Ok script
  pub lawful : IsLawful log
  pub openings : AreOpenings (setup_of script.given) true log
  pub plays : ∥ PlaysLines script.lines log ∥₁
  -- the headline, of each prefix of the log
  pub agrees : AgreesThroughout log
  pub is : text ≡ log_text log ++ tail_of Memory

-- the table of what is printed: what a replay that ends so prints, or refused words, if no write fails
abbrev pub Prints : Ending → Option (List ℕ) → List ℕ → Type 0
Prints Played input text = IsPlayedWhole Played input text
Prints Words input text = text ≡ tail_of Words
Prints Long input text = text ≡ tail_of Long
Prints (AtLine line) input text = text ≡ tail_of (AtLine line)
Prints Input input text = text ≡ tail_of Input
Prints NotOpened input text = IsPlayedWhole NotOpened input text
Prints Memory input text = (text ≡ tail_of Memory) ⊎ IsPlayedInPart input text
Prints OutputFailed input text = ⊥
Prints Disk input text = IsPlayedWhole Disk input text
Prints (LongJournal size) input text = ⊥
Prints (CutJournal slot) input text = ⊥
Prints (BadSlot slot) input text = ⊥

-- a prefix of what an end prints that could have come
pub record PrintsPrefix (Could : Ending → Type 0) (input : Option (List ℕ)) (text : List ℕ) : Type 0 where
  pub ending : Ending
  pub whole : List ℕ
  pub could : Could ending
  pub prints : Prints ending input whole
  pub prefix : IsPrefix text whole

-- what was printed by the end of a call: what the table says of this end; or, where a write has failed, a prefix of what it says of another end that could have come
abbrev pub Printed : (Ending → Type 0) → Option (List ℕ) → Ending → List ℕ → Type 0
Printed Could input ending text = Prints ending input text ⊎ ((ending ≡ OutputFailed) × PrintsPrefix Could input text)

-- the call, which wasn't to serve, has ended so: its status, the cause, and what was printed, where it is observed
pub record IsEnded (status : ℕ) (words : List (List ℕ)) (input out : Stream) : Type 0 where
  pub ending : Ending
  pub status_is : status ≡ status_of ending
  pub cause : Cause ending words input out
  pub output : IfBytesObserved out.before (λ written. (text : List ℕ) × (out.after ≡ Some (written ++ text)) × Printed (λ other. Cause other words input out) input.before ending text)

-- what is left in the source is observed, and is a script
abbrev pub IsScriptLeft : Option (List ℕ) → Type 0
IsScriptLeft None = ⊥
IsScriptLeft (Some bytes) = IsScript bytes

-- the text is within the limit, and this is its log
abbrev pub IsLogWithin : List ℕ → List Turn → Type 0
IsLogWithin text log = (length text ≤ script_limit) × IsLogOf text log

-- the status of a script within the limit with this log: that of the end after it, or that memory was refused
abbrev pub IsStatusAfter : List Turn → ℕ → Type 0
IsStatusAfter log status = ((ending : Ending) × ShowsEnd ending log × (status ≡ status_of ending)) ⊎ (status ≡ 71)

-- the status of a play of a script: 0, 69, 71 or 74
abbrev pub IsPlayStatus : ℕ → Type 0
IsPlayStatus status = (status ≡ 0) ⊎ ((status ≡ 69) ⊎ ((status ≡ 71) ⊎ (status ≡ 74)))
