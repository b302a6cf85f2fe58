-- The laws of the whole script: of its grammar, and of the logs that play it.
use Rattle.std.specs.Prelude.{◌≡◌, ◌↔◌, ℕ, not, min, length, true, false, List, [], ◌∷◌, ◌++◌, Option, Some, is_some, Ok, Err}
use Rattle.gw_bytes.specs.Bytes.{IsPrefix}
use Rattle.gw_site.specs.Outside.{Outside, outside_of}
use Rattle.gw_site.specs.declared.turn.Turn.{Turn}
use Rattle.gw_site.specs.declared.turn.Turn.TheVariants.{SentTill, SentPt, Crash}
use Rattle.gw_site.specs.Steps.{SendPtCall, SendTillCall, SiteCall, SiteStep, Holding, Made, PowerBack, StopAfter, ImageKind}
use Rattle.gw_script.specs.Decode.{split_lines}
use Rattle.gw_script.specs.site.Calls.{CallFits, PlaysBy, Reaches, are_scripted, place_after, set_to_fail}
use Rattle.gw_script.specs.site.Hazards.{crash_file, sent_of, takes_most}
use Rattle.gw_script.specs.site.ScriptLine.{PlayedLine, Script}
use Rattle.gw_script.specs.site.Grammar.{AreLinesOf, HasFirstWrong, SpellsScript}
use Rattle.gw_script.specs.site.Decode.{script_of}
use Rattle.gw_script.specs.site.Playing.{DiskCall, Fits, Play, PlaysLines, PlaysTo, Sends, play_after, restarted}

-- the function that splits a text gives its lines
abbrev pub SplitsLines : Type 0
SplitsLines = (text : List ℕ) (lines : List (List ℕ)) → split_lines text ≡ lines ↔ AreLinesOf lines text

-- the function that reads scripts gives the script of the text, and else the number of the first wrong line
pub record ReadsSiteScripts : Type 0 where
  pub script : (text : List ℕ) (script : Script) → script_of text ≡ Ok script ↔ SpellsScript text script
  pub wrong : (text : List ℕ) (number : ℕ) → script_of text ≡ Err number ↔ HasFirstWrong text number

-- a prefix of a log that plays the lines does so too
abbrev pub PrefixesPlay : Type 0
PrefixesPlay = (lines : List PlayedLine) (before after : List Turn) → PlaysLines lines (before ++ after) → PlaysLines lines before

-- a log that plays the lines up to a place plays them with one turn more that fits there
abbrev pub PlaysOn : Type 0
PlaysOn = (lines : List PlayedLine) (log : List Turn) (play : Play) (call : DiskCall) (turn : Turn) → PlaysTo lines log play → Fits (outside_of log) call play turn
    → PlaysTo lines (log ++ turn ∷ []) (play_after (outside_of log) call play turn)

-- what a send takes of its bytes fits, and it failed exactly where a fail line names its connection
abbrev pub SendsTakeTheirs : Type 0
SendsTakeTheirs = (most : Option ℕ) (bytes : List ℕ) → Sends most (sent_of most bytes) (not (is_some most))

-- the bytes that a failing send has taken: exactly as many as the lesser of all and of the number of its fail line
pub record IsCutTo (most : ℕ) (bytes sent : List ℕ) : Type 0 where
  pub prefix : IsPrefix sent bytes
  pub size : length sent ≡ min most (length bytes)

-- a send that a fail line names fails, and takes exactly the lesser of all its bytes and the line's number
pub record SendsAreCut : Type 0 where
  pub tills : (o : Outside) (p : Play) (till most : ℕ) (bytes : List ℕ) (turns : List Turn) → takes_most p.hazard.fail_tills till ≡ Some most → CallFits o p (SendTillCall till bytes) turns
      → (sent : List ℕ) × IsCutTo most bytes sent × (turns ≡ SentTill till sent false ∷ [])
  pub pts : (o : Outside) (p : Play) (pt most : ℕ) (bytes : List ℕ) (turns : List Turn) → takes_most p.hazard.fail_pts pt ≡ Some most → CallFits o p (SendPtCall pt bytes) turns
      → (sent : List ℕ) × IsCutTo most bytes sent × (turns ≡ SentPt pt sent false ∷ [])

-- the log of steps plays the lines, where none of them was beside the script
abbrev pub CallsPlay : Type 0
CallsPlay = (lines : List PlayedLine) (steps : List SiteStep) (log : List Turn) → are_scripted steps ≡ true → PlaysBy lines steps log → PlaysLines lines log

-- the same steps have the same log, whatever calls and power failures there are among them
abbrev pub OneLogOfCalls : Type 0
OneLogOfCalls = (lines : List PlayedLine) (steps : List SiteStep) (log other : List Turn) → PlaysBy lines steps log → PlaysBy lines steps other → log ≡ other

-- a call that may be made goes on from the place, with its turns
abbrev pub CallsGoOn : Type 0
CallsGoOn = (lines : List PlayedLine) (steps : List SiteStep) (log : List Turn) (place : Play) (call : SiteCall) (made : List Turn) → Reaches lines steps log place → CallFits (outside_of log) place call made
    → Reaches lines (steps ++ Made call ∷ []) (log ++ made) (place_after (outside_of log) place call)

-- where the power has failed the script goes on in the next run, with the file that is left
abbrev pub PowerGoesOn : Type 0
PowerGoesOn = (lines : List PlayedLine) (steps : List SiteStep) (log : List Turn) (place : Play) (kind : ImageKind) → Reaches lines steps log place → place.off ≡ Some kind
    → Reaches lines (steps ++ PowerBack ∷ []) (log ++ Crash (crash_file kind (outside_of log)) ∷ []) (restarted place)

-- what happens beside the script goes on from each place: the power is set to fail, without a turn, and before the first turn a file is put on the disk
pub record GoesOnBeside : Type 0 where
  pub stop : (lines : List PlayedLine) (steps : List SiteStep) (log : List Turn) (place : Play) (calls : ℕ) (kind : ImageKind) → Reaches lines steps log place
      → Reaches lines (steps ++ StopAfter calls kind ∷ []) log (set_to_fail calls kind place)
  pub file : (lines : List PlayedLine) (steps : List SiteStep) (place : Play) (file : List ℕ) → Reaches lines steps [] place → Reaches lines (steps ++ Holding file ∷ []) (Crash file ∷ []) place
