-- How the mode `serve` ends, what it prints, and what it adds to the log of the site.
use Rattle.std.specs.Prelude.{◌≡◌, ◌⊎◌, ℕ, List, [], ◌++◌, Option, Some, None, codes, false}
use Rattle.gw_base.specs.Setup.{IsSetup}
use Rattle.gw_base.specs.declared.setup.Setup.{Setup}
use Rattle.gw_bytes.specs.Bytes.{IsPrefix}
use Rattle.gw_site.specs.Failures.{Rose}
use Rattle.gw_site.specs.Observed.{IfObserved, Observed}
use Rattle.gw_site.specs.declared.turn.Turn.{Turn}
use Rattle.gw_site.specs.declared.turn.Turn.TheVariants.{Stopped}
use Rattle.gw_books.specs.PastLaws.{AgreesThroughout}
use Rattle.gw_config.specs.FaultLine.{fault_line}
use Rattle.gw_config.specs.Faults.{document_limit, fault_in, without_offset, IsInsideOf}
use Rattle.gw_config.specs.Grammar.{IsSetupIn}
use Rattle.gw_config.specs.declared.fault.ConfigFault.{ConfigFault}
use Rattle.gw_dispatch.specs.Growth.{EndsForMemory, EndsInFailure}
use Rattle.gw_dispatch.specs.RunEnd.{EndsByFound, HasPolled, IsEndByFile, IsFound, NoneBegan, ReportsFile}
use Rattle.gw_dispatch.specs.declared.engine.Ended.{Ended}
use Rattle.gw_rules.specs.Lawful.{IsLawful, Stands}
use Rattle.gw_rules.specs.Triple.{IsRun, IsStarted}
use Rattle.gw_rules.specs.View.{View}
use Rattle.gw_run.specs.RunEnds.{GivesEnd}
use Rattle.gw_run.specs.ScriptLog.{HasLastTurn}
use Rattle.gw_run.specs.Top.{Stream, HasRisen, IfBytesObserved, IsReadBeyond, IsReadWithin, status_of, tail_of}
use Rattle.gw_run.specs.declared.ending.Ending.{Ending}
use Rattle.gw_run.specs.declared.ending.Ending.TheVariants.{Played, Words, Long, Line as AtLine, Input, NotOpened, Memory, OutputFailed, Disk, LongJournal, CutJournal, BadSlot}
use Rattle.gw_run.specs.declared.serving.ServeEnding.{ServeEnding}
use Rattle.gw_run.specs.declared.serving.ServeEnding.TheVariants.{Config, Other}

-- ---- ends

-- the status of each end
abbrev pub serve_status : ServeEnding → ℕ
serve_status (Config fault) = 65
serve_status (Other ending) = status_of ending

-- the fault line, where there is one, and the status line
abbrev pub serve_tail : ServeEnding → List ℕ
serve_tail (Config fault) = fault_line fault ++ codes "\nstatus 65\n"
serve_tail (Other ending) = tail_of ending

-- a site before a call and after it
pub record SiteCalls : Type 0 where
  pub before : Observed
  pub after : Observed

-- what is observed of a site before a call and after it
abbrev pub site_calls : Observed → Observed → SiteCalls
site_calls before after = record { before = before; after = after }

-- a call on the site has failed
abbrev pub SiteRose : SiteCalls → Type 0
SiteRose site = Rose site.before.faults site.after.faults

-- what is observed of the site is as it was
abbrev pub IsUntouched : SiteCalls → Type 0
IsUntouched site = site.after ≡ site.before

-- ---- the configuration

-- this is the first fault of the text, which was read to its end, or beyond the limit
pub record IsConfigFault (fault : ConfigFault) (text : List ℕ) (left : Option (List ℕ)) : Type 0 where
  pub first : fault_in text ≡ Some (without_offset fault)
  pub inside : IsInsideOf text fault
  pub read : (left ≡ Some []) ⊎ IsReadBeyond document_limit text left

-- a document without a fault, and its setup
pub record IsConfigOf (text : List ℕ) (setup : Setup) : Type 0 where
  pub sound : fault_in text ≡ None
  pub setup_is : IsSetupIn text setup

-- the input was read to its end, and is a document with this setup
abbrev pub IsReadSetup : Option (List ℕ) → Option (List ℕ) → Setup → Type 0
IsReadSetup before after setup = IfBytesObserved before (λ text. (after ≡ Some []) × IsConfigOf text setup)

-- the setup is within its limits, and that of the input
abbrev pub IsSetupOfInput : Option (List ℕ) → Setup → Type 0
IsSetupOfInput input setup = IsSetup setup × IfBytesObserved input (λ text. IsConfigOf text setup)

-- ---- causes

-- a run with this setup ends so, by the file that it has found
abbrev pub EndsByFile : Ending → Setup → SiteCalls → Type 0
EndsByFile ending setup site = IfObserved site.before (λ before. GivesEnd ending (EndsByFound setup.slots before site.after))

-- memory may be refused where the log of the site ends so, or the site is dark
abbrev pub EndsWithoutMemory : SiteCalls → Type 0
EndsWithoutMemory site = IfObserved site.before (λ before. EndsForMemory site.after)

-- the cause of each end of a run with this setup
abbrev pub RunCause : Ending → Setup → Stream → SiteCalls → Type 0
RunCause Played setup out site = EndsByFile Played setup site
RunCause Words setup out site = ⊥
RunCause Long setup out site = ⊥
RunCause (AtLine line) setup out site = ⊥
RunCause Input setup out site = ⊥
RunCause NotOpened setup out site = SiteRose site × IfObserved site.before (λ before. NoneBegan before site.after)
RunCause Memory setup out site = EndsWithoutMemory site
RunCause OutputFailed setup out site = HasRisen out
RunCause Disk setup out site = SiteRose site × IfObserved site.before (λ before. EndsInFailure site.after)
RunCause (LongJournal size) setup out site = EndsByFile (LongJournal size) setup site
RunCause (CutJournal slot) setup out site = EndsByFile (CutJournal slot) setup site
RunCause (BadSlot slot) setup out site = EndsByFile (BadSlot slot) setup site

-- a run with the setup of the input has this cause of its end
abbrev pub IsRunCause : Ending → Stream → Stream → SiteCalls → Type 0
IsRunCause ending input out site = (setup : Setup) × IsReadSetup input.before input.after setup × RunCause ending setup out site

-- the input could not be read
pub record HasFailedInput (input : Stream) (site : SiteCalls) : Type 0 where
  pub rose : HasRisen input
  pub within : IfBytesObserved input.before (λ text. IsReadWithin document_limit text input.after)
  pub untouched : IsUntouched site

-- the cause of each end but a fault of the configuration
abbrev pub OtherCause : Ending → Stream → Stream → SiteCalls → Type 0
OtherCause Played input out site = IsRunCause Played input out site
OtherCause Words input out site = ⊥
OtherCause Long input out site = ⊥
OtherCause (AtLine line) input out site = ⊥
OtherCause Input input out site = HasFailedInput input site
OtherCause NotOpened input out site = IsRunCause NotOpened input out site
OtherCause Memory input out site = IsUntouched site ⊎ IsRunCause Memory input out site
OtherCause OutputFailed input out site = HasRisen out
OtherCause Disk input out site = IsRunCause Disk input out site
OtherCause (LongJournal size) input out site = IsRunCause (LongJournal size) input out site
OtherCause (CutJournal slot) input out site = IsRunCause (CutJournal slot) input out site
OtherCause (BadSlot slot) input out site = IsRunCause (BadSlot slot) input out site

-- the cause of each end
abbrev pub ServeCause : ServeEnding → Stream → Stream → SiteCalls → Type 0
ServeCause (Config fault) input out site = IfBytesObserved input.before (λ text. IsConfigFault fault text input.after) × IsUntouched site
ServeCause (Other ending) input out site = OtherCause ending input out site

-- ---- output

-- a prefix of the lines of an end that could have come
pub record IsPartOfTail (Could : ServeEnding → Type 0) (text : List ℕ) : Type 0 where
  pub ending : ServeEnding
  pub could : Could ending
  pub prefix : IsPrefix text (serve_tail ending)

-- what is printed by an end: its lines and nothing else; where a write has failed, a prefix of those of an end that could have come
abbrev pub ServePrinted : (ServeEnding → Type 0) → ServeEnding → List ℕ → Type 0
ServePrinted Could ending text = (text ≡ serve_tail ending) ⊎ ((ending ≡ Other OutputFailed) × IsPartOfTail Could text)

-- the call that was to serve has ended so: its status, the cause, and what was printed, where it is observed
pub record HasServed (status : ℕ) (input out : Stream) (site : SiteCalls) : Type 0 where
  pub ending : ServeEnding
  pub status_is : status ≡ serve_status ending
  pub cause : ServeCause ending input out site
  pub output : IfBytesObserved out.before (λ written. (text : List ℕ) × (out.after ≡ Some (written ++ text)) × ServePrinted (λ other. ServeCause other input out site) ending text)

-- ---- the log of the site

-- so many polls were made along the log, and nothing is owed
abbrev pub HasMadePolls : ℕ → List Turn → Type 0
HasMadePolls most log = (v : View) × Stands log v × HasPolled most v

-- these turns are one run to its end with such a setup, after which the log ends with the stop, or has so many polls and nothing is owed
pub record IsRunToEnd (IsOwn : Setup → Type 0) (most : ℕ) (log added : List Turn) : Type 0 where
  pub setup : Setup
  pub own : IsOwn setup
  pub started : IsStarted setup added
  pub ends : HasLastTurn Stopped log ⊎ HasMadePolls most log

-- nothing, one failed opening, or the turns of one run with such a setup
abbrev pub AddsOneRun : (Setup → Type 0) → List Turn → Type 0
AddsOneRun IsOwn added = (added ≡ []) ⊎ ((setup : Setup) × IsOwn setup × IsRun setup added)

-- The headline: after this log the site's goes on lawfully, by one run at most with such a setup; each book of the terminals that is honest agrees with what was done and what tills were sent, and so it is of each prefix of the log.
-- Where the call has ended well and the site isn't dark, a run was added to its end.
pub record Serves (IsOwn : Setup → Type 0) (most : ℕ) (EndedWell : Type 0) (before : List Turn) (after : Observed) : Type 0 where
  pub added : List Turn
  pub log_is : after.log ≡ Some (before ++ added)
  pub lawful : IsLawful (before ++ added)
  pub agrees : AgreesThroughout (before ++ added)
  pub adds : AddsOneRun IsOwn added
  pub whole : EndedWell → after.dark ≡ false → IsRunToEnd IsOwn most (before ++ added) added

-- ---- completeness

-- no end that reports a fault of the journal's file comes with these slots and a file that a run may find after this log
abbrev pub TakesFile : ℕ → List Turn → Type 0
TakesFile slots before = (file : List ℕ) (ended : Ended) → IsFound before file → ReportsFile ended → IsEndByFile slots file ended → ⊥

-- the text is a document without a fault, and with its setup no fault of the journal's file is reported after this log
pub record IsServable (text : List ℕ) (before : List Turn) : Type 0 where
  pub sound : fault_in text ≡ None
  pub takes : (setup : Setup) → IsConfigOf text setup → TakesFile setup.slots before
