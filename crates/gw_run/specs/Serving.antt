-- Inner: what the parts of the mode `serve` give.
use Rattle.std.specs.Prelude.{◌≡◌, ◌⊎◌, ℕ, List, Some}
use Rattle.gw_base.specs.declared.setup.Setup.{Setup}
use Rattle.gw_bytes.specs.Bytes.{IsPrefix}
use Rattle.gw_config.specs.Faults.{document_limit, fault_in, without_offset, IsInsideOf}
use Rattle.gw_config.specs.declared.fault.ConfigFault.{ConfigFault}
use Rattle.gw_config.specs.declared.fault.ConfigFault.TheVariants.{Long as ConfigLong, NotToml, Missing, Wrong, Twice, Memory as ConfigMemory}
use Rattle.gw_dispatch.specs.declared.engine.Ended.{Ended}
use Rattle.gw_run.specs.Replay.{HasNumber}
use Rattle.gw_run.specs.RunEnds.{ending_of}
use Rattle.gw_run.specs.Serve.{IsConfigFault, RunCause, SiteCalls, serve_tail}
use Rattle.gw_run.specs.Top.{HasRisen, IfBytesObserved, IsReadWithin, Stream, tail_of}
use Rattle.gw_run.specs.declared.ending.Ending.{Ending}
use Rattle.gw_run.specs.declared.ending.Ending.TheVariants.{Played, Words, Long, Line as AtLine, Input, NotOpened, Memory, OutputFailed, Disk, LongJournal, CutJournal, BadSlot}
use Rattle.gw_run.specs.declared.serving.ServeEnding.{ServeEnding}
use Rattle.gw_run.specs.declared.serving.ServeEnding.TheVariants.{Config, Other}

-- Inner: what is reported of a document with this fault
abbrev pub config_ending : ConfigFault → ServeEnding
config_ending ConfigLong = Config ConfigLong
config_ending (NotToml offset) = Config (NotToml offset)
config_ending (Missing key) = Config (Missing key)
config_ending (Wrong key) = Config (Wrong key)
config_ending (Twice poi) = Config (Twice poi)
config_ending ConfigMemory = Other Memory

-- Inner: what is reported where the input isn't read to its end
abbrev pub input_ending : Ending → ServeEnding
input_ending Played = Other Played
input_ending Words = Other Words
input_ending Long = Config ConfigLong
input_ending (AtLine line) = Other (AtLine line)
input_ending Input = Other Input
input_ending NotOpened = Other NotOpened
input_ending Memory = Other Memory
input_ending OutputFailed = Other OutputFailed
input_ending Disk = Other Disk
input_ending (LongJournal size) = Other (LongJournal size)
input_ending (CutJournal slot) = Other (CutJournal slot)
input_ending (BadSlot slot) = Other (BadSlot slot)

-- Inner: why a text within the limit gives no setup
abbrev pub IsDocumentEnd : List ℕ → ServeEnding → Type 0
IsDocumentEnd text (Config fault) = (fault_in text ≡ Some (without_offset fault)) × IsInsideOf text fault
IsDocumentEnd text (Other ending) = ending ≡ Memory

-- Inner: why the input could not be read
abbrev pub IsInputEnd : Ending → Stream → Type 0
IsInputEnd Played input = ⊥
IsInputEnd Words input = ⊥
IsInputEnd Long input = ⊥
IsInputEnd (AtLine line) input = ⊥
IsInputEnd Input input = HasRisen input × IfBytesObserved input.before (λ text. IsReadWithin document_limit text input.after)
IsInputEnd NotOpened input = ⊥
IsInputEnd Memory input = Unit {0}
IsInputEnd OutputFailed input = ⊥
IsInputEnd Disk input = ⊥
IsInputEnd (LongJournal size) input = ⊥
IsInputEnd (CutJournal slot) input = ⊥
IsInputEnd (BadSlot slot) input = ⊥

-- Inner: why the input gives no setup
abbrev pub IsConfigEnd : ServeEnding → Stream → Type 0
IsConfigEnd (Config fault) input = IfBytesObserved input.before (λ text. IsConfigFault fault text input.after)
IsConfigEnd (Other ending) input = IsInputEnd ending input

-- Inner: the lines of an end are written: all of them, or those of an end without memory, or a prefix of either
abbrev pub WritesServe : ServeEnding → ServeEnding → List ℕ → Type 0
WritesServe ending result added =
    ((result ≡ ending) × (added ≡ serve_tail ending))
    ⊎ (((result ≡ Other Memory) × (added ≡ tail_of Memory))
    ⊎ ((result ≡ Other OutputFailed) × ((reported : ServeEnding) × ((reported ≡ ending) ⊎ (reported ≡ Other Memory)) × IsPrefix added (serve_tail reported))))

-- Inner: what is reported in the end: the end itself, or that there was no memory, or that a write has failed
abbrev pub IsReportedServe : ServeEnding → ServeEnding → Type 0
IsReportedServe ending result = (result ≡ ending) ⊎ ((result ≡ Other Memory) ⊎ (result ≡ Other OutputFailed))

-- Inner: the end of a run
abbrev pub IsRunEnding : Ending → Type 0
IsRunEnding ending = (ended : Ended) × (ending ≡ ending_of ended)

-- Inner: of this end it may be reported that memory was refused: it says so, or its fault line has a number
abbrev pub MayReportMemory : Ending → Type 0
MayReportMemory ending = (ending ≡ Memory) ⊎ HasNumber ending

-- Inner: what is printed of a run that ends so
abbrev pub RunPrinted : Setup → Stream → SiteCalls → Ending → List ℕ → Type 0
RunPrinted setup out site ending text = (text ≡ tail_of ending) ⊎ ((ending ≡ OutputFailed) × ((other : Ending) × RunCause other setup out site × IsPrefix text (tail_of other)))
