-- What the ledger asks of the records of a journal: they fold, and an opening is refused only where an earlier run had more slots.
use Rattle.std.specs.Prelude.{◌≡◌, ℕ, true, false, List, [], ◌∷◌, refl}
use Rattle.gw_base.specs.declared.setup.Setup.{Setup}
use Rattle.gw_site.specs.Image.{Image}
use Rattle.gw_site.specs.Outside.{outside_of}
use Rattle.gw_site.specs.declared.turn.Turn.{Turn}
use Rattle.jrn_record.specs.declared.records.Record.{Record}
use Rattle.jrn_log.specs.Slots.{AreSlots}
use Rattle.gw_ledger.specs.Fold.{fits, AreFolded, AreBodiesOf}
use Rattle.gw_ledger.specs.History.{history}
use Rattle.gw_ledger.specs.Sums.{open_count_of}
use Rattle.gw_rules.specs.KeptLaws.{RecordRules, KeepsJournal, HasKept, HadMoreSlots}
use Rattle.gw_rules.specs.Lawful.{Stands}
use Rattle.gw_rules.specs.Opening.{is_refused, opening}
use Rattle.gw_rules.specs.RowExample.{example_record}
use Rattle.gw_rules.specs.Scene.{records_of}
use Rattle.gw_rules.specs.View.{View}

-- where there is no record, no key is open
pub no_open_key : open_count_of [] ≡ 0
unfolding history
no_open_key = refl

-- the rules of the ledger: a record may follow those after which it fits, and each Intent without its Outcome leaves its key open
abbrev pub ledger_rules : RecordRules
ledger_rules = record { may_follow = fits; open_keys = open_count_of; none_open = no_open_key }

-- each lawful log is one of a gateway that keeps a journal by these rules: each of its runs opens it, and each record that a row keeps may follow those before it, and has room
abbrev pub EachLawfulKeepsJournal : Type 0
EachLawfulKeepsJournal = (log : List Turn) (v : View) → Stands log v → KeepsJournal ledger_rules log v

-- so after each lawful log all of what is kept is said of it
abbrev pub EachLawfulHasKept : Type 0
EachLawfulHasKept = (log : List Turn) (v : View) → Stands log v → HasKept ledger_rules log v.scene

-- the records of the file fold
abbrev pub EachFileFolds : Type 0
EachFileFolds = (log : List Turn) (v : View) → KeepsJournal ledger_rules log v → AreFolded (records_of v.scene)

-- and so do those of whatever a power failure leaves
abbrev pub EachImageFolds : Type 0
EachImageFolds = (log : List Turn) (v : View) (file : List ℕ) (bodies : List (List ℕ)) → KeepsJournal ledger_rules log v → Image (outside_of log) file → AreSlots file bodies → (records : List Record) × AreBodiesOf bodies records

-- an opening finds the file refused only where an earlier run of the log had more slots
abbrev pub RefusedOnlyWithFewerSlots : Type 0
RefusedOnlyWithFewerSlots = (log : List Turn) (v : View) (setup : Setup) → KeepsJournal ledger_rules log v → (opening setup v.scene.outside.file (records_of v.scene)).refused ≡ true → HadMoreSlots setup.slots log

-- so it is after each lawful log
abbrev pub LawfulRefusedOnlyWithFewerSlots : Type 0
LawfulRefusedOnlyWithFewerSlots = (log : List Turn) (v : View) (setup : Setup) → Stands log v → (opening setup v.scene.outside.file (records_of v.scene)).refused ≡ true → HadMoreSlots setup.slots log

-- with two slots the longest file has two slots and a gate; and the file of one Intent whose key is open needs a second slot, for its Outcome
pub record RefusedAtLimits : Type 0 where
  pub longest : is_refused 2 513 [] ≡ false
  pub longer : is_refused 2 514 [] ≡ true
  pub enough : is_refused 2 257 (example_record ∷ []) ≡ false
  pub too_few : is_refused 1 257 (example_record ∷ []) ≡ true
