-- What a message means for a dialogue whose statuses were read can be kept in a record.
use Rattle.std.specs.Prelude.{◌≡◌, Option, Some, None, IfSome, ℕ}
use Rattle.gw_base.specs.Limits.{IsTrace}
use Rattle.gw_base.specs.declared.figures.Figures.{Figures}
use Rattle.zvt_msg.specs.Message.{MessageValue}
use Rattle.zvt_talk.specs.declared.meaning.Heard.{Heard}
use Rattle.zvt_talk.specs.declared.meaning.Heard.TheVariants as heard
use Rattle.zvt_talk.specs.Limits.{FiguresFitRecord}
use Rattle.zvt_talk.specs.Talk.{TalkFacts}
use Rattle.gw_owes.specs.Handling.{meaning_for}
use Rattle.gw_owes.specs.RecordLaws.{IsTalkRead}

-- a trace number, where there is one, lies within its limits
abbrev pub IsTraceOrNone : Option ℕ → Type 0
IsTraceOrNone None = Unit {0}
IsTraceOrNone (Some trace) = IsTrace trace

-- the figures are those of the transaction with this trace number
pub record AreFiguresOf (trace : ℕ) (figures : Figures) : Type 0 where
  pub fit : FiguresFitRecord figures
  pub number_is : figures.number ≡ trace

-- what is reported of a last transaction lies within the limits, and its figures, where it was approved, have its trace number
pub record IsReportFit (trace : ℕ) (approved : Option Figures) : Type 0 where
  pub within : IsTrace trace
  pub figures : IfSome approved (AreFiguresOf trace)

-- the numbers that are heard lie within the limits of a record
abbrev pub FitsRecord : Heard → Type 0
FitsRecord (heard.Begun stop) = Unit {0}
FitsRecord (heard.Note intermediate_status) = Unit {0}
FitsRecord heard.Line = Unit {0}
FitsRecord heard.Block = Unit {0}
FitsRecord heard.Seen = Unit {0}
FitsRecord (heard.Approved figures) = FiguresFitRecord figures
FitsRecord heard.Done = Unit {0}
FitsRecord (heard.Told trace approved result_code) = IsReportFit trace approved
FitsRecord (heard.Declined result_code reported) = IsTraceOrNone reported
FitsRecord heard.Unclear = Unit {0}
FitsRecord heard.Stray = Unit {0}

-- so it is of each message, where the last status of the dialogue was read
abbrev pub EachMeaningFits : Type 0
EachMeaningFits = (talk : Option TalkFacts) (message : MessageValue) → IsTalkRead talk → FitsRecord (meaning_for talk message)
