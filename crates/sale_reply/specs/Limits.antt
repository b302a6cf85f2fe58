-- The limits within which the parts of a message to a till lie.
use Rattle.std.specs.Prelude.{ℕ, ◌^◌, ◌<◌, ◌≤◌, length, All, IfSome, sum_by}
use Rattle.gw_base.specs.Ident.{IsIdent}
use Rattle.gw_base.specs.Transaction.{AreTransactionNumbers}
use Rattle.sale_values.specs.declared.header.Header.{Header}
use Rattle.sale_reply.specs.declared.reply.PoiMark.{PoiMark}
use Rattle.sale_reply.specs.declared.reply.Verdict.{Verdict}
use Rattle.sale_reply.specs.declared.reply.Shown.{Shown}
use Rattle.sale_reply.specs.declared.reply.Detail.{Detail}
use Rattle.sale_reply.specs.declared.reply.Detail.TheVariants as detail
use Rattle.sale_reply.specs.declared.reply.Told.{Told}
use Rattle.sale_reply.specs.declared.reply.Told.TheVariants.{PaymentApproved, PaymentDeclined, ReversalApproved, ReversalDeclined, Reconciled}
use Rattle.sale_reply.specs.declared.reply.SaleReply.{SaleReply}
use Rattle.sale_reply.specs.declared.reply.SaleReply.TheVariants as reply

-- a header's texts are identifiers of their lengths
pub record IsHeaderWithinLimits (header : Header) : Type 0 where
  pub category : IsIdent 40 header.category
  pub service : IfSome header.service (λ id. IsIdent 10 id)
  pub device : IfSome header.device (λ id. IsIdent 10 id)
  pub sale : IsIdent 40 header.sale
  pub poi : IsIdent 40 header.poi

-- its path, where it has one, is an identifier of at most 100 bytes
abbrev pub IsVerdictWithinLimits : Verdict → Type 0
IsVerdictWithinLimits verdict = IfSome verdict.path (λ path. IsIdent 100 path)

-- a trace number has six digits, a receipt number four, and a slot is a number of 32 bits
abbrev pub IsMarkWithinLimits : PoiMark → Type 0
IsMarkWithinLimits mark = AreTransactionNumbers mark.number mark.receipt mark.slot

-- a count is a number of 32 bits, a sum one of 64
abbrev pub IsTotalWithinLimits : ℕ × ℕ → Type 0
IsTotalWithinLimits total = (total.0 < 2 ^ 32) × (total.1 < 2 ^ 64)

-- a result body's texts are identifiers of their lengths, its numbers of a transaction have their digits, and the others
-- fit their bits
abbrev pub IsToldWithinLimits : Told → Type 0
IsToldWithinLimits (PaymentApproved transaction stamp mark requested paid) =
    IsIdent 80 transaction × IsIdent 35 stamp × IsMarkWithinLimits mark × (paid.minor < 2 ^ 64)
IsToldWithinLimits (PaymentDeclined transaction stamp mark condition) = IsIdent 80 transaction × IsIdent 35 stamp × IsMarkWithinLimits mark
IsToldWithinLimits (ReversalApproved mark reversed) = IsMarkWithinLimits mark × (reversed.minor < 2 ^ 64)
IsToldWithinLimits (ReversalDeclined mark condition) = IsMarkWithinLimits mark
IsToldWithinLimits (Reconciled period currency debit reversed) = IsTotalWithinLimits debit × IsTotalWithinLimits reversed

-- an output's texts are identifiers of at most 40 bytes, and its verdict is within the limits
pub record IsShownWithinLimits (shown : Shown) : Type 0 where
  pub device : IsIdent 40 shown.device
  pub qualify : IsIdent 40 shown.qualify
  pub verdict : IsVerdictWithinLimits shown.verdict

-- an offset is a number of 64 bits, a path an identifier of at most 100 bytes
abbrev pub IsDetailWithinLimits : Detail → Type 0
IsDetailWithinLimits (detail.Json fault) = fault.at < 2 ^ 64
IsDetailWithinLimits (detail.Header path) = IsIdent 100 path
IsDetailWithinLimits (detail.Body path) = IsIdent 100 path
IsDetailWithinLimits detail.Abort = Unit {0}

-- the texts are identifiers of their lengths, a transaction's numbers have their digits and all others 8, 32 or 64 bits,
-- and the lines of a print request have together at most the bytes of one APDU
abbrev pub IsWithinLimits : SaleReply → Type 0
IsWithinLimits (reply.Plain header verdict) = IsHeaderWithinLimits header × IsVerdictWithinLimits verdict
IsWithinLimits (reply.Told header told) = IsHeaderWithinLimits header × IsToldWithinLimits told
IsWithinLimits (reply.Status header repeated told) = IsHeaderWithinLimits header × IsHeaderWithinLimits repeated × IsToldWithinLimits told
IsWithinLimits (reply.Diagnosis header status) = IsHeaderWithinLimits header
IsWithinLimits (reply.Display header outputs) = IsHeaderWithinLimits header × (length outputs ≤ 16) × All IsShownWithinLimits outputs
IsWithinLimits (reply.Print header qualifier verdict) = IsHeaderWithinLimits header × IsIdent 40 qualifier × IsVerdictWithinLimits verdict
IsWithinLimits (reply.DisplayRequest header code) = IsHeaderWithinLimits header × (code < 2 ^ 8)
IsWithinLimits (reply.PrintRequest header lines) =
    IsHeaderWithinLimits header × (length lines.now ≤ 400) × (sum_by (λ line. length line.now) lines.now ≤ 12000)
IsWithinLimits (reply.Reject sale poi moment detail) = IsIdent 40 sale × IsIdent 40 poi × IsDetailWithinLimits detail

-- it has the numbers of a transaction
abbrev pub HasMark : Told → Type 0
HasMark (PaymentApproved transaction stamp mark requested paid) = Unit {0}
HasMark (PaymentDeclined transaction stamp mark condition) = Unit {0}
HasMark (ReversalApproved mark reversed) = Unit {0}
HasMark (ReversalDeclined mark condition) = Unit {0}
HasMark (Reconciled period currency debit reversed) = ⊥

-- it has the numbers of a transaction or lines to be printed, which the types of its parts don't limit
abbrev pub HasUnlimitedParts : SaleReply → Type 0
HasUnlimitedParts (reply.Plain header verdict) = ⊥
HasUnlimitedParts (reply.Told header told) = HasMark told
HasUnlimitedParts (reply.Status header repeated told) = HasMark told
HasUnlimitedParts (reply.Diagnosis header status) = ⊥
HasUnlimitedParts (reply.Display header outputs) = ⊥
HasUnlimitedParts (reply.Print header qualifier verdict) = ⊥
HasUnlimitedParts (reply.DisplayRequest header code) = ⊥
HasUnlimitedParts (reply.PrintRequest header lines) = Unit {0}
HasUnlimitedParts (reply.Reject sale poi moment detail) = ⊥
