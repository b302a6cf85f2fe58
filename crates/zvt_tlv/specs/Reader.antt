-- A reader of objects: what it has not read yet, and a call of `next`.
use Rattle.std.specs.Prelude.{◌≡◌, ◌≢◌, ℕ, ◌+◌, List, [], ◌∷◌, length, Option, Some, None, Result, Ok, Err}
use Rattle.zvt_tlv.specs.declared.object.Object.{Object}
use Rattle.zvt_tlv.specs.declared.fault.TlvFault.{TlvFault}
use Rattle.zvt_tlv.specs.Grammar.{ObjectValue, value_of, BeginsWithTlvObject}
use Rattle.zvt_tlv.specs.Decode.{decode_tlv_object}

-- the bytes that are not read yet, and their offset in the whole bytes
pub record TlvReaderValue : Type 0 where
  pub offset : ℕ
  pub rest : List ℕ

-- the result is this object
abbrev pub IsTlvObject : Result (Option Object) TlvFault → ObjectValue → Type 0
IsTlvObject (Ok None) object = ⊥
IsTlvObject (Ok (Some found)) object = value_of found ≡ object
IsTlvObject (Err fault) object = ⊥

-- the result, by the function that decodes bytes
abbrev pub ReturnsTlvObject : Result (Option Object) TlvFault → TlvReaderValue → Type 0
ReturnsTlvObject (Ok None) old = old.rest ≡ []
ReturnsTlvObject (Ok (Some object)) old = (rest : List ℕ) × (decode_tlv_object old.rest ≡ Some (value_of object, rest))
ReturnsTlvObject (Err fault) old = (fault ≡ record { at = old.offset }) × (old.rest ≢ []) × (decode_tlv_object old.rest ≡ None)

-- the reader went past this object
pub record PassesTlvObject (old new : TlvReaderValue) (object : ObjectValue) : Type 0 where
  pub begins : BeginsWithTlvObject old.rest object new.rest
  pub offset : new.offset + length new.rest ≡ old.offset + length old.rest

-- from a reader to the same after a call of `next` with this result: it goes on only past an object
abbrev pub LeavesTlvReader : TlvReaderValue → Result (Option Object) TlvFault → TlvReaderValue → Type 0
LeavesTlvReader old (Ok None) new = new ≡ old
LeavesTlvReader old (Ok (Some object)) new = PassesTlvObject old new (value_of object)
LeavesTlvReader old (Err fault) new = new ≡ old

-- a reader of these bytes that has read nothing
abbrev pub tlv_reader_over : List ℕ → TlvReaderValue
tlv_reader_over bytes = record { offset = 0; rest = bytes }

-- calls of `next` gave these objects, one after another
abbrev pub PassesTlvObjects : TlvReaderValue → List ObjectValue → TlvReaderValue → Type 0
PassesTlvObjects old [] new = new ≡ old
PassesTlvObjects old (object ∷ objects) new = (mid : TlvReaderValue) × PassesTlvObject old mid object × PassesTlvObjects mid objects new
