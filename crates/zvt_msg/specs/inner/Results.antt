-- What the code that reads blocks and displays returns, as plain data.
use Rattle.std.specs.Prelude.{◌≡◌, ℕ, ◌+◌, ◌<◌, List, [], ◌∷◌, length, Option, None, Some, Result, Ok, Err}
use Rattle.zvt_tlv.specs.declared.object.Object.{Object}
use Rattle.zvt_tlv.specs.declared.fault.TlvFault.{TlvFault}
use Rattle.zvt_tlv.specs.Grammar.{ObjectValue, value_of}
use Rattle.zvt_tlv.specs.Decode.{decode_tlv_object}
use Rattle.zvt_tlv.specs.Reader.{TlvReaderValue}
use Rattle.arrayvec.specs.ArrayVec.{ArrayVec}
use denote.Ref.{Bor}

-- a reader of objects went past this one
pub record TakesTlvObject (old new : TlvReaderValue) (object : ObjectValue) : Type 0 where
  pub found : decode_tlv_object old.rest ≡ Some (object, new.rest)
  pub offset : new.offset + length new.rest ≡ old.offset + length old.rest
  pub shorter : length object.value + length new.rest < length old.rest

-- the next object, and the reader after it; none, and the reader stays, where no well-formed one follows
abbrev pub ReturnsNextTlvObject : TlvReaderValue → Option Object → TlvReaderValue → Type 0
ReturnsNextTlvObject old None new = (decode_tlv_object old.rest ≡ None) × (new ≡ old)
ReturnsNextTlvObject old (Some object) new = TakesTlvObject old new (value_of object)

-- the first of these, and those after it; none where there are none, and then there are none after it
abbrev pub ReturnsNextLine : List (List ℕ) → Option (Bor (List ℕ)) → List (List ℕ) → Type 0
ReturnsNextLine old None new = (old ≡ []) × (new ≡ [])
ReturnsNextLine old (Some found) new = old ≡ found.now ∷ new

-- the result is these bytes, or none
abbrev pub ReturnsContainer : Option (Bor (List ℕ)) → Option (List ℕ) → Type 0
ReturnsContainer None bytes = bytes ≡ None
ReturnsContainer (Some found) bytes = bytes ≡ Some found.now

-- the result is a block of these objects, or this fault
abbrev pub ReturnsBlock : Result (Bor (List ℕ)) TlvFault → Result (List ℕ) TlvFault → Type 0
ReturnsBlock (Ok bytes) block = block ≡ Ok bytes.now
ReturnsBlock (Err fault) block = block ≡ Err fault

-- the result is this line, and these bytes after it, or none
abbrev pub ReturnsDisplayLine : Option (ArrayVec ℕ × Bor (List ℕ)) → Option (ArrayVec ℕ × List ℕ) → Type 0
ReturnsDisplayLine None line = line ≡ None
ReturnsDisplayLine (Some found) line = line ≡ Some (found.0, found.1.now)

-- the result is these lines, or none
abbrev pub ReturnsDisplayLines : Option (ArrayVec (ArrayVec ℕ)) → Option (List (ArrayVec ℕ)) → Type 0
ReturnsDisplayLines None lines = lines ≡ None
ReturnsDisplayLines (Some found) lines = lines ≡ Some found.items
