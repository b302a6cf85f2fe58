-- The text of a fault, as `Display` prints it.
use Rattle.std.specs.Prelude.{ℕ, List, ◌∷◌, ◌++◌, codes, decimal}
use Rattle.json_text.specs.declared.fault.FaultKind.{FaultKind}
use Rattle.json_text.specs.declared.fault.FaultKind.TheVariants as kinds
use Rattle.json_text.specs.declared.fault.JsonFault.{JsonFault}
use Rattle.json_text.specs.declared.fault.ReadError.{ReadError}
use Rattle.json_text.specs.declared.fault.ReadError.TheVariants as errors

-- the kind's name
abbrev pub kind_text : FaultKind → List ℕ
kind_text kinds.NotJson = codes "NotJson"
kind_text kinds.TooDeep = codes "TooDeep"
kind_text kinds.Repeated = codes "Repeated"
kind_text kinds.BadUtf8 = codes "BadUtf8"

-- the kind, a space, and the offset in decimal
abbrev pub fault_text : JsonFault → List ℕ
fault_text f = kind_text f.kind ++ (32 ∷ decimal f.at)

-- no memory, or the fault
abbrev pub error_text : ReadError → List ℕ
error_text errors.Memory = codes "out of memory"
error_text (errors.Fault f) = fault_text f
