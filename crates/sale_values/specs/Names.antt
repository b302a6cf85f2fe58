-- The closed lists of names that messages choose from.
use Rattle.std.specs.Prelude.{ℕ, List, codes}
use Rattle.sale_values.specs.declared.names.Class.{Class}
use Rattle.sale_values.specs.declared.names.Class.TheVariants.{Service, Device, Event}
use Rattle.sale_values.specs.declared.names.Kind.{Kind}
use Rattle.sale_values.specs.declared.names.Kind.TheVariants.{Request, Response, Notification}
use Rattle.sale_values.specs.declared.names.Period.{Period}
use Rattle.sale_values.specs.declared.names.Period.TheVariants.{SaleReconciliation, AcquirerSynchronisation, AcquirerReconciliation, PreviousReconciliation}

-- the text of a MessageClass
abbrev pub class_name : Class → List ℕ
class_name Service = codes "Service"
class_name Device = codes "Device"
class_name Event = codes "Event"

-- the text of a MessageType
abbrev pub kind_name : Kind → List ℕ
kind_name Request = codes "Request"
kind_name Response = codes "Response"
kind_name Notification = codes "Notification"

-- the text of a ReconciliationType
abbrev pub period_name : Period → List ℕ
period_name SaleReconciliation = codes "SaleReconciliation"
period_name AcquirerSynchronisation = codes "AcquirerSynchronisation"
period_name AcquirerReconciliation = codes "AcquirerReconciliation"
period_name PreviousReconciliation = codes "PreviousReconciliation"
