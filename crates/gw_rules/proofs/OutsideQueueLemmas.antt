-- Items of bytes that are outside change nothing as they begin.
use Rattle.std.proofs.Common.{◌≡◌, List, [], ◌∷◌, refl, ◌∙◌, ap}
use Rattle.std.specs.Prelude.{Option, Some, None}
use Rattle.gw_base.specs.declared.setup.Setup.{Setup}
use Rattle.gw_site.specs.Outside.{Connection, is_connected}
use Rattle.gw_owes.specs.Calls.{CutTill as OwedCutTill}
use Rattle.gw_owes.specs.Core.{Core}
use Rattle.gw_owes.specs.Items.{RoundItem, Crowded, Message, Asked, Unframed, Gone, Greet, Handle, Serve, Queue, NextWaiting, Oversized, LinkLost, Late, Overdue, Due}
use Rattle.gw_owes.specs.Row.{Known, Row, owing}
use Rattle.gw_owes.specs.Rows.{asked_row, row_of}
use Rattle.gw_owes.proofs.HandlingLemmas.{by-where}
use Rattle.gw_owes.proofs.TerminalLemmas.{greeting-changes-nothing, oversized-same}
use Rattle.gw_rules.specs.QueueLaws.{IsOfOutside, OutsideLeavesQueues}
use Rattle.gw_rules.specs.Scene.{known_in, row_in}
use Rattle.gw_rules.specs.View.{Begin, after, at_item}

outside-same : (tills : List Connection) (known : Known) (item : RoundItem) → IsOfOutside item → (row_of tills known item).core ≡ known.core
outside-same tills known (Crowded till) is = refl
outside-same tills known (Message till bytes) is = absurd is
outside-same tills known (Asked till as_read) is = by-where (λ (row : Row). row.core ≡ known.core) known (asked_row known till as_read) (is_connected tills till) refl (λ there. refl)
outside-same tills known (Unframed till) is = by-where (λ (row : Row). row.core ≡ known.core) known (owing known (OwedCutTill till ∷ [])) (is_connected tills till) refl (λ there. refl)
outside-same tills known (Gone till) is = absurd is
outside-same tills known (Greet pt apdu) is = greeting-changes-nothing known pt apdu
outside-same tills known (Handle pt apdu) is = absurd is
outside-same tills known (Serve pt till header request) is = absurd is
outside-same tills known (Queue pt till header request) is = absurd is
outside-same tills known (NextWaiting pt) is = absurd is
outside-same tills known (Oversized pt) is = oversized-same known pt
outside-same tills known (LinkLost pt) is = absurd is
outside-same tills known (Late pt) is = absurd is
outside-same tills known (Overdue key) is = absurd is
outside-same tills known (Due pt) is = absurd is

pub outside-leaves-queues : OutsideLeavesQueues
outside-leaves-queues log v item rest s b items is =
    ap (λ l. (after (record v { items = l }) Begin).scene) items ∙ ap (λ (core : Core). record (at_item v.scene) { core = core }) (by_setup v.scene.setup)
  where
    by_setup : (setup : Option Setup) → (row_in v.scene (λ known. row_of v.scene.outside.tills known item) setup).core ≡ v.scene.core
    by_setup None = refl
    by_setup (Some setup) = outside-same v.scene.outside.tills (known_in v.scene setup) item is
