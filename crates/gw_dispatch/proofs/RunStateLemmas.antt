-- What is held stays in order.
use Rattle.std.proofs.Common.{◌≡◌, ◌≤◌, ◌+◌, ◌*◌, ℕ, List, [], ◌∷◌, length, refl, sym, ◌∙◌, ap, subst, arith}
use Rattle.std.specs.Prelude.{map, not, ◌==◌, Option, Some, None, slice_get}
use Rattle.std.specs.Option.{option_map}
use Rattle.std.proofs.lemmas.List.{length-map}
use Rattle.std.proofs.lemmas.Option.{slice_get-map}
use Rattle.gw_site.specs.Observed.{Observed}
use Rattle.jrn_record.specs.declared.records.Record.{Record}
use Rattle.jrn_log.specs.Journal.{JournalValue, StandsFor}
use Rattle.gw_ledger.specs.Sums.{open_count_of}
use Rattle.gw_owes.specs.Core.{Core, Wait}
use Rattle.gw_owes.specs.Days.{days_served}
use Rattle.gw_owes.specs.Dialogues.{AllHaveDialogues, HasItsDialogue}
use Rattle.gw_owes.specs.DeviceRequests.{greatest_device_number}
use Rattle.gw_owes.specs.RecordLaws.{HasRoom, IsTerminalInOrder}
use Rattle.gw_owes.specs.Terminals.{core_without, forgets_till}
use Rattle.gw_owes.specs.Waits.{slots_reserved}
use Rattle.gw_owes.specs.declared.terminal.Terminal.{Terminal}
use Rattle.gw_owes.proofs.DayLemmas.{days-forgotten}
use Rattle.gw_owes.proofs.WaitingFrameLemmas.{gone-keeps-waits}
use Rattle.gw_core.specs.IsRow.{known_with}
use Rattle.gw_core.specs.declared.gateway.Gateway.{Gateway}
use Rattle.gw_dispatch.specs.Growth.{GoesOnBesideDisk}
use Rattle.gw_dispatch.specs.RunState.{IsOrderly, IsWell, StandFor, StaysInOrder, WaitsStay}
use Rattle.gw_dispatch.specs.MidRound.{AreReady}
use Rattle.gw_dispatch.specs.Rounds.{IsReady}
use Rattle.gw_dispatch.specs.Serving.{held_without}
use Rattle.gw_dispatch.specs.Tills.{AllStillHold, others}
use Rattle.gw_dispatch.specs.declared.engine.Dispatch.{Dispatch}
use Rattle.gw_dispatch.specs.declared.run_state.RunState.{RunState}
use Rattle.gw_dispatch.specs.declared.records.Records.{Records}
use Rattle.gw_dispatch.proofs.DueLemmas.{fewer-some}
use Rattle.gw_dispatch.proofs.ReaderLemmas.{dropped-still, waiting-still}

-- ---- what is remembered

-- of what waits nothing is changed
pub waits-same : (core : Core) → WaitsStay core core
waits-same core = record { few = omega arith; order = λ setup kept moment order. order }

pub waits-then : (old mid new : Core) → WaitsStay old mid → WaitsStay mid new → WaitsStay old new
waits-then old mid new one other = record { few = omega (arith, one.few, other.few); order = λ setup kept moment order. other.order setup kept moment (one.order setup kept moment order) }

-- nothing is changed
pub stays-same : (core : Core) → StaysInOrder core core
stays-same core = record { settings = refl; days = omega arith; waits = waits-same core; device_requests = refl; order = λ kept order. order }

-- one change after the other
pub stays-then : (old mid new : Core) → StaysInOrder old mid → StaysInOrder mid new → StaysInOrder old new
stays-then old mid new one other = record {
  settings = other.settings ∙ one.settings;
  days = omega (arith, one.days, other.days);
  waits = waits-then old mid new one.waits other.waits;
  device_requests = other.device_requests ∙ one.device_requests;
  order = λ kept order. other.order kept (one.order kept order);
}

-- no more slots are reserved
slots-fewer : (days fewer_days waits fewer : ℕ) → fewer_days ≤ days → fewer ≤ waits → fewer_days + 2 * fewer ≤ days + 2 * waits
slots-fewer days fewer_days waits fewer one other = omega (arith, one, other)

room-fewer : (kept unresolved reserved fewer slots : ℕ) → fewer ≤ reserved → kept + (unresolved + reserved) ≤ slots → kept + (unresolved + fewer) ≤ slots
room-fewer kept unresolved reserved fewer slots one room = omega (arith, one, room)

pub room-left : (slots : ℕ) (kept : List Record) (old new : Core) → HasRoom slots kept old → days_served new.terminals ≤ days_served old.terminals → WaitsStay old new → HasRoom slots kept new
room-left slots kept old new room days waits =
    room-fewer (length kept) (open_count_of kept) (slots_reserved old) (slots_reserved new) slots (slots-fewer (days_served old.terminals) (days_served new.terminals) (length old.waits) (length new.waits) days waits.few) room

-- what is remembered of a till is forgotten
module _ (till : ℕ) where
  settings-forgotten : (terminals : List Terminal) → map (λ (terminal : Terminal). terminal.pt) (map (forgets_till till) terminals) ≡ map (λ (terminal : Terminal). terminal.pt) terminals
  settings-forgotten [] = refl
  settings-forgotten (terminal ∷ terminals) = ap (λ settings. terminal.pt ∷ settings) (settings-forgotten terminals)

  -- what holds of each terminal, and says nothing of the till, holds then
  each-forgotten : (P : Terminal → Type 0) → ((terminal : Terminal) → P terminal → P (forgets_till till terminal)) → (core : Core) → ((number : ℕ) (terminal : Terminal) → slice_get core.terminals number ≡ Some terminal → P terminal) →
      (number : ℕ) (terminal : Terminal) → slice_get (core_without core till).terminals number ≡ Some terminal → P terminal
  each-forgotten P same core all number terminal found = by_old (slice_get core.terminals number) refl
    where
      by_old : (old : Option Terminal) → slice_get core.terminals number ≡ old → P terminal
      by_old None e = absurd (let h : None ≡ Some terminal = sym (slice_get-map (forgets_till till) core.terminals number ∙ ap (option_map (forgets_till till)) e) ∙ found in cc)
      by_old (Some old) e =
          let is : Some (forgets_till till old) ≡ Some terminal = sym (slice_get-map (forgets_till till) core.terminals number ∙ ap (option_map (forgets_till till)) e) ∙ found in
          let same_one : forgets_till till old ≡ terminal = cc in
          subst P same_one (same old (all number old e))

  pub forgets-order : (core : Core) → StaysInOrder core (core_without core till)
  forgets-order core = record {
    settings = settings-forgotten core.terminals;
    days = omega (arith, days-forgotten till core.terminals);
    waits = record { few = fewer-some (λ (wait : Wait). not (wait.till == till)) core.waits; order = λ setup kept moment order. gone-keeps-waits (known_with setup kept core moment) till order };
    device_requests = refl;
    order = λ kept order. each-forgotten (IsTerminalInOrder kept) (λ terminal h. record { records = h.records; read = h.read }) core order;
  }

  pub forgets-dialogues : (core : Core) → AllHaveDialogues core → AllHaveDialogues (core_without core till)
  forgets-dialogues core all = each-forgotten HasItsDialogue (λ terminal h. h) core all

-- ---- what is held

-- something else is remembered, in order
pub orderly-core : (gateway : Gateway) (kept : List Record) (old new : Core) → IsOrderly gateway kept old → StaysInOrder old new → AllHaveDialogues new → IsOrderly gateway kept new
orderly-core gateway kept old new order stays dialogues = record {
  setup = order.setup;
  gateway_is = order.gateway_is;
  of_setup = record { within = order.of_setup.within; settings = stays.settings ∙ order.of_setup.settings };
  folded = order.folded;
  room = room-left gateway.slots kept old new order.room stays.days stays.waits;
  numbered = subst (λ n. n ≤ greatest_device_number) (sym stays.device_requests) order.numbered;
  terminals = stays.order kept order.terminals;
  dialogues = dialogues;
  waits = λ moment. stays.waits.order order.setup kept moment (order.waits moment);
}

-- the journal is as good after calls that aren't on the disk
pub stand-on : (gateway : Gateway) (records : Records) (a b : Observed) → StandFor gateway records a → GoesOnBesideDisk a b → StandFor gateway records b
stand-on gateway records a b stand goes = record { count = stand.count; slots = stand.slots; stands = goes.stands records.journal stand.stands }

-- both
pub well-core : (state : RunState) (core : Core) (a b : Observed) → IsWell state a → StaysInOrder state.core core → AllHaveDialogues core → GoesOnBesideDisk a b → IsWell (record state { core = core }) b
well-core state core a b well stays dialogues goes = record {
  order = orderly-core state.gateway state.records.ledger.records state.core core well.order stays dialogues;
  records = stand-on state.gateway state.records a b well.records goes;
  spare = omega (arith, well.spare, stays.days, stays.waits.few);
}

-- a till is forgotten
pub well-without : (state : RunState) (till : ℕ) (a b : Observed) → IsWell state a → GoesOnBesideDisk a b → IsWell (record state { core = core_without state.core till }) b
well-without state till a b well goes = well-core state (core_without state.core till) a b well (forgets-order till state.core) (forgets-dialogues till state.core well.order.dialogues) goes

-- ---- what a run is ready with

-- a till is forgotten
pub forgets-ready : (core : Core) (readers : List (List ℕ)) (till : ℕ) → AreReady core readers → AreReady (core_without core till) readers
forgets-ready core readers till ready = record {
  dialogues = forgets-dialogues till core ready.dialogues;
  count = ready.count ∙ sym (length-map core.terminals (forgets_till till));
  waits = ready.waits;
}

-- the site was called, and a journal that stood for it still does
pub ready-still : (dispatch : Dispatch) (a b : Observed) → IsReady dispatch a → ((journal : JournalValue) → StandsFor journal a → StandsFor journal b) → IsReady dispatch b
ready-still dispatch a b ready stands = record {
  well = record {
    order = ready.well.order;
    records = record { count = ready.well.records.count; slots = ready.well.records.slots; stands = stands dispatch.state.records.journal ready.well.records.stands };
    spare = ready.well.spare;
  };
  tills = ready.tills;
  terminals = ready.terminals;
}

-- something else is remembered
pub ready-core : (dispatch : Dispatch) (core : Core) (readers : List (List ℕ)) (new : Dispatch) (a b : Observed) → new.state ≡ record dispatch.state { core = core } → new.readers.items ≡ readers → IsReady dispatch a → AllStillHold dispatch.tills.list.items new.tills.list.items → StaysInOrder dispatch.state.core core → AreReady core readers → GoesOnBesideDisk a b → IsReady new b
ready-core dispatch core readers new a b state same ready still stays are goes = record {
  well = subst (λ h. IsWell h b) (sym state) (well-core dispatch.state core a b ready.well stays are.dialogues goes);
  tills = waiting-still dispatch.tills.list.items new.tills.list.items ready.tills still;
  terminals = subst (λ (h : RunState). AreReady h.core new.readers.items) (sym state) (subst (AreReady core) (sym same) are);
}

-- a till is forgotten
pub ready-without : (dispatch : Dispatch) (till : ℕ) (new : Dispatch) (a b : Observed) → new.state ≡ held_without dispatch.state till → new.tills.list.items ≡ others dispatch.tills.list.items till → new.readers ≡ dispatch.readers → IsReady dispatch a → GoesOnBesideDisk a b → IsReady new b
ready-without dispatch till new a b state list same ready goes =
    ready-core dispatch (core_without dispatch.state.core till) dispatch.readers.items new a b state (ap (λ readers. readers.items) same) ready (subst (AllStillHold dispatch.tills.list.items) (sym list) (dropped-still dispatch.tills.list.items till)) (forgets-order till dispatch.state.core)
    (forgets-ready dispatch.state.core dispatch.readers.items till ready.terminals) goes

-- a till was served
pub served-ready : (state : RunState) (core : Core) (readers : List (List ℕ)) (b : Observed) → IsWell state b → AreReady core readers → length state.core.terminals ≡ length core.terminals → AreReady state.core readers
served-ready state core readers b well ready count = record { dialogues = well.order.dialogues; count = ready.count ∙ sym count; waits = ready.waits }
