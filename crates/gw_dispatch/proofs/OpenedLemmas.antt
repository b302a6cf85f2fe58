-- What a run holds as it begins is in order.
use Rattle.std.proofs.Common.{arith, ◌≡◌, ◌≤◌, ◌+◌, ℕ, List, [], ◌∷◌, length, refl, sym, ◌∙◌, ap, subst}
use Rattle.std.specs.Prelude.{map, replicate}
use Rattle.gw_base.specs.Setup.{IsSetup}
use Rattle.gw_base.specs.declared.setup.Pt.{Pt}
use Rattle.gw_base.specs.declared.setup.Setup.{Setup}
use Rattle.gw_site.specs.Observed.{Observed}
use Rattle.jrn_log.specs.Journal.{StandsFor}
use Rattle.gw_ledger.specs.Fold.{AreFolded}
use Rattle.gw_owes.specs.Core.{Core, new_core, new_terminal}
use Rattle.gw_ledger.specs.Sums.{open_count_of}
use Rattle.gw_owes.specs.RecordLaws.{AreTerminalsInOrder, HasRoom, IsNumbered, NewCoreIsInOrder}
use Rattle.gw_owes.specs.TerminalLaws.{settings_of}
use Rattle.gw_owes.specs.WaitingLaws.{AreWaitsInOrder}
use Rattle.gw_owes.specs.Waits.{memory_reserved, slots_reserved}
use Rattle.gw_owes.proofs.WaitingFrameLemmas.{new-has-none-waiting}
use Rattle.gw_core.specs.IsRow.{known_with}
use Rattle.gw_owes.specs.declared.terminal.Terminal.{Terminal}
use Rattle.gw_core.specs.declared.gateway.Gateway.{Gateway}
use Rattle.gw_dispatch.specs.RunState.{LeavesRoom, gateway_of}
use Rattle.gw_dispatch.specs.MidRound.{AreReady}
use Rattle.sale_frame.specs.Grammar.{IsIncompleteFrame}
use Rattle.gw_dispatch.specs.Tills.{bytes_held}
use Rattle.gw_dispatch.proofs.ReaderLemmas.{empty-waits}
use Rattle.gw_dispatch.specs.Rounds.{IsReady}
use Rattle.gw_dispatch.specs.declared.engine.Dispatch.{Dispatch}
use Rattle.gw_dispatch.proofs.PtsLemmas.{new-ready}

-- the settings of new terminals are those of the setup
new-settings : (pts : List Pt) → map (λ (terminal : Terminal). terminal.pt) (map new_terminal pts) ≡ pts
new-settings [] = refl
new-settings (pt ∷ pts) = ap (λ settings. pt ∷ settings) (new-settings pts)

room-none : (kept unresolved reserved slots : ℕ) → kept + unresolved ≤ slots → reserved ≡ 0 → kept + (unresolved + reserved) ≤ slots
room-none kept unresolved reserved slots room none = omega (arith, room, none)

-- what a run holds as it begins is ready where the journal stands for the site
pub opened-ready : NewCoreIsInOrder → (setup : Setup) (dispatch : Dispatch) (count : ℕ) → IsSetup setup → AreFolded dispatch.state.records.ledger.records → gateway_of setup ≡ dispatch.state.gateway → dispatch.state.core ≡ new_core setup →
    count ≡ length dispatch.state.core.terminals → dispatch.readers.items ≡ replicate count [] → dispatch.tills.list.items ≡ [] → LeavesRoom setup.slots dispatch.state.records → (observed : Observed) → StandsFor dispatch.state.records.journal observed → IsReady dispatch observed
opened-ready in_order setup dispatch count within folded gateway new counted empty none leaves observed stands = record {
  well = record {
    order = record {
      setup = setup;
      gateway_is = gateway;
      of_setup = record { within = within; settings = ap settings_of new ∙ new-settings setup.terminals };
      folded = folded;
      room = subst (λ slots. HasRoom slots dispatch.state.records.ledger.records dispatch.state.core) (ap (λ (g : Gateway). g.slots) gateway)
          (room-none (length dispatch.state.records.ledger.records) (open_count_of dispatch.state.records.ledger.records) (slots_reserved dispatch.state.core) setup.slots leaves.room none_reserved);
      numbered = subst IsNumbered (sym new) (omega arith);
      terminals = subst (AreTerminalsInOrder dispatch.state.records.ledger.records) (sym new) (in_order setup dispatch.state.records.ledger.records).0;
      dialogues = ready.dialogues;
      waits = λ moment. subst (λ (core : Core). AreWaitsInOrder (known_with setup dispatch.state.records.ledger.records core moment)) (sym new) (new-has-none-waiting setup dispatch.state.records.ledger.records moment);
    };
    records = record { count = leaves.count; slots = leaves.slots_are ∙ ap (λ (g : Gateway). g.slots) gateway; stands = stands };
    spare = omega (arith, none_kept);
  };
  tills = λ number. subst (λ tills. IsIncompleteFrame (bytes_held number tills)) (sym none) empty-waits;
  terminals = ready;
}
  where
    none_reserved : slots_reserved dispatch.state.core ≡ 0
    none_reserved = ap slots_reserved new ∙ (in_order setup dispatch.state.records.ledger.records).1

    none_kept : memory_reserved dispatch.state.core ≡ 0
    none_kept = ap memory_reserved new ∙ (in_order setup dispatch.state.records.ledger.records).1

    ready : AreReady dispatch.state.core dispatch.readers.items
    ready = new-ready setup dispatch.state.core dispatch.readers.items count new counted empty
