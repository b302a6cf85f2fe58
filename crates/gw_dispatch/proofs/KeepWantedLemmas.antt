-- A record that a row wants kept: the round goes on with the record kept, or the run is over.
use Rattle.std.proofs.Common.{◌≡◌, ◌∙◌, ℕ, ℤ, List, [], ◌∷◌, ◌++◌, length, refl, sym, ap, subst}
use Rattle.std.specs.Prelude.{Option, Some, Result, Ok, Err, OnOk}
use Rattle.gw_base.specs.declared.setup.Setup.{Setup}
use Rattle.gw_site.specs.Observed.{Observed}
use Rattle.gw_site.specs.Outside.{Outside, outside_from}
use Rattle.jrn_record.specs.Grammar.{record_body}
use Rattle.jrn_record.specs.declared.records.Record.{Record}
use Rattle.jrn_log.specs.Foreign.{append_turns}
use Rattle.gw_owes.specs.Calls.{OwedCall, keep_calls}
use Rattle.gw_owes.specs.Core.{Core}
use Rattle.gw_owes.specs.Items.{RoundItem}
use Rattle.gw_owes.specs.Row.{Known}
use Rattle.gw_core.specs.IsRow.{keeping_calls}
use Rattle.gw_rules.specs.Scene.{Scene}
use Rattle.gw_rules.specs.Triple.{Triple}
use Rattle.gw_rules.specs.View.{View, at_first}
use Rattle.gw_rules.proofs.TripleLemmas.{triple-after, triple-before, triple-frame, triple-some}
use Rattle.gw_dispatch.specs.RunState.{KeepsWithLedger, UnlessBroken}
use Rattle.gw_dispatch.specs.Keeping.{OwesKeeping, Kept, keeping}
use Rattle.gw_dispatch.specs.MidRound.{AreHeard, AreLinked, MidRound}
use Rattle.gw_dispatch.specs.Round.{HoldsTills, IsIn, known_at}
use Rattle.gw_dispatch.specs.declared.records.Records.{Records}
use Rattle.gw_dispatch.specs.declared.tills.Till.{Till}

module _ (setup : Setup) (core : Core) (old new : Records) (tills : List Till) (polls : ℕ) (now : ℤ) (heard : ℕ → List ℕ) (the_record : Record) (calls : List OwedCall) (items : List RoundItem) where
  -- a scene of the round, and its outside
  record Place : Type 0 where
    scene : Scene
    outside : Outside

  -- what the loop holds fits the place
  record Fits (place : Place) : Type 0 where
    known : IsIn (known_at setup core old.ledger.records now) polls place.outside place.scene
    tills_are : HoldsTills tills place.outside
    linked : AreLinked core place.outside
    also : AreHeard heard place.outside

  abbrev slot : ℕ
  slot = length old.ledger.records

  -- the outside once the record is kept
  abbrev after : Outside → Outside
  after o = outside_from o (append_turns slot (record_body the_record))

  kept-in : (place : Place) → Fits place → new.ledger.records ≡ old.ledger.records ++ the_record ∷ [] → IsIn (known_at setup core new.ledger.records now) polls (after place.outside) (keeping place.scene slot the_record)
  kept-in place f e = record {
    setup_is = f.known.setup_is;
    known_is = ap (λ (k : Known). record { setup = k.setup; core = k.core; kept = k.kept ++ the_record ∷ []; moment = k.moment }) f.known.known_is ∙ ap (λ kept. known_at setup core kept now) (sym e);
    flight = refl;
    round = refl;
    polls_are = f.known.polls_are;
    outside_is = ap after f.known.outside_is;
  }

  kept-round : {T E : Type 0} (result : Result T E) (place : Place) (v : View) → OnOk result (KeepsWithLedger old new (Some the_record)) → Kept result place.scene slot the_record calls items v → Fits place →
      UnlessBroken result (λ done. MidRound setup core new.ledger.records tills polls now (AreHeard heard) calls items) v
  kept-round (Ok done) place v added kept f = record {
    outside = after place.outside;
    round = (keeping place.scene slot the_record, kept, kept-in place f added.records);
    tills_are = record { tills_are = f.tills_are.tills_are; below = f.tills_are.below };
    linked = f.linked;
    also = f.also;
  }
  kept-round (Err failed) place v added broken f = broken

  -- the round goes on once the record is kept
  kept-held : {T E : Type 0} (a b : Observed) (result : Result T E) → OnOk result (KeepsWithLedger old new (Some the_record)) → ((scene : Scene) → Triple a b (OwesKeeping scene slot the_record calls items) (Kept result scene slot the_record calls items)) →
      Triple a b (MidRound setup core old.ledger.records tills polls now (AreHeard heard) (keep_calls slot the_record ++ calls) items) (UnlessBroken result (λ done. MidRound setup core new.ledger.records tills polls now (AreHeard heard) calls items))
  kept-held a b result added keep =
      triple-before a b _ (λ v. (place : Place) × (OwesKeeping place.scene slot the_record calls items v × Fits place)) (UnlessBroken result (λ done. MidRound setup core new.ledger.records tills polls now (AreHeard heard) calls items))
      (λ v m. (record { scene = m.round.0; outside = m.outside }, ((m.round.1, record { round = m.round.2.round; flight = m.round.2.flight }), record { known = m.round.2; tills_are = m.tills_are; linked = m.linked; also = m.also })))
      (triple-some a b (λ (place : Place) v. OwesKeeping place.scene slot the_record calls items v × Fits place) (UnlessBroken result (λ done. MidRound setup core new.ledger.records tills polls now (AreHeard heard) calls items)) (record { scene = at_first.scene; outside = at_first.scene.outside })
      (λ place. triple-after a b _ _ _ (triple-frame a b _ _ (Fits place) (keep place.scene)) (λ v q. kept-round result place v added q.0 q.1)))

  -- so it does where this record is wanted
  pub wanted-held : {T E : Type 0} (a b : Observed) (wanted : Option Record) (result : Result T E) → wanted ≡ Some the_record → OnOk result (KeepsWithLedger old new (Some the_record)) → ((scene : Scene) → Triple a b (OwesKeeping scene slot the_record calls items) (Kept result scene slot the_record calls items)) →
      Triple a b (MidRound setup core old.ledger.records tills polls now (AreHeard heard) (keeping_calls slot wanted ++ calls) items) (UnlessBroken result (λ done. MidRound setup core new.ledger.records tills polls now (AreHeard heard) calls items))
  wanted-held a b wanted result is added keep =
      subst (λ wanted. Triple a b (MidRound setup core old.ledger.records tills polls now (AreHeard heard) (keeping_calls slot wanted ++ calls) items) (UnlessBroken result (λ done. MidRound setup core new.ledger.records tills polls now (AreHeard heard) calls items)))
      (sym is) (kept-held a b result added keep)
