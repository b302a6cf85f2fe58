-- What the items of a terminal and its calls make of what is held in a round.
use Rattle.std.proofs.Common.{◌≡◌, ◌<◌, ℕ, List, [], ◌∷◌, length, refl, sym, ◌∙◌, ap, subst, Bool, true, false}
use Rattle.std.specs.Prelude.{ℤ, slice_get, Ok, Err}
use Rattle.gw_base.specs.declared.setup.Setup.{Setup}
use Rattle.gw_site.specs.Observed.{Observed, Grows, IsStep}
use Rattle.gw_site.specs.Outside.{Connection, Outside, outside_after, nothing_yet}
use Rattle.gw_site.specs.Steps.{CutPtCall, SendPtCall, LinkCall}
use Rattle.gw_site.specs.Turns.{SentPtTurns, LinkTurns, IsTurn}
use Rattle.gw_site.specs.declared.site.Failed.{Failed}
use Rattle.gw_site.specs.declared.turn.Turn.{Turn}
use Rattle.gw_site.specs.declared.turn.Turn.TheVariants.{SentPt, CutPt as PtCut, Linked, LinkFailed}
use Rattle.jrn_record.specs.declared.records.Record.{Record}
use Rattle.gw_owes.specs.Calls.{OwedCall, Sending, SendPt, CutPt, LinkPt, sending_bytes}
use Rattle.gw_owes.specs.Core.{Core}
use Rattle.gw_owes.specs.Items.{RoundItem}
use Rattle.gw_owes.specs.Links.{LinkIsMade, LinkIsLost, link_row}
use Rattle.gw_owes.specs.Row.{Known, Row, becoming}
use Rattle.gw_owes.specs.Rows.{row_of}
use Rattle.gw_rules.specs.Lawful.{may_begin}
use Rattle.gw_rules.specs.Scene.{Scene, row_in}
use Rattle.gw_rules.specs.Triple.{Triple, Owing, OwingRow, SentToPt, CutOfPt, LinkTried}
use Rattle.gw_rules.specs.View.{View, called, at_first}
use Rattle.gw_rules.proofs.CallLemmas.{cut-pt-triple, send-pt-triple, link-pt-triple}
use Rattle.gw_rules.proofs.TripleLemmas.{triple-after, triple-before, triple-frame, triple-some}
use Rattle.gw_dispatch.specs.MidRound.{MidRound, AreLinked, is_linked_in}
use Rattle.gw_dispatch.specs.Round.{IsIn, InRound, HoldsTills, known_at, with_core}
use Rattle.gw_dispatch.specs.declared.tills.Till.{Till}
use Rattle.gw_dispatch.proofs.EngineLemmas.{begin-first, round-busy}
use Rattle.gw_dispatch.proofs.HeardLemmas.{StaysAt, StaysLinked}
use Rattle.gw_dispatch.proofs.LinkLemmas.{LinksStay, cut-linked, made-linked-so, failed-linked}

-- the outside and the scene for which a round is held
record Place : Type 0 where
  pub outside : Outside
  pub scene : Scene

no_place : Place
no_place = record { outside = nothing_yet; scene = at_first.scene }

-- what is held in a place
record Fits (setup : Setup) (core : Core) (kept : List Record) (tills : List Till) (polls : ℕ) (now : ℤ) (Also : Outside → Type 0) (place : Place) : Type 0 where
  pub known : IsIn (known_at setup core kept now) polls place.outside place.scene
  pub tills_are : HoldsTills tills place.outside
  pub linked : AreLinked core place.outside
  pub also : Also place.outside

-- the turn changes neither the moment nor the tills
record KeepsTills (turn : Turn) : Type 0 where
  pub moment : (o : Outside) → (outside_after o turn).moment ≡ o.moment
  pub matched : (tills : List Till) (o : Outside) → HoldsTills tills o → HoldsTills tills (outside_after o turn)

same-held : (tills : List Till) (o after : Outside) → after.tills ≡ o.tills → after.next_till ≡ o.next_till → HoldsTills tills o → HoldsTills tills after
same-held tills o after same next holds = record { tills_are = rw same holds.tills_are; below = rw (next, same) holds.below }

sent-keeps : (pt : ℕ) (bytes : List ℕ) (ok : Bool) → KeepsTills (SentPt pt bytes ok)
sent-keeps pt bytes ok = record { moment = λ o. refl; matched = λ tills o holds. same-held tills o (outside_after o (SentPt pt bytes ok)) refl refl holds }

cut-keeps : (pt : ℕ) → KeepsTills (PtCut pt)
cut-keeps pt = record { moment = λ o. refl; matched = λ tills o holds. same-held tills o (outside_after o (PtCut pt)) refl refl holds }

linked-keeps : (pt : ℕ) → KeepsTills (Linked pt)
linked-keeps pt = record { moment = λ o. refl; matched = λ tills o holds. same-held tills o (outside_after o (Linked pt)) refl refl holds }

failed-keeps : (pt : ℕ) → KeepsTills (LinkFailed pt)
failed-keeps pt = record { moment = λ o. refl; matched = λ tills o holds. same-held tills o (outside_after o (LinkFailed pt)) refl refl holds }

-- the item begins whatever the scene, and by it this is remembered and owed
pub record BeginsMidRound (setup : Setup) (core new : Core) (kept : List Record) (now : ℤ) (item : RoundItem) (calls : List OwedCall) : Type 0 where
  pub begins : (scene : Scene) (items : List RoundItem) → may_begin scene (item ∷ items) ≡ true
  pub row : (tills : List Connection) → row_of tills (known_at setup core kept now) item ≡ becoming new calls
  pub links : LinksStay core new

module _ (setup : Setup) (kept : List Record) (tills : List Till) (polls : ℕ) (now : ℤ) (Also : Outside → Type 0) where
  -- ---- an item begins

  pub begin-held : (s : Observed) (core new : Core) (item : RoundItem) (calls : List OwedCall) (items : List RoundItem) → BeginsMidRound setup core new kept now item calls →
      Triple s s (MidRound setup core kept tills polls now Also [] (item ∷ items)) (MidRound setup new kept tills polls now Also calls items)
  begin-held s core new item calls items b =
      triple-before s s (MidRound setup core kept tills polls now Also [] (item ∷ items)) (λ v. (place : Place) × (InRound (known_at setup core kept now) polls place.outside (item ∷ items) v × Fits setup core kept tills polls now Also place))
      (MidRound setup new kept tills polls now Also calls items)
      (λ v h. (record { outside = h.outside; scene = h.round.0 }, (h.round, record { known = h.round.2; tills_are = h.tills_are; linked = h.linked; also = h.also })))
      (triple-some s s (λ place v. InRound (known_at setup core kept now) polls place.outside (item ∷ items) v × Fits setup core kept tills polls now Also place) _ no_place (λ place.
      triple-after s s _ _ _ (triple-frame s s _ _ (Fits setup core kept tills polls now Also place)
      (begin-first s (known_at setup core kept now) polls place.outside item items new calls (record { begins = λ scene e. b.begins scene items; row = b.row place.outside.tills })))
      (λ v q. record {
        outside = place.outside;
        round = q.0;
        tills_are = q.1.tills_are;
        linked = λ number. q.1.linked number ∙ sym (b.links number);
        also = q.1.also;
      })))

  -- ---- a call is made

  -- what a call leads to from each place
  held-call : (a b : Observed) (core : Core) (calls : List OwedCall) (items : List RoundItem) (R : Scene → View → Type 0) (Q : View → Type 0) → ((scene : Scene) → Triple a b (Owing scene calls items) (R scene)) →
      ((place : Place) (v : View) → Fits setup core kept tills polls now Also place → R place.scene v → Q v) → Triple a b (MidRound setup core kept tills polls now Also calls items) Q
  held-call a b core calls items R Q call into =
      triple-before a b (MidRound setup core kept tills polls now Also calls items) (λ v. (place : Place) × (Owing place.scene calls items v × Fits setup core kept tills polls now Also place)) Q
      (λ v h. (record { outside = h.outside; scene = h.round.0 }, (h.round.1, record { known = h.round.2; tills_are = h.tills_are; linked = h.linked; also = h.also })))
      (triple-some a b (λ place v. Owing place.scene calls items v × Fits setup core kept tills polls now Also place) Q no_place (λ place.
      triple-after a b _ _ Q (triple-frame a b _ _ (Fits setup core kept tills polls now Also place) (call place.scene)) (λ v q. into place v q.1 q.0)))

  -- the place after a turn by which this is remembered
  into-held : (core new : Core) (turn : Turn) (calls : List OwedCall) (items : List RoundItem) (place : Place) (v : View) → Fits setup core kept tills polls now Also place → KeepsTills turn →
      AreLinked new (outside_after place.outside turn) → Also (outside_after place.outside turn) → Owing (record (called place.scene turn) { core = new }) calls items v → MidRound setup new kept tills polls now Also calls items v
  into-held core new turn calls items place v fits steady linked also owing = record {
    outside = outside_after place.outside turn;
    round = (
      record (called place.scene turn) { core = new },
      owing,
      record {
        setup_is = fits.known.setup_is;
        known_is = ap (λ (m : ℕ). record { setup = setup; core = new; kept = place.scene.kept; moment = m }) (steady.moment place.scene.outside) ∙ ap (λ k. with_core k new) fits.known.known_is;
        flight = fits.known.flight;
        round = round-busy place.scene.stage fits.known.round;
        polls_are = fits.known.polls_are;
        outside_is = ap (λ o. outside_after o turn) fits.known.outside_is;
      },
    );
    tills_are = steady.matched tills place.outside fits.tills_are;
    linked = linked;
    also = also;
  }

  -- the row of a link in a place
  placed-row : (core : Core) (place : Place) (row : Known → Row) → Fits setup core kept tills polls now Also place → row_in place.scene row place.scene.setup ≡ row (known_at setup core kept now)
  placed-row core place row fits = ap (row_in place.scene row) fits.known.setup_is ∙ ap row fits.known.known_is

  by-row : (core new : Core) (turn : Turn) (calls : List OwedCall) (items : List RoundItem) (place : Place) (v : View) (row : Known → Row) → Fits setup core kept tills polls now Also place → row (known_at setup core kept now) ≡ becoming new calls →
      OwingRow (called place.scene turn) (row_in place.scene row place.scene.setup) items v → Owing (record (called place.scene turn) { core = new }) calls items v
  by-row core new turn calls items place v row fits row_is q =
      subst (λ (r : Row). OwingRow (called place.scene turn) r items v) (placed-row core place row fits ∙ row_is) q

  -- the cut of a terminal, with which its link is lost
  pub cut-held : (a b : Observed) (core new : Core) (pt : ℕ) (calls : List OwedCall) (items : List RoundItem) → StaysAt pt Also → Grows a b (IsTurn (PtCut pt)) → IsStep a b (CutPtCall pt) → link_row (known_at setup core kept now) pt LinkIsLost ≡ becoming new calls →
      Triple a b (MidRound setup core kept tills polls now Also (CutPt pt ∷ []) items) (MidRound setup new kept tills polls now Also calls items)
  cut-held a b core new pt calls items stays grows step lost = held-call a b core (CutPt pt ∷ []) items (λ scene. CutOfPt scene pt items) _ (λ scene. cut-pt-triple scene items a b pt grows step) (λ place v fits q.
      into-held core new (PtCut pt) calls items place v fits (cut-keeps pt)
      (subst (λ c. AreLinked c (outside_after place.outside (PtCut pt))) (ap (λ (r : Row). r.core) lost) (cut-linked (known_at setup core kept now) pt place.outside fits.linked))
      (stays.cut place.outside fits.also)
      (by-row core new (PtCut pt) calls items place v (λ known. link_row known pt LinkIsLost) fits lost q))

  same-core : (core : Core) (turn : Turn) (calls : List OwedCall) (items : List RoundItem) (place : Place) (v : View) → Fits setup core kept tills polls now Also place →
      Owing (called place.scene turn) calls items v → Owing (record (called place.scene turn) { core = core }) calls items v
  same-core core turn calls items place v fits q =
      q ∙ ap (λ (c : Core). record { scene = record (called place.scene turn) { core = c }; calls = calls; items = items }) (ap (λ (k : Known). k.core) fits.known.known_is)

  after-send : (core : Core) (pt : ℕ) (bytes : List ℕ) (ok : Bool) (calls : List OwedCall) (items : List RoundItem) (place : Place) (v : View) → StaysAt pt Also → Fits setup core kept tills polls now Also place →
      Owing (called place.scene (SentPt pt bytes ok)) calls items v → MidRound setup core kept tills polls now Also calls items v
  after-send core pt bytes ok calls items place v stays fits q =
      into-held core core (SentPt pt bytes ok) calls items place v fits (sent-keeps pt bytes ok) fits.linked (stays.sent place.outside bytes ok fits.also) (same-core core (SentPt pt bytes ok) calls items place v fits q)

  -- a send to a terminal, after which nothing is owed
  pub sent-held : (a b : Observed) (core : Core) (pt : ℕ) (sending : Sending) (done : Unit {0}) (items : List RoundItem) → StaysAt pt Also → Grows a b (SentPtTurns {E = Failed} pt (sending_bytes sending) (Ok done)) → IsStep a b (SendPtCall pt (sending_bytes sending)) →
      Triple a b (MidRound setup core kept tills polls now Also (SendPt pt sending ∷ []) items) (MidRound setup core kept tills polls now Also [] items)
  sent-held a b core pt sending done items stays grows step =
      held-call a b core (SendPt pt sending ∷ []) items (λ scene. SentToPt {E = Failed} (Ok done) scene pt (sending_bytes sending) items) _ (λ scene. send-pt-triple scene items a b {E = Failed} pt sending (Ok done) grows step)
      (λ place v fits q. after-send core pt (sending_bytes sending) true [] items place v stays fits q)

  -- a send that has failed, after which the cut is owed
  pub unsent-held : (a b : Observed) (core : Core) (pt : ℕ) (sending : Sending) (failed : Failed) (items : List RoundItem) → StaysAt pt Also → Grows a b (SentPtTurns pt (sending_bytes sending) (Err failed)) → IsStep a b (SendPtCall pt (sending_bytes sending)) →
      Triple a b (MidRound setup core kept tills polls now Also (SendPt pt sending ∷ []) items) (MidRound setup core kept tills polls now Also (CutPt pt ∷ []) items)
  unsent-held a b core pt sending failed items stays grows step =
      held-call a b core (SendPt pt sending ∷ []) items (λ scene. SentToPt (Err failed) scene pt (sending_bytes sending) items) _ (λ scene. send-pt-triple scene items a b pt sending (Err failed) grows step)
      (λ place v fits q. after-send core pt q.0 false (CutPt pt ∷ []) items place v stays fits q.1)

  -- a link that is made
  pub made-held : (a b : Observed) (core new : Core) (pt : ℕ) (done : Unit {0}) (calls : List OwedCall) (items : List RoundItem) → pt < length core.terminals → StaysLinked pt Also → Grows a b (LinkTurns {E = Failed} pt (Ok done)) → IsStep a b (LinkCall pt) →
      link_row (known_at setup core kept now) pt LinkIsMade ≡ becoming new calls → Triple a b (MidRound setup core kept tills polls now Also (LinkPt pt ∷ []) items) (MidRound setup new kept tills polls now Also calls items)
  made-held a b core new pt done calls items inside stays grows step made =
      held-call a b core (LinkPt pt ∷ []) items (λ scene. LinkTried {E = Failed} (Ok done) scene pt items) _ (λ scene. link-pt-triple scene items a b {E = Failed} pt (Ok done) grows step) (λ place v fits q.
      into-held core new (Linked pt) calls items place v fits (linked-keeps pt)
      (subst (λ c. AreLinked c (outside_after place.outside (Linked pt))) (ap (λ (r : Row). r.core) made) (made-linked-so (known_at setup core kept now) pt place.outside inside fits.linked))
      (stays.linked place.outside fits.also)
      (by-row core new (Linked pt) calls items place v (λ known. link_row known pt LinkIsMade) fits made q))

  -- a link that could not be made
  pub failed-held : (a b : Observed) (core new : Core) (pt : ℕ) (failed : Failed) (calls : List OwedCall) (items : List RoundItem) → is_linked_in (slice_get core.terminals pt) ≡ false → StaysLinked pt Also → Grows a b (LinkTurns pt (Err failed)) → IsStep a b (LinkCall pt) →
      link_row (known_at setup core kept now) pt LinkIsLost ≡ becoming new calls → Triple a b (MidRound setup core kept tills polls now Also (LinkPt pt ∷ []) items) (MidRound setup new kept tills polls now Also calls items)
  failed-held a b core new pt failed calls items unlinked stays grows step lost =
      held-call a b core (LinkPt pt ∷ []) items (λ scene. LinkTried (Err failed) scene pt items) _ (λ scene. link-pt-triple scene items a b pt (Err failed) grows step) (λ place v fits q.
      into-held core new (LinkFailed pt) calls items place v fits (failed-keeps pt)
      (subst (λ c. AreLinked c (outside_after place.outside (LinkFailed pt))) (ap (λ (r : Row). r.core) lost) (failed-linked (known_at setup core kept now) pt place.outside unlinked fits.linked))
      (stays.failed place.outside fits.also)
      (by-row core new (LinkFailed pt) calls items place v (λ known. link_row known pt LinkIsLost) fits lost q))
