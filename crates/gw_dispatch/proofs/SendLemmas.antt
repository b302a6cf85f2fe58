-- A send to a till, which may be followed by the cut of its connection.
use Rattle.std.proofs.Common.{◌≡◌, ◌⊎◌, List, [], ◌∷◌, ℕ, length, refl, sym, ◌∙◌, ap, subst, inl, inr}
use Rattle.std.specs.Option.{option_map}
use Rattle.std.specs.Prelude.{ℤ, Bool, true, false, map, Option, Some, None, Result, Ok, Err, slice_get, is_ok}
use Rattle.std.proofs.lemmas.List.{length-map}
use Rattle.std.proofs.lemmas.Option.{slice_get-map}
use Rattle.gw_base.specs.declared.setup.Setup.{Setup}
use Rattle.gw_site.specs.declared.site.Failed.{Failed}
use Rattle.gw_site.specs.declared.turn.Turn.TheVariants.{SentTill, CutTill as TillCut}
use Rattle.gw_site.specs.Observed.{Observed, Grows, IsStep}
use Rattle.gw_site.specs.Outside.{Outside, outside_after}
use Rattle.gw_site.specs.Steps.{CutTillCall, SendTillCall}
use Rattle.gw_site.specs.Turns.{IsTurn, SentTillTurns}
use Rattle.jrn_record.specs.declared.records.Record.{Record}
use Rattle.gw_owes.specs.Calls.{OwedCall, SendTill, CutTill}
use Rattle.gw_owes.specs.Core.{Core}
use Rattle.gw_owes.specs.Dialogues.{AllHaveDialogues}
use Rattle.gw_owes.specs.Items.{RoundItem}
use Rattle.gw_owes.specs.Reply.{ReplyValue, reply_value_bytes}
use Rattle.gw_owes.specs.Terminals.{core_without, forgets_till}
use Rattle.gw_owes.specs.declared.terminal.Terminal.{Terminal}
use Rattle.gw_rules.specs.Scene.{Scene}
use Rattle.gw_rules.specs.View.{View, at_first, called, till_cut}
use Rattle.gw_rules.specs.Triple.{Triple, Owing}
use Rattle.gw_rules.proofs.TripleLemmas.{triple-after, triple-before, triple-frame, triple-some}
use Rattle.gw_rules.proofs.CallLemmas.{cut-till-triple, send-till-triple}
use Rattle.gw_dispatch.specs.MidRound.{AreHeard, AreLinked, MidRound, is_linked_in}
use Rattle.gw_dispatch.specs.Round.{HoldsTills, IsIn, calls_after_send, known_at}
use Rattle.gw_dispatch.specs.RunState.{ForgetsAny, StaysInOrder}
use Rattle.gw_dispatch.specs.Tills.{others}
use Rattle.gw_dispatch.specs.declared.tills.Till.{Till}
use Rattle.gw_dispatch.proofs.EngineLemmas.{cut-in, sent-in}
use Rattle.gw_dispatch.proofs.ReaderLemmas.{rested-others}
use Rattle.gw_dispatch.proofs.RunStateLemmas.{forgets-dialogues, forgets-order, stays-same}
use Rattle.gw_dispatch.proofs.TillLemmas.{below-without, others-held}

-- an outside, and a scene
record Spot : Type 0 where
  outside : Outside
  scene : Scene

no_spot : Spot
no_spot = record { outside = at_first.scene.outside; scene = at_first.scene }

-- what is held there
record HoldsAt (setup : Setup) (core : Core) (kept : List Record) (tills : List Till) (polls : ℕ) (now : ℤ) (heard : ℕ → List ℕ) (spot : Spot) : Type 0 where
  known : IsIn (known_at setup core kept now) polls spot.outside spot.scene
  tills_are : HoldsTills tills spot.outside
  linked : AreLinked core spot.outside
  also : AreHeard heard spot.outside

-- a till that is dropped isn't held
pub holds-without : (tills : List Till) (o : Outside) (till : ℕ) → HoldsTills tills o → HoldsTills (others tills till) (outside_after o (TillCut till))
holds-without tills o till holds = record {
  tills_are = rested-others tills till ∙ ap (λ t. others t till) holds.tills_are ∙ others-held o.tills till;
  below = below-without o.next_till o.tills till holds.below;
}

forgets-linked : (till : ℕ) (core : Core) (number : ℕ) → is_linked_in (slice_get core.terminals number) ≡ is_linked_in (slice_get (map (forgets_till till) core.terminals) number)
forgets-linked till core number = sym (ap is_linked_in (slice_get-map (forgets_till till) core.terminals number) ∙ by_terminal (slice_get core.terminals number))
  where
    by_terminal : (found : Option Terminal) → is_linked_in (option_map (forgets_till till) found) ≡ is_linked_in found
    by_terminal None = refl
    by_terminal (Some terminal) = refl

-- ---- calls

module _ (a b : Observed) (setup : Setup) (kept : List Record) (polls : ℕ) (now : ℤ) (heard : ℕ → List ℕ) (core : Core) (tills : List Till) (items : List RoundItem) where
  from-spot : (calls : List OwedCall) (R : Scene → View → Type 0) (Q : View → Type 0) → ((scene : Scene) → Triple a b (Owing scene calls items) (R scene)) →
      ((spot : Spot) (v : View) → HoldsAt setup core kept tills polls now heard spot → R spot.scene v → Q v) → Triple a b (MidRound setup core kept tills polls now (AreHeard heard) calls items) Q
  from-spot calls R Q call into =
      triple-before a b (MidRound setup core kept tills polls now (AreHeard heard) calls items) (λ v. (spot : Spot) × (Owing spot.scene calls items v × HoldsAt setup core kept tills polls now heard spot)) Q
      (λ v h. (record { outside = h.outside; scene = h.round.0 }, (h.round.1, record { known = h.round.2; tills_are = h.tills_are; linked = h.linked; also = h.also })))
      (triple-some a b (λ spot v. Owing spot.scene calls items v × HoldsAt setup core kept tills polls now heard spot) Q no_spot (λ spot.
      triple-after a b _ _ Q (triple-frame a b _ _ (HoldsAt setup core kept tills polls now heard spot) (call spot.scene)) (λ v q. into spot v q.1 q.0)))

  after-send : (till : ℕ) (bytes : List ℕ) (sent : Bool) (calls : List OwedCall) (spot : Spot) (v : View) → HoldsAt setup core kept tills polls now heard spot → Owing (called spot.scene (SentTill till bytes sent)) calls items v →
      MidRound setup core kept tills polls now (AreHeard heard) calls items v
  after-send till bytes sent calls spot v holds q = record {
    outside = spot.outside;
    round = (called spot.scene (SentTill till bytes sent), q, sent-in (known_at setup core kept now) polls spot.outside till bytes sent spot.scene holds.known);
    tills_are = holds.tills_are;
    linked = holds.linked;
    also = holds.also;
  }

  send-went : (till : ℕ) (reply : ReplyValue) (done : Unit {0}) → Grows a b (SentTillTurns {E = Failed} till (reply_value_bytes reply) (Ok done)) → IsStep a b (SendTillCall till (reply_value_bytes reply)) →
      Triple a b (MidRound setup core kept tills polls now (AreHeard heard) (SendTill till reply ∷ []) items) (MidRound setup core kept tills polls now (AreHeard heard) [] items)
  send-went till reply done grows step =
      from-spot (SendTill till reply ∷ []) _ _ (λ scene. send-till-triple scene items a b {E = Failed} till reply (Ok done) grows step)
      (λ spot v holds q. after-send till (reply_value_bytes reply) true [] spot v holds q)

  send-failed : (till : ℕ) (reply : ReplyValue) (failed : Failed) → Grows a b (SentTillTurns till (reply_value_bytes reply) (Err failed)) → IsStep a b (SendTillCall till (reply_value_bytes reply)) →
      Triple a b (MidRound setup core kept tills polls now (AreHeard heard) (SendTill till reply ∷ []) items) (MidRound setup core kept tills polls now (AreHeard heard) (CutTill till ∷ []) items)
  send-failed till reply failed grows step =
      from-spot (SendTill till reply ∷ []) _ _ (λ scene. send-till-triple scene items a b till reply (Err failed) grows step)
      (λ spot v holds q. after-send till q.0 false (CutTill till ∷ []) spot v holds q.1)

  -- the till was cut, and is forgotten
  pub till-forgotten : (till : ℕ) → Grows a b (IsTurn (TillCut till)) → IsStep a b (CutTillCall till) →
      Triple a b (MidRound setup core kept tills polls now (AreHeard heard) (CutTill till ∷ []) items) (MidRound setup (core_without core till) kept (others tills till) polls now (AreHeard heard) [] items)
  till-forgotten till grows step =
      from-spot (CutTill till ∷ []) _ _ (λ scene. cut-till-triple scene items a b till grows step)
      (λ spot v holds q. record {
        outside = outside_after spot.outside (TillCut till);
        round = (till_cut spot.scene till, q, cut-in (known_at setup core kept now) polls spot.outside till spot.scene holds.known);
        tills_are = holds-without tills spot.outside till holds.tills_are;
        linked = λ number. holds.linked number ∙ forgets-linked till core number;
        also = holds.also;
      })

-- the send went, or has failed
pub till-sent : (a b : Observed) (till : ℕ) (bytes : List ℕ) (reply : ReplyValue) (r : Result (Unit {0}) Failed) (sent : Bool) → bytes ≡ reply_value_bytes reply → sent ≡ is_ok r → Grows a b (SentTillTurns till bytes r) → IsStep a b (SendTillCall till bytes) →
    (setup : Setup) (core : Core) (kept : List Record) (tills : List Till) (polls : ℕ) (now : ℤ) (heard : ℕ → List ℕ) (items : List RoundItem) →
    Triple a b (MidRound setup core kept tills polls now (AreHeard heard) (SendTill till reply ∷ []) items) (MidRound setup core kept tills polls now (AreHeard heard) (calls_after_send sent till) items)
till-sent a b till bytes reply (Ok done) sent is value grows step setup core kept tills polls now heard items =
    subst (λ sent. Triple a b (MidRound setup core kept tills polls now (AreHeard heard) (SendTill till reply ∷ []) items) (MidRound setup core kept tills polls now (AreHeard heard) (calls_after_send sent till) items)) (sym value)
    (send-went a b setup kept polls now heard core tills items till reply done (subst (λ bytes. Grows a b (SentTillTurns {E = Failed} till bytes (Ok done))) is grows) (subst (λ bytes. IsStep a b (SendTillCall till bytes)) is step))
till-sent a b till bytes reply (Err failed) sent is value grows step setup core kept tills polls now heard items =
    subst (λ sent. Triple a b (MidRound setup core kept tills polls now (AreHeard heard) (SendTill till reply ∷ []) items) (MidRound setup core kept tills polls now (AreHeard heard) (calls_after_send sent till) items)) (sym value)
    (send-failed a b setup kept polls now heard core tills items till reply failed (subst (λ bytes. Grows a b (SentTillTurns till bytes (Err failed))) is grows) (subst (λ bytes. IsStep a b (SendTillCall till bytes)) is step))

-- ---- what is remembered then

-- the till is remembered, or forgotten
pub forgets-this : (till : ℕ) (old new : Core) → (new ≡ old) ⊎ (new ≡ core_without old till) → ForgetsAny old new
forgets-this till old new (inl same) = inl same
forgets-this till old new (inr gone) = inr (till, gone)

pub sent-stays : (old new : Core) → ForgetsAny old new → StaysInOrder old new
sent-stays old new (inl same) = subst (StaysInOrder old) (sym same) (stays-same old)
sent-stays old new (inr (till, gone)) = subst (StaysInOrder old) (sym gone) (forgets-order till old)

pub sent-dialogues : (old new : Core) → ForgetsAny old new → AllHaveDialogues old → AllHaveDialogues new
sent-dialogues old new (inl same) all = subst AllHaveDialogues (sym same) all
sent-dialogues old new (inr (till, gone)) all = subst AllHaveDialogues (sym gone) (forgets-dialogues till old all)

pub sent-count : (old new : Core) → ForgetsAny old new → length new.terminals ≡ length old.terminals
sent-count old new (inl same) = ap (λ (c : Core). length c.terminals) same
sent-count old new (inr (till, gone)) = ap (λ (c : Core). length c.terminals) gone ∙ length-map old.terminals (forgets_till till)

pub sent-linked : (old new : Core) → ForgetsAny old new → (number : ℕ) → is_linked_in (slice_get new.terminals number) ≡ is_linked_in (slice_get old.terminals number)
sent-linked old new (inl same) number = ap (λ (c : Core). is_linked_in (slice_get c.terminals number)) same
sent-linked old new (inr (till, gone)) number = ap (λ (c : Core). is_linked_in (slice_get c.terminals number)) gone ∙ sym (forgets-linked till old number)
