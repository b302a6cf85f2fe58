-- What each call of a site keeps.
use Rattle.std.proofs.Common.{◌≡◌, ℕ, true, List, [], ◌∷◌, length, take, refl, sym, ◌∙◌, ap, subst, arith, append-nil, inl, inr}
use Rattle.std.proofs.lemmas.List.{length-take, take-append-drop}
use Rattle.std.specs.Prelude.{drop, Result, Ok, Err}
use Rattle.gw_bytes.specs.Bytes.{AreBytes}
use Rattle.gw_bytes.proofs.ByteLemmas.{bytes_prefix}
use Rattle.gw_site.specs.Observed.{Observed, Grows, IfObserved, IsStep}
use Rattle.gw_site.specs.Outside.{outside_of}
use Rattle.gw_site.specs.Steps.{PollCall, SendTillCall, SendPtCall, LinkCall, CutTillCall, CutPtCall}
use Rattle.gw_site.specs.Turns.{SentTillTurns, SentPtTurns, LinkTurns, IsTurn, PolledTurns, event_turns, IsPromised, IsWithinBuf, IsCount}
use Rattle.gw_site.specs.declared.site.Polled.{Polled as PollResult}
use Rattle.gw_site.specs.declared.site.What.{What}
use Rattle.gw_site.specs.declared.site.What.TheVariants.{TillOpened, TillBytes, TillClosed, PtBytes, PtClosed, Nothing, Stopped as StopEvent}
use Rattle.gw_site.specs.declared.turn.Turn.{Turn}
use Rattle.gw_site.specs.declared.turn.Turn.TheVariants.{Polled, CutTill, CutPt}
use Rattle.gw_owes.specs.Calls.{OwedCall, Sending, sending_bytes, site_call, SendTill, SendPt, LinkPt, CutTill as OwedCutTill, CutPt as OwedCutPt}
use Rattle.gw_owes.specs.Items.{RoundItem}
use Rattle.gw_owes.specs.Reply.{ReplyValue, reply_value_bytes}
use Rattle.gw_rules.specs.Acts.{IsOwedCall}
use Rattle.gw_rules.specs.Lawful.{IsCourse, IsChunk, IsNext}
use Rattle.gw_rules.specs.Scene.{Scene}
use Rattle.gw_rules.specs.Stage.{is_running}
use Rattle.gw_rules.specs.Triple.{Triple, Owing, Sent, SentToPt, CutOfPt, LinkTried, AtEvent}
use Rattle.gw_site.specs.Sorts.{IsQuiet}
use Rattle.gw_rules.specs.View.{View, view_from, till_cut}
use Rattle.gw_rules.proofs.CourseLemmas.{makes, stands-outside}
use Rattle.gw_rules.proofs.TripleLemmas.{call-triple}

-- the first call that is owed
next-owed : (v : View) (owed : OwedCall) → IsNext v owed → IsOwedCall v (site_call owed)
next-owed v owed next = inl (owed, next, refl)

module _ (scene : Scene) (items : List RoundItem) (old new : Observed) where
  pub cut-till-triple : (till : ℕ) → Grows old new (IsTurn (CutTill till)) → IsStep old new (CutTillCall till) → Triple old new (Owing scene (OwedCutTill till ∷ []) items) (Owing (till_cut scene till) [] items)
  cut-till-triple till grows taken = call-triple old new _ _ _ grows (CutTillCall till) taken (λ before v e stands p. record { call_is_owed = next-owed v (OwedCutTill till) (rw p refl); each = λ turns t. rw (p, t) ((refl, tt), (refl, tt), refl) })

  pub send-till-triple : {E : Type 0} (till : ℕ) (reply : ReplyValue) (r : Result (Unit {0}) E) → Grows old new (SentTillTurns till (reply_value_bytes reply) r) → IsStep old new (SendTillCall till (reply_value_bytes reply)) →
      Triple old new (Owing scene (SendTill till reply ∷ []) items) (Sent r scene till (reply_value_bytes reply) items)
  send-till-triple till reply (Ok u) grows taken = call-triple old new _ _ _ grows (SendTillCall till (reply_value_bytes reply)) taken (λ before v e stands p. record { call_is_owed = next-owed v (SendTill till reply) (rw p refl); each = λ turns t. rw (p, t) (((reply, refl, refl), tt), (refl, tt), refl) })
  send-till-triple till reply (Err f) grows taken = call-triple old new _ _ _ grows (SendTillCall till (reply_value_bytes reply)) taken (λ before v e stands p. record { call_is_owed = next-owed v (SendTill till reply) (rw p refl); each = λ turns t. rw (p, t.2) (((reply, refl, t.1), tt), (refl, tt), (t.0, refl)) })

  pub cut-pt-triple : (pt : ℕ) → Grows old new (IsTurn (CutPt pt)) → IsStep old new (CutPtCall pt) → Triple old new (Owing scene (OwedCutPt pt ∷ []) items) (CutOfPt scene pt items)
  cut-pt-triple pt grows taken = call-triple old new _ _ _ grows (CutPtCall pt) taken (λ before v e stands p. record { call_is_owed = next-owed v (OwedCutPt pt) (rw p refl); each = λ turns t. rw (p, t) ((refl, tt), (refl, tt), rw append-nil refl) })

  pub send-pt-triple : {E : Type 0} (pt : ℕ) (sending : Sending) (r : Result (Unit {0}) E) → Grows old new (SentPtTurns pt (sending_bytes sending) r) → IsStep old new (SendPtCall pt (sending_bytes sending)) →
      Triple old new (Owing scene (SendPt pt sending ∷ []) items) (SentToPt r scene pt (sending_bytes sending) items)
  send-pt-triple pt sending (Ok u) grows taken = call-triple old new _ _ _ grows (SendPtCall pt (sending_bytes sending)) taken (λ before v e stands p. record { call_is_owed = next-owed v (SendPt pt sending) (rw p refl); each = λ turns t. rw (p, t) (((sending, refl, refl), tt), (refl, tt), refl) })
  send-pt-triple pt sending (Err f) grows taken = call-triple old new _ _ _ grows (SendPtCall pt (sending_bytes sending)) taken (λ before v e stands p. record { call_is_owed = next-owed v (SendPt pt sending) (rw p refl); each = λ turns t. rw (p, t.2) (((sending, refl, t.1), tt), (refl, tt), (t.0, refl)) })

  pub link-pt-triple : {E : Type 0} (pt : ℕ) (r : Result (Unit {0}) E) → Grows old new (LinkTurns pt r) → IsStep old new (LinkCall pt) → Triple old new (Owing scene (LinkPt pt ∷ []) items) (LinkTried r scene pt items)
  link-pt-triple pt (Ok u) grows taken = call-triple old new _ _ _ grows (LinkCall pt) taken (λ before v e stands p. record { call_is_owed = next-owed v (LinkPt pt) (rw p refl); each = λ turns t. rw (p, t) ((refl, tt), (refl, tt), rw append-nil refl) })
  link-pt-triple pt (Err f) grows taken = call-triple old new _ _ _ grows (LinkCall pt) taken (λ before v e stands p. record { call_is_owed = next-owed v (LinkPt pt) (rw p refl); each = λ turns t. rw (p, t) ((refl, tt), (refl, tt), rw append-nil refl) })

taken-chunk : (count : ℕ) (buf : List ℕ) → length buf ≡ 4096 → AreBytes buf → IsCount count → IsChunk (take count buf)
taken-chunk count buf long small c = record {
  count = rw length-take (omega arith, omega arith);
  bytes = bytes_prefix (take count buf) (drop count buf) (subst AreBytes (sym (take-append-drop count buf)) small);
}

-- a poll, and the event that it brings
pub poll-triple : (scene : Scene) (polled : PollResult) (buf : List ℕ) (old new : Observed) → Grows old new (PolledTurns polled buf) → IsStep old new PollCall →
    IfObserved old (λ log. IsPromised (outside_of log) polled.what) → IsWithinBuf polled.what → length buf ≡ 4096 → AreBytes buf →
    Triple old new (λ v. Owing scene [] [] v × (is_running scene.stage ≡ true)) (AtEvent scene polled.now polled.what buf)
poll-triple scene polled buf old new grows taken promise within long small = call-triple old new _ _ _ grows PollCall taken (λ before v e stands p. record {
  call_is_owed = inr (rw p.0 (record { running = p.1; calls = refl; items = refl }), refl);
  each = λ turns t.
      polled_leads polled.what (subst (λ o. IsPromised o polled.what) (sym (stands-outside before v stands) ∙ ap (λ (w : View). w.scene.outside) p.0) (promise before e)) within v turns p t;
})
  where
    polled_leads : (what : What) → IsPromised scene.outside what → IsWithinBuf what → (v : View) (turns : List Turn) → (Owing scene [] [] v × (is_running scene.stage ≡ true)) → turns ≡ Polled polled.now ∷ event_turns what buf →
        IsCourse v (makes turns) × IsQuiet turns × AtEvent scene polled.now what buf (view_from v (makes turns))
    polled_leads (TillOpened till) event within v turns p t = rw (p.0, t) ((record { running = p.1; calls = refl; items = refl }, ((refl, event), tt)), (refl, (refl, tt)), (refl, event))
    polled_leads (TillBytes till count) event within v turns p t = rw (p.0, t) ((record { running = p.1; calls = refl; items = refl }, ((record { polled = refl; connected_is = event }, taken-chunk count buf long small within), tt)), (refl, (refl, tt)), (refl, event))
    polled_leads (TillClosed till) event within v turns p t = rw (p.0, t) ((record { running = p.1; calls = refl; items = refl }, (record { polled = refl; connected_is = event }, tt)), (refl, (refl, tt)), (refl, event))
    polled_leads (PtBytes pt count) event within v turns p t = rw (p.0, t) ((record { running = p.1; calls = refl; items = refl }, ((record { polled = refl; connected_is = event }, taken-chunk count buf long small within), tt)), (refl, (refl, tt)), (refl, event))
    polled_leads (PtClosed pt) event within v turns p t = rw (p.0, t) ((record { running = p.1; calls = refl; items = refl }, (record { polled = refl; connected_is = event }, tt)), (refl, (refl, tt)), (refl, event))
    polled_leads Nothing event within v turns p t = rw (p.0, t) ((record { running = p.1; calls = refl; items = refl }, tt), (refl, tt), (refl, event))
    polled_leads StopEvent event within v turns p t = rw (p.0, t) ((record { running = p.1; calls = refl; items = refl }, (refl, tt)), (refl, (refl, tt)), (refl, event))
