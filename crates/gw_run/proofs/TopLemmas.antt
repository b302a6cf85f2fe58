-- What the top call gives, by what the words ask for.
use Rattle.std.proofs.Common.{◌≡◌, ℕ, List, sym, ◌∙◌, ap, subst, inl, inr}
use Rattle.std.specs.Prelude.{◌⊎◌, Option, Some, None}
use Rattle.gw_bytes.specs.Bytes.{IsPrefix}
use Rattle.gw_site.specs.Observed.{Observed}
use Rattle.gw_site.specs.declared.turn.Turn.{Turn}
use Rattle.gw_books.specs.PastLaws.{EachLogAgrees}
use Rattle.gw_base.specs.declared.setup.Setup.{Setup}
use Rattle.gw_rules.specs.Lawful.{Stands}
use Rattle.gw_rules.specs.View.{View}
use Rattle.gw_run.specs.LogWritten.{Adds}
use Rattle.gw_run.specs.Replay.{IsReportedEnd, ReplayCause, ReplayPrinted, WritesTail}
use Rattle.gw_run.specs.Serve.{HasServed, IsUntouched, ServeCause, ServePrinted, Serves, SiteCalls, serve_status}
use Rattle.gw_run.specs.Top.{Cause, HasRisen, IsEnded, Stream, status_of, tail_of}
use Rattle.gw_run.specs.Words.{AreRefused, AskForDrill, AskForReplay, AskForReplayOrNothing, AskNotToServe, AskToReadNothing, AskToServe, order_of}
use Rattle.gw_run.specs.declared.ending.Ending.{Ending}
use Rattle.gw_run.specs.declared.ending.Ending.TheVariants.{Played, Memory, OutputFailed}
use Rattle.gw_run.specs.declared.serving.ServeEnding.{ServeEnding}
use Rattle.gw_run.specs.declared.serving.ServeEnding.TheVariants.{Config, Other}
use Rattle.gw_run.specs.declared.words.Mode.TheVariants.{Serve, Replay, Drill}
use Rattle.gw_run.specs.declared.words.Order.{Order}
use Rattle.gw_run.proofs.ReplayLemmas.{IsFault, fault-printed, observed-cause}
use Rattle.gw_run.proofs.RunEndLemmas.{zero-played}
use Rattle.gw_run.proofs.ServeLemmas.{nothing-served}

-- ---- the words

same-order : (a b : Order) → Some a ≡ Some b → a ≡ b
same-order a b e = cc

modes-differ : {A : Type 0} → Serve ≡ Replay → A
modes-differ e = absurd (let h : Serve ≡ Replay = e in cc)

none-or-some : {A : Type 0} (order : Order) → ◌≡◌ {A = Option Order} None (Some order) → A
none-or-some order e = absurd (let h : ◌≡◌ {A = Option Order} None (Some order) = e in cc)

asked : (words : List (List ℕ)) (order other : Order) → Some order ≡ order_of words → order_of words ≡ Some other → order ≡ other
asked words order other is e = same-order order other (is ∙ e)

-- words ask for one mode
pub one-mode : {A : Type 0} (words : List (List ℕ)) (order other : Order) → Some order ≡ order_of words → order_of words ≡ Some other → (order.mode ≡ other.mode → ⊥) → A
one-mode words order other is e differ = absurd (differ (ap (λ (o : Order). o.mode) (asked words order other is e)))

serve-or-drill : (from payments : ℕ) → Serve ≡ Drill from payments → ⊥
serve-or-drill from payments e = cc

replay-or-drill : (from payments : ℕ) → Replay ≡ Drill from payments → ⊥
replay-or-drill from payments e = cc

-- words that ask to serve ask for nothing else
pub serve-alone : {A : Type 0} (words : List (List ℕ)) (order : Order) → Some order ≡ order_of words → order.mode ≡ Serve → AskNotToServe words → A
serve-alone words order is serve (inl (turns, e)) = modes-differ (sym serve ∙ ap (λ (o : Order). o.mode) (asked words order _ is e))
serve-alone words order is serve (inr (inl none)) = none-or-some order (sym none ∙ sym is)
serve-alone words order is serve (inr (inr (from, payments, (turns, e)))) = one-mode words order _ is e (λ same. serve-or-drill from payments (sym serve ∙ same))

pub serve-no-replay : {A : Type 0} (words : List (List ℕ)) (order : Order) → Some order ≡ order_of words → order.mode ≡ Serve → AskForReplay words → A
serve-no-replay words order is serve replay = serve-alone words order is serve (inl replay)

pub serve-not-refused : {A : Type 0} (words : List (List ℕ)) (order : Order) → Some order ≡ order_of words → AreRefused words → A
serve-not-refused words order is none = none-or-some order (sym none ∙ sym is)

-- they ask for so many polls
pub serve-turns : (words : List (List ℕ)) (order : Order) (turns : ℕ) → Some order ≡ order_of words → AskToServe words turns → order.polls ≡ turns
serve-turns words order turns is e = ap (λ (o : Order). o.polls) (asked words order _ is e)

-- words that ask for a replay
pub replay-asked : (words : List (List ℕ)) (order : Order) → Some order ≡ order_of words → order.mode ≡ Replay → AskForReplay words
replay-asked words order is replay = (order.polls, sym is ∙ ap (λ mode. Some (record { mode = mode; polls = order.polls })) replay)

-- don't ask to serve
pub replay-alone : {A : Type 0} (words : List (List ℕ)) (order : Order) (turns : ℕ) → Some order ≡ order_of words → order.mode ≡ Replay → AskToServe words turns → A
replay-alone words order turns is replay e = modes-differ (sym (ap (λ (o : Order). o.mode) (asked words order _ is e)) ∙ replay)

-- nor do words that are refused
pub refused-alone : {A : Type 0} (words : List (List ℕ)) (order : Order) → None ≡ order_of words → order_of words ≡ Some order → A
refused-alone words order none e = none-or-some order (none ∙ e)

-- words that ask for a drill
pub drill-alone : {A : Type 0} (words : List (List ℕ)) (order : Order) (from payments turns : ℕ) → Some order ≡ order_of words → order.mode ≡ Drill from payments → AskToServe words turns → A
drill-alone words order from payments turns is drill e = one-mode words order _ is e (λ same. serve-or-drill from payments (sym same ∙ drill))

pub drill-no-replay : {A : Type 0} (words : List (List ℕ)) (order : Order) (from payments : ℕ) → Some order ≡ order_of words → order.mode ≡ Drill from payments → AskForReplayOrNothing words → A
drill-no-replay words order from payments is drill (inl (turns, e)) = one-mode words order _ is e (λ same. replay-or-drill from payments (sym same ∙ drill))
drill-no-replay words order from payments is drill (inr none) = none-or-some order (sym none ∙ sym is)

-- nor do words that ask to serve, or for a replay, ask for one
pub serve-no-drill : {A : Type 0} (words : List (List ℕ)) (order : Order) (from payments : ℕ) → Some order ≡ order_of words → order.mode ≡ Serve → AskForDrill words from payments → A
serve-no-drill words order from payments is serve (turns, e) = one-mode words order _ is e (λ same. serve-or-drill from payments (sym serve ∙ same))

pub replay-no-drill : {A : Type 0} (words : List (List ℕ)) (order : Order) (from payments : ℕ) → Some order ≡ order_of words → order.mode ≡ Replay → AskForDrill words from payments → A
replay-no-drill words order from payments is replay (turns, e) = one-mode words order _ is e (λ same. replay-or-drill from payments (sym replay ∙ same))

pub refused-no-drill : {A : Type 0} (words : List (List ℕ)) (from payments : ℕ) → None ≡ order_of words → AskForDrill words from payments → A
refused-no-drill words from payments none (turns, e) = none-or-some _ (none ∙ e)

-- a replay reads its script
pub replay-reads : {A : Type 0} (words : List (List ℕ)) (order : Order) → Some order ≡ order_of words → order.mode ≡ Replay → AskToReadNothing words → A
replay-reads words order is replay (inl none) = none-or-some order (sym none ∙ sym is)
replay-reads words order is replay (inr (from, payments, asks)) = replay-no-drill words order from payments is replay asks

-- what serves is no replay, nor refused
pub serve-ends-none : {A : Type 0} (words : List (List ℕ)) (order : Order) → Some order ≡ order_of words → order.mode ≡ Serve → AskForReplayOrNothing words → A
serve-ends-none words order is serve (inl replay) = serve-no-replay words order is serve replay
serve-ends-none words order is serve (inr none) = none-or-some order (sym none ∙ sym is)

pub serve-reads : {A : Type 0} (words : List (List ℕ)) (order : Order) → Some order ≡ order_of words → order.mode ≡ Serve → AskToReadNothing words → A
serve-reads words order is serve nothing = serve-alone words order is serve (inr nothing)

same-drill : (from payments other more : ℕ) → Drill from payments ≡ Drill other more → (from ≡ other) × (payments ≡ more)
same-drill from payments other more e = (cc, cc)

pub drill-numbers : (words : List (List ℕ)) (order : Order) (from payments other more : ℕ) → Some order ≡ order_of words → order.mode ≡ Drill from payments → AskForDrill words other more → (from ≡ other) × (payments ≡ more)
drill-numbers words order from payments other more is drill (turns, e) = same-drill from payments other more (sym drill ∙ ap (λ (o : Order). o.mode) (asked words order _ is e))

-- ---- a replay, and words that are refused

-- a replay has ended so
pub replay-ended : (status : ℕ) (words : List (List ℕ)) (input out : Stream) (ending : Ending) → status ≡ status_of ending → AskForReplay words → ReplayCause ending input out → Adds out.before out.after (ReplayPrinted input out ending) → IsEnded status words input out
replay-ended status words input out ending s asks cause printed = record {
  ending = ending;
  status_is = s;
  cause = cause words asks;
  output = λ written e. let y = printed written e in (y.0, y.2, y.1 words asks);
}

-- nothing but the lines of a fault was written
pub lines-ended : (status : ℕ) (words : List (List ℕ)) (input out : Stream) (fault ending : Ending) → IsFault fault → status ≡ status_of ending → Cause fault words input out → (ending ≡ OutputFailed → HasRisen out) → IsReportedEnd fault ending →
    Adds out.before out.after (WritesTail fault ending) → IsEnded status words input out
lines-ended status words input out fault ending is s cause rose which printed = record {
  ending = ending;
  status_is = s;
  cause = observed-cause fault ending words input out cause rose which;
  output = λ written e. let y = printed written e in (y.0, y.2, fault-printed (λ other. Cause other words input out) fault ending input.before y.0 is tt cause y.1);
}

-- ---- the mode `serve`

-- the mode has ended so
pub serve-ended : (status : ℕ) (input out : Stream) (site : SiteCalls) (ending : ServeEnding) → status ≡ serve_status ending → ServeCause ending input out site → Adds out.before out.after (ServePrinted (λ other. ServeCause other input out site) ending) → HasServed status input out site
serve-ended status input out site ending s cause printed = record {
  ending = ending;
  status_is = s;
  cause = cause;
  output = λ written e. let y = printed written e in (y.0, y.2, y.1);
}

memory-printed : (input out : Stream) (site : SiteCalls) (ending : Ending) (added : List ℕ) → IsUntouched site → WritesTail Memory ending added → ServePrinted (λ other. ServeCause other input out site) (Other ending) added
memory-printed input out site ending added untouched (inl (same, all)) = inl (all ∙ ap tail_of (sym same))
memory-printed input out site ending added untouched (inr (inl (memory, names, all))) = absurd names
memory-printed input out site ending added untouched (inr (inr (failed, (reported, inl same, prefix)))) = inr (ap Other failed, record { ending = Other Memory; could = inl untouched; prefix = subst (λ e. IsPrefix added (tail_of e)) same prefix })
memory-printed input out site ending added untouched (inr (inr (failed, (reported, inr other, prefix)))) = absurd other.1

memory-cause : (input out : Stream) (site : SiteCalls) (ending : Ending) → IsUntouched site → (ending ≡ OutputFailed → HasRisen out) → IsReportedEnd Memory ending → ServeCause (Other ending) input out site
memory-cause input out site ending untouched rose (inl same) = subst (λ e. ServeCause (Other e) input out site) (sym same) (inl untouched)
memory-cause input out site ending untouched rose (inr (inl memory)) = absurd memory.1
memory-cause input out site ending untouched rose (inr (inr failed)) = subst (λ e. ServeCause (Other e) input out site) (sym failed) (rose failed)

-- there was no memory for the words
pub memory-served : (status : ℕ) (input out : Stream) (site : SiteCalls) (ending : Ending) → IsUntouched site → status ≡ status_of ending → (ending ≡ OutputFailed → HasRisen out) → IsReportedEnd Memory ending → Adds out.before out.after (WritesTail Memory ending) → HasServed status input out site
memory-served status input out site ending untouched s rose which printed = record {
  ending = Other ending;
  status_is = s;
  cause = memory-cause input out site ending untouched rose which;
  output = λ written e. let y = printed written e in (y.0, y.2, memory-printed input out site ending y.0 untouched y.1);
}

memory-status : (status : ℕ) (ending : Ending) → status ≡ status_of ending → IsReportedEnd Memory ending → (status ≡ 71) ⊎ (ending ≡ OutputFailed)
memory-status status ending s (inl same) = inl (s ∙ ap status_of same)
memory-status status ending s (inr (inl memory)) = absurd memory.1
memory-status status ending s (inr (inr failed)) = inr failed

memory-not-well : (status : ℕ) (ending : Ending) → status ≡ status_of ending → (status ≡ 71) ⊎ (ending ≡ OutputFailed) → status ≡ 0 → ⊥
memory-not-well status ending s (inl memory) e = let h : ◌≡◌ {A = ℕ} 71 0 = sym memory ∙ e in cc
memory-not-well status ending s (inr failed) e = let h : ◌≡◌ {A = ℕ} 73 0 = sym (s ∙ ap status_of failed) ∙ e in cc

pub memory-undone : (status : ℕ) (ending : Ending) → status ≡ status_of ending → IsReportedEnd Memory ending → status ≡ 0 → ⊥
memory-undone status ending s which = memory-not-well status ending s (memory-status status ending s which)

-- so that nothing was added to the log
pub memory-serves : EachLogAgrees → (IsOwn : Setup → Type 0) (most status : ℕ) (ending : Ending) (before : List Turn) (v : View) (new : Observed) → status ≡ status_of ending → IsReportedEnd Memory ending → new.log ≡ Some before → Stands before v → Serves IsOwn most (status ≡ 0) before new
memory-serves headline IsOwn most status ending before v new s which e stands = nothing-served headline IsOwn most (status ≡ 0) before v new (memory-undone status ending s which) e stands

pub memory-complete : (status : ℕ) (ending : Ending) (out_rose : Type 0) → status ≡ status_of ending → (ending ≡ OutputFailed → out_rose) → IsReportedEnd Memory ending → (out_rose → ⊥) → (status ≡ 0) ⊎ (status ≡ 71)
memory-complete status ending out_rose s rose which written = elim (memory-status status ending s which) [ inl memory ↦ inr memory | inr failed ↦ absurd (written (rose failed)) ]

-- it has ended well where the status is 0
pub zero-served : (ending : ServeEnding) → serve_status ending ≡ 0 → ending ≡ Other Played
zero-served (Config fault) e = absurd (let h : 65 ≡ 0 = e in cc)
zero-served (Other ending) e = ap Other (zero-played ending e)

-- the headline, by the status, for so many polls as the words ask for
pub serves-status : (IsOwn : Setup → Type 0) (status most turns : ℕ) (ending : ServeEnding) (before : List Turn) (new : Observed) → status ≡ serve_status ending → most ≡ turns → Serves IsOwn most (ending ≡ Other Played) before new → Serves IsOwn turns (status ≡ 0) before new
serves-status IsOwn status most turns ending before new s same serves = subst (λ n. Serves IsOwn n (status ≡ 0) before new) same (record {
  added = serves.added;
  log_is = serves.log_is;
  lawful = serves.lawful;
  agrees = serves.agrees;
  adds = serves.adds;
  whole = λ well. serves.whole (zero-served ending (sym s ∙ well));
})

pub serve-status-complete : (status : ℕ) (ending : ServeEnding) → status ≡ serve_status ending → (ending ≡ Other Played) ⊎ (ending ≡ Other Memory) → (status ≡ 0) ⊎ (status ≡ 71)
serve-status-complete status ending s (inl played) = inl (s ∙ ap serve_status played)
serve-status-complete status ending s (inr memory) = inr (s ∙ ap serve_status memory)

-- ---- the order

-- the order that is taken out is that which was read
pub order-there : (taken order : Order) (read asked : Option Order) → taken ≡ order → read ≡ Some order → read ≡ asked → Some taken ≡ asked
order-there taken order read asked same some is = ap Some same ∙ sym some ∙ is
