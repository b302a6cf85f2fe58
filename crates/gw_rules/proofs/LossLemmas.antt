-- What the loss of a link owes the till of what its terminal has served, and the turns in which that is made.
use Rattle.std.proofs.Common.{◌≡◌, ℕ, List, [], ◌∷◌, ◌++◌, refl, sym, ◌∙◌, ap, subst, true, false, inl, inr}
use Rattle.std.specs.Prelude.{ℤ, ◌⊎◌, slice_get, Option, Some, None}
use Rattle.gw_bytes.specs.Bytes.{IsPrefix}
use Rattle.gw_site.specs.Sorts.{AreOfRound, is_sort_of_round, sort_of}
use Rattle.gw_site.specs.declared.turn.Turn.{Turn}
use Rattle.gw_site.specs.declared.turn.Turn.TheVariants.{Start, OpenFailed, Polled, Opened, HeardTill, Closed, HeardPt, Lost, Stopped, Linked, LinkFailed, SentTill, SentPt, CutTill, CutPt, Wrote, Synced, DiskFailed, Crash}
use Rattle.gw_owes.specs.Calls.{OwedCall, SendTill, SendPt, LinkPt, Sync, write_turn, CutTill as OwedCutTill, CutPt as OwedCutPt}
use Rattle.gw_owes.specs.Items.{RoundItem}
use Rattle.gw_owes.specs.Reply.{ReplyValue, reply_value_bytes}
use Rattle.gw_owes.specs.Terminals.{reply_calls_to, forgets_till}
use Rattle.gw_owes.specs.declared.terminal.Standing.TheVariants.{Unlinked}
use Rattle.gw_owes.specs.declared.terminal.Terminal.{Terminal}
use Rattle.gw_rules.specs.Lawful.{first_call, AllowedTurn, IsCourse, turns_of}
use Rattle.gw_rules.specs.OutsideLaws.{idle_with, till_gone, ArePaid}
use Rattle.gw_rules.specs.Scene.{Scene}
use Rattle.gw_rules.specs.Stage.{Stage, Handling, busy, is_looking}
use Rattle.gw_rules.specs.View.{View, Move, Make, after_turn, view_from}
use Rattle.gw_rules.proofs.LinkLawLemmas.{same-call}
use Rattle.gw_rules.proofs.PrefixLemmas.{Along}
use Rattle.gw_rules.proofs.StageLemmas.{no-true, handling-not-polled}
use Rattle.gw_rules.proofs.TranscriptLogLemmas.{there-image}
use Rattle.gw_rules.proofs.UnlawfulLemmas.{take-owed}

-- ---- the next turn

-- a till is sent this reply, or that fails
abbrev IsSendOf : ℕ → ReplyValue → Turn → Type 0
IsSendOf till reply turn = (turn ≡ SentTill till (reply_value_bytes reply) true) ⊎ ((bytes : List ℕ) × IsPrefix bytes (reply_value_bytes reply) × (turn ≡ SentTill till bytes false))

-- where a reply is owed, its send comes next
reply-next : (till : ℕ) (reply : ReplyValue) (v : View) (turn : Turn) → v.scene.stage ≡ Handling → first_call v.calls ≡ Some (SendTill till reply) → AllowedTurn v turn → is_sort_of_round (sort_of turn) ≡ true → IsSendOf till reply turn
reply-next till reply v (Start setup) at next ok e = no-true e
reply-next till reply v OpenFailed at next ok e = no-true e
reply-next till reply v (Polled now) at next ok e = no-true e
reply-next till reply v (Opened other) at next ok e = handling-not-polled (sym at ∙ ok.0)
reply-next till reply v (HeardTill other bytes) at next ok e = handling-not-polled (sym at ∙ ok.0.polled)
reply-next till reply v (Closed other) at next ok e = handling-not-polled (sym at ∙ ok.polled)
reply-next till reply v (HeardPt other bytes) at next ok e = handling-not-polled (sym at ∙ ok.0.polled)
reply-next till reply v (Lost other) at next ok e = handling-not-polled (sym at ∙ ok.polled)
reply-next till reply v Stopped at next ok e = handling-not-polled (sym at ∙ ok)
reply-next till reply v (Linked other) at next ok e = absurd (let n = same-call v.calls (SendTill till reply) (LinkPt other) next ok in cc)
reply-next till reply v (LinkFailed other) at next ok e = absurd (let n = same-call v.calls (SendTill till reply) (LinkPt other) next ok in cc)
reply-next till reply v (SentTill other bytes true) at next ok e =
    let n = same-call v.calls (SendTill till reply) (SendTill other ok.0) next ok.1 in
    let number : other ≡ till = cc in
    let same : ok.0 ≡ reply = cc in
    inl (ap (λ t. SentTill t bytes true) number ∙ ap (λ l. SentTill till l true) (ok.2 ∙ ap reply_value_bytes same))
reply-next till reply v (SentTill other bytes false) at next ok e =
    let n = same-call v.calls (SendTill till reply) (SendTill other ok.0) next ok.1 in
    let number : other ≡ till = cc in
    let same : ok.0 ≡ reply = cc in
    inr (bytes, subst (λ r. IsPrefix bytes (reply_value_bytes r)) same ok.2, ap (λ t. SentTill t bytes false) number)
reply-next till reply v (SentPt other bytes true) at next ok e = absurd (let n = same-call v.calls (SendTill till reply) (SendPt other ok.0) next ok.1 in cc)
reply-next till reply v (SentPt other bytes false) at next ok e = absurd (let n = same-call v.calls (SendTill till reply) (SendPt other ok.0) next ok.1 in cc)
reply-next till reply v (CutTill other) at next ok e = absurd (let n = same-call v.calls (SendTill till reply) (OwedCutTill other) next ok in cc)
reply-next till reply v (CutPt other) at next ok e = absurd (let n = same-call v.calls (SendTill till reply) (OwedCutPt other) next ok in cc)
reply-next till reply v (Wrote offset bytes) at next ok e = absurd (let n = same-call v.calls (SendTill till reply) ok.0 next ok.1 in let none : None ≡ Some (Wrote offset bytes) = ap write_turn n ∙ ok.2 in cc)
reply-next till reply v Synced at next ok e = absurd (let n = same-call v.calls (SendTill till reply) Sync next ok in cc)
reply-next till reply v DiskFailed at next (inl sync) e = absurd (let n = same-call v.calls (SendTill till reply) Sync next sync in cc)
reply-next till reply v DiskFailed at next (inr looking) e = no-true (sym (ap is_looking at) ∙ looking)
reply-next till reply v (Crash file) at next ok e = no-true e

-- where the cut of a till is owed, it comes next
pub till-cut-next : (till : ℕ) (v : View) (turn : Turn) → v.scene.stage ≡ Handling → first_call v.calls ≡ Some (OwedCutTill till) → AllowedTurn v turn → is_sort_of_round (sort_of turn) ≡ true → turn ≡ CutTill till
till-cut-next till v (Start setup) at next ok e = no-true e
till-cut-next till v OpenFailed at next ok e = no-true e
till-cut-next till v (Polled now) at next ok e = no-true e
till-cut-next till v (Opened other) at next ok e = handling-not-polled (sym at ∙ ok.0)
till-cut-next till v (HeardTill other bytes) at next ok e = handling-not-polled (sym at ∙ ok.0.polled)
till-cut-next till v (Closed other) at next ok e = handling-not-polled (sym at ∙ ok.polled)
till-cut-next till v (HeardPt other bytes) at next ok e = handling-not-polled (sym at ∙ ok.0.polled)
till-cut-next till v (Lost other) at next ok e = handling-not-polled (sym at ∙ ok.polled)
till-cut-next till v Stopped at next ok e = handling-not-polled (sym at ∙ ok)
till-cut-next till v (Linked other) at next ok e = absurd (let n = same-call v.calls (OwedCutTill till) (LinkPt other) next ok in cc)
till-cut-next till v (LinkFailed other) at next ok e = absurd (let n = same-call v.calls (OwedCutTill till) (LinkPt other) next ok in cc)
till-cut-next till v (SentTill other bytes true) at next ok e = absurd (let n = same-call v.calls (OwedCutTill till) (SendTill other ok.0) next ok.1 in cc)
till-cut-next till v (SentTill other bytes false) at next ok e = absurd (let n = same-call v.calls (OwedCutTill till) (SendTill other ok.0) next ok.1 in cc)
till-cut-next till v (SentPt other bytes true) at next ok e = absurd (let n = same-call v.calls (OwedCutTill till) (SendPt other ok.0) next ok.1 in cc)
till-cut-next till v (SentPt other bytes false) at next ok e = absurd (let n = same-call v.calls (OwedCutTill till) (SendPt other ok.0) next ok.1 in cc)
till-cut-next till v (CutTill other) at next ok e =
    let n = same-call v.calls (OwedCutTill till) (OwedCutTill other) next ok in
    let same : other ≡ till = cc in
    ap CutTill same
till-cut-next till v (CutPt other) at next ok e = absurd (let n = same-call v.calls (OwedCutTill till) (OwedCutPt other) next ok in cc)
till-cut-next till v (Wrote offset bytes) at next ok e = absurd (let n = same-call v.calls (OwedCutTill till) ok.0 next ok.1 in let none : None ≡ Some (Wrote offset bytes) = ap write_turn n ∙ ok.2 in cc)
till-cut-next till v Synced at next ok e = absurd (let n = same-call v.calls (OwedCutTill till) Sync next ok in cc)
till-cut-next till v DiskFailed at next (inl sync) e = absurd (let n = same-call v.calls (OwedCutTill till) Sync next sync in cc)
till-cut-next till v DiskFailed at next (inr looking) e = no-true (sym (ap is_looking at) ∙ looking)
till-cut-next till v (Crash file) at next ok e = no-true e

-- ---- the calls of a loss

-- these calls are owed, and these items are to come
abbrev pub owing_then : Scene → List OwedCall → List RoundItem → View
owing_then scene calls items = record { scene = scene; calls = calls; items = items }

-- a terminal of this number is unlinked
abbrev pub IsUnlinkedIn : Scene → ℕ → Type 0
IsUnlinkedIn scene number = (terminal : Terminal) × (due : Option ℕ) × (slice_get scene.core.terminals number ≡ Some terminal) × (terminal.standing ≡ Unlinked due)

-- the calls are made in the first of these turns, before a poll, and nothing else that the items need changes
pub record Pays (scene : Scene) (calls : List OwedCall) (items : List RoundItem) (turns : List Turn) (now : ℤ) (rest : List Turn) : Type 0 where
  pub reply_turns : List Turn
  pub later : List Turn
  pub turns_are : turns ≡ reply_turns ++ later
  pub last : Scene
  pub paid : ArePaid calls reply_turns scene last
  pub moves : List Move
  pub moves_are : turns_of moves ≡ reply_turns
  pub lawful : IsCourse (owing_then scene calls items) moves
  pub ends : view_from (owing_then scene calls items) moves ≡ idle_with last items
  pub onward : Along (idle_with last items) (later ++ Polled now ∷ rest)
  pub round : AreOfRound later
  pub setup_is : last.setup ≡ scene.setup
  pub stage_is : last.stage ≡ Handling
  pub stays : (number : ℕ) → IsUnlinkedIn scene number → IsUnlinkedIn last number

-- none is owed
pays-none : (scene : Scene) (items : List RoundItem) (turns : List Turn) (now : ℤ) (rest : List Turn) → scene.stage ≡ Handling → AreOfRound turns → Along (owing_then scene [] items) (turns ++ Polled now ∷ rest) → Pays scene [] items turns now rest
pays-none scene items turns now rest at round along = record {
  reply_turns = [];
  later = turns;
  turns_are = refl;
  last = scene;
  paid = inl (record { calls_are = refl; turns_are = refl; after_is = refl });
  moves = [];
  moves_are = refl;
  lawful = tt;
  ends = refl;
  onward = along;
  round = round;
  setup_is = refl;
  stage_is = at;
  stays = λ number unlinked. unlinked;
}

abbrev pub at_stage : Scene → List OwedCall → List RoundItem → Stage → View
at_stage scene calls items stage = record { scene = record scene { stage = stage }; calls = calls; items = items }

-- one reply is owed
pays-reply : (till : ℕ) (reply : ReplyValue) (scene : Scene) (items : List RoundItem) (turns : List Turn) (now : ℤ) (rest : List Turn) → scene.stage ≡ Handling → AreOfRound turns → Along (owing_then scene (SendTill till reply ∷ []) items) (turns ++ Polled now ∷ rest)
    → Pays scene (SendTill till reply ∷ []) items turns now rest
pays-reply till reply scene items [] now rest at round along =
    let next = take-owed (owing_then scene (SendTill till reply ∷ []) items) (SendTill till reply) (Polled now) rest refl along in
    absurd (let n : SendTill till reply ∷ [] ≡ [] = next.0.calls in cc)
pays-reply till reply scene items (turn ∷ later) now rest at round along = by_send (reply-next till reply owing turn at refl next.0 round.0)
  where
    owing : View
    owing = owing_then scene (SendTill till reply ∷ []) items

    next : AllowedTurn owing turn × Along (after_turn owing turn) (later ++ Polled now ∷ rest)
    next = take-owed owing (SendTill till reply) turn (later ++ Polled now ∷ rest) refl along

    whole : turn ≡ SentTill till (reply_value_bytes reply) true → Pays scene (SendTill till reply ∷ []) items (turn ∷ later) now rest
    whole is =
        let sent : Turn = SentTill till (reply_value_bytes reply) true in
        let made : after_turn owing sent ≡ idle_with scene items = ap (at_stage scene [] items) (ap busy at ∙ sym at) in
        record {
          reply_turns = sent ∷ [];
          later = later;
          turns_are = ap (λ t. t ∷ later) is;
          last = scene;
          paid = inr (inl (record { till = till; reply = reply; calls_are = refl; turns_are = refl; after_is = refl }));
          moves = Make sent ∷ [];
          moves_are = refl;
          lawful = (subst (AllowedTurn owing) is next.0, tt);
          ends = made;
          onward = subst (λ w. Along w (later ++ Polled now ∷ rest)) made (subst (λ t. Along (after_turn owing t) (later ++ Polled now ∷ rest)) is next.1);
          round = round.1;
          setup_is = refl;
          stage_is = at;
          stays = λ number unlinked. unlinked;
        }

    cut : (bytes : List ℕ) → IsPrefix bytes (reply_value_bytes reply) → turn ≡ SentTill till bytes false → (turns : List Turn) → AreOfRound turns → Along (owing_then scene (OwedCutTill till ∷ []) items) (turns ++ Polled now ∷ rest)
        → Pays scene (SendTill till reply ∷ []) items (turn ∷ turns) now rest
    cut bytes sent is [] round along =
        let more = take-owed (owing_then scene (OwedCutTill till ∷ []) items) (OwedCutTill till) (Polled now) rest refl along in
        absurd (let n : OwedCutTill till ∷ [] ≡ [] = more.0.calls in cc)
    cut bytes sent is (second ∷ turns) round along =
        let failed : Turn = SentTill till bytes false in
        let cutting : View = owing_then scene (OwedCutTill till ∷ []) items in
        let more = take-owed cutting (OwedCutTill till) second (turns ++ Polled now ∷ rest) refl along in
        let same : second ≡ CutTill till = till-cut-next till cutting second at refl more.0 round.0 in
        let unsent : after_turn owing failed ≡ cutting = ap (at_stage scene (OwedCutTill till ∷ []) items) (ap busy at ∙ sym at) in
        let made : after_turn cutting (CutTill till) ≡ idle_with (till_gone scene till) items = ap (at_stage (till_gone scene till) [] items) (ap busy at ∙ sym at) in
        record {
          reply_turns = failed ∷ CutTill till ∷ [];
          later = turns;
          turns_are = ap (λ t. t ∷ second ∷ turns) is ∙ ap (λ t. failed ∷ t ∷ turns) same;
          last = till_gone scene till;
          paid = inr (inr (record { till = till; reply = reply; calls_are = refl; bytes = bytes; sent = sent; turns_are = refl; after_is = refl }));
          moves = Make failed ∷ Make (CutTill till) ∷ [];
          moves_are = refl;
          lawful = (subst (AllowedTurn owing) is next.0, (subst (λ w. AllowedTurn w (CutTill till)) (sym unsent) (subst (AllowedTurn cutting) same more.0), tt));
          ends = ap (λ w. after_turn w (CutTill till)) unsent ∙ made;
          onward = subst (λ w. Along w (turns ++ Polled now ∷ rest)) made (subst (λ t. Along (after_turn cutting t) (turns ++ Polled now ∷ rest)) same more.1);
          round = round.1;
          setup_is = refl;
          stage_is = at;
          stays = λ number unlinked. (forgets_till till unlinked.0, unlinked.1, there-image (forgets_till till) scene.core.terminals number unlinked.0 unlinked.2, unlinked.3);
        }

    by_send : IsSendOf till reply turn → Pays scene (SendTill till reply ∷ []) items (turn ∷ later) now rest
    by_send (inl is) = whole is
    by_send (inr (bytes, sent, is)) =
        let unsent : after_turn owing (SentTill till bytes false) ≡ owing_then scene (OwedCutTill till ∷ []) items = ap (at_stage scene (OwedCutTill till ∷ []) items) (ap busy at ∙ sym at) in
        cut bytes sent is later round.1 (subst (λ w. Along w (later ++ Polled now ∷ rest)) unsent (subst (λ t. Along (after_turn owing t) (later ++ Polled now ∷ rest)) is next.1))

-- the calls to the till of what was served are made next
pub pays : (asker : Option ℕ) (reply : Option ReplyValue) (scene : Scene) (items : List RoundItem) (turns : List Turn) (now : ℤ) (rest : List Turn) → scene.stage ≡ Handling → AreOfRound turns
    → Along (owing_then scene (reply_calls_to asker reply) items) (turns ++ Polled now ∷ rest) → Pays scene (reply_calls_to asker reply) items turns now rest
pays None reply scene items turns now rest at round along = pays-none scene items turns now rest at round along
pays (Some till) None scene items turns now rest at round along = pays-none scene items turns now rest at round along
pays (Some till) (Some reply) scene items turns now rest at round along = pays-reply till reply scene items turns now rest at round along
