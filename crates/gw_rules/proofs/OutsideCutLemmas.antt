-- A terminal that says an APDU outside the grammar, or begins one above the limit, is cut before the next poll.
use Rattle.std.proofs.Common.{◌≡◌, ℕ, List, [], ◌∷◌, ◌++◌, refl, sym, ◌∙◌, ap, subst, true, false, inl, inr, eqb-true}
use Rattle.std.proofs.lemmas.Bool.{and_parts, eq-eqb}
use Rattle.std.specs.Prelude.{Bool, ◌⊎◌, ◌==◌, ◌&&◌, slice_get, Option, Some, None, Result, Ok, Err}
use Rattle.std.specs.List.{flat_map}
use Rattle.gw_base.specs.declared.setup.Setup.{Setup}
use Rattle.gw_bytes.specs.Bytes.{AreBytes}
use Rattle.gw_site.specs.Outside.{heard_on}
use Rattle.gw_site.specs.Sorts.{is_sort_of_round, sort_of}
use Rattle.gw_site.specs.declared.turn.Turn.{Turn}
use Rattle.gw_site.specs.declared.turn.Turn.TheVariants.{Start, OpenFailed, Polled, Opened, HeardTill, Closed, HeardPt, Lost, Stopped, Linked, LinkFailed, SentTill, SentPt, CutTill, CutPt, Wrote, Synced, DiskFailed, Crash}
use Rattle.zvt_apdu.specs.Grammar.{ApduValue, BeginsTooLongApdu}
use Rattle.zvt_msg.specs.Message.{MessageValue}
use Rattle.zvt_msg.specs.MessageDecode.{decode_pt_message}
use Rattle.zvt_msg.specs.declared.fault.PtFault.{PtFault}
use Rattle.gw_owes.specs.Calls.{OwedCall, SendTill, SendPt, LinkPt, Sync, write_turn, CutTill as OwedCutTill, CutPt as OwedCutPt}
use Rattle.gw_owes.specs.Events.{apdu_items, pt_bytes_items, items_due}
use Rattle.gw_owes.specs.Greeting.{greet_decoded, oversized_row}
use Rattle.gw_owes.specs.Items.{RoundItem, Crowded, Message, Asked, Unframed, Gone, Greet, Handle, Serve, Queue, NextWaiting, Oversized, LinkLost, Late, Overdue, Due}
use Rattle.gw_owes.specs.Links.{cutting}
use Rattle.gw_owes.specs.Row.{Known, Row}
use Rattle.gw_owes.specs.Rows.{row_of}
use Rattle.gw_owes.specs.declared.terminal.Terminal.{Terminal}
use Rattle.gw_owes.proofs.ApduLemmas.{pt-bytes-give}
use Rattle.gw_owes.proofs.HandlingLemmas.{linked-row}
use Rattle.gw_rules.specs.Lawful.{first_call, AllowedTurn}
use Rattle.gw_rules.specs.LinkLaws.{HasSaid, HasOutside, OutsideCuts}
use Rattle.gw_rules.specs.Scene.{Scene, known_in, row_in, row_at}
use Rattle.gw_rules.specs.Stage.{Handling, is_looking}
use Rattle.gw_rules.specs.View.{View, after_turn, view_from, at_first}
use Rattle.gw_rules.proofs.CutLemmas.{IsAmong, has-after, has-before}
use Rattle.gw_rules.proofs.HeardLemmas.{heard-bytes, bytes-append, stands-bytes}
use Rattle.gw_rules.proofs.LinkStateLemmas.{LinkState, Absent, On, Off, Odd, state_of, state_in, on-linked}
use Rattle.gw_rules.proofs.LinkedLemmas.{Agrees, Settled, OrLost, IsOfLink, is_on, settled-turn, event-settled, first-fits}
use Rattle.gw_rules.proofs.LinkLawLemmas.{same-call}
use Rattle.gw_rules.proofs.RoundLemmas.{Duty, IsDuty, HasSuch, Waits, such-before, done-before-poll}
use Rattle.gw_rules.proofs.SetupLemmas.{turn-run}
use Rattle.gw_rules.proofs.SplitLemmas.{split-log, split-agrees, split-outside, split-stands}
use Rattle.gw_rules.proofs.StageLemmas.{no-true, handling-not-polled}

-- ---- the duty

abbrev is_outside : Result MessageValue PtFault → Bool
is_outside (Ok message) = false
is_outside (Err fault) = true

-- the item cuts the terminal
abbrev cuts_terminal : ℕ → RoundItem → Bool
cuts_terminal pt (Crowded till) = false
cuts_terminal pt (Message till bytes) = false
cuts_terminal pt (Asked till as_read) = false
cuts_terminal pt (Unframed till) = false
cuts_terminal pt (Gone till) = false
cuts_terminal pt (Greet other apdu) = (other == pt) && is_outside (decode_pt_message apdu)
cuts_terminal pt (Handle other apdu) = false
cuts_terminal pt (Serve other till header request) = false
cuts_terminal pt (Queue other till header request) = false
cuts_terminal pt (NextWaiting other) = false
cuts_terminal pt (Oversized other) = other == pt
cuts_terminal pt (LinkLost other) = false
cuts_terminal pt (Late other) = false
cuts_terminal pt (Overdue key) = false
cuts_terminal pt (Due other) = false

abbrev pub is_cut : ℕ → Turn → Bool
is_cut pt (Start setup) = false
is_cut pt OpenFailed = false
is_cut pt (Polled now) = false
is_cut pt (Opened till) = false
is_cut pt (HeardTill till bytes) = false
is_cut pt (Closed till) = false
is_cut pt (HeardPt other bytes) = false
is_cut pt (Lost other) = false
is_cut pt Stopped = false
is_cut pt (Linked other) = false
is_cut pt (LinkFailed other) = false
is_cut pt (SentTill till bytes sent) = false
is_cut pt (SentPt other bytes sent) = false
is_cut pt (CutTill till) = false
is_cut pt (CutPt other) = other == pt
is_cut pt (Wrote offset bytes) = false
is_cut pt Synced = false
is_cut pt DiskFailed = false
is_cut pt (Crash file) = false

pub cut-is : (pt : ℕ) (turn : Turn) → is_cut pt turn ≡ true → turn ≡ CutPt pt
cut-is pt (Start setup) e = no-true e
cut-is pt OpenFailed e = no-true e
cut-is pt (Polled now) e = no-true e
cut-is pt (Opened till) e = no-true e
cut-is pt (HeardTill till bytes) e = no-true e
cut-is pt (Closed till) e = no-true e
cut-is pt (HeardPt other bytes) e = no-true e
cut-is pt (Lost other) e = no-true e
cut-is pt Stopped e = no-true e
cut-is pt (Linked other) e = no-true e
cut-is pt (LinkFailed other) e = no-true e
cut-is pt (SentTill till bytes sent) e = no-true e
cut-is pt (SentPt other bytes sent) e = no-true e
cut-is pt (CutTill till) e = no-true e
cut-is pt (CutPt other) e = ap CutPt (eqb-true other pt e)
cut-is pt (Wrote offset bytes) e = no-true e
cut-is pt Synced e = no-true e
cut-is pt DiskFailed e = no-true e
cut-is pt (Crash file) e = no-true e

-- at this moment
abbrev cut_duty : ℕ → ℕ → Duty
cut_duty pt moment = record { pt = pt; state = On; moment = moment; such = cuts_terminal pt; call = OwedCutPt pt; done = is_cut pt; polls = false }

-- ---- what is owed

pub found-on : (found : Option Terminal) → state_of found ≡ On → (terminal : Terminal) × (found ≡ Some terminal)
found-on None e = absurd (let n : Absent ≡ On = e in cc)
found-on (Some terminal) e = (terminal, refl)

-- the cut of a terminal that is linked
cutting-owes : (known : Known) (pt : ℕ) → state_in known.core pt ≡ On → (oversized_row known pt).calls ≡ OwedCutPt pt ∷ []
cutting-owes known pt on =
    let found = found-on (slice_get known.core.terminals pt) on in
    let terminal : Terminal = found.0 in
    let linked = on-linked terminal.standing terminal.talk (sym (ap state_of found.1) ∙ on) in
    ap (λ (r : Row). r.calls) (linked-row known pt (λ terminal. cutting known pt) terminal found.1 linked)

outside-owes : (known : Known) (pt : ℕ) (decoded : Result MessageValue PtFault) → is_outside decoded ≡ true → state_in known.core pt ≡ On → (greet_decoded known pt decoded).calls ≡ OwedCutPt pt ∷ []
outside-owes known pt (Ok message) e on = no-true e
outside-owes known pt (Err fault) e on = cutting-owes known pt on

pub in-owes : (scene : Scene) (setup : Setup) (item : RoundItem) (calls : List OwedCall) → scene.setup ≡ Some setup → (row_of scene.outside.tills (known_in scene setup) item).calls ≡ calls → (row_at scene item).calls ≡ calls
in-owes scene setup item calls is e = ap (λ (o : Option Setup). (row_in scene (λ known. row_of scene.outside.tills known item) o).calls) is ∙ e

cut-owes : (pt : ℕ) (scene : Scene) (setup : Setup) (item : RoundItem) → cuts_terminal pt item ≡ true → scene.setup ≡ Some setup → state_in scene.core pt ≡ On → (row_at scene item).calls ≡ OwedCutPt pt ∷ []
cut-owes pt scene setup (Crowded till) e is on = no-true e
cut-owes pt scene setup (Message till bytes) e is on = no-true e
cut-owes pt scene setup (Asked till as_read) e is on = no-true e
cut-owes pt scene setup (Unframed till) e is on = no-true e
cut-owes pt scene setup (Gone till) e is on = no-true e
cut-owes pt scene setup (Greet other apdu) e is on =
    let p = and_parts (other == pt) (is_outside (decode_pt_message apdu)) e in
    ap (λ n. (row_at scene (Greet n apdu)).calls) (eqb-true other pt p.0)
    ∙ in-owes scene setup (Greet pt apdu) (OwedCutPt pt ∷ []) is (outside-owes (known_in scene setup) pt (decode_pt_message apdu) p.1 on)
cut-owes pt scene setup (Handle other apdu) e is on = no-true e
cut-owes pt scene setup (Serve other till header request) e is on = no-true e
cut-owes pt scene setup (Queue other till header request) e is on = no-true e
cut-owes pt scene setup (NextWaiting other) e is on = no-true e
cut-owes pt scene setup (Oversized other) e is on =
    ap (λ n. (row_at scene (Oversized n)).calls) (eqb-true other pt e) ∙ in-owes scene setup (Oversized pt) (OwedCutPt pt ∷ []) is (cutting-owes (known_in scene setup) pt on)
cut-owes pt scene setup (LinkLost other) e is on = no-true e
cut-owes pt scene setup (Late other) e is on = no-true e
cut-owes pt scene setup (Overdue key) e is on = no-true e
cut-owes pt scene setup (Due other) e is on = no-true e

-- ---- what does it

-- where the cut is owed, nothing but it comes in the round
pub cut-makes : (pt : ℕ) (v : View) (turn : Turn) → v.scene.stage ≡ Handling → first_call v.calls ≡ Some (OwedCutPt pt) → AllowedTurn v turn → is_sort_of_round (sort_of turn) ≡ true → is_cut pt turn ≡ true
cut-makes pt v (Start setup) at next ok e = no-true e
cut-makes pt v OpenFailed at next ok e = no-true e
cut-makes pt v (Polled now) at next ok e = no-true e
cut-makes pt v (Opened till) at next ok e = handling-not-polled (sym at ∙ ok.0)
cut-makes pt v (HeardTill till bytes) at next ok e = handling-not-polled (sym at ∙ ok.0.polled)
cut-makes pt v (Closed till) at next ok e = handling-not-polled (sym at ∙ ok.polled)
cut-makes pt v (HeardPt other bytes) at next ok e = handling-not-polled (sym at ∙ ok.0.polled)
cut-makes pt v (Lost other) at next ok e = handling-not-polled (sym at ∙ ok.polled)
cut-makes pt v Stopped at next ok e = handling-not-polled (sym at ∙ ok)
cut-makes pt v (Linked other) at next ok e = absurd (let n = same-call v.calls (OwedCutPt pt) (LinkPt other) next ok in cc)
cut-makes pt v (LinkFailed other) at next ok e = absurd (let n = same-call v.calls (OwedCutPt pt) (LinkPt other) next ok in cc)
cut-makes pt v (SentTill till bytes true) at next ok e = absurd (let n = same-call v.calls (OwedCutPt pt) (SendTill till ok.0) next ok.1 in cc)
cut-makes pt v (SentTill till bytes false) at next ok e = absurd (let n = same-call v.calls (OwedCutPt pt) (SendTill till ok.0) next ok.1 in cc)
cut-makes pt v (SentPt other bytes true) at next ok e = absurd (let n = same-call v.calls (OwedCutPt pt) (SendPt other ok.0) next ok.1 in cc)
cut-makes pt v (SentPt other bytes false) at next ok e = absurd (let n = same-call v.calls (OwedCutPt pt) (SendPt other ok.0) next ok.1 in cc)
cut-makes pt v (CutTill till) at next ok e = absurd (let n = same-call v.calls (OwedCutPt pt) (OwedCutTill till) next ok in cc)
cut-makes pt v (CutPt other) at next ok e =
    let n = same-call v.calls (OwedCutPt pt) (OwedCutPt other) next ok in
    let same : other ≡ pt = cc in
    eq-eqb other pt same
cut-makes pt v (Wrote offset bytes) at next ok e = absurd (let n = same-call v.calls (OwedCutPt pt) ok.0 next ok.1 in let none : None ≡ Some (Wrote offset bytes) = ap write_turn n ∙ ok.2 in cc)
cut-makes pt v Synced at next ok e = absurd (let n = same-call v.calls (OwedCutPt pt) Sync next ok in cc)
cut-makes pt v DiskFailed at next (inl sync) e = absurd (let n = same-call v.calls (OwedCutPt pt) Sync next sync in cc)
cut-makes pt v DiskFailed at next (inr looking) e = no-true (sym (ap is_looking at) ∙ looking)
cut-makes pt v (Crash file) at next ok e = no-true e

-- a terminal that is linked isn't linked anew
pub no-link : {A : Type 0} (pt : ℕ) (v : View) → Settled v → state_in v.scene.core pt ≡ On → first_call v.calls ≡ Some (LinkPt pt) → A
no-link pt v s on next =
    let fit = first-fits v.scene.outside.moment v.scene.core v.calls (LinkPt pt) s.fits next in
    absurd (let n : On ≡ Off fit.0 = sym on ∙ fit.1 in cc)

cut-links : (pt : ℕ) (v : View) (turn : Turn) → Settled v → state_in v.scene.core pt ≡ On → AllowedTurn v turn → IsOfLink pt turn → is_cut pt turn ≡ true
cut-links pt v turn s on ok (inl linked) = let next : AllowedTurn v (Linked pt) = subst (AllowedTurn v) linked ok in no-link pt v s on next
cut-links pt v turn s on ok (inr (inl failed)) = let next : AllowedTurn v (LinkFailed pt) = subst (AllowedTurn v) failed ok in no-link pt v s on next
cut-links pt v turn s on ok (inr (inr cut)) = ap (is_cut pt) cut ∙ eq-eqb pt pt refl

cut-is-duty : (pt moment : ℕ) → IsDuty (cut_duty pt moment)
cut-is-duty pt moment = record {
  owes = λ scene setup item such is on at. cut-owes pt scene setup item such is on;
  no_message = λ till bytes such. no-true such;
  makes = λ v turn at next ok e. cut-makes pt v turn at next ok e;
  links = λ v turn s on ok of_link. cut-links pt v turn s on ok of_link;
  unlost = λ polls on. no-true polls;
}

-- ---- what the bytes bring

greet-among : (pt : ℕ) (first : List ApduValue) (apdu : ApduValue) (rest : List ApduValue) → IsAmong (Greet pt apdu) (flat_map (apdu_items pt) (first ++ apdu ∷ rest))
greet-among pt [] apdu rest = ([], Handle pt apdu ∷ NextWaiting pt ∷ flat_map (apdu_items pt) rest, refl)
greet-among pt (x ∷ first) apdu rest = has-after (Greet pt apdu) (apdu_items pt x) (flat_map (apdu_items pt) (first ++ apdu ∷ rest)) (greet-among pt first apdu rest)

pub same-rest : (first one other : List ApduValue) → first ++ one ≡ first ++ other → one ≡ other
same-rest [] one other e = e
same-rest (x ∷ first) one other e = same-rest first one other (let n : x ∷ (first ++ one) ≡ x ∷ (first ++ other) = e in cc)

brings-cut : (v : View) (pt moment : ℕ) (chunk : List ℕ) (new : List ApduValue) (left : List ℕ) → AreBytes (heard_on v.scene.outside.links pt ++ chunk) → HasSaid v.scene.outside pt chunk new left → HasOutside new ⊎ ((length : ℕ) × BeginsTooLongApdu left length)
    → HasSuch (cut_duty pt moment) (pt_bytes_items pt (heard_on v.scene.outside.links pt) chunk)
brings-cut v pt moment chunk new left small said why =
    let brings = pt-bytes-give pt (heard_on v.scene.outside.links pt) chunk said.before (said.before ++ new) said.rest left small said.spelled said.all in
    let same : new ≡ brings.new = same-rest said.before new brings.new brings.completed in
    subst (HasSuch (cut_duty pt moment)) (sym brings.items_are) (by_why brings.new brings.last same brings.too_long why)
  where
    by_why : (found : List ApduValue) (last : List RoundItem) → new ≡ found → ((length : ℕ) → BeginsTooLongApdu left length → last ≡ Oversized pt ∷ []) → HasOutside new ⊎ ((length : ℕ) × BeginsTooLongApdu left length)
        → HasSuch (cut_duty pt moment) (flat_map (apdu_items pt) found ++ last)
    by_why found last same too_long (inl (first, apdu, rest, fault, e, is)) =
        let tests : cuts_terminal pt (Greet pt apdu) ≡ true = rw (eq-eqb pt pt refl, is) refl in
        (Greet pt apdu, tests, has-before (Greet pt apdu) (flat_map (apdu_items pt) found) last (subst (λ l. IsAmong (Greet pt apdu) (flat_map (apdu_items pt) l)) (sym e ∙ same) (greet-among pt first apdu rest)))
    by_why found last same too_long (inr (length, long)) =
        (Oversized pt, eq-eqb pt pt refl, has-after (Oversized pt) (flat_map (apdu_items pt) found) last ([], [], too_long length long))

pub on-by : (state : LinkState) → is_on state ≡ true → state ≡ On
on-by Absent e = no-true e
on-by On e = refl
on-by (Off due) e = no-true e
on-by Odd e = no-true e

heard-waits : (v : View) (pt : ℕ) (chunk : List ℕ) (new : List ApduValue) (left : List ℕ) → Agrees v → AllowedTurn v (HeardPt pt chunk) → AreBytes (heard_on v.scene.outside.links pt ++ chunk) → HasSaid v.scene.outside pt chunk new left
    → HasOutside new ⊎ ((length : ℕ) × BeginsTooLongApdu left length) → Waits (cut_duty pt v.scene.outside.moment) (after_turn v (HeardPt pt chunk))
heard-waits v pt chunk new left a ok small said why =
    let s = event-settled v a ok.0.polled in
    record {
      run = turn-run v (HeardPt pt chunk) a.run ok;
      ends = refl;
      unlost = inl (by_turn (settled-turn v (HeardPt pt chunk) a.run a.ends s ok));
      state_is = on-by (state_in v.scene.core pt) (sym (s.linked pt) ∙ ok.0.connected_is);
      moment_is = refl;
      round = refl;
      polled = λ polled. handling-not-polled polled;
      owed = inl (such-before (cut_duty pt v.scene.outside.moment) (pt_bytes_items pt (heard_on v.scene.outside.links pt) chunk) (items_due v.scene.core) (brings-cut v pt v.scene.outside.moment chunk new left small said why));
    }
  where
    by_turn : Settled (after_turn v (HeardPt pt chunk)) ⊎ OrLost v (HeardPt pt chunk) → Settled (after_turn v (HeardPt pt chunk))
    by_turn (inl settled) = settled
    by_turn (inr (other, lost, l, same)) = absurd (let n : HeardPt pt chunk ≡ Lost other = lost in cc)

pub outside-cuts : OutsideCuts
outside-cuts before inside rest pt chunk now new left lawful round said why =
    let x = split-log before (HeardPt pt chunk) (inside ++ Polled now ∷ rest) lawful in
    let v = view_from at_first x.first in
    let o = split-outside before (HeardPt pt chunk) (inside ++ Polled now ∷ rest) x in
    let heard_small = heard-bytes v.scene.outside.links pt (stands-bytes before v (split-stands before (HeardPt pt chunk) (inside ++ Polled now ∷ rest) x)).links in
    let small = bytes-append (heard_on v.scene.outside.links pt) chunk heard_small x.allowed.1.bytes in
    let waits = heard-waits v pt chunk new left (split-agrees before (HeardPt pt chunk) (inside ++ Polled now ∷ rest) x) x.allowed small (subst (λ o. HasSaid o pt chunk new left) (sym o) said) why in
    let done = done-before-poll (cut_duty pt v.scene.outside.moment) now rest (after_turn v (HeardPt pt chunk)) x.onward.moves inside (cut-is-duty pt v.scene.outside.moment) (inl waits) x.onward.lawful x.onward.turns_are round in
    (done.0, done.2, subst (λ t. inside ≡ done.0 ++ t ∷ done.2) (cut-is pt done.1 done.4) done.3)
