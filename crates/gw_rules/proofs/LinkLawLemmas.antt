-- The laws on links: who is sent something, and that a link is followed by the registration.
use Rattle.std.proofs.Common.{◌≡◌, ℕ, zero, suc, List, [], ◌∷◌, ◌++◌, refl, sym, ◌∙◌, ap, subst, true, false, inl, inr}
use Rattle.std.specs.Prelude.{map, slice_get, Option, Some, None}
use Rattle.gw_base.specs.declared.setup.Setup.{Setup}
use Rattle.gw_bytes.specs.Bytes.{IsPrefix}
use Rattle.gw_site.specs.Outside.{Outside, is_connected}
use Rattle.gw_site.specs.Sorts.{IsQuiet, is_between}
use Rattle.gw_site.specs.declared.turn.Turn.{Turn}
use Rattle.gw_site.specs.declared.turn.Turn.TheVariants.{Start, OpenFailed, Polled, Opened, HeardTill, Closed, HeardPt, Lost, Stopped, Linked, LinkFailed, SentTill, SentPt, CutTill, CutPt, Wrote, Synced, DiskFailed, Crash}
use Rattle.gw_owes.specs.Calls.{Sending, Ask, OwedCall, SendTill, SendPt, LinkPt, Sync, sending_bytes, write_turn, CutTill as OwedCutTill, CutPt as OwedCutPt}
use Rattle.gw_owes.specs.Row.{Known}
use Rattle.gw_owes.specs.TerminalLaws.{settings_of}
use Rattle.gw_owes.specs.Terminals.{registration, link_made}
use Rattle.gw_owes.specs.declared.terminal.Terminal.{Terminal}
use Rattle.gw_owes.proofs.TerminalLemmas.{linked-is-registered}
use Rattle.gw_rules.specs.Lawful.{first_call, AllowedTurn}
use Rattle.gw_rules.specs.LinkLaws.{EachUsesLinks, IsSentTo, IsRegistered, LinkedRegisters, is_linked_after}
use Rattle.gw_rules.specs.Scene.{known_in, row_in}
use Rattle.gw_rules.specs.Stage.{Stage, Resting, Opening, Looking, AtPoll, Handling, Over, Broken, busy, is_looking}
use Rattle.gw_rules.specs.View.{View, later, after_turn, view_from, at_first}
use Rattle.gw_rules.proofs.LinkStateLemmas.{LinkState, Absent, On, Off, state_of, state_in}
use Rattle.gw_rules.proofs.LinkedLemmas.{Agrees, Settled, AreConfigured, is_on, call-settled, first-fits, course-agrees, turn-agrees}
use Rattle.gw_rules.proofs.OpeningLemmas.{OwesDisk, start-owes-disk, course-disk, other-not-looking}
use Rattle.gw_rules.proofs.PrefixLemmas.{Along}
use Rattle.gw_rules.proofs.SplitLemmas.{SplitAt, split-at, split-log, split-agrees, split-outside, moves-setup}
use Rattle.gw_rules.proofs.StageLemmas.{no-call, handling-not-polled}
use Rattle.gw_rules.proofs.UnlawfulLemmas.{take-owed}

-- ---- links are used

-- where this call is owed, the terminal is linked or not as the call wants it
owed-linked : (log : List Turn) (turn : Turn) (pt : ℕ) (x : SplitAt at_first log turn []) (call : OwedCall) (state : LinkState) → first_call (view_from at_first x.first).calls ≡ Some call
    → (Settled (view_from at_first x.first) → state_in (view_from at_first x.first).scene.core pt ≡ state) → is_linked_after log pt ≡ is_on state
owed-linked log turn pt x call state next is =
    let v = view_from at_first x.first in
    let s = call-settled v call (split-agrees log turn [] x) next in
    ap (λ (o : Outside). is_connected o.links pt) (sym (split-outside log turn [] x)) ∙ s.linked pt ∙ ap is_on (is s)

pub uses-links : EachUsesLinks
uses-links log pt = record {
  sent = λ bytes lawful. let x = split-log log (SentPt pt bytes true) [] lawful in by_send (SentPt pt bytes true) x x.allowed.0 x.allowed.1;
  unsent = λ bytes lawful. let x = split-log log (SentPt pt bytes false) [] lawful in by_send (SentPt pt bytes false) x x.allowed.0 x.allowed.1;
  cut = λ lawful. let x = split-log log (CutPt pt) [] lawful in owed-linked log (CutPt pt) pt x (OwedCutPt pt) On x.allowed (λ s. first-fits (view_from at_first x.first).scene.outside.moment (view_from at_first x.first).scene.core (view_from at_first x.first).calls (OwedCutPt pt) s.fits x.allowed);
  linked = λ lawful. let x = split-log log (Linked pt) [] lawful in by_link (Linked pt) x x.allowed;
  link_failed = λ lawful. let x = split-log log (LinkFailed pt) [] lawful in by_link (LinkFailed pt) x x.allowed;
}
  where
    by_send : (turn : Turn) (x : SplitAt at_first log turn []) (sending : Sending) → first_call (view_from at_first x.first).calls ≡ Some (SendPt pt sending) → is_linked_after log pt ≡ true
    by_send turn x sending next = owed-linked log turn pt x (SendPt pt sending) On next (λ s. first-fits (view_from at_first x.first).scene.outside.moment (view_from at_first x.first).scene.core (view_from at_first x.first).calls (SendPt pt sending) s.fits next)

    by_link : (turn : Turn) (x : SplitAt at_first log turn []) → first_call (view_from at_first x.first).calls ≡ Some (LinkPt pt) → is_linked_after log pt ≡ false
    by_link turn x next =
        let v = view_from at_first x.first in
        let s = call-settled v (LinkPt pt) (split-agrees log turn [] x) next in
        let fit = first-fits v.scene.outside.moment v.scene.core v.calls (LinkPt pt) s.fits next in
        owed-linked log turn pt x (LinkPt pt) (Off fit.0) next (λ s. fit.1)

-- ---- a link is followed by the registration

pub busy-not-poll : {A : Type 0} (stage : Stage) → busy stage ≡ AtPoll → A
busy-not-poll Resting e = absurd (let n : Resting ≡ AtPoll = e in cc)
busy-not-poll (Opening refused) e = absurd (let n : Opening refused ≡ AtPoll = e in cc)
busy-not-poll (Looking refused) e = absurd (let n : Looking refused ≡ AtPoll = e in cc)
busy-not-poll AtPoll e = handling-not-polled e
busy-not-poll Handling e = handling-not-polled e
busy-not-poll Over e = absurd (let n : Over ≡ AtPoll = e in cc)
busy-not-poll Broken e = absurd (let n : Broken ≡ AtPoll = e in cc)

pub same-call : (calls : List OwedCall) (one other : OwedCall) → first_call calls ≡ Some one → first_call calls ≡ Some other → one ≡ other
same-call calls one other e f = let n : Some one ≡ Some other = sym e ∙ f in cc

-- what may come where a send to a terminal is owed, once the call before it was made
pub sent-next : (v : View) (stage : Stage) (pt : ℕ) (sending : Sending) (turn : Turn) → v.scene.stage ≡ busy stage → (is_looking (busy stage) ≡ true → ⊥) → first_call v.calls ≡ Some (SendPt pt sending) → is_between turn ≡ false → AllowedTurn v turn → IsSentTo pt (sending_bytes sending) turn
sent-next v stage pt sending (Start setup) at still next b ok = absurd (let n : true ≡ false = b in cc)
sent-next v stage pt sending OpenFailed at still next b ok = absurd (let n : true ≡ false = b in cc)
sent-next v stage pt sending (Polled now) at still next b ok = no-call v.calls (SendPt pt sending) ok.calls next
sent-next v stage pt sending (Opened till) at still next b ok = busy-not-poll stage (sym at ∙ ok.0)
sent-next v stage pt sending (HeardTill till bytes) at still next b ok = busy-not-poll stage (sym at ∙ ok.0.polled)
sent-next v stage pt sending (Closed till) at still next b ok = busy-not-poll stage (sym at ∙ ok.polled)
sent-next v stage pt sending (HeardPt other bytes) at still next b ok = busy-not-poll stage (sym at ∙ ok.0.polled)
sent-next v stage pt sending (Lost other) at still next b ok = busy-not-poll stage (sym at ∙ ok.polled)
sent-next v stage pt sending Stopped at still next b ok = busy-not-poll stage (sym at ∙ ok)
sent-next v stage pt sending (Linked other) at still next b ok = absurd (let n = same-call v.calls (SendPt pt sending) (LinkPt other) next ok in cc)
sent-next v stage pt sending (LinkFailed other) at still next b ok = absurd (let n = same-call v.calls (SendPt pt sending) (LinkPt other) next ok in cc)
sent-next v stage pt sending (SentTill till bytes true) at still next b ok = absurd (let n = same-call v.calls (SendPt pt sending) (SendTill till ok.0) next ok.1 in cc)
sent-next v stage pt sending (SentTill till bytes false) at still next b ok = absurd (let n = same-call v.calls (SendPt pt sending) (SendTill till ok.0) next ok.1 in cc)
sent-next v stage pt sending (SentPt other bytes true) at still next b ok =
    let n = same-call v.calls (SendPt pt sending) (SendPt other ok.0) next ok.1 in
    let number : other ≡ pt = cc in
    let same : ok.0 ≡ sending = cc in
    inl (ap (λ p. SentPt p bytes true) number ∙ ap (λ l. SentPt pt l true) (ok.2 ∙ ap sending_bytes same))
sent-next v stage pt sending (SentPt other bytes false) at still next b ok =
    let n = same-call v.calls (SendPt pt sending) (SendPt other ok.0) next ok.1 in
    let number : other ≡ pt = cc in
    let same : ok.0 ≡ sending = cc in
    inr (bytes, subst (λ s. IsPrefix bytes (sending_bytes s)) same ok.2, ap (λ p. SentPt p bytes false) number)
sent-next v stage pt sending (CutTill till) at still next b ok = absurd (let n = same-call v.calls (SendPt pt sending) (OwedCutTill till) next ok in cc)
sent-next v stage pt sending (CutPt other) at still next b ok = absurd (let n = same-call v.calls (SendPt pt sending) (OwedCutPt other) next ok in cc)
sent-next v stage pt sending (Wrote offset bytes) at still next b ok =
    absurd (let n = same-call v.calls (SendPt pt sending) ok.0 next ok.1 in let none : None ≡ Some (Wrote offset bytes) = ap write_turn n ∙ ok.2 in cc)
sent-next v stage pt sending Synced at still next b ok = absurd (let n = same-call v.calls (SendPt pt sending) Sync next ok in cc)
sent-next v stage pt sending DiskFailed at still next b (inl sync) = absurd (let n = same-call v.calls (SendPt pt sending) Sync next sync in cc)
sent-next v stage pt sending DiskFailed at still next b (inr looking) = absurd (still (sym (ap is_looking at) ∙ looking))
sent-next v stage pt sending (Crash file) at still next b ok = absurd (let n : true ≡ false = b in cc)

-- a terminal that isn't absent
pub found-by : (due : Option ℕ) (found : Option Terminal) → state_of found ≡ Off due → (terminal : Terminal) × (found ≡ Some terminal)
found-by due None e = absurd (let n : Absent ≡ Off due = e in cc)
found-by due (Some terminal) e = (terminal, refl)

pub get-setting : (terminals : List Terminal) (number : ℕ) (terminal : Terminal) → slice_get terminals number ≡ Some terminal → slice_get (map (λ (terminal : Terminal). terminal.pt) terminals) number ≡ Some terminal.pt
get-setting [] number terminal e = absurd (let n : None ≡ Some terminal = e in cc)
get-setting (first ∷ terminals) zero terminal e =
    let same : first ≡ terminal = (let n : Some first ≡ Some terminal = e in cc) in
    ap (λ (t : Terminal). Some t.pt) same
get-setting (first ∷ terminals) (suc number) terminal e = get-setting terminals number terminal e

registered-next : (u : View) (setup : Setup) (pt : ℕ) (turn : Turn) (rest : List Turn) → Agrees u → OwesDisk u → u.scene.setup ≡ Some setup → AllowedTurn u (Linked pt) → Along (after_turn u (Linked pt)) (turn ∷ rest) → is_between turn ≡ false → IsRegistered setup pt turn
registered-next u setup pt turn rest a d is ok onward b =
    let s = call-settled u (LinkPt pt) a ok in
    let fit = first-fits u.scene.outside.moment u.scene.core u.calls (LinkPt pt) s.fits ok in
    let found = found-by fit.0 (slice_get u.scene.core.terminals pt) fit.1 in
    let terminal : Terminal = found.0 in
    let known : Known = known_in u.scene setup in
    let registered = linked-is-registered known pt terminal found.1 in
    let command = registration terminal.pt in
    let configured : settings_of u.scene.core ≡ setup.terminals = subst (λ o. AreConfigured o u.scene.core) is s.settings in
    let w = after_turn u (Linked pt) in
    let calls : w.calls ≡ SendPt pt (Ask command) ∷ later u.calls =
    ap (λ (o : Option Setup). (row_in u.scene (λ known. link_made known pt) o).calls ++ later u.calls) is ∙ ap (λ l. l ++ later u.calls) registered.calls_are in
    let next : first_call w.calls ≡ Some (SendPt pt (Ask command)) = ap first_call calls in
    let taken = take-owed w (SendPt pt (Ask command)) turn rest next onward in
    (terminal.pt, sym (ap (λ l. slice_get l pt) configured) ∙ get-setting u.scene.core.terminals pt terminal found.1, sent-next w u.scene.stage pt (Ask command) turn refl (λ looking. other-not-looking u (LinkPt pt) d ok refl looking) next b taken.0)

pub linked-registers : LinkedRegisters
linked-registers before run rest setup pt turn lawful quiet b =
    let x = split-log before (Start setup) (run ++ Linked pt ∷ turn ∷ rest) lawful in
    let v = view_from at_first x.first in
    let began = after_turn v (Start setup) in
    let y = split-at began x.onward.moves run (Linked pt) (turn ∷ rest) x.onward.turns_are x.onward.lawful in
    let start_agrees = turn-agrees v (Start setup) (split-agrees before (Start setup) (run ++ Linked pt ∷ turn ∷ rest) x) x.allowed in
    registered-next (view_from began y.first) setup pt turn rest (course-agrees began y.first start_agrees y.lawful) (course-disk began y.first (start-owes-disk v setup) y.lawful)
    (moves-setup began y.first (subst IsQuiet (sym y.first_are) quiet)) y.allowed y.onward b
