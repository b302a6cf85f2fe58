-- A terminal whose registration is done is enquired before the next poll.
use Rattle.std.proofs.Common.{◌≡◌, ℕ, List, [], ◌∷◌, refl, sym, ◌∙◌, ap, subst, true, false, inl, inr}
use Rattle.std.specs.Prelude.{◌⊎◌}
use Rattle.gw_base.specs.declared.setup.Pt.{Pt}
use Rattle.gw_site.specs.Sorts.{AreOfRound, is_sort_of_round, sort_of}
use Rattle.gw_site.specs.declared.turn.Turn.{Turn}
use Rattle.gw_site.specs.declared.turn.Turn.TheVariants.{HeardPt, SentPt}
use Rattle.zvt_msg.specs.CommandCanonical.{canonical_command}
use Rattle.zvt_talk.specs.Talk.{is_end}
use Rattle.zvt_talk.specs.declared.meaning.Heard.{Heard}
use Rattle.zvt_talk.specs.declared.meaning.Heard.TheVariants as heard
use Rattle.jrn_record.specs.declared.records.Record.{Record}
use Rattle.gw_owes.specs.Calls.{Ask, OwedCall, SendPt, CutPt as OwedCutPt}
use Rattle.gw_owes.specs.Handling.{registering, enquiry_command}
use Rattle.gw_owes.specs.ReadAs.{ReadAs}
use Rattle.gw_owes.specs.Row.{Known}
use Rattle.gw_owes.specs.Serving.{staying}
use Rattle.gw_owes.specs.declared.terminal.Standing.TheVariants.{Registering}
use Rattle.gw_owes.specs.declared.terminal.Terminal.{Terminal}
use Rattle.gw_owes.proofs.HandlingLemmas.{registered-is-enquired}
use Rattle.gw_rules.specs.Lawful.{first_call, MayPoll, IsIdle, Begins, IsRead, AllowedTurn, IsCourse, turns_of}
use Rattle.gw_rules.specs.LinkLaws.{EndsLink, EndsNone, IsSentTo}
use Rattle.gw_rules.specs.DialogueLaws.{IsDone, IsEnquiredIn, DoneRegistrationIsEnquired}
use Rattle.gw_rules.specs.Stage.{Handling, busy}
use Rattle.gw_rules.specs.View.{View, Move, Begin, Read, Make, after, after_turn, view_from}
use Rattle.gw_rules.proofs.CutLemmas.{is_dead, dead-round, dead-running, dead-turn}
use Rattle.gw_rules.proofs.LinkLawLemmas.{sent-next}
use Rattle.gw_rules.proofs.OutsideCutLemmas.{cut-is, cut-makes}
use Rattle.gw_rules.proofs.PendingLemmas.{WillEnd, GoesOnIn, Pending, Ended, begin-pending, turn-pending, read-pending, heard-pending}
use Rattle.gw_rules.proofs.SilenceLemmas.{of-round-quiet}
use Rattle.gw_rules.proofs.StageLemmas.{no-true}

-- ---- the registration

-- a message that doesn't end a registration leaves it going on
registering-stays : (known : Known) (pt : ℕ) (terminal : Terminal) (meant : Heard) → is_end meant ≡ false → registering known pt terminal meant ≡ staying known pt terminal
registering-stays known pt terminal (heard.Begun stop) e = refl
registering-stays known pt terminal (heard.Note intermediate_status) e = refl
registering-stays known pt terminal heard.Line e = refl
registering-stays known pt terminal heard.Block e = refl
registering-stays known pt terminal heard.Seen e = refl
registering-stays known pt terminal (heard.Approved figures) e = no-true (sym e)
registering-stays known pt terminal heard.Done e = no-true (sym e)
registering-stays known pt terminal (heard.Told reported approved result_code) e = no-true (sym e)
registering-stays known pt terminal (heard.Declined result_code reported) e = no-true (sym e)
registering-stays known pt terminal heard.Unclear e = no-true (sym e)
registering-stays known pt terminal heard.Stray e = refl

registering-goes-on : GoesOnIn Registering
registering-goes-on = record {
  unready = refl;
  linked = refl;
  on = λ terminal is. rw is refl;
  stays = λ known pt terminal meant goes. registering-stays known pt terminal meant goes;
  keyless = λ kept. refl;
}

-- ---- in the round

-- this call is owed to the terminal, and nothing else comes before it
record OwesNext (call : OwedCall) (v : View) : Type 0 where
  stage : v.scene.stage ≡ Handling
  calls : v.calls ≡ call ∷ []

-- its enquiry
abbrev enquiry_call : Pt → ℕ → OwedCall
enquiry_call settings pt = SendPt pt (Ask (enquiry_command settings))

-- with the end of its registration the enquiry is owed
ended-owes : (settings : Pt) (records : List Record) (pt moment : ℕ) (w : View) → Ended IsDone Registering settings records pt moment w → OwesNext (enquiry_call settings pt) w
ended-owes settings records pt moment w e =
    let enquired = registered-is-enquired e.known pt e.apdu e.own e.message e.found e.standing_is e.decoded e.means in
    record { stage = e.stage; calls = e.calls_are ∙ enquired.calls_are ∙ ap (λ p. enquiry_call p pt ∷ []) e.settings_are }

-- its registration's end is to come, or its enquiry is owed, or the cut after that has failed, or the run has ended
abbrev OrOver : Pt → List Record → ℕ → ℕ → View → Type 0
OrOver settings records pt moment v = Pending IsDone Registering settings records pt moment v ⊎ (OwesNext (enquiry_call settings pt) v ⊎ (OwesNext (OwedCutPt pt) v ⊎ (is_dead v.scene.stage ≡ true)))

-- no item begins and no message is read where a call is owed
no-begin : {A : Type 0} (call : OwedCall) (v : View) → OwesNext call v → IsIdle v → A
no-begin call v w idle = absurd (let n : [] ≡ call ∷ [] = sym idle.calls ∙ w.calls in cc)

begin-over : (settings : Pt) (records : List Record) (pt moment : ℕ) (v : View) → OrOver settings records pt moment v → Begins v → OrOver settings records pt moment (after v Begin)
begin-over settings records pt moment v (inl p) b = by_end (begin-pending IsDone Registering settings records pt moment v registering-goes-on p b)
  where
    by_end : Pending IsDone Registering settings records pt moment (after v Begin) ⊎ Ended IsDone Registering settings records pt moment (after v Begin) → OrOver settings records pt moment (after v Begin)
    by_end (inl pending) = inl pending
    by_end (inr ended) = inr (inl (ended-owes settings records pt moment (after v Begin) ended))
begin-over settings records pt moment v (inr (inl w)) b = no-begin (enquiry_call settings pt) v w b.idle
begin-over settings records pt moment v (inr (inr (inl w))) b = no-begin (OwedCutPt pt) v w b.idle
begin-over settings records pt moment v (inr (inr (inr dead))) b = dead-round v.scene.stage dead b.idle.round

read-over : (settings : Pt) (records : List Record) (pt moment : ℕ) (v : View) (as_read : ReadAs) → OrOver settings records pt moment v → IsRead v as_read → OrOver settings records pt moment (after v (Read as_read))
read-over settings records pt moment v as_read (inl p) r = inl (read-pending IsDone Registering settings records pt moment v as_read p r)
read-over settings records pt moment v as_read (inr (inl w)) r = no-begin (enquiry_call settings pt) v w r.idle
read-over settings records pt moment v as_read (inr (inr (inl w))) r = no-begin (OwedCutPt pt) v w r.idle
read-over settings records pt moment v as_read (inr (inr (inr dead))) r = dead-round v.scene.stage dead r.idle.round

-- a turn is the enquiry, or the same holds after it
turn-over : (settings : Pt) (records : List Record) (pt moment : ℕ) (v : View) (turn : Turn) → OrOver settings records pt moment v → AllowedTurn v turn → is_sort_of_round (sort_of turn) ≡ true → (EndsLink pt turn → ⊥)
    → (turn ≡ SentPt pt (canonical_command (enquiry_command settings)) true) ⊎ OrOver settings records pt moment (after_turn v turn)
turn-over settings records pt moment v turn (inl p) ok e lasts = by_next (turn-pending IsDone Registering settings records pt moment v turn registering-goes-on p ok e lasts)
  where
    by_next : Pending IsDone Registering settings records pt moment (after_turn v turn) ⊎ (is_dead (after_turn v turn).scene.stage ≡ true) → (turn ≡ SentPt pt (canonical_command (enquiry_command settings)) true) ⊎ OrOver settings records pt moment (after_turn v turn)
    by_next (inl pending) = inr (inl pending)
    by_next (inr dead) = inr (inr (inr (inr dead)))
turn-over settings records pt moment v turn (inr (inl w)) ok e lasts =
    by_sent (sent-next v Handling pt (Ask (enquiry_command settings)) turn w.stage (λ looking. no-true looking) (ap first_call w.calls) (of-round-quiet turn e) ok)
  where
    by_sent : IsSentTo pt (canonical_command (enquiry_command settings)) turn → (turn ≡ SentPt pt (canonical_command (enquiry_command settings)) true) ⊎ OrOver settings records pt moment (after_turn v turn)
    by_sent (inl sent) = inl sent
    by_sent (inr (taken, prefix, failed)) = inr (inr (inr (inl (subst (λ t. OwesNext (OwedCutPt pt) (after_turn v t)) (sym failed) (record { stage = ap busy w.stage; calls = refl })))))
turn-over settings records pt moment v turn (inr (inr (inl w))) ok e lasts = absurd (lasts (inr (inl (cut-is pt turn (cut-makes pt v turn w.stage (ap first_call w.calls) ok e)))))
turn-over settings records pt moment v turn (inr (inr (inr dead))) ok e lasts = inr (inr (inr (inr (dead-turn v turn dead ok e))))

-- ---- along the course

sent-later : (settings : Pt) (pt : ℕ) (turn : Turn) (turns : List Turn) → IsEnquiredIn settings pt turns → IsEnquiredIn settings pt (turn ∷ turns)
sent-later settings pt turn turns (first, rest, e) = (turn ∷ first, rest, ap (λ l. turn ∷ l) e)

-- nothing of it is left once the next poll may come
none-over : {A : Type 0} (settings : Pt) (records : List Record) (pt moment : ℕ) (v : View) → OrOver settings records pt moment v → MayPoll v → A
none-over settings records pt moment v (inl p) may = absurd (subst (WillEnd IsDone pt moment p.terminal) may.items p.will)
none-over settings records pt moment v (inr (inl w)) may = absurd (let n : [] ≡ enquiry_call settings pt ∷ [] = sym may.calls ∙ w.calls in cc)
none-over settings records pt moment v (inr (inr (inl w))) may = absurd (let n : [] ≡ OwedCutPt pt ∷ [] = sym may.calls ∙ w.calls in cc)
none-over settings records pt moment v (inr (inr (inr dead))) may = dead-running v.scene.stage dead may.running

moves-enquire : (settings : Pt) (records : List Record) (pt moment : ℕ) (v : View) (moves : List Move) → OrOver settings records pt moment v → IsCourse v moves → AreOfRound (turns_of moves) → EndsNone pt (turns_of moves) → MayPoll (view_from v moves) → IsEnquiredIn settings pt (turns_of moves)
moves-enquire settings records pt moment v [] h c a lasts may = none-over settings records pt moment v h may
moves-enquire settings records pt moment v (Begin ∷ moves) h c a lasts may = moves-enquire settings records pt moment (after v Begin) moves (begin-over settings records pt moment v h c.0) c.1 a lasts may
moves-enquire settings records pt moment v (Read as_read ∷ moves) h c a lasts may = moves-enquire settings records pt moment (after v (Read as_read)) moves (read-over settings records pt moment v as_read h c.0) c.1 a lasts may
moves-enquire settings records pt moment v (Make turn ∷ moves) h c a lasts may =
    by_turn (λ next. moves-enquire settings records pt moment (after_turn v turn) moves next c.1 a.1 lasts.1 may) (turn-over settings records pt moment v turn h c.0 a.0 lasts.0)
  where
    by_turn : (OrOver settings records pt moment (after_turn v turn) → IsEnquiredIn settings pt (turns_of moves)) → (turn ≡ SentPt pt (canonical_command (enquiry_command settings)) true) ⊎ OrOver settings records pt moment (after_turn v turn) → IsEnquiredIn settings pt (turn ∷ turns_of moves)
    by_turn more (inl sent) = ([], turns_of moves, ap (λ t. t ∷ turns_of moves) sent)
    by_turn more (inr next) = sent-later settings pt turn (turns_of moves) (more next)

pub done-is-enquired : DoneRegistrationIsEnquired
done-is-enquired log v moves pt terminal e =
    let p = heard-pending IsDone Registering log v moves pt terminal e in
    moves-enquire terminal.pt v.scene.kept pt v.scene.outside.moment (after_turn v (HeardPt pt e.chunk)) moves (inl p) e.lawful.1 e.round e.lasts e.may_poll
