-- What holds from step to step where acts go with a site that plays lines: once the file was looked at, a read of it doesn't fail any more.
use Rattle.std.proofs.Common.{◌≡◌, ℕ, List, [], ◌∷◌, refl, sym, ◌∙◌, ap, subst, inl, inr, true, false}
use Rattle.std.specs.Prelude.{◌==◌, ◌-◌, nat_le, Bool, not, Option, Some, None, is_some, if◌then◌else◌, map}
use Rattle.gw_base.specs.declared.setup.Setup.{Setup}
use Rattle.gw_site.specs.Outside.{Outside}
use Rattle.gw_site.specs.Steps.{ImageKind, SiteCall, PollCall, LengthCall}
use Rattle.gw_site.specs.declared.turn.Turn.{Turn}
use Rattle.gw_site.specs.declared.turn.Turn.TheVariants.{Polled, Linked, LinkFailed, SentTill, SentPt, Wrote, Synced, DiskFailed}
use Rattle.gw_script.specs.site.Calls.{call_turns, place_after, play_from, polled_place, polled_turns}
use Rattle.gw_script.specs.site.Hazards.{Armed, armed, is_failing, is_reached, sends_without, links_without, sent_of, takes_most}
use Rattle.gw_script.specs.site.Playing as playing
use Rattle.gw_script.specs.site.Playing.{Play, after_poll, applies, brings, counted, fails_next, is_off, linked_to_pt, met, met_coming, one_call_less, power_forgotten, powered, send_failed_pt, send_failed_till, sent_to_pt, then_coming}
use Rattle.gw_script.specs.site.ScriptLine.{Event, Open, Close, FromTill, FromPt, Lose, Tick, PlayedLine, At, Poll, Fail, Power, ForgetPower}
use Rattle.gw_script.proofs.site.QuietLemmas.{on_or_off}
use Rattle.gw_owes.specs.Calls as owed
use Rattle.gw_owes.specs.Calls.{OwedCall, SendTill, SendPt, LinkPt, WriteBody, WriteGate, WriteFirstGate, Sync, site_call, sending_bytes}
use Rattle.gw_owes.specs.Reply.{reply_value_bytes}
use Rattle.gw_rules.specs.Acts.{Look, Unopened, Unmeasured, Measured, Looked, IsDueCall, IsMeasuring, IsOwedCall, IsReading, is_to_read, look_after_call}
use Rattle.gw_rules.specs.Stage.{Stage, Resting, Opening, Looking, AtPoll, Handling, Over, Broken, busy, is_looking, is_round, stage_synced, stage_wrote}
use Rattle.gw_rules.specs.View.{View, Make, after_turn, view_from}
use Rattle.gw_rules.proofs.StageLemmas.{no-true}
use Rattle.gw_run.proofs.OneLogStepLemmas.{IsPastOpening, to-read-looks}

-- ---- stages

-- the first sync of an opening is owed
abbrev pub is_opening : Stage → Bool
is_opening Resting = false
is_opening (Opening refused) = true
is_opening (Looking refused) = false
is_opening AtPoll = false
is_opening Handling = false
is_opening Over = false
is_opening Broken = false

busy-opening : (s : Stage) → is_opening s ≡ false → is_opening (busy s) ≡ false
busy-opening Resting e = refl
busy-opening (Opening refused) e = e
busy-opening (Looking refused) e = refl
busy-opening AtPoll e = refl
busy-opening Handling e = refl
busy-opening Over e = refl
busy-opening Broken e = refl

busy-looks : (s : Stage) → is_looking (busy s) ≡ true → busy s ≡ s
busy-looks Resting e = refl
busy-looks (Opening refused) e = refl
busy-looks (Looking refused) e = refl
busy-looks AtPoll e = no-true e
busy-looks Handling e = no-true e
busy-looks Over e = refl
busy-looks Broken e = refl

synced-opening : (s : Stage) → is_opening (stage_synced s) ≡ false
synced-opening Resting = refl
synced-opening (Opening refused) = refl
synced-opening (Looking refused) = refl
synced-opening AtPoll = refl
synced-opening Handling = refl
synced-opening Over = refl
synced-opening Broken = refl

synced-looks : (s : Stage) → is_opening s ≡ false → is_looking (stage_synced s) ≡ true → stage_synced s ≡ s
synced-looks Resting e looks = refl
synced-looks (Opening refused) e looks = no-true (sym e)
synced-looks (Looking refused) e looks = refl
synced-looks AtPoll e looks = no-true looks
synced-looks Handling e looks = no-true looks
synced-looks Over e looks = refl
synced-looks Broken e looks = refl

wrote-opening : (s : Stage) → is_opening s ≡ false → is_opening (stage_wrote s) ≡ false
wrote-opening Resting e = refl
wrote-opening (Opening refused) e = e
wrote-opening (Looking refused) e = refl
wrote-opening AtPoll e = refl
wrote-opening Handling e = refl
wrote-opening Over e = refl
wrote-opening Broken e = refl

wrote-looks : (s : Stage) → is_looking (stage_wrote s) ≡ false
wrote-looks Resting = refl
wrote-looks (Opening refused) = refl
wrote-looks (Looking refused) = refl
wrote-looks AtPoll = refl
wrote-looks Handling = refl
wrote-looks Over = refl
wrote-looks Broken = refl

looks-not-opening : (s : Stage) → is_looking s ≡ true → is_opening s ≡ false
looks-not-opening Resting e = refl
looks-not-opening (Opening refused) e = no-true e
looks-not-opening (Looking refused) e = refl
looks-not-opening AtPoll e = refl
looks-not-opening Handling e = refl
looks-not-opening Over e = refl
looks-not-opening Broken e = refl

-- ---- a step leads from one view and place to others

-- no first sync is owed then; and where the file is looked at then, all was so before
record Leads (v : View) (p : Play) (w : View) (q : Play) : Type 0 where
  opening : is_opening w.scene.stage ≡ false
  stage : q.off ≡ None → is_looking w.scene.stage ≡ true → w.scene.stage ≡ v.scene.stage
  file : q.off ≡ None → is_looking w.scene.stage ≡ true → w.scene.outside.file ≡ v.scene.outside.file
  read : q.off ≡ None → is_looking w.scene.stage ≡ true → q.hazard.fail_read ≡ p.hazard.fail_read

busy-leads : (v : View) (p : Play) (w : View) (q : Play) → is_opening v.scene.stage ≡ false → w.scene.stage ≡ busy v.scene.stage → w.scene.outside.file ≡ v.scene.outside.file → q.hazard.fail_read ≡ p.hazard.fail_read → Leads v p w q
busy-leads v p w q o s f r = record {
  opening = ap is_opening s ∙ busy-opening v.scene.stage o;
  stage = λ on looks. s ∙ busy-looks v.scene.stage (sym (ap is_looking s) ∙ looks);
  file = λ on looks. f;
  read = λ on looks. r;
}

-- where the file isn't looked at any more
away-leads : (v : View) (p : Play) (w : View) (q : Play) → is_opening w.scene.stage ≡ false → is_looking w.scene.stage ≡ false → Leads v p w q
away-leads v p w q o l = record {
  opening = o;
  stage = λ on looks. no-true (sym l ∙ looks);
  file = λ on looks. no-true (sym l ∙ looks);
  read = λ on looks. no-true (sym l ∙ looks);
}

less-read : (power : Option Armed) (p : Play) → (one_call_less power p).hazard.fail_read ≡ p.hazard.fail_read
less-read None p = refl
less-read (Some one) p = by_test (nat_le one.calls 1)
  where
    by_test : (test : Bool) → (if test then is_off one.kind p else powered (one.calls - 1) one.kind p).hazard.fail_read ≡ p.hazard.fail_read
    by_test true = refl
    by_test false = refl

counted-read : (p : Play) → (counted p).hazard.fail_read ≡ p.hazard.fail_read
counted-read p = less-read p.hazard.power p

till-leads : (v : View) (p : Play) (till : ℕ) (bytes : List ℕ) (ok : Bool) → is_opening v.scene.stage ≡ false → Leads v p (after_turn v (SentTill till bytes ok)) (send_failed_till till ok p)
till-leads v p till bytes true o = busy-leads v p _ (counted p) o refl refl (counted-read p)
till-leads v p till bytes false o = busy-leads v p _ (counted (record p { hazard = record p.hazard { fail_tills = sends_without p.hazard.fail_tills till } })) o refl refl (counted-read (record p { hazard = record p.hazard { fail_tills = sends_without p.hazard.fail_tills till } }))

pt-leads : (v : View) (p : Play) (pt : ℕ) (bytes : List ℕ) (ok : Bool) → is_opening v.scene.stage ≡ false → Leads v p (after_turn v (SentPt pt bytes ok)) (send_failed_pt pt ok (sent_to_pt pt bytes p))
pt-leads v p pt bytes true o = busy-leads v p _ (counted (sent_to_pt pt bytes p)) o refl refl (counted-read (sent_to_pt pt bytes p))
pt-leads v p pt bytes false o =
    busy-leads v p _ (counted (record (sent_to_pt pt bytes p) { hazard = record p.hazard { fail_pts = sends_without p.hazard.fail_pts pt } })) o refl refl (counted-read (record (sent_to_pt pt bytes p) { hazard = record p.hazard { fail_pts = sends_without p.hazard.fail_pts pt } }))

link-leads : (v : View) (o : Outside) (p : Play) (pt : ℕ) (fails : Bool) → is_opening v.scene.stage ≡ false →
    Leads v p (view_from v (map Make (if fails then LinkFailed pt ∷ [] else Linked pt ∷ []))) (play_from o playing.Sync p (if fails then LinkFailed pt ∷ [] else Linked pt ∷ []))
link-leads v o p pt true e = busy-leads v p _ (counted (record p { hazard = record p.hazard { fail_links = links_without p.hazard.fail_links pt } })) e refl refl (counted-read (record p { hazard = record p.hazard { fail_links = links_without p.hazard.fail_links pt } }))
link-leads v o p pt false e = busy-leads v p _ (counted (linked_to_pt pt p)) e refl refl (counted-read (linked_to_pt pt p))

write-leads : (v : View) (o : Outside) (p : Play) (offset : ℕ) (bytes : List ℕ) (fails : Bool) → is_opening v.scene.stage ≡ false →
    Leads v p (view_from v (map Make (if fails then Wrote offset bytes ∷ DiskFailed ∷ [] else Wrote offset bytes ∷ []))) (play_from o playing.Write p (if fails then Wrote offset bytes ∷ DiskFailed ∷ [] else Wrote offset bytes ∷ []))
write-leads v o p offset bytes true e = away-leads v p _ _ refl refl
write-leads v o p offset bytes false e = away-leads v p _ _ (wrote-opening v.scene.stage e) (wrote-looks v.scene.stage)

sync-leads : (v : View) (o : Outside) (p : Play) (fails : Bool) → is_opening v.scene.stage ≡ false →
    Leads v p (view_from v (map Make (if fails then DiskFailed ∷ [] else Synced ∷ []))) (play_from o playing.Sync p (if fails then DiskFailed ∷ [] else Synced ∷ []))
sync-leads v o p true e = away-leads v p _ _ refl refl
sync-leads v o p false e = record {
  opening = synced-opening v.scene.stage;
  stage = λ on looks. synced-looks v.scene.stage e looks;
  file = λ on looks. refl;
  read = λ on looks. counted-read p;
}

owed-leads : (v : View) (o : Outside) (p : Play) (call : OwedCall) → is_opening v.scene.stage ≡ false → Leads v p (view_from v (map Make (call_turns o p (site_call call)))) (place_after o p (site_call call))
owed-leads v o p (SendTill till reply) e = till-leads v p till (sent_of (takes_most p.hazard.fail_tills till) (reply_value_bytes reply)) (not (is_some (takes_most p.hazard.fail_tills till))) e
owed-leads v o p (SendPt pt sending) e = pt-leads v p pt (sent_of (takes_most p.hazard.fail_pts pt) (sending_bytes sending)) (not (is_some (takes_most p.hazard.fail_pts pt))) e
owed-leads v o p (owed.CutTill till) e = busy-leads v p _ (counted p) e refl refl (counted-read p)
owed-leads v o p (owed.CutPt pt) e = busy-leads v p _ (counted p) e refl refl (counted-read p)
owed-leads v o p (LinkPt pt) e = link-leads v o p pt (is_failing p.hazard.fail_links pt) e
owed-leads v o p (WriteBody slot the_record) e = write-leads v o p _ _ p.hazard.fail_write e
owed-leads v o p (WriteGate slot the_record) e = write-leads v o p _ _ p.hazard.fail_write e
owed-leads v o p WriteFirstGate e = write-leads v o p _ _ p.hazard.fail_write e
owed-leads v o p Sync e = sync-leads v o p p.hazard.fail_sync e

-- ---- polls

-- after these turns the file isn't looked at, where it wasn't before
abbrev KeepAway : List Turn → Type 0
KeepAway turns = (w : View) → is_opening w.scene.stage ≡ false → is_looking w.scene.stage ≡ false → (is_opening (view_from w (map Make turns)).scene.stage ≡ false) × (is_looking (view_from w (map Make turns)).scene.stage ≡ false)

event-away : (event : Event) → KeepAway (brings event)
event-away (Open till) w o l = (refl, refl)
event-away (Close till) w o l = (refl, refl)
event-away (FromTill till bytes) w o l = (refl, refl)
event-away (FromPt pt bytes) w o l = (refl, refl)
event-away (Lose pt) w o l = (refl, refl)
event-away Tick w o l = (o, l)

met-away : (o : Outside) (p : Play) (lines : List PlayedLine) → KeepAway p.due → KeepAway (met o p lines).due
met-away o p [] away = λ w o l. (refl, refl)
met-away o p (At now ∷ lines) away = met-away o (record p { moment = now }) lines away
met-away o p (Poll event ∷ lines) away = by_test (applies o event) (met-away o p lines away)
  where
    by_test : (test : Bool) → KeepAway (met o p lines).due → KeepAway (if test then record p { lines = lines; due = brings event } else met o p lines).due
    by_test true later = event-away event
    by_test false later = later
met-away o p (Fail failing ∷ lines) away = met-away o (fails_next o failing p) lines (by_test (is_reached o failing))
  where
    by_test : (test : Bool) → KeepAway (if test then record p { hazard = armed failing p.hazard } else p).due
    by_test true = away
    by_test false = away
met-away o p (Power calls kind ∷ lines) away = by_test (calls == 0) (met-away o (powered calls kind p) lines away)
  where
    by_test : (test : Bool) → KeepAway (met o (powered calls kind p) lines).due → KeepAway (if test then is_off kind (record p { lines = lines }) else met o (powered calls kind p) lines).due
    by_test true later = away
    by_test false later = later
met-away o p (ForgetPower ∷ lines) away = met-away o (power_forgotten p) lines away

coming-away : (o : Outside) (p : Play) (events : List Event) → KeepAway p.due → KeepAway (met_coming o events p).due
coming-away o p [] away = met-away o (then_coming [] p) p.lines away
coming-away o p (event ∷ events) away = by_test (applies o event) (coming-away o p events away)
  where
    by_test : (test : Bool) → KeepAway (met_coming o events p).due → KeepAway (if test then record (then_coming events p) { due = brings event } else met_coming o events p).due
    by_test true later = event-away event
    by_test false later = later

poll-leads : (v : View) (o : Outside) (p : Play) → p.due ≡ [] → is_opening v.scene.stage ≡ false → Leads v p (view_from v (map Make (call_turns o p PollCall))) (place_after o p PollCall)
poll-leads v o p none e = by_off (after_poll o p) (coming-away o p p.peers.coming (subst KeepAway (sym none) (λ w o l. (o, l)))) (after_poll o p).off refl
  where
    by_off : (m : Play) → KeepAway m.due → (off : Option ImageKind) → m.off ≡ off → Leads v p (view_from v (map Make (polled_turns m off))) (polled_place m off)
    by_off m away None at =
        let there = away (after_turn v (Polled m.moment)) refl refl in
        away-leads v p _ _ there.0 there.1
    by_off m away (Some kind) at = record {
      opening = e;
      stage = λ on looks. on_or_off m kind on at;
      file = λ on looks. on_or_off m kind on at;
      read = λ on looks. on_or_off m kind on at;
    }

-- ---- what holds

-- before the site is opened no round goes on; once the file was looked at, no first sync is owed, and a file that has slots to read can be read while the power is there
pub record Kept (own : Setup) (v : View) (look : Look) (p : Play) : Type 0 where
  pub unopened : look ≡ Unopened → is_round v.scene.stage ≡ false
  pub opening : look ≡ Looked → is_opening v.scene.stage ≡ false
  pub read : look ≡ Looked → p.off ≡ None → is_to_read own.slots v ≡ true → p.hazard.fail_read ≡ false

-- where the look isn't over
kept-unlooked : (own : Setup) (v : View) (look : Look) (p : Play) → IsPastOpening look → (look ≡ Looked → ⊥) → Kept own v look p
kept-unlooked own v Unopened p opened other = absurd opened
kept-unlooked own v Unmeasured p opened other = record { unopened = λ e. cc; opening = λ e. absurd (other e); read = λ e on to_read. absurd (other e) }
kept-unlooked own v Measured p opened other = record { unopened = λ e. cc; opening = λ e. absurd (other e); read = λ e on to_read. absurd (other e) }
kept-unlooked own v Looked p opened other = absurd (other refl)

kept-looked : (own : Setup) (v : View) (p : Play) → is_opening v.scene.stage ≡ false → (p.off ≡ None → is_to_read own.slots v ≡ true → p.hazard.fail_read ≡ false) → Kept own v Looked p
kept-looked own v p o read = record { unopened = λ e. absurd (let h : Looked ≡ Unopened = e in cc); opening = λ e. o; read = λ e. read }

-- an owed call doesn't change how far it has looked
owed-look : (own : Setup) (v : View) (look : Look) (call : OwedCall) → look_after_call own v look (site_call call) ≡ look
owed-look own v look (SendTill till reply) = refl
owed-look own v look (SendPt pt sending) = refl
owed-look own v look (owed.CutTill till) = refl
owed-look own v look (owed.CutPt pt) = refl
owed-look own v look (LinkPt pt) = refl
owed-look own v look (WriteBody slot the_record) = refl
owed-look own v look (WriteGate slot the_record) = refl
owed-look own v look WriteFirstGate = refl
owed-look own v look Sync = refl

pub owed-looks : (own : Setup) (v : View) (look : Look) (call : SiteCall) → IsOwedCall v call → look_after_call own v look call ≡ look
owed-looks own v look call (inl (owing, next, is)) = ap (look_after_call own v look) is ∙ owed-look own v look owing
owed-looks own v look call (inr (may, is)) = ap (look_after_call own v look) is

-- what a call leads to
abbrev KeptAfter : Setup → View → Look → Outside → Play → SiteCall → Type 0
KeptAfter own v look o p call = Kept own (view_from v (map Make (call_turns o p call))) (look_after_call own v look call) (place_after o p call)

leads-looked : (own : Setup) (v : View) (p : Play) (w : View) (q : Play) → Kept own v Looked p → p.off ≡ None → Leads v p w q → Kept own w Looked q
leads-looked own v p w q kept on l = kept-looked own w q l.opening (λ here to_read.
    let looks = to-read-looks own.slots w to_read in
    let before : is_to_read own.slots v ≡ true = rw (← l.stage here looks, ← l.file here looks) to_read in
    l.read here looks ∙ kept.read refl on before)

owed-kept : (own : Setup) (v : View) (o : Outside) (p : Play) (call : SiteCall) → Kept own v Looked p → p.due ≡ [] → p.off ≡ None → IsOwedCall v call → KeptAfter own v Looked o p call
owed-kept own v o p call kept none on (inl (owing, next, is)) =
    subst (KeptAfter own v Looked o p) (sym is)
    (subst (λ look. Kept own (view_from v (map Make (call_turns o p (site_call owing)))) look (place_after o p (site_call owing))) (sym (owed-look own v Looked owing)) (leads-looked own v p _ _ kept on (owed-leads v o p owing (kept.opening refl))))
owed-kept own v o p call kept none on (inr (may, is)) = subst (KeptAfter own v Looked o p) (sym is) (leads-looked own v p _ _ kept on (poll-leads v o p none (kept.opening refl)))

reading-kept : (own : Setup) (v : View) (look : Look) (o : Outside) (p : Play) (call : SiteCall) → IsReading own.slots v call → KeptAfter own v look o p call
reading-kept own v look o p call r = subst (KeptAfter own v look o p) (sym r.call_is) (by_test p.hazard.fail_read refl)
  where
    by_test : (test : Bool) → p.hazard.fail_read ≡ test → Kept own (view_from v (map Make (if test then DiskFailed ∷ [] else []))) Looked (play_from o playing.Read p (if test then DiskFailed ∷ [] else []))
    by_test true e = kept-looked own (after_turn v DiskFailed) _ refl (λ on to_read. no-true to_read)
    by_test false e = kept-looked own v p (looks-not-opening v.scene.stage (to-read-looks own.slots v r.to_read)) (λ on to_read. e)

length-kept : (own : Setup) (v : View) (look : Look) (o : Outside) (p : Play) → is_looking v.scene.stage ≡ true → KeptAfter own v look o p LengthCall
length-kept own v look o p looks = by_test (is_to_read own.slots v) refl p.hazard.fail_length
  where
    by_test : (test : Bool) → is_to_read own.slots v ≡ test → (fails : Bool) →
        Kept own (view_from v (map Make (if fails then DiskFailed ∷ [] else []))) (if test then Measured else Looked) (play_from o playing.Length p (if fails then DiskFailed ∷ [] else []))
    by_test true e fails = kept-unlooked own _ Measured _ tt (λ n. cc)
    by_test false e true = kept-looked own (after_turn v DiskFailed) _ refl (λ on to_read. no-true to_read)
    by_test false e false = kept-looked own v p (looks-not-opening v.scene.stage looks) (λ on to_read. no-true (sym e ∙ to_read))

measured-kept : (own : Setup) (v : View) (o : Outside) (p : Play) (call : SiteCall) (looks : Bool) → is_looking v.scene.stage ≡ looks → IsMeasuring looks v call → KeptAfter own v Unmeasured o p call
measured-kept own v o p call true e is = subst (KeptAfter own v Unmeasured o p) (sym is) (length-kept own v Unmeasured o p e)
measured-kept own v o p call false e due =
    subst (λ look. Kept own (view_from v (map Make (call_turns o p call))) look (place_after o p call)) (sym (owed-looks own v Unmeasured call due)) (kept-unlooked own _ Unmeasured _ tt (λ n. cc))

-- it holds after each call that is due
pub kept-after : (own : Setup) (v : View) (look : Look) (o : Outside) (p : Play) (call : SiteCall) → Kept own v look p → p.due ≡ [] → p.off ≡ None → IsDueCall own v look call → KeptAfter own v look o p call
kept-after own v Unopened o p call kept none on due = subst (KeptAfter own v Unopened o p) (sym due) (kept-unlooked own _ Unmeasured _ tt (λ n. cc))
kept-after own v Unmeasured o p call kept none on due = measured-kept own v o p call (is_looking v.scene.stage) refl due
kept-after own v Measured o p call kept none on due = reading-kept own v Measured o p call due
kept-after own v Looked o p call kept none on (inl due) = owed-kept own v o p call kept none on due
kept-after own v Looked o p call kept none on (inr due) = reading-kept own v Looked o p call due

-- before the site is opened, where no round goes on
pub kept-unopened : (own : Setup) (v : View) (p : Play) → is_round v.scene.stage ≡ false → Kept own v Unopened p
kept-unopened own v p e = record { unopened = λ same. e; opening = λ same. absurd (let h : Unopened ≡ Looked = same in cc); read = λ same. absurd (let h : Unopened ≡ Looked = same in cc) }

-- in a round it doesn't matter what is looked at
pub kept-round : (own : Setup) (v w : View) (look : Look) (p : Play) → is_round v.scene.stage ≡ true → w.scene.stage ≡ Handling → Kept own v look p → Kept own w look p
kept-round own v w look p round handles kept = record {
  unopened = λ same. no-true (sym (kept.unopened same) ∙ round);
  opening = λ same. ap is_opening handles;
  read = λ same on to_read. no-true (sym (ap is_looking handles) ∙ to-read-looks own.slots w to_read);
}
