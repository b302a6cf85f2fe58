-- What calls and polls add to the log: those that aren't on the disk leave a journal standing, one part of a log follows another, and after which memory may be refused.
use Rattle.std.proofs.Common.{◌≡◌, ◌⊎◌, ◌≤◌, ◌<◌, ℕ, ◌+◌, ◌*◌, List, [], ◌∷◌, ◌++◌, length, get_or, refl, sym, ◌∙◌, ap, subst, arith, append-nil, inl, inr}
use Rattle.std.proofs.lemmas.List.{append_assoc}
use Rattle.std.specs.Prelude.{ℤ, if◌then◌else◌, nat_le, take, Bool, true, false, Option, Some, None, Result, Ok, Err}
use Rattle.gw_site.specs.Failures.{HasCause, Rose}
use Rattle.gw_site.specs.Observed.{Added, Observed, Grows, GrowsBy, IfObserved}
use Rattle.gw_site.specs.Outside.{Outside, outside_from, outside_of}
use Rattle.gw_site.specs.Sorts.{Event, sort_of}
use Rattle.gw_site.specs.Turns.{IsTurn, LinkTurns, PolledTurns, SentPtTurns, SentTillTurns, event_turns}
use Rattle.gw_site.specs.declared.site.Polled.{Polled}
use Rattle.gw_site.specs.declared.site.What.{What}
use Rattle.gw_site.specs.declared.site.What.TheVariants as whats
use Rattle.gw_site.specs.declared.turn.Turn.{Turn}
use Rattle.gw_site.specs.declared.turn.Turn.TheVariants.{CutPt, CutTill, HeardTill, Opened, SentPt, SentTill, Synced, Polled as PolledTurn, Stopped as StopTurn}
use Rattle.gw_site.proofs.OutsideLemmas.{outside_of-append}
use Rattle.jrn_log.specs.Journal.{IsAtRest, JournalValue, StandsFor}
use Rattle.jrn_log.specs.JournalTurns.{AppendTurns, FailedTurns, OpeningTurns, first_gate_write}
use Rattle.jrn_log.specs.Slots.{AreSlots}
use Rattle.jrn_log.specs.declared.fault.OpenFault.{OpenFault}
use Rattle.jrn_log.specs.declared.fault.OpenFault.TheVariants.{Disk as JournalDisk, TooLong, Cut, Memory}
use Rattle.jrn_log.proofs.SequenceLemmas.{added_whole}
use Rattle.gw_dispatch.specs.Growth.{AddsPolls, AreOutcomes, EndsForMemory, EndsForMemorySince, EndsRoundForMemory, GoesOnByCalls, GoesOnByPolls, HasGoneOn, GoesOnBesideDisk, HasBroken, LastTakesMemory, MakesPolls, EndsWithStop, PollsToEnd, polls_in, polls_of, takes_memory}
use Rattle.gw_dispatch.specs.Rounds.{HasPolledOnce, IsOfTill}
use Rattle.gw_dispatch.specs.declared.engine.RoundEnd.TheVariants.{Went, Stopped}

-- ---- outcomes of calls

outcomes-append : (one other : List Turn) → AreOutcomes one → AreOutcomes other → AreOutcomes (one ++ other)
outcomes-append [] other are more = more
outcomes-append (turn ∷ turns) other are more = (are.0, outcomes-append turns other are.1 more)

outcomes-prefix : (one other : List Turn) → AreOutcomes (one ++ other) → AreOutcomes one
outcomes-prefix [] other are = tt
outcomes-prefix (turn ∷ turns) other are = (are.0, outcomes-prefix turns other are.1)

-- what a site that may go dark adds of them are such
outcomes-added : (old new : Bool) (turns added : List Turn) → Added old new turns added → AreOutcomes turns → AreOutcomes added
outcomes-added true true turns added a are = subst AreOutcomes (sym a) tt
outcomes-added true false turns added a are = absurd a
outcomes-added false true turns added a are = outcomes-prefix added a.0 (subst AreOutcomes a.1 are)
outcomes-added false false turns added a are = subst AreOutcomes (sym a) are

-- a call whose turns are such
pub grows-by-calls : {Call : List Turn → List Turn → Type 0} (a b : Observed) → GrowsBy Added a b Call → ((before turns : List Turn) → Call before turns → AreOutcomes turns) → IfObserved a (λ log. GoesOnByCalls log b)
grows-by-calls a b grows are before e = let x = grows.observed before e in (x.1, x.4, outcomes-added a.dark b.dark x.0 x.1 x.3 (are before x.0 x.2))

-- ---- polls

polls-append : (one other : List Turn) → polls_in (one ++ other) ≡ polls_in one + polls_in other
polls-append [] other = omega arith
polls-append (turn ∷ turns) other = let more = polls-append turns other in omega (arith, more)

-- outcomes of calls are no polls
outcomes-polls : (turns : List Turn) → AreOutcomes turns → polls_in turns ≡ 0
outcomes-polls [] are = refl
outcomes-polls (turn ∷ turns) are = let none = ap polls_of are.0 in let more = outcomes-polls turns are.1 in omega (arith, none, more)

-- a poll and its event are one
polled-once : (now : ℤ) (what : What) (buf : List ℕ) → polls_in (PolledTurn now ∷ event_turns what buf) ≡ 1
polled-once now (whats.TillOpened till) buf = refl
polled-once now (whats.TillBytes till count) buf = refl
polled-once now (whats.TillClosed till) buf = refl
polled-once now (whats.PtBytes pt count) buf = refl
polled-once now (whats.PtClosed pt) buf = refl
polled-once now whats.Nothing buf = refl
polled-once now whats.Stopped buf = refl

-- what a site that may go dark adds of turns has no more polls than they
polls-added : (old new : Bool) (turns added : List Turn) → Added old new turns added → polls_in added ≤ polls_in turns
polls-added true true turns added a = let none = ap polls_in a in omega (arith, none)
polls-added true false turns added a = absurd a
polls-added false true turns added a = let all = ap polls_in a.1 in let parts = polls-append added a.0 in omega (arith, all, parts)
polls-added false false turns added a = let same = ap polls_in a in omega (arith, same)

-- ---- logs

-- these turns leave the disk as it is
record AreBesideDisk (turns : List Turn) : Type 0 where
  file : (o : Outside) → (outside_from o turns).file ≡ o.file
  stable : (o : Outside) → (outside_from o turns).stable ≡ o.stable
  written : (o : Outside) → (outside_from o turns).written ≡ o.written

-- a log at rest is still so after turns that leave the disk
rests-on : (log turns : List Turn) (len : ℕ) → AreBesideDisk turns → IsAtRest log len → IsAtRest (log ++ turns) len
rests-on log turns len beside rest = record {
  synced = file ∙ rest.synced ∙ sym stable;
  clean = ap (λ (o : Outside). o.written) (outside_of-append log turns) ∙ beside.written (outside_of log) ∙ rest.clean;
  kept = (rest.kept.0, subst (λ f. AreSlots f rest.kept.0) (sym stable) rest.kept.1, rest.kept.2);
  gate = subst (λ (f : List ℕ). 256 * len < length f) (sym file) rest.gate;
  closed = λ e. rest.closed (sym (ap (λ f. get_or f (256 * len) 0) file) ∙ e);
}
  where
    file : (outside_of (log ++ turns)).file ≡ (outside_of log).file
    file = ap (λ (o : Outside). o.file) (outside_of-append log turns) ∙ beside.file (outside_of log)

    stable : (outside_of (log ++ turns)).stable ≡ (outside_of log).stable
    stable = ap (λ (o : Outside). o.stable) (outside_of-append log turns) ∙ beside.stable (outside_of log)

-- ---- one call

some-same : {T : Type 0} (x y : T) → Some x ≡ Some y → x ≡ y
some-same x y e = cc

lit-before : (a b : Observed) (dark : Bool) → a.dark ≡ dark → (a.dark ≡ true → b.dark ≡ true) → b.dark ≡ false → a.dark ≡ false
lit-before a b true e stays lit = absurd (let h : true ≡ false = sym (stays e) ∙ lit in cc)
lit-before a b false e stays lit = e

-- a call whose turns leave the disk leaves a journal standing
grown-stands : (a b : Observed) (Call : List Turn → Type 0) → Grows a b Call → ((turns : List Turn) → Call turns → AreBesideDisk turns) → (journal : JournalValue) → StandsFor journal a → StandsFor journal b
grown-stands a b Call grows beside journal stood lit log e = standing a.log refl
  where
    standing : (old : Option (List Turn)) → a.log ≡ old → IsAtRest log journal.len
    standing None old = absurd (let h : Some log ≡ None = sym e ∙ grows.unobserved old in cc)
    standing (Some before) old =
        let x = grows.observed before old in
        let same : log ≡ before ++ x.0 = some-same log (before ++ x.0) (sym e ∙ x.4 ∙ ap (λ added. Some (before ++ added)) (added_whole a.dark b.dark x.0 x.1 x.3 lit)) in
        subst (λ l. IsAtRest l journal.len) (sym same) (rests-on before x.0 journal.len (beside x.0 x.2) (stood (lit-before a b a.dark refl grows.stays lit) before old))

-- these turns leave the disk, and are outcomes of calls
record AreCallsBesideDisk (turns : List Turn) : Type 0 where
  beside : AreBesideDisk turns
  outcomes : AreOutcomes turns

-- a call with such turns
grown : (a b : Observed) (Call : List Turn → Type 0) → Grows a b Call → ((turns : List Turn) → Call turns → AreCallsBesideDisk turns) → a.faults ≤ b.faults → GoesOnBesideDisk a b
grown a b Call grows are later = record {
  goes_on = record { later = later; adds = grows-by-calls {Call = λ before. Call} a b grows (λ before turns call. (are turns call).outcomes) };
  stands = grown-stands a b Call grows (λ turns call. (are turns call).beside);
}

-- ---- turns

beside-sent-pt : (pt : ℕ) (bytes : List ℕ) (sent : Bool) → AreCallsBesideDisk (SentPt pt bytes sent ∷ [])
beside-sent-pt pt bytes sent = record { beside = record { file = λ o. refl; stable = λ o. refl; written = λ o. refl }; outcomes = (refl, tt) }

beside-sent-till : (till : ℕ) (bytes : List ℕ) (sent : Bool) → AreCallsBesideDisk (SentTill till bytes sent ∷ [])
beside-sent-till till bytes sent = record { beside = record { file = λ o. refl; stable = λ o. refl; written = λ o. refl }; outcomes = (refl, tt) }

sent-pt-turns : {E : Type 0} (pt : ℕ) (bytes : List ℕ) (result : Result (Unit {0}) E) (turns : List Turn) → SentPtTurns pt bytes result turns → AreCallsBesideDisk turns
sent-pt-turns pt bytes (Ok done) turns h = subst AreCallsBesideDisk (sym h) (beside-sent-pt pt bytes true)
sent-pt-turns pt bytes (Err failed) turns h = subst AreCallsBesideDisk (sym h.2) (beside-sent-pt pt h.0 false)

sent-till-turns : {E : Type 0} (till : ℕ) (bytes : List ℕ) (result : Result (Unit {0}) E) (turns : List Turn) → SentTillTurns till bytes result turns → AreCallsBesideDisk turns
sent-till-turns till bytes (Ok done) turns h = subst AreCallsBesideDisk (sym h) (beside-sent-till till bytes true)
sent-till-turns till bytes (Err failed) turns h = subst AreCallsBesideDisk (sym h.2) (beside-sent-till till h.0 false)

link-turns : {E : Type 0} (pt : ℕ) (result : Result (Unit {0}) E) (turns : List Turn) → LinkTurns pt result turns → AreCallsBesideDisk turns
link-turns pt (Ok done) turns h = subst AreCallsBesideDisk (sym h) (record { beside = record { file = λ o. refl; stable = λ o. refl; written = λ o. refl }; outcomes = (refl, tt) })
link-turns pt (Err failed) turns h = subst AreCallsBesideDisk (sym h) (record { beside = record { file = λ o. refl; stable = λ o. refl; written = λ o. refl }; outcomes = (refl, tt) })

polled-turns : (result : Polled) (what : What) (buf : List ℕ) → AreBesideDisk (PolledTurn result.now ∷ event_turns what buf)
polled-turns result (whats.TillOpened till) buf = record { file = λ o. refl; stable = λ o. refl; written = λ o. refl }
polled-turns result (whats.TillBytes till count) buf = record { file = λ o. refl; stable = λ o. refl; written = λ o. refl }
polled-turns result (whats.TillClosed till) buf = record { file = λ o. refl; stable = λ o. refl; written = λ o. refl }
polled-turns result (whats.PtBytes pt count) buf = record { file = λ o. refl; stable = λ o. refl; written = λ o. refl }
polled-turns result (whats.PtClosed pt) buf = record { file = λ o. refl; stable = λ o. refl; written = λ o. refl }
polled-turns result whats.Nothing buf = record { file = λ o. refl; stable = λ o. refl; written = λ o. refl }
polled-turns result whats.Stopped buf = record { file = λ o. refl; stable = λ o. refl; written = λ o. refl }

-- ---- the calls off the disk

-- a send to a terminal
pub pt-sent : {E : Type 0} (a b : Observed) (pt : ℕ) (bytes : List ℕ) (result : Result (Unit {0}) E) → Grows a b (SentPtTurns pt bytes result) → HasCause a.faults b.faults result → GoesOnBesideDisk a b
pt-sent a b pt bytes result grows cause = grown a b (SentPtTurns pt bytes result) grows (sent-pt-turns pt bytes result) cause.later

-- a send to a till
pub till-sent : {E : Type 0} (a b : Observed) (till : ℕ) (bytes : List ℕ) (result : Result (Unit {0}) E) → Grows a b (SentTillTurns till bytes result) → HasCause a.faults b.faults result → GoesOnBesideDisk a b
till-sent a b till bytes result grows cause = grown a b (SentTillTurns till bytes result) grows (sent-till-turns till bytes result) cause.later

-- the link of a terminal
pub pt-linked : {E : Type 0} (a b : Observed) (pt : ℕ) (result : Result (Unit {0}) E) → Grows a b (LinkTurns pt result) → HasCause a.faults b.faults result → GoesOnBesideDisk a b
pt-linked a b pt result grows cause = grown a b (LinkTurns pt result) grows (link-turns pt result) cause.later

-- the cut of a terminal
pub pt-was-cut : (a b : Observed) (pt : ℕ) → Grows a b (IsTurn (CutPt pt)) → a.faults ≤ b.faults → GoesOnBesideDisk a b
pt-was-cut a b pt grows later = grown a b (IsTurn (CutPt pt)) grows (λ turns h. subst AreCallsBesideDisk (sym h) (record { beside = record { file = λ o. refl; stable = λ o. refl; written = λ o. refl }; outcomes = (refl, tt) })) later

-- the cut of a till
pub till-was-cut : (a b : Observed) (till : ℕ) → Grows a b (IsTurn (CutTill till)) → a.faults ≤ b.faults → GoesOnBesideDisk a b
till-was-cut a b till grows later = grown a b (IsTurn (CutTill till)) grows (λ turns h. subst AreCallsBesideDisk (sym h) (record { beside = record { file = λ o. refl; stable = λ o. refl; written = λ o. refl }; outcomes = (refl, tt) })) later

-- ---- a poll

-- a poll leaves a journal standing
pub polled-stands : (a b : Observed) (result : Polled) (buf : List ℕ) → Grows a b (PolledTurns result buf) → (journal : JournalValue) → StandsFor journal a → StandsFor journal b
polled-stands a b result buf grows = grown-stands a b (PolledTurns result buf) grows (λ turns h. subst AreBesideDisk (sym h) (polled-turns result result.what buf))

-- and is one poll at most
pub was-polled : (a b : Observed) (result : Polled) (buf : List ℕ) → Grows a b (PolledTurns result buf) → a.faults ≤ b.faults → GoesOnByPolls 1 a b
was-polled a b result buf grows later = record {
  later = later;
  adds = λ before e.
      let x = grows.observed before e in
      let few = polls-added a.dark b.dark x.0 x.1 x.3 in
      let once = ap polls_in x.2 ∙ polled-once result.now result.what buf in
      (x.1, x.4, omega (arith, few, once));
}

-- one that brought this event was exactly one
polled-exactly : (a b : Observed) (result : Polled) (buf : List ℕ) → Grows a b (PolledTurns result buf) → IfObserved a (λ before. MakesPolls 1 before b)
polled-exactly a b result buf grows before e = let x = grows.observed before e in by_dark a.dark b.dark x.0 x.1 refl x.2 x.3 x.4
  where
    by_dark : (d n : Bool) (turns added : List Turn) → b.dark ≡ n → PolledTurns result buf turns → Added d n turns added → b.log ≡ Some (before ++ added) → MakesPolls 1 before b
    by_dark true true turns added dark t a log = inl dark
    by_dark true false turns added dark t a log = absurd a
    by_dark false true turns added dark t a log = inl dark
    by_dark false false turns added dark t a log = inr (added, log, ap polls_in (a ∙ t) ∙ polled-once result.now result.what buf)

-- a poll that has brought the stop, after which nothing came
pub stop-polled : (a b c : Observed) (result : Polled) (buf : List ℕ) → Grows a b (PolledTurns result buf) → result.what ≡ whats.Stopped → c ≡ b → IfObserved a (λ before. HasPolledOnce Stopped before c)
stop-polled a b c result buf grows stops same before e = let x = grows.observed before e in subst (HasPolledOnce Stopped before) (sym same) (by_dark a.dark b.dark x.0 x.1 refl x.2 x.3 x.4)
  where
    by_dark : (d n : Bool) (turns added : List Turn) → b.dark ≡ n → PolledTurns result buf turns → Added d n turns added → b.log ≡ Some (before ++ added) → HasPolledOnce Stopped before b
    by_dark true true turns added dark t a log = inl dark
    by_dark true false turns added dark t a log = absurd a
    by_dark false true turns added dark t a log = inl dark
    by_dark false false turns added dark t a log = inr (result.now, log ∙ ap (λ more. Some (before ++ more)) (a ∙ t ∙ ap (λ what. PolledTurn result.now ∷ event_turns what buf) stops))

-- ---- the calls of the journal

failed-outcomes : (file : List ℕ) (turns : List Turn) → FailedTurns file turns → AreOutcomes turns
failed-outcomes file turns (inl e) = subst AreOutcomes (sym e) (refl, tt)
failed-outcomes file turns (inr (inl e)) = subst AreOutcomes (sym e) (refl, (refl, tt))
failed-outcomes file turns (inr (inr (le, e))) = subst AreOutcomes (sym e) (refl, (refl, (refl, tt)))

gate-outcomes : (small : Bool) → AreOutcomes (if small then first_gate_write ∷ Synced ∷ [] else [])
gate-outcomes true = (refl, (refl, tt))
gate-outcomes false = tt

opening-outcomes : {T : Type 0} (file : List ℕ) (result : Result T OpenFault) (turns : List Turn) → OpeningTurns file result turns → AreOutcomes turns
opening-outcomes file (Ok opened) turns e = subst AreOutcomes (sym e) (refl, gate-outcomes (nat_le (length file) 1))
opening-outcomes file (Err JournalDisk) turns h = failed-outcomes file turns h
opening-outcomes file (Err (TooLong count)) turns e = subst AreOutcomes (sym e) (refl, tt)
opening-outcomes file (Err (Cut slot)) turns e = subst AreOutcomes (sym e) (refl, tt)
opening-outcomes file (Err Memory) turns e = subst AreOutcomes (sym e) (refl, tt)

-- what an opening does is added to the log
pub opening-adds : {T : Type 0} (result : Result T OpenFault) (a b : Observed) → GrowsBy Added a b (λ before. OpeningTurns (outside_of before).file result) → IfObserved a (λ log. GoesOnByCalls log b)
opening-adds result a b grows = grows-by-calls {Call = λ before. OpeningTurns (outside_of before).file result} a b grows (λ before turns. opening-outcomes (outside_of before).file result turns)

append-outcomes : {T E : Type 0} (slot : ℕ) (body : List ℕ) (result : Result T E) (turns : List Turn) → AppendTurns slot body result turns → AreOutcomes turns
append-outcomes slot body (Ok given) turns e = subst AreOutcomes (sym e) (refl, (refl, (refl, (refl, tt))))
append-outcomes slot body (Err failed) turns (inl e) = subst AreOutcomes (sym e) (refl, (refl, tt))
append-outcomes slot body (Err failed) turns (inr e) = subst AreOutcomes (sym e) (refl, (refl, (refl, (refl, tt))))

-- so is what an append does
pub appended : {T E : Type 0} (a b : Observed) (slot : ℕ) (body : List ℕ) (result : Result T E) → Grows a b (AppendTurns slot body result) → a.faults ≤ b.faults → HasGoneOn a b
appended a b slot body result grows later = record { later = later; adds = grows-by-calls {Call = λ before. AppendTurns slot body result} a b grows (λ before. append-outcomes slot body result) }

-- ---- one after the other

-- nothing was called
pub goes-nowhere : (a : Observed) → HasGoneOn a a
goes-nowhere a = record { later = omega arith; adds = λ log e. ([], e ∙ ap Some (sym (append-nil log)), tt) }

pub still-stands : (a : Observed) → GoesOnBesideDisk a a
still-stands a = record { goes_on = goes-nowhere a; stands = λ journal stood. stood }

pub calls-then : (before : List Turn) (b c : Observed) → GoesOnByCalls before b → IfObserved b (λ log. GoesOnByCalls log c) → GoesOnByCalls before c
calls-then before b c x other = let y = other (before ++ x.0) x.1 in (x.0 ++ y.0, y.1 ∙ ap Some (append_assoc before x.0 y.0), outcomes-append x.0 y.0 x.2 y.2)

pub goes-then : (a b c : Observed) → HasGoneOn a b → HasGoneOn b c → HasGoneOn a c
goes-then a b c one other = record {
  later = omega (arith, one.later, other.later);
  adds = λ log e. calls-then log b c (one.adds log e) other.adds;
}

pub stands-then : (a b c : Observed) → GoesOnBesideDisk a b → GoesOnBesideDisk b c → GoesOnBesideDisk a c
stands-then a b c one other = record { goes_on = goes-then a b c one.goes_on other.goes_on; stands = λ journal stood. other.stands journal (one.stands journal stood) }

-- a count that rose after it has stayed or grown has risen
rises-then : (a b c : ℕ) → a ≤ b → Rose b c → Rose a c
rises-then a b c later rose = omega (arith, later, rose)

-- a failure of the disk at the end
pub breaks-then : (a b c : Observed) → HasGoneOn a b → HasBroken b c → HasBroken a c
breaks-then a b c one broken = record {
  rose = rises-then a.faults b.faults c.faults one.later broken.rose;
  ends = λ log e. let x = one.adds log e in broken.ends (log ++ x.0) x.1;
}

-- ---- rounds, one after the other

-- what is so of a log is so after turns with some polls
pub after-polls : {P : Type 0} (most : ℕ) (a b : Observed) → GoesOnByPolls most a b → IfObserved b (λ log. P) → IfObserved a (λ log. P)
after-polls most a b goes holds before e = let x = goes.adds before e in holds (before ++ x.0) x.1

pub adds-then : (one other most : ℕ) (before : List Turn) (b c : Observed) → one + other ≤ most → AddsPolls one before b → IfObserved b (λ log. AddsPolls other log c) → AddsPolls most before c
adds-then one other most before b c few x more =
    let y = more (before ++ x.0) x.1 in
    let parts = polls-append x.0 y.0 in
    (x.0 ++ y.0, y.1 ∙ ap Some (append_assoc before x.0 y.0), omega (arith, few, x.2, y.2, parts))

pub polls-then : (one other most : ℕ) (a b c : Observed) → one + other ≤ most → GoesOnByPolls one a b → GoesOnByPolls other b c → GoesOnByPolls most a c
polls-then one other most a b c few goes more = record {
  later = omega (arith, goes.later, more.later);
  adds = λ before e. adds-then one other most before b c few (goes.adds before e) more.adds;
}

pub adds-within : (fewer most : ℕ) (before : List Turn) (b : Observed) → fewer ≤ most → AddsPolls fewer before b → AddsPolls most before b
adds-within fewer most before b within x = (x.0, x.1, omega (arith, within, x.2))

pub polls-within : (fewer most : ℕ) (a b : Observed) → fewer ≤ most → GoesOnByPolls fewer a b → GoesOnByPolls most a b
polls-within fewer most a b within goes = record { later = goes.later; adds = λ before e. adds-within fewer most before b within (goes.adds before e) }

-- calls make no poll
pub calls-poll-none : (most : ℕ) (before : List Turn) (b : Observed) → GoesOnByCalls before b → AddsPolls most before b
calls-poll-none most before b x = let none = outcomes-polls x.0 x.2 in (x.0, x.1, omega (arith, none))

pub goes-without-poll : (most : ℕ) (a b : Observed) → HasGoneOn a b → GoesOnByPolls most a b
goes-without-poll most a b goes = record { later = goes.later; adds = λ before e. calls-poll-none most before b (goes.adds before e) }

pub polls-then-calls : (most : ℕ) (a b c : Observed) → GoesOnByPolls most a b → HasGoneOn b c → GoesOnByPolls most a c
polls-then-calls most a b c one other = polls-then most 0 most a b c (omega arith) one (goes-without-poll 0 b c other)

-- a failure of the disk at the end
pub breaks-after : (most : ℕ) (a b c : Observed) → GoesOnByPolls most a b → HasBroken b c → HasBroken a c
breaks-after most a b c one broken = record {
  rose = rises-then a.faults b.faults c.faults one.later broken.rose;
  ends = after-polls most a b one broken.ends;
}

-- ---- exactly so many polls

-- calls make none more
makes-then-calls : (count : ℕ) (before : List Turn) (b c : Observed) → MakesPolls count before b → HasGoneOn b c → (b.dark ≡ true → c.dark ≡ true) → MakesPolls count before c
makes-then-calls count before b c (inl dark) goes stays = inl (stays dark)
makes-then-calls count before b c (inr x) goes stays =
    let y = goes.adds (before ++ x.0) x.1 in
    let parts = polls-append x.0 y.0 in
    let none = outcomes-polls y.0 y.2 in
    inr (x.0 ++ y.0, y.1 ∙ ap Some (append_assoc before x.0 y.0), omega (arith, parts, none, x.2))

-- a poll, and then calls
pub once-then-calls : (a b c : Observed) (result : Polled) (buf : List ℕ) → Grows a b (PolledTurns result buf) → HasGoneOn b c → (b.dark ≡ true → c.dark ≡ true) → IfObserved a (λ before. HasPolledOnce Went before c)
once-then-calls a b c result buf grows goes stays before e = makes-then-calls 1 before b c (polled-exactly a b result buf grows before e) goes stays

-- nothing was polled yet
pub makes-none : (a : Observed) → IfObserved a (λ before. MakesPolls 0 before a)
makes-none a before e = inr ([], e ∙ ap Some (sym (append-nil before)), refl)

-- one round more
pub makes-one-more : (count : ℕ) (before : List Turn) (b c : Observed) → MakesPolls count before b → IfObserved b (λ log. HasPolledOnce Went log c) → (b.dark ≡ true → c.dark ≡ true) → MakesPolls (count + 1) before c
makes-one-more count before b c (inl dark) once stays = inl (stays dark)
makes-one-more count before b c (inr x) once stays = then_once (once (before ++ x.0) x.1)
  where
    then_once : HasPolledOnce Went (before ++ x.0) c → MakesPolls (count + 1) before c
    then_once (inl dark) = inl dark
    then_once (inr y) = let parts = polls-append x.0 y.0 in inr (x.0 ++ y.0, y.1 ∙ ap Some (append_assoc before x.0 y.0), omega (arith, parts, x.2, y.2))

-- and the stop at last
pub stops-at-last : (count most : ℕ) (before : List Turn) (b c : Observed) → MakesPolls count before b → IfObserved b (λ log. HasPolledOnce Stopped log c) → (b.dark ≡ true → c.dark ≡ true) → PollsToEnd most before c
stops-at-last count most before b c (inl dark) once stays = inl (stays dark)
stops-at-last count most before b c (inr x) once stays = then_stop (once (before ++ x.0) x.1)
  where
    then_stop : HasPolledOnce Stopped (before ++ x.0) c → PollsToEnd most before c
    then_stop (inl dark) = inl dark
    then_stop (inr y) = inr (x.0 ++ PolledTurn y.0 ∷ StopTurn ∷ [], y.1 ∙ ap Some (append_assoc before x.0 (PolledTurn y.0 ∷ StopTurn ∷ [])), inl (x.0, y.0, refl))

-- all were made
pub makes-all : (count most : ℕ) (before : List Turn) (b : Observed) → count ≡ most → MakesPolls count before b → PollsToEnd most before b
makes-all count most before b all (inl dark) = inl dark
makes-all count most before b all (inr x) = inr (x.0, x.1, inr (x.2 ∙ all))

-- turns without a poll come first
pub unpolled-then-end : (most : ℕ) (before first : List Turn) (b c : Observed) → b.log ≡ Some (before ++ first) → polls_in first ≡ 0 → IfObserved b (λ log. PollsToEnd most log c) → PollsToEnd most before c
unpolled-then-end most before first b c log none ends = by_end (ends (before ++ first) log)
  where
    whole : (more : List Turn) → EndsWithStop more ⊎ (polls_in more ≡ most) → EndsWithStop (first ++ more) ⊎ (polls_in (first ++ more) ≡ most)
    whole more (inl stop) = inl (first ++ stop.0, stop.1, ap (λ turns. first ++ turns) stop.2 ∙ sym (append_assoc first stop.0 (PolledTurn stop.1 ∷ StopTurn ∷ [])))
    whole more (inr all) = let parts = polls-append first more in inr (omega (arith, parts, none, all))

    by_end : PollsToEnd most (before ++ first) c → PollsToEnd most before c
    by_end (inl dark) = inl dark
    by_end (inr x) = inr (first ++ x.0, x.1 ∙ ap Some (append_assoc before first x.0), whole x.0 x.2)

-- so do calls
pub calls-then-end : (most : ℕ) (before : List Turn) (b c : Observed) → GoesOnByCalls before b → IfObserved b (λ log. PollsToEnd most log c) → PollsToEnd most before c
calls-then-end most before b c x ends = unpolled-then-end most before x.0 b c x.1 (outcomes-polls x.0 x.2) ends

-- ---- memory

-- where only outcomes of calls come after such a turn, memory may be refused
pub last-takes : (before first : List Turn) (turn : Turn) (calls : List Turn) → takes_memory turn ≡ true → AreOutcomes calls → LastTakesMemory ((before ++ (first ++ turn ∷ [])) ++ calls)
last-takes before first turn calls takes are = record {
  before = before ++ first;
  turn = turn;
  calls = calls;
  log_is = append_assoc before (first ++ turn ∷ []) calls ∙ ap (λ more. before ++ more) (append_assoc first (turn ∷ []) calls) ∙ sym (append_assoc before first (turn ∷ calls));
  takes = takes;
  outcomes = are;
}

-- such a turn, and calls
pub calls-for-memory : (before first : List Turn) (turn : Turn) (c : Observed) → takes_memory turn ≡ true → GoesOnByCalls (before ++ (first ++ turn ∷ [])) c → EndsForMemory c
calls-for-memory before first turn c takes x = inr ((before ++ (first ++ turn ∷ [])) ++ x.0, x.1, last-takes before first turn x.0 takes x.2)

-- calls, and then such an end or calls
pub calls-then-ends : (before : List Turn) (b c : Observed) → GoesOnByCalls before b → IfObserved b (λ log. EndsForMemorySince log c) → EndsForMemorySince before c
calls-then-ends before b c x ends = elim (ends (before ++ x.0) x.1) [
  | inl now ↦ inl now
  | inr y ↦ inr (x.0 ++ y.0, y.1 ∙ ap Some (append_assoc before x.0 y.0), outcomes-append x.0 y.0 x.2 y.2)
]

-- the turn of a till's event is such
till-turn : (what : What) (buf : List ℕ) → IsOfTill what → (turn : Turn) × (event_turns what buf ≡ turn ∷ []) × (sort_of turn ≡ Event) × (takes_memory turn ≡ true)
till-turn (whats.TillOpened till) buf of = (Opened till, refl, refl, refl)
till-turn (whats.TillBytes till count) buf of = (HeardTill till (take count buf), refl, refl, refl)
till-turn (whats.TillClosed till) buf of = absurd of
till-turn (whats.PtBytes pt count) buf of = absurd of
till-turn (whats.PtClosed pt) buf of = absurd of
till-turn whats.Nothing buf of = absurd of
till-turn whats.Stopped buf of = absurd of

-- so memory may be refused where a poll has brought one, and calls came after it
pub polled-for-memory : (a b c : Observed) (result : Polled) (buf : List ℕ) → Grows a b (PolledTurns result buf) → IsOfTill result.what → HasGoneOn b c → (b.dark ≡ true → c.dark ≡ true) → IfObserved a (λ before. EndsRoundForMemory before c)
polled-for-memory a b c result buf grows of goes stays before e = let x = grows.observed before e in by_dark a.dark b.dark x.0 x.1 refl x.2 x.3 x.4
  where
    by_dark : (d n : Bool) (turns added : List Turn) → b.dark ≡ n → PolledTurns result buf turns → Added d n turns added → b.log ≡ Some (before ++ added) → EndsRoundForMemory before c
    by_dark true true turns added dark t a log = inl (stays dark)
    by_dark true false turns added dark t a log = absurd a
    by_dark false true turns added dark t a log = inl (stays dark)
    by_dark false false turns added dark t a log =
        let of_till = till-turn result.what buf of in
        let polled = log ∙ ap (λ more. Some (before ++ more)) (a ∙ t ∙ ap (λ more. PolledTurn result.now ∷ more) of_till.1) in
        let y = goes.adds (before ++ (PolledTurn result.now ∷ of_till.0 ∷ [])) polled in
        inr (record {
          now = result.now;
          event = of_till.0;
          calls = y.0;
          log_is = y.1 ∙ ap Some (append_assoc before (PolledTurn result.now ∷ of_till.0 ∷ []) y.0);
          sort = of_till.2;
          takes = of_till.3;
          outcomes = y.2;
        })

-- the log after such a round ends so
pub round-for-memory : (before : List Turn) (c : Observed) → EndsRoundForMemory before c → EndsForMemory c
round-for-memory before c (inl dark) = inl dark
round-for-memory before c (inr x) = inr (
  before ++ PolledTurn x.now ∷ x.event ∷ x.calls,
  x.log_is,
  record {
    before = before ++ PolledTurn x.now ∷ [];
    turn = x.event;
    calls = x.calls;
    log_is = sym (append_assoc before (PolledTurn x.now ∷ []) (x.event ∷ x.calls));
    takes = x.takes;
    outcomes = x.outcomes;
  },
)
