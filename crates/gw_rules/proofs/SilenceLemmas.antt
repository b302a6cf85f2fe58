-- A terminal whose dialogue has a deadline that has come is cut before the next poll, where what the poll brings of it changes nothing.
use Rattle.std.proofs.Common.{◌≡◌, ℕ, ◌+◌, zero, suc, List, [], ◌∷◌, ◌++◌, refl, sym, ◌∙◌, ap, subst, true, false, inl, inr, arith}
use Rattle.std.proofs.lemmas.Bool.{eq-eqb}
use Rattle.std.specs.Prelude.{Bool, ℤ, ◌⊎◌, ◌≢◌, pos, int_le, map, slice_get, Option, Some, None}
use Rattle.std.specs.Option.{option_map}
use Rattle.gw_base.specs.Moment.{moment_of}
use Rattle.gw_site.specs.Outside.{Outside, heard_on}
use Rattle.gw_site.specs.Sorts.{AreOfRound, is_sort_of_round, sort_of, TurnSort, OpeningOutcome, Poll, Event, CallOutcome, PowerFailure, is_between, is_sort_between}
use Rattle.gw_site.specs.declared.turn.Turn.{Turn}
use Rattle.gw_site.specs.declared.turn.Turn.TheVariants.{Polled, HeardPt, Lost, CutPt}
use Rattle.zvt_talk.specs.Talk.{TalkFacts}
use Rattle.gw_owes.specs.Calls.{CutPt as OwedCutPt}
use Rattle.gw_owes.specs.Core.{Core, Wait}
use Rattle.gw_owes.specs.Events.{for_each_terminal, waits_by_deadline, items_due}
use Rattle.gw_owes.specs.Items.{RoundItem, Crowded, Message, Asked, Unframed, Gone, Greet, Handle, Serve, Queue, NextWaiting, Oversized, LinkLost, Late, Overdue, Due}
use Rattle.gw_owes.specs.Links.{is_linked}
use Rattle.gw_owes.specs.ReadAs.{ReadAs}
use Rattle.gw_owes.specs.Row.{Known}
use Rattle.gw_owes.specs.TerminalLaws.{HasDialogueOnlyIn, IsLinkedAt}
use Rattle.gw_owes.specs.TerminalRows.{terminal_row}
use Rattle.gw_owes.specs.declared.terminal.Standing.{Standing}
use Rattle.gw_owes.specs.declared.terminal.Standing.TheVariants.{Unlinked, Registering, Enquiring, Ready, Serving, Aside}
use Rattle.gw_owes.specs.declared.terminal.Terminal.{Terminal}
use Rattle.gw_owes.proofs.TerminalLemmas.{causes-cut}
use Rattle.gw_rules.specs.LinkLaws.{IsOfTerminal, BringNothing, IsPtCutIn}
use Rattle.gw_rules.specs.Lawful.{first_call, Begins, IsRead, AllowedTurn, IsCourse, turns_of}
use Rattle.gw_rules.specs.Scene.{known_in}
use Rattle.gw_rules.specs.Stage.{Handling, is_round}
use Rattle.gw_rules.specs.View.{View, Move, Begin, Read, Make, after, after_turn, read_first}
use Rattle.gw_rules.proofs.CourseLemmas.{begin-outside, begin-stage, after-outside}
use Rattle.gw_rules.proofs.CutLemmas.{IsAmong, has-after, has-before, is_dead, dead-round, dead-running, dead-turn, none-among}
use Rattle.gw_rules.proofs.KeptLemmas.{Kept, KeptHere, kept-here, without_asker, without_phase, lasting, lasting_talk, lasting_in, found-lasting, begins-first, begin-kept, read-kept, turn-kept}
use Rattle.gw_rules.proofs.LinkStateLemmas.{on-linked}
use Rattle.gw_rules.proofs.LinkedLemmas.{Agrees, move-agrees, turn-agrees, round-setup}
use Rattle.gw_rules.proofs.OutsideCutLemmas.{is_cut, cut-is, cut-makes, in-owes}
use Rattle.gw_rules.proofs.PrefixLemmas.{Along}
use Rattle.gw_rules.proofs.RoundLemmas.{Follows, follows, turn-moment}
use Rattle.gw_rules.proofs.StageLemmas.{no-true, round-busy}

-- ---- what is owed

-- the dialogue has a deadline that has come
abbrev pub IsLateTalk : ℕ → Option TalkFacts → Type 0
IsLateTalk moment talk = (facts : TalkFacts) × (talk ≡ Some facts) × (int_le facts.deadline (pos moment) ≡ true)

-- what is kept of a terminal is of one that is there
pub found-kept : (found : Option Terminal) (terminal : Terminal) → option_map without_asker found ≡ Some terminal → (own : Terminal) × (found ≡ Some own) × (without_asker own ≡ terminal)
found-kept None terminal e = absurd (let n : None ≡ Some terminal = e in cc)
found-kept (Some own) terminal e = (own, refl, let n : Some (without_asker own) ≡ Some terminal = e in cc)

-- what lasts of a terminal has its deadline, and a dialogue only where it has one
module _ (terminal : Terminal) where
  pub lasting-only : HasDialogueOnlyIn terminal.standing (lasting terminal).talk → HasDialogueOnlyIn terminal.standing terminal.talk
  lasting-only = by_standing terminal.standing
    where
      by_standing : (standing : Standing) → HasDialogueOnlyIn standing (lasting_talk standing terminal.talk) → HasDialogueOnlyIn standing terminal.talk
      by_standing (Unlinked due) h = h
      by_standing Registering h = tt
      by_standing Enquiring h = tt
      by_standing (Ready last) h = h
      by_standing (Serving service last) h = tt
      by_standing (Aside before reported) h = h

  pub only-lasting : HasDialogueOnlyIn terminal.standing terminal.talk → HasDialogueOnlyIn terminal.standing (lasting terminal).talk
  only-lasting = by_standing terminal.standing
    where
      by_standing : (standing : Standing) → HasDialogueOnlyIn standing terminal.talk → HasDialogueOnlyIn standing (lasting_talk standing terminal.talk)
      by_standing (Unlinked due) h = h
      by_standing Registering h = tt
      by_standing Enquiring h = tt
      by_standing (Ready last) h = h
      by_standing (Serving service last) h = tt
      by_standing (Aside before reported) h = h

  pub lasting-late : (moment : ℕ) → IsLateTalk moment (lasting terminal).talk → IsLateTalk moment terminal.talk
  lasting-late moment = by_standing terminal.standing
    where
      by_talk : (talk : Option TalkFacts) → IsLateTalk moment (option_map without_phase talk) → IsLateTalk moment talk
      by_talk None (facts, e, late) = absurd (let n : None ≡ Some facts = e in cc)
      by_talk (Some own) (facts, e, late) =
          let same : without_phase own ≡ facts = (let n : Some (without_phase own) ≡ Some facts = e in cc) in
          (own, refl, ap (λ (f : TalkFacts). int_le f.deadline (pos moment)) same ∙ late)

      by_standing : (standing : Standing) → IsLateTalk moment (lasting_talk standing terminal.talk) → IsLateTalk moment terminal.talk
      by_standing (Unlinked due) h = h
      by_standing Registering h = h
      by_standing Enquiring h = h
      by_standing (Ready last) h = h
      by_standing (Serving service last) h = by_talk terminal.talk h
      by_standing (Aside before reported) h = h

  pub late-lasting : (moment : ℕ) → IsLateTalk moment terminal.talk → IsLateTalk moment (lasting terminal).talk
  late-lasting moment (facts, e, late) = by_standing terminal.standing
    where
      by_standing : (standing : Standing) → IsLateTalk moment (lasting_talk standing terminal.talk)
      by_standing (Unlinked due) = (facts, e, late)
      by_standing Registering = (facts, e, late)
      by_standing Enquiring = (facts, e, late)
      by_standing (Ready last) = (facts, e, late)
      by_standing (Serving service last) = (without_phase facts, ap (option_map without_phase) e, late)
      by_standing (Aside before reported) = (facts, e, late)

late-owes : (known : Known) (pt : ℕ) (terminal : Terminal) (heard : List ℕ) (v : View) → Kept pt terminal heard v → v.scene.core ≡ known.core → HasDialogueOnlyIn terminal.standing terminal.talk → IsLateTalk known.moment terminal.talk
    → (terminal_row known (Late pt)).calls ≡ OwedCutPt pt ∷ []
late-owes known pt terminal heard v k core only (facts, talk, late) =
    let found = found-lasting known.core pt terminal (ap (λ c. lasting_in c pt) (sym core) ∙ k.kept) in
    let own : Terminal = found.0 in
    let there : IsLinkedAt known pt = record {
      terminal = own;
      found = found.1;
      linked = ap (λ (t : Terminal). is_linked t.standing) found.2 ∙ on-linked terminal.standing terminal.talk k.linked;
      dialogue = lasting-only own (subst (λ (t : Terminal). HasDialogueOnlyIn t.standing t.talk) (sym found.2) only);
    } in
    let own_late = lasting-late own known.moment (subst (λ (t : Terminal). IsLateTalk known.moment t.talk) (sym found.2) (facts, talk, late)) in
    causes-cut known (Late pt) pt refl there (record { terminal = own; found = found.1; talk = own_late.0; talk_is = own_late.1; late = own_late.2 })

late-each : (terminals : List Terminal) (first number at : ℕ) (terminal : Terminal) → slice_get terminals number ≡ Some terminal → at ≡ first + number → IsAmong (Late at) (for_each_terminal first Late terminals)
late-each [] first number at terminal e is = absurd (let n : None ≡ Some terminal = e in cc)
late-each (one ∷ terminals) first zero at terminal e is =
    let same : first ≡ at = omega (arith, is) in
    ([], for_each_terminal (first + 1) Late terminals, ap (λ n. Late n ∷ for_each_terminal (first + 1) Late terminals) same)
late-each (one ∷ terminals) first (suc number) at terminal e is =
    let later : at ≡ (first + 1) + number = omega (arith, is) in
    has-after (Late at) (Late first ∷ []) (for_each_terminal (first + 1) Late terminals) (late-each terminals (first + 1) number at terminal e later)

late-among : (core : Core) (pt : ℕ) (terminal : Terminal) → lasting_in core pt ≡ Some terminal → IsAmong (Late pt) (items_due core)
late-among core pt terminal lasts =
    let found = found-lasting core pt terminal lasts in
    has-before (Late pt) (for_each_terminal 0 Late core.terminals) (map (λ (wait : Wait). Overdue wait.key) (waits_by_deadline core.waits) ++ for_each_terminal 0 Due core.terminals) (late-each core.terminals 0 pt pt found.0 found.1 (omega arith))

-- ---- in the round

-- so the cut is owed, or will be
pub record AwaitsCut (pt moment : ℕ) (terminal : Terminal) (v : View) : Type 0 where
  pub agrees : Agrees v
  pub kept : KeptHere pt terminal v
  pub only : HasDialogueOnlyIn terminal.standing terminal.talk
  pub late : IsLateTalk moment terminal.talk
  pub moment_is : v.scene.outside.moment ≡ moment
  pub round : is_round v.scene.stage ≡ true
  pub owed : IsAmong (Late pt) v.items ⊎ ((v.scene.stage ≡ Handling) × (v.calls ≡ OwedCutPt pt ∷ []))

-- while this holds of a view and of the turns that come, they leave what is remembered of the terminal as it is, unless they cut it
pub record StaysBy (pt : ℕ) (terminal : Terminal) (P : View → List Turn → Type 0) : Type 0 where
  pub begins : (v : View) (turns : List Turn) → P v turns → Begins v → P (after v Begin) turns
  pub reads : (v : View) (as_read : ReadAs) (turns : List Turn) → P v turns → P (after v (Read as_read)) turns
  pub turns : (v : View) (turn : Turn) (turns : List Turn) → P v (turn ∷ turns) → Agrees v → KeptHere pt terminal v → AllowedTurn v turn → is_between turn ≡ false → turn ≢ CutPt pt → KeptHere pt terminal (after_turn v turn) × P (after_turn v turn) turns

-- where nothing of it comes
unheard-stays : (pt : ℕ) (terminal : Terminal) → StaysBy pt terminal (λ v turns. BringNothing pt turns)
unheard-stays pt terminal = record {
  begins = λ v turns none b. none;
  reads = λ v as_read turns none. none;
  turns = λ v turn turns none a k ok quiet uncut. (kept-here pt terminal (heard_on v.scene.outside.links pt) (after_turn v turn) (turn-kept pt terminal (heard_on v.scene.outside.links pt) v turn a k ok quiet none.0 uncut), none.1);
}

-- or the run has ended
abbrev pub IsCutOrOver : ℕ → ℕ → Terminal → (View → List Turn → Type 0) → View → List Turn → Type 0
IsCutOrOver pt moment terminal P v turns = (AwaitsCut pt moment terminal v × P v turns) ⊎ (is_dead v.scene.stage ≡ true)

late-begin : (pt moment : ℕ) (terminal : Terminal) (P : View → List Turn → Type 0) (v : View) (turns : List Turn) → StaysBy pt terminal P → IsCutOrOver pt moment terminal P v turns → Begins v → IsCutOrOver pt moment terminal P (after v Begin) turns
late-begin pt moment terminal P v turns s (inr dead) b = dead-round v.scene.stage dead b.idle.round
late-begin pt moment terminal P v turns s (inl (w, holds)) b = by_owed w.owed
  where
    at : (after v Begin).scene.stage ≡ Handling
    at = begin-stage v.scene v.items ∙ round-busy v.scene.stage b.idle.round

    go_on : IsAmong (Late pt) (after v Begin).items ⊎ (((after v Begin).scene.stage ≡ Handling) × ((after v Begin).calls ≡ OwedCutPt pt ∷ [])) → IsCutOrOver pt moment terminal P (after v Begin) turns
    go_on owed = inl (
      record {
        agrees = move-agrees v Begin w.agrees b;
        kept = kept-here pt terminal (heard_on v.scene.outside.links pt) (after v Begin) (begin-kept pt terminal (heard_on v.scene.outside.links pt) v w.agrees w.kept b);
        only = w.only;
        late = w.late;
        moment_is = ap (λ (o : Outside). o.moment) (begin-outside v.scene v.items) ∙ w.moment_is;
        round = ap is_round at;
        owed = owed;
      },
      s.begins v turns holds b,
    )

    owes : (after (record v { items = Late pt ∷ [] }) Begin).calls ≡ OwedCutPt pt ∷ []
    owes =
        let known = round-setup v w.agrees.run b.idle.round in
        in-owes v.scene known.setup (Late pt) (OwedCutPt pt ∷ []) known.setup_is (late-owes (known_in v.scene known.setup) pt terminal (heard_on v.scene.outside.links pt) v w.kept refl w.only (subst (λ m. IsLateTalk m terminal.talk) (sym w.moment_is) w.late))

    by_first : IsAmong (Late pt) v.items → IsCutOrOver pt moment terminal P (after v Begin) turns
    by_first ([], rest, e) = go_on (inr (at, ap (λ l. (after (record v { items = l }) Begin).calls) e ∙ owes))
    by_first (x ∷ before, rest, e) =
        let first = begins-first v w.agrees b in
        let tails : first.rest ≡ before ++ Late pt ∷ rest = (let n : first.item ∷ first.rest ≡ x ∷ (before ++ Late pt ∷ rest) = sym first.items_are ∙ e in cc) in
        go_on (inl (subst (IsAmong (Late pt)) (sym first.left) (has-after (Late pt) first.new first.rest (before, rest, tails))))

    by_owed : IsAmong (Late pt) v.items ⊎ ((v.scene.stage ≡ Handling) × (v.calls ≡ OwedCutPt pt ∷ [])) → IsCutOrOver pt moment terminal P (after v Begin) turns
    by_owed (inl among) = by_first among
    by_owed (inr owed) = absurd (let n : [] ≡ OwedCutPt pt ∷ [] = sym b.idle.calls ∙ owed.1 in cc)

read-late : (pt : ℕ) (as_read : ReadAs) (items : List RoundItem) → IsAmong (Late pt) items → IsAmong (Late pt) (read_first as_read items)
read-late pt as_read [] h = h
read-late pt as_read (Message other text ∷ items) ([], rest, e) = absurd (let n : Message other text ∷ items ≡ Late pt ∷ rest = e in cc)
read-late pt as_read (Message other text ∷ items) (x ∷ before, rest, e) =
    let tails : items ≡ before ++ Late pt ∷ rest = (let n : Message other text ∷ items ≡ x ∷ (before ++ Late pt ∷ rest) = e in cc) in
    (Asked other as_read ∷ before, rest, ap (λ l. Asked other as_read ∷ l) tails)
read-late pt as_read (Crowded other ∷ items) h = h
read-late pt as_read (Asked other read ∷ items) h = h
read-late pt as_read (Unframed other ∷ items) h = h
read-late pt as_read (Gone other ∷ items) h = h
read-late pt as_read (Greet other apdu ∷ items) h = h
read-late pt as_read (Handle other apdu ∷ items) h = h
read-late pt as_read (Serve other till header request ∷ items) h = h
read-late pt as_read (Queue other till header request ∷ items) h = h
read-late pt as_read (NextWaiting other ∷ items) h = h
read-late pt as_read (Oversized other ∷ items) h = h
read-late pt as_read (LinkLost other ∷ items) h = h
read-late pt as_read (Late other ∷ items) h = h
read-late pt as_read (Overdue key ∷ items) h = h
read-late pt as_read (Due other ∷ items) h = h

late-read : (pt moment : ℕ) (terminal : Terminal) (P : View → List Turn → Type 0) (v : View) (as_read : ReadAs) (turns : List Turn) → StaysBy pt terminal P → IsCutOrOver pt moment terminal P v turns → IsRead v as_read
    → IsCutOrOver pt moment terminal P (after v (Read as_read)) turns
late-read pt moment terminal P v as_read turns s (inr dead) r = dead-round v.scene.stage dead r.idle.round
late-read pt moment terminal P v as_read turns s (inl (w, holds)) r = by_owed w.owed
  where
    by_owed : IsAmong (Late pt) v.items ⊎ ((v.scene.stage ≡ Handling) × (v.calls ≡ OwedCutPt pt ∷ [])) → IsCutOrOver pt moment terminal P (after v (Read as_read)) turns
    by_owed (inr owed) = absurd (let n : [] ≡ OwedCutPt pt ∷ [] = sym r.idle.calls ∙ owed.1 in cc)
    by_owed (inl among) = inl (
      record {
        agrees = move-agrees v (Read as_read) w.agrees r;
        kept = read-kept pt terminal (heard_on v.scene.outside.links pt) v as_read w.kept;
        only = w.only;
        late = w.late;
        moment_is = w.moment_is;
        round = ap is_round (round-busy v.scene.stage r.idle.round);
        owed = inl (read-late pt as_read v.items among);
      },
      s.reads v as_read turns holds,
    )

pub of-round-quiet : (turn : Turn) → is_sort_of_round (sort_of turn) ≡ true → is_between turn ≡ false
of-round-quiet turn e = by_sort (sort_of turn) e
  where
    by_sort : (sort : TurnSort) → is_sort_of_round sort ≡ true → is_sort_between sort ≡ false
    by_sort OpeningOutcome e = no-true e
    by_sort Poll e = no-true e
    by_sort Event e = refl
    by_sort CallOutcome e = refl
    by_sort PowerFailure e = no-true e

late-turn : (pt moment : ℕ) (terminal : Terminal) (P : View → List Turn → Type 0) (v : View) (turn : Turn) (turns : List Turn) → StaysBy pt terminal P → IsCutOrOver pt moment terminal P v (turn ∷ turns) → AllowedTurn v turn → is_sort_of_round (sort_of turn) ≡ true
    → (turn ≡ CutPt pt) ⊎ IsCutOrOver pt moment terminal P (after_turn v turn) turns
late-turn pt moment terminal P v turn turns s (inr dead) ok e = inr (inr (dead-turn v turn dead ok e))
late-turn pt moment terminal P v turn turns s (inl (w, holds)) ok e = by_cut (is_cut pt turn) refl
  where
    go_on : (is_cut pt turn ≡ false) → is_round (after_turn v turn).scene.stage ≡ true → IsAmong (Late pt) (after_turn v turn).items → (turn ≡ CutPt pt) ⊎ IsCutOrOver pt moment terminal P (after_turn v turn) turns
    go_on uncut round among =
        let stays = s.turns v turn turns holds w.agrees w.kept ok (of-round-quiet turn e) (λ cut. no-true (sym uncut ∙ ap (is_cut pt) cut ∙ eq-eqb pt pt refl)) in
        inr (inl (
          record {
            agrees = turn-agrees v turn w.agrees ok;
            kept = stays.0;
            only = w.only;
            late = w.late;
            moment_is = ap (λ (o : Outside). o.moment) (after-outside v turn) ∙ turn-moment v.scene.outside turn e ∙ w.moment_is;
            round = round;
            owed = inl among;
          },
          stays.1,
        ))

    by_owed : is_cut pt turn ≡ false → IsAmong (Late pt) v.items ⊎ ((v.scene.stage ≡ Handling) × (v.calls ≡ OwedCutPt pt ∷ [])) → Follows v turn → (turn ≡ CutPt pt) ⊎ IsCutOrOver pt moment terminal P (after_turn v turn) turns
    by_owed uncut (inr owed) next = inl (cut-is pt turn (cut-makes pt v turn owed.0 (ap first_call owed.1) ok e))
    by_owed uncut (inl among) (inl (more, items, at)) = go_on uncut (ap is_round at) (subst (IsAmong (Late pt)) (sym items) (has-after (Late pt) more v.items among))
    by_owed uncut (inl among) (inr (inl (polled, more, items, at))) = go_on uncut (ap is_round at) (subst (IsAmong (Late pt)) (sym items) (has-after (Late pt) more (items_due v.scene.core) (late-among v.scene.core pt terminal w.kept.kept)))
    by_owed uncut (inl among) (inr (inr dead)) = inr (inr dead)

    by_cut : (test : Bool) → is_cut pt turn ≡ test → (turn ≡ CutPt pt) ⊎ IsCutOrOver pt moment terminal P (after_turn v turn) turns
    by_cut true cut = inl (cut-is pt turn cut)
    by_cut false uncut = by_owed uncut w.owed (follows v turn w.round ok e)

-- ---- along the course

late-polled : {A : Type 0} (pt moment : ℕ) (terminal : Terminal) (P : View → List Turn → Type 0) (v : View) (turns : List Turn) (now : ℤ) → IsCutOrOver pt moment terminal P v turns → AllowedTurn v (Polled now) → A
late-polled pt moment terminal P v turns now (inr dead) ok = dead-running v.scene.stage dead ok.running
late-polled {A} pt moment terminal P v turns now (inl (w, holds)) ok = by_owed w.owed
  where
    by_owed : IsAmong (Late pt) v.items ⊎ ((v.scene.stage ≡ Handling) × (v.calls ≡ OwedCutPt pt ∷ [])) → A
    by_owed (inl among) = none-among (Late pt) v.items among ok.items
    by_owed (inr owed) = absurd (let n : [] ≡ OwedCutPt pt ∷ [] = sym ok.calls ∙ owed.1 in cc)

cut-later : (pt : ℕ) (turn : Turn) (turns : List Turn) → IsPtCutIn pt turns → IsPtCutIn pt (turn ∷ turns)
cut-later pt turn turns (first, rest, e) = (turn ∷ first, rest, ap (λ l. turn ∷ l) e)

cut-before-poll : (pt moment : ℕ) (terminal : Terminal) (P : View → List Turn → Type 0) (now : ℤ) (rest : List Turn) (v : View) (moves : List Move) (inside : List Turn) → StaysBy pt terminal P → IsCutOrOver pt moment terminal P v inside → IsCourse v moves
    → turns_of moves ≡ inside ++ Polled now ∷ rest → AreOfRound inside → IsPtCutIn pt inside
cut-before-poll pt moment terminal P now rest v [] [] s h c e a = absurd (let n : [] ≡ Polled now ∷ rest = e in cc)
cut-before-poll pt moment terminal P now rest v [] (turn ∷ inside) s h c e a = absurd (let n : [] ≡ turn ∷ (inside ++ Polled now ∷ rest) = e in cc)
cut-before-poll pt moment terminal P now rest v (Begin ∷ moves) inside s h c e a = cut-before-poll pt moment terminal P now rest (after v Begin) moves inside s (late-begin pt moment terminal P v inside s h c.0) c.1 e a
cut-before-poll pt moment terminal P now rest v (Read as_read ∷ moves) inside s h c e a = cut-before-poll pt moment terminal P now rest (after v (Read as_read)) moves inside s (late-read pt moment terminal P v as_read inside s h c.0) c.1 e a
cut-before-poll pt moment terminal P now rest v (Make turn ∷ moves) [] s h c e a =
    let heads : turn ≡ Polled now = (let n : turn ∷ turns_of moves ≡ Polled now ∷ rest = e in cc) in
    late-polled pt moment terminal P v [] now h (subst (AllowedTurn v) heads c.0)
cut-before-poll pt moment terminal P now rest v (Make turn ∷ moves) (other ∷ inside) s h c e a =
    let heads : turn ≡ other = (let n : turn ∷ turns_of moves ≡ other ∷ (inside ++ Polled now ∷ rest) = e in cc) in
    let tails : turns_of moves ≡ inside ++ Polled now ∷ rest = (let n : turn ∷ turns_of moves ≡ other ∷ (inside ++ Polled now ∷ rest) = e in cc) in
    by_after (λ holds. cut-before-poll pt moment terminal P now rest (after_turn v turn) moves inside s holds c.1 tails a.1) heads
    (late-turn pt moment terminal P v turn inside s (subst (λ t. IsCutOrOver pt moment terminal P v (t ∷ inside)) (sym heads) h) c.0 (ap (λ t. is_sort_of_round (sort_of t)) heads ∙ a.0))
  where
    by_after : (IsCutOrOver pt moment terminal P (after_turn v turn) inside → IsPtCutIn pt inside) → turn ≡ other → (turn ≡ CutPt pt) ⊎ IsCutOrOver pt moment terminal P (after_turn v turn) inside → IsPtCutIn pt (other ∷ inside)
    by_after more heads (inl cut) = ([], inside, ap (λ t. t ∷ inside) (sym heads ∙ cut))
    by_after more heads (inr holds) = cut-later pt other inside (more holds)

-- from a poll at which the deadline has come
pub stays-before-poll : (pt : ℕ) (terminal : Terminal) (P : View → List Turn → Type 0) (now later : ℤ) (inside rest : List Turn) (v : View) → StaysBy pt terminal P → Agrees v → KeptHere pt terminal v → AllowedTurn v (Polled now) → P (after_turn v (Polled now)) inside
    → Along (after_turn v (Polled now)) (inside ++ Polled later ∷ rest) → AreOfRound inside → HasDialogueOnlyIn terminal.standing terminal.talk → IsLateTalk (moment_of now) terminal.talk → IsPtCutIn pt inside
stays-before-poll pt terminal P now later inside rest v s a k ok holds onward round only late =
    cut-before-poll pt (moment_of now) terminal P later rest (after_turn v (Polled now)) onward.moves inside s
    (inl (
      record {
        agrees = turn-agrees v (Polled now) a ok;
        kept = turn-kept pt terminal (heard_on v.scene.outside.links pt) v (Polled now) a k ok refl not_of not_cut;
        only = only;
        late = late;
        moment_is = refl;
        round = refl;
        owed = inl (late-among v.scene.core pt terminal k.kept);
      },
      holds,
    )) onward.lawful onward.turns_are round
  where
    not_of : IsOfTerminal pt (Polled now) → ⊥
    not_of (inl (bytes, e)) = absurd (let n : Polled now ≡ HeardPt pt bytes = e in cc)
    not_of (inr e) = absurd (let n : Polled now ≡ Lost pt = e in cc)

    not_cut : Polled now ≢ CutPt pt
    not_cut e = absurd (let n : Polled now ≡ CutPt pt = e in cc)

-- where nothing of it comes in the round
pub late-before-poll : (pt : ℕ) (terminal : Terminal) (heard : List ℕ) (now later : ℤ) (inside rest : List Turn) (v : View) → Agrees v → Kept pt terminal heard v → AllowedTurn v (Polled now) → Along (after_turn v (Polled now)) (inside ++ Polled later ∷ rest)
    → AreOfRound inside → BringNothing pt inside → HasDialogueOnlyIn terminal.standing terminal.talk → IsLateTalk (moment_of now) terminal.talk → IsPtCutIn pt inside
late-before-poll pt terminal heard now later inside rest v a k ok onward round nothing only late =
    stays-before-poll pt terminal (λ v turns. BringNothing pt turns) now later inside rest v (unheard-stays pt terminal) a (kept-here pt terminal heard v k) ok nothing onward round only late
