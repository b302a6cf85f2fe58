-- A terminal's message that was acknowledged or refused: what it has to be kept is kept, and then its call is made.
use Rattle.std.proofs.Common.{◌≡◌, ◌≤◌, ◌+◌, ℕ, List, [], ◌∷◌, ◌++◌, length, refl, sym, ◌∙◌, ap, subst, arith, append-nil, length-append}
use Rattle.std.specs.Prelude.{ℤ, pos, slice_get, Bool, true, false, Option, Some, None, Result, Ok, Err, IfSome, option_to_list}
use Rattle.std.proofs.lemmas.Int.{ints}
use Rattle.gw_base.specs.Moment.{IsMoment, last_moment, moment_of}
use Rattle.gw_base.specs.declared.setup.Setup.{Setup}
use Rattle.gw_base.proofs.MomentLemmas.{moment_of_bound}
use Rattle.gw_site.specs.Observed.{Observed}
use Rattle.jrn_record.specs.declared.records.Record.{Record}
use Rattle.zvt_apdu.specs.Grammar.{ApduValue}
use Rattle.zvt_msg.specs.declared.fault.PtFault.{PtFault}
use Rattle.zvt_msg.specs.Message.{MessageValue}
use Rattle.zvt_msg.specs.MessageDecode.{decode_pt_message}
use Rattle.gw_ledger.specs.Fold.{AreFolded}
use Rattle.gw_ledger.specs.Sums.{open_count_of}
use Rattle.gw_owes.specs.Calls.{OwedCall, Ask, Acknowledge, Refuse, SendTill, SendPt, CutPt, LinkPt, records_kept}
use Rattle.gw_owes.specs.Core.{Core}
use Rattle.gw_owes.specs.Days.{days_served}
use Rattle.gw_owes.specs.DeviceRequests.{greatest_device_number}
use Rattle.gw_owes.specs.Dialogues.{AllHaveDialogues, OthersHaveDialogues}
use Rattle.gw_owes.specs.Events.{apdu_items}
use Rattle.gw_owes.specs.Handling.{handle_decoded, handle_row, handled_row}
use Rattle.gw_owes.specs.Items.{RoundItem, Greet, Handle, NextWaiting}
use Rattle.gw_owes.specs.RecordLaws.{AreOthersInOrder, AreTerminalsInOrder, EachCutKeepsInOrder, EachMessageTakesItsMemory, EachRowKeepsInOrder, HasRoom, IsInOrder, IsNumbered, memory_taken}
use Rattle.gw_owes.specs.Reply.{PrintRequest}
use Rattle.gw_owes.specs.Row.{Row, becoming}
use Rattle.gw_owes.specs.TerminalLaws.{ChangesTerminalAlone, owes_cut, settings_of}
use Rattle.gw_owes.specs.WaitingLaws.{AreWaitsInOrder, EachRowKeepsWaits}
use Rattle.gw_owes.specs.Waits.{memory_reserved, slots_reserved}
use Rattle.gw_owes.proofs.DialogueLemmas.{rows-keep}
use Rattle.gw_owes.proofs.HandlingLemmas.{handle-alone}
use Rattle.gw_owes.proofs.WaitingFrameLemmas.{moments-keep-waits}
use Rattle.jrn_log.specs.Journal.{JournalValue, StandsFor}
use Rattle.gw_rules.specs.Stage.{Broken}
use Rattle.gw_rules.specs.Triple.{Triple}
use Rattle.gw_rules.specs.View.{View}
use Rattle.gw_rules.proofs.TripleLemmas.{triple-then}
use Rattle.gw_core.specs.IsRow.{AreCallsWith, IsRow, MayBeKept, keeping_calls, known_with, lines_printed}
use Rattle.gw_core.specs.declared.act.Act.{Act}
use Rattle.gw_core.specs.declared.act.Act.TheVariants as act
use Rattle.gw_core.specs.declared.act.Acts.{Acts}
use Rattle.gw_core.specs.declared.gateway.Gateway.{Gateway}
use Rattle.gw_dispatch.specs.Growth.{GoesOnBesideDisk}
use Rattle.gw_dispatch.specs.RunState.{HasSlotsFor, IsOrderly, IsWell, KeepsWithLedger, StandFor, UnlessBroken, WaitsStay}
use Rattle.gw_dispatch.specs.MidRound.{AreHeard, HeldRound, MidRound, is_linked_in}
use Rattle.gw_dispatch.specs.Wanted.{calls_wanted, owes_link}
use Rattle.gw_dispatch.specs.declared.run_state.RunState.{RunState}
use Rattle.gw_dispatch.specs.declared.records.Records.{Records}
use Rattle.gw_dispatch.specs.declared.tills.Till.{Till}
use Rattle.gw_dispatch.proofs.LinkLemmas.{KeepsLinks, LinksStay, handled-keeps}
use Rattle.gw_dispatch.proofs.PerformLemmas.{Handles, MakesCall, none-begins, rest-link, unhandled}
use Rattle.gw_dispatch.proofs.RunStateLemmas.{room-left}
use Rattle.gw_dispatch.proofs.StepLemmas.{begin-held}

-- ---- an act, and its call

-- the calls of an act after others are these and its own
pub after-split : (before : List OwedCall) (wanted : Option Act) (calls : List OwedCall) → AreCallsWith before wanted calls → (rest : List OwedCall) × AreCallsWith [] wanted rest × (calls ≡ before ++ rest)
after-split before None calls is = ([], refl, is ∙ sym (append-nil before))
after-split before (Some (act.SendPt pt command)) calls is = (SendPt pt (Ask command) ∷ [], refl, is)
after-split before (Some (act.Ack pt)) calls is = (SendPt pt Acknowledge ∷ [], refl, is)
after-split before (Some (act.Refuse pt)) calls is = (SendPt pt Refuse ∷ [], refl, is)
after-split before (Some (act.CutPt pt)) calls is = (CutPt pt ∷ [], refl, is)
after-split before (Some (act.Link pt)) calls is = (LinkPt pt ∷ [], refl, is)
after-split before (Some (act.SendTill till given)) calls is = (SendTill till is.0 ∷ [], (is.0, is.1, refl), is.2)
after-split before (Some (act.Print till header printed)) calls is = (SendTill till (PrintRequest header (lines_printed printed)) ∷ [], refl, is)

pub rest-cut : (wanted : Option Act) (rest : List OwedCall) → AreCallsWith [] wanted rest → owes_cut rest ≡ owes_cut (calls_wanted wanted)
rest-cut None rest is = ap owes_cut is
rest-cut (Some (act.SendPt pt command)) rest is = ap owes_cut is
rest-cut (Some (act.Ack pt)) rest is = ap owes_cut is
rest-cut (Some (act.Refuse pt)) rest is = ap owes_cut is
rest-cut (Some (act.CutPt pt)) rest is = ap owes_cut is
rest-cut (Some (act.Link pt)) rest is = ap owes_cut is
rest-cut (Some (act.SendTill till given)) rest is = ap owes_cut is.2
rest-cut (Some (act.Print till header printed)) rest is = ap owes_cut is

pub rest-kept : (wanted : Option Act) (rest : List OwedCall) → AreCallsWith [] wanted rest → records_kept rest ≡ []
rest-kept None rest is = ap records_kept is
rest-kept (Some (act.SendPt pt command)) rest is = ap records_kept is
rest-kept (Some (act.Ack pt)) rest is = ap records_kept is
rest-kept (Some (act.Refuse pt)) rest is = ap records_kept is
rest-kept (Some (act.CutPt pt)) rest is = ap records_kept is
rest-kept (Some (act.Link pt)) rest is = ap records_kept is
rest-kept (Some (act.SendTill till given)) rest is = ap records_kept is.2
rest-kept (Some (act.Print till header printed)) rest is = ap records_kept is

pub kept-cut : (slot : ℕ) (keep : Option Record) (rest : List OwedCall) → owes_cut (keeping_calls slot keep ++ rest) ≡ owes_cut rest
kept-cut slot None rest = refl
kept-cut slot (Some the_record) rest = refl

pub kept-link : (slot : ℕ) (keep : Option Record) (rest : List OwedCall) → owes_link (keeping_calls slot keep ++ rest) ≡ owes_link rest
kept-link slot None rest = refl
kept-link slot (Some the_record) rest = refl

pub kept-kept : (slot : ℕ) (keep : Option Record) (rest : List OwedCall) → records_kept rest ≡ [] → records_kept (keeping_calls slot keep ++ rest) ≡ option_to_list keep
kept-kept slot None rest none = none
kept-kept slot (Some the_record) rest none = ap (λ l. the_record ∷ l) none

-- ---- what a message leaves

-- the core has gone by the row of this message, whatever the setup
abbrev pub GoesBy : List Record → Core → ℕ → ℕ → MessageValue → Core → Acts → Type 0
GoesBy kept old moment pt message mid acts = (setup : Setup) → IsRow kept (handled_row (known_with setup kept old moment) pt message) mid acts

-- a setup, for what no setup changes
pub any_setup : Setup
any_setup = record { name = []; listen = []; journal = []; line = 0; wait = 0; slots = 0; terminals = [] }

-- what is held stays in order with the record that is kept, which takes no more than so much memory
pub record StaysWith (gateway : Gateway) (kept : List Record) (mid : Core) (pt : ℕ) (acts : Acts) (memory : ℕ) : Type 0 where
  pub folded : AreFolded (kept ++ option_to_list acts.keep)
  pub room : HasRoom gateway.slots (kept ++ option_to_list acts.keep) mid
  pub numbered : IsNumbered mid
  pub memory_left : memory_taken (option_to_list acts.keep) + memory_reserved mid ≤ memory
  pub others : AreOthersInOrder pt (kept ++ option_to_list acts.keep) mid
  pub all : owes_cut (calls_wanted acts.act) ≡ false → AreTerminalsInOrder (kept ++ option_to_list acts.keep) mid

-- what waits is in order with the record that is kept
abbrev pub WaitsWith : Setup → List Record → Core → Acts → Type 0
WaitsWith setup kept mid acts = (moment : ℕ) → AreWaitsInOrder (known_with setup (kept ++ option_to_list acts.keep) mid moment)

pub moment-within : (now : ℤ) → IsMoment (pos (moment_of now))
moment-within now = within (moment_of now) (moment_of_bound now)
  where
    within : (moment : ℕ) → moment ≤ last_moment → IsMoment (pos moment)
    within moment h = (omega (arith, ints), omega (arith, ints))

room-first : (kept unresolved reserved slots : ℕ) → kept + (unresolved + reserved) ≤ slots → kept ≤ slots
room-first kept unresolved reserved slots room = omega (arith, room)

-- there is room for the record that is kept
pub slots-for : (gateway : Gateway) (kept : List Record) (mid : Core) (pt : ℕ) (acts : Acts) (memory : ℕ) (records : Records) (observed : Observed) → StaysWith gateway kept mid pt acts memory → gateway.slots ≤ 1000000 → records.ledger.records ≡ kept → StandFor gateway records observed → memory ≤ records.ledger.spare →
    IfSome acts.keep (MayBeKept kept) → IfSome acts.keep (HasSlotsFor records)
slots-for gateway kept mid pt acts memory records observed s few same stand spare may = by_keep acts.keep refl may
  where
    by_keep : (keep : Option Record) → acts.keep ≡ keep → IfSome keep (MayBeKept kept) → IfSome keep (HasSlotsFor records)
    by_keep None e may = tt
    by_keep (Some the_record) e may =
        let room : HasRoom gateway.slots (kept ++ the_record ∷ []) mid = subst (λ keep. HasRoom gateway.slots (kept ++ option_to_list keep) mid) e s.room in
        let takes : memory_taken (the_record ∷ []) + memory_reserved mid ≤ memory = subst (λ keep. memory_taken (option_to_list keep) + memory_reserved mid ≤ memory) e s.memory_left in
        let few_kept : length (kept ++ the_record ∷ []) ≤ gateway.slots = room-first (length (kept ++ the_record ∷ [])) (open_count_of (kept ++ the_record ∷ [])) (slots_reserved mid) gateway.slots room in
        record {
          may = subst (λ l. MayBeKept l the_record) (sym same) may;
          few = omega (arith, stand.slots, few);
          count = stand.count;
          slot = omega (arith, stand.slots, stand.count, ap length same, few_kept, length-append kept (the_record ∷ []));
          spare = omega (arith, takes, spare);
        }

module _ (kept : List Record) (old mid : Core) (now : ℤ) (pt : ℕ) (apdu : ApduValue) (message : MessageValue) (acts : Acts) (decoded : decode_pt_message apdu ≡ Ok message) (is : GoesBy kept old (moment_of now) pt message mid acts) where
  row-is : (setup : Setup) → IsRow kept (handle_row (known_with setup kept old (moment_of now)) pt apdu) mid acts
  row-is setup = subst (λ row. IsRow kept row mid acts) (sym (ap (handle_decoded (known_with setup kept old (moment_of now)) pt) decoded)) (is setup)

  parts : (setup : Setup) → (rest : List OwedCall) × AreCallsWith [] acts.act rest × ((handle_row (known_with setup kept old (moment_of now)) pt apdu).calls ≡ keeping_calls (length kept) acts.keep ++ rest)
  parts setup = let r = row-is setup in after-split (keeping_calls (length kept) acts.keep) acts.act _ r.calls_are

  cut-same : (setup : Setup) → owes_cut (handle_row (known_with setup kept old (moment_of now)) pt apdu).calls ≡ owes_cut (calls_wanted acts.act)
  cut-same setup = let p = parts setup in ap owes_cut p.2 ∙ kept-cut (length kept) acts.keep p.0 ∙ rest-cut acts.act p.0 p.1

  kept-same : (setup : Setup) → records_kept (handle_row (known_with setup kept old (moment_of now)) pt apdu).calls ≡ option_to_list acts.keep
  kept-same setup = let p = parts setup in ap records_kept p.2 ∙ kept-kept (length kept) acts.keep p.0 (rest-kept acts.act p.0 p.1)

  keeps-links : KeepsLinks old (handle_row (known_with any_setup kept old (moment_of now)) pt apdu)
  keeps-links = handled-keeps (known_with any_setup kept old (moment_of now)) pt apdu

  -- no terminal is linked by it
  pub handled-no-link : owes_link (calls_wanted acts.act) ≡ false
  handled-no-link =
      let p = parts any_setup in
      let k = keeps-links in
      sym (ap owes_link p.2 ∙ kept-link (length kept) acts.keep p.0 ∙ rest-link acts.act p.0 p.1) ∙ k.none

  links-stay : LinksStay old mid
  links-stay = let r = row-is any_setup in let k = keeps-links in subst (LinksStay old) (sym r.core_is) k.stay

  pub handled-alone : ChangesTerminalAlone pt old mid
  handled-alone = let r = row-is any_setup in subst (ChangesTerminalAlone pt old) (sym r.core_is) (handle-alone (known_with any_setup kept old (moment_of now)) pt apdu)

  pub handled-has : AllHaveDialogues old → owes_cut (calls_wanted acts.act) ≡ false → AllHaveDialogues mid
  handled-has all uncut =
      let r = row-is any_setup in
      subst AllHaveDialogues (sym r.core_is) (rows-keep (known_with any_setup kept old (moment_of now)) (Handle pt apdu) all (cut-same any_setup ∙ uncut))

  pub handled-others : AllHaveDialogues old → OthersHaveDialogues pt mid
  handled-others all = let alone = handled-alone in λ number terminal apart found. all number terminal (sym (alone.others number apart) ∙ found)

  -- ---- records

  module _ (gateway : Gateway) (order : IsOrderly gateway kept old) where
    slots-same : order.setup.slots ≡ gateway.slots
    slots-same = ap (λ (g : Gateway). g.slots) order.gateway_is

    in-order : IsInOrder (known_with order.setup kept old (moment_of now))
    in-order = record {
      folded = order.folded;
      room = subst (λ slots. HasRoom slots kept old) (sym slots-same) order.room;
      of_setup = order.of_setup;
      moment = moment-within now;
      numbered = order.numbered;
      terminals = order.terminals;
    }

    memory-left : EachMessageTakesItsMemory → memory_taken (option_to_list acts.keep) + memory_reserved mid ≤ memory_reserved old
    memory-left takes =
        let r = row-is order.setup in
        subst (λ l. memory_taken l + memory_reserved mid ≤ memory_reserved old) (kept-same order.setup)
        (subst (λ (c : Core). memory_taken (records_kept (handle_row (known_with order.setup kept old (moment_of now)) pt apdu).calls) + memory_reserved c ≤ memory_reserved old) (sym r.core_is) (takes (known_with order.setup kept old (moment_of now)) pt apdu))

    uncut-stays : EachRowKeepsInOrder → EachMessageTakesItsMemory → owes_cut (calls_wanted acts.act) ≡ false → StaysWith gateway kept mid pt acts (memory_reserved old)
    uncut-stays rows takes uncut =
        let r = row-is order.setup in
        let k = rows (known_with order.setup kept old (moment_of now)) (Handle pt apdu) (λ number same. cc) in-order tt (cut-same order.setup ∙ uncut) in
        let same = kept-same order.setup in
        let terminals : AreTerminalsInOrder (kept ++ option_to_list acts.keep) mid =
        subst (λ l. AreTerminalsInOrder (kept ++ l) mid) same (subst (AreTerminalsInOrder (kept ++ records_kept (handle_row (known_with order.setup kept old (moment_of now)) pt apdu).calls)) (sym r.core_is) k.terminals) in
        record {
          folded = subst (λ l. AreFolded (kept ++ l)) same k.folded;
          room = subst (λ slots. HasRoom slots (kept ++ option_to_list acts.keep) mid) slots-same (subst (λ l. HasRoom order.setup.slots (kept ++ l) mid) same
              (subst (HasRoom order.setup.slots (kept ++ records_kept (handle_row (known_with order.setup kept old (moment_of now)) pt apdu).calls)) (sym r.core_is) k.room));
          numbered = subst IsNumbered (sym r.core_is) k.numbered;
          memory_left = memory-left takes;
          others = λ number terminal apart found. terminals number terminal found;
          all = λ none. terminals;
        }

    cut-stays : EachCutKeepsInOrder → EachMessageTakesItsMemory → owes_cut (calls_wanted acts.act) ≡ true → StaysWith gateway kept mid pt acts (memory_reserved old)
    cut-stays cuts takes cut =
        let r = row-is order.setup in
        let k = cuts (known_with order.setup kept old (moment_of now)) (Handle pt apdu) pt refl in-order (cut-same order.setup ∙ cut) in
        let none : kept ≡ kept ++ option_to_list acts.keep = sym (ap (λ l. kept ++ l) (sym (kept-same order.setup) ∙ k.none_kept) ∙ append-nil kept) in
        record {
          folded = subst AreFolded none order.folded;
          room = subst (λ l. HasRoom gateway.slots l mid) none (subst (λ slots. HasRoom slots kept mid) slots-same (subst (HasRoom order.setup.slots kept) (sym r.core_is) k.room));
          numbered = subst IsNumbered (sym r.core_is) k.numbered;
          memory_left = memory-left takes;
          others = subst (λ l. AreOthersInOrder pt l mid) none (subst (AreOthersInOrder pt kept) (sym r.core_is) k.others);
          all = λ uncut. absurd (let h : true ≡ false = sym cut ∙ uncut in cc);
        }

    pub handled-stays : EachRowKeepsInOrder → EachCutKeepsInOrder → EachMessageTakesItsMemory → StaysWith gateway kept mid pt acts (memory_reserved old)
    handled-stays rows cuts takes = by_cut (owes_cut (calls_wanted acts.act)) refl
      where
        by_cut : (cut : Bool) → owes_cut (calls_wanted acts.act) ≡ cut → StaysWith gateway kept mid pt acts (memory_reserved old)
        by_cut true e = cut-stays cuts takes e
        by_cut false e = uncut-stays rows takes e

    -- what waits stays in order with it
    pub handled-waits : EachRowKeepsWaits → WaitsWith order.setup kept mid acts
    handled-waits keeps moment =
        let r = row-is order.setup in
        let row : Row = handle_row (known_with order.setup kept old (moment_of now)) pt apdu in
        let h = keeps [] (known_with order.setup kept old (moment_of now)) (Handle pt apdu) in-order (order.waits (moment_of now)) tt in
        moments-keep-waits (known_with order.setup (kept ++ option_to_list acts.keep) mid (moment_of now)) moment
        (subst (λ l. AreWaitsInOrder (known_with order.setup (kept ++ l) mid (moment_of now))) (kept-same order.setup)
        (subst (λ (c : Core). AreWaitsInOrder (known_with order.setup (kept ++ records_kept row.calls) c (moment_of now))) (sym r.core_is) h))

    pub few-slots : gateway.slots ≤ 1000000
    few-slots = omega (arith, slots-same, order.of_setup.within.slots.1)

  -- ---- the round

  -- its item begins
  pub handled-begins : (s : Observed) (setup : Setup) (tills : List Till) (polls : ℕ) (heard : ℕ → List ℕ) (items : List RoundItem) → (rest : List OwedCall) × AreCallsWith [] acts.act rest
      × Triple s s (MidRound setup old kept tills polls now (AreHeard heard) [] (Handle pt apdu ∷ items)) (MidRound setup mid kept tills polls now (AreHeard heard) (keeping_calls (length kept) acts.keep ++ rest) items)
  handled-begins s setup tills polls heard items =
      let r = row-is setup in
      let p = parts setup in
      let row : Row = handle_row (known_with setup kept old (moment_of now)) pt apdu in (
        p.0,
        p.1,
        begin-held setup kept tills polls now (AreHeard heard) s old mid (Handle pt apdu) (keeping_calls (length kept) acts.keep ++ p.0) items (record {
          begins = λ scene items. refl;
          row = λ tills.
              ap (λ items. record { core = row.core; calls = row.calls; items = items }) r.items_are
              ∙ ap (λ calls. record { core = row.core; calls = calls; items = [] }) p.2
              ∙ ap (λ (c : Core). becoming c (keeping_calls (length kept) acts.keep ++ p.0)) (sym r.core_is);
          links = links-stay;
        }),
      )

-- ---- what a call on the disk leaves

pub disk-done : {T E : Type 0} (a b : Observed) (r : Result T E) (done : T) (P : View → Type 0) (Q : T → View → Type 0) → r ≡ Ok done → Triple a b P (UnlessBroken r Q) → Triple a b P (Q done)
disk-done a b r done P Q is k = subst (λ r. Triple a b P (UnlessBroken r Q)) is k

pub disk-failed : {T E : Type 0} (a b : Observed) (r : Result T E) (failed : E) (P : View → Type 0) (Q : T → View → Type 0) → r ≡ Err failed → Triple a b P (UnlessBroken r Q) → Triple a b P (λ v. v.scene.stage ≡ Broken)
disk-failed a b r failed P Q is k = subst (λ r. Triple a b P (UnlessBroken r Q)) is k

-- what keeps a record where one is wanted, whatever calls come then
abbrev pub KeepsWanted : {T E : Type 0} → Observed → Observed → List Record → List Record → ℤ → Option Record → Result T E → Type 0
KeepsWanted a b kept new now wanted r = (setup : Setup) (core : Core) (tills : List Till) (polls : ℕ) (heard : ℕ → List ℕ) (calls : List OwedCall) (items : List RoundItem)
    → Triple a b (MidRound setup core kept tills polls now (AreHeard heard) (keeping_calls (length kept) wanted ++ calls) items) (UnlessBroken r (λ done. MidRound setup core new tills polls now (AreHeard heard) calls items))

module _ (a b : Observed) (kept new_kept : List Record) (old mid : Core) (now : ℤ) (pt : ℕ) (apdu : ApduValue) (message : MessageValue) (acts : Acts) (decoded : decode_pt_message apdu ≡ Ok message) (is : GoesBy kept old (moment_of now) pt message mid acts)
    {T E : Type 0} (r : Result T E) (keeping : KeepsWanted a b kept new_kept now acts.keep r) (tills : List Till) (setup : Setup) (polls : ℕ) (heard : ℕ → List ℕ) (items : List RoundItem) where
  -- the record could not be kept
  pub handled-broken : (failed : E) → r ≡ Err failed → Triple a b (MidRound setup old kept tills polls now (AreHeard heard) [] (Handle pt apdu ∷ items)) (λ v. v.scene.stage ≡ Broken)
  handled-broken failed broken =
      let p = handled-begins kept old mid now pt apdu message acts decoded is a setup tills polls heard items in
      triple-then a a b _ _ _ p.2 (disk-failed a b r failed _ (λ done. MidRound setup mid new_kept tills polls now (AreHeard heard) p.0 items) broken (keeping setup mid tills polls heard p.0 items))

  -- it is kept, and the call is made
  pub handled-done : (c : Observed) (new : Core) (left : List Till) (done : T) → r ≡ Ok done → MakesCall b c mid new tills left now acts.act →
      Triple a c (MidRound setup old kept tills polls now (AreHeard heard) [] (Handle pt apdu ∷ items)) (MidRound setup new new_kept left polls now (AreHeard heard) [] items)
  handled-done c new left done went makes =
      let p = handled-begins kept old mid now pt apdu message acts decoded is a setup tills polls heard items in
      triple-then a a c _ _ _ p.2 (triple-then a b c _ _ _
      (disk-done a b r done _ (λ done. MidRound setup mid new_kept tills polls now (AreHeard heard) p.0 items) went (keeping setup mid tills polls heard p.0 items))
      (makes p.0 p.1 setup new_kept polls heard items))

-- ---- what is held then

-- a call leaves in order what was so, but for its own terminal where it is cut
abbrev pub OrdersAll : ℕ → Option Act → Core → Core → Type 0
OrdersAll pt wanted mid new = (kept : List Record) → AreOthersInOrder pt kept mid → (owes_cut (calls_wanted wanted) ≡ false → AreTerminalsInOrder kept mid) → AreTerminalsInOrder kept new

pub handled-well : (state new : RunState) (mid : Core) (pt : ℕ) (acts : Acts) (memory : ℕ) (a b c : Observed) → (well : IsWell state a) → new.gateway ≡ state.gateway → StaysWith state.gateway state.records.ledger.records mid pt acts memory → memory ≤ state.records.ledger.spare → KeepsWithLedger state.records new.records acts.keep →
    StandsFor new.records.journal b → GoesOnBesideDisk b c → settings_of mid ≡ settings_of state.core → settings_of new.core ≡ settings_of mid → days_served new.core.terminals ≤ days_served mid.terminals → new.core.device_requests ≡ mid.device_requests → OrdersAll pt acts.act mid new.core → AllHaveDialogues new.core → WaitsWith well.order.setup state.records.ledger.records mid acts → WaitsStay mid new.core → IsWell new c
handled-well state new mid pt acts memory a b c well gateway stays spare keeping stands goes first second days requests orders dialogues with_kept waits = subst (λ g. IsWell (record new { gateway = g }) c) (sym gateway) (record {
  order = record {
    setup = well.order.setup;
    gateway_is = well.order.gateway_is;
    of_setup = record { within = well.order.of_setup.within; settings = second ∙ first ∙ well.order.of_setup.settings };
    folded = subst AreFolded (sym keeping.records) stays.folded;
    room = let room : HasRoom state.gateway.slots new.records.ledger.records mid = subst (λ l. HasRoom state.gateway.slots l mid) (sym keeping.records) stays.room in room-left state.gateway.slots new.records.ledger.records mid new.core room days waits;
    numbered = subst (λ n. n ≤ greatest_device_number) (sym requests) stays.numbered;
    terminals = orders new.records.ledger.records (subst (λ l. AreOthersInOrder pt l mid) (sym keeping.records) stays.others) (λ uncut. subst (λ l. AreTerminalsInOrder l mid) (sym keeping.records) (stays.all uncut));
    dialogues = dialogues;
    waits = λ moment. waits.order well.order.setup new.records.ledger.records moment (subst (λ l. AreWaitsInOrder (known_with well.order.setup l mid moment)) (sym keeping.records) (with_kept moment));
  };
  records = record {
    count = ap (λ (j : JournalValue). j.len) keeping.journal;
    slots = ap (λ (j : JournalValue). j.slots) keeping.journal ∙ well.records.slots;
    stands = goes.stands new.records.journal stands;
  };
  spare = omega (arith, days, waits.few, stays.memory_left, spare, keeping.spare);
})

-- ---- an APDU

-- what takes the message that this APDU is
abbrev pub TakesHandled : {T E : Type 0} → Observed → Observed → RunState → RunState → List Till → List Till → ℤ → Result T E → ℕ → ApduValue → Type 0
TakesHandled a b old new tills left now r pt apdu = (setup : Setup) (polls : ℕ) (heard : ℕ → List ℕ) (items : List RoundItem) →
    Triple a b (HeldRound setup old tills polls now (AreHeard heard) [] (Handle pt apdu ∷ items)) (UnlessBroken r (λ given. HeldRound setup new left polls now (AreHeard heard) [] items))

-- what begins what waits for this terminal
abbrev pub BeginsNext : {T E : Type 0} → Observed → Observed → RunState → RunState → List Till → List Till → ℤ → Result T E → ℕ → Type 0
BeginsNext a b old new tills left now r pt = (setup : Setup) (polls : ℕ) (heard : ℕ → List ℕ) (items : List RoundItem) →
    Triple a b (HeldRound setup old tills polls now (AreHeard heard) [] (NextWaiting pt ∷ items)) (UnlessBroken r (λ given. HeldRound setup new left polls now (AreHeard heard) [] items))

-- one outside the grammar
pub apdu-outside : (a b : Observed) (old : RunState) (core : Core) (tills left : List Till) (now : ℤ) (pt : ℕ) (apdu : ApduValue) (fault : PtFault) → decode_pt_message apdu ≡ Err fault → is_linked_in (slice_get core.terminals pt) ≡ false → Handles a b old.core core tills left now (Greet pt apdu) →
    (setup : Setup) (polls : ℕ) (heard : ℕ → List ℕ) (items : List RoundItem) → Triple a b (HeldRound setup old tills polls now (AreHeard heard) [] (apdu_items pt apdu ++ items)) (HeldRound setup (record old { core = core }) left polls now (AreHeard heard) [] items)
apdu-outside a b old core tills left now pt apdu fault decoded unlinked greets = λ setup polls heard items.
    triple-then a b b _ _ _ (greets setup old.records.ledger.records polls heard (Handle pt apdu ∷ NextWaiting pt ∷ items))
    (triple-then b b b _ _ _ (unhandled b core left now pt apdu fault decoded setup old.records.ledger.records polls heard (NextWaiting pt ∷ items))
    (none-begins b core left now pt unlinked setup old.records.ledger.records polls heard items))

-- one that is a message, and was taken; then what waits for the terminal may begin
pub apdu-taken : (a b c d : Observed) (old new : RunState) (core : Core) (tills mid left : List Till) (now : ℤ) (pt : ℕ) (apdu : ApduValue) → Handles a b old.core core tills mid now (Greet pt apdu) →
    ((setup : Setup) (polls : ℕ) (heard : ℕ → List ℕ) (items : List RoundItem) → Triple b c (HeldRound setup (record old { core = core }) mid polls now (AreHeard heard) [] (Handle pt apdu ∷ items)) (HeldRound setup new left polls now (AreHeard heard) [] items)) →
    (setup : Setup) (polls : ℕ) (heard : ℕ → List ℕ) (items : List RoundItem) (Q : View → Type 0) → Triple c d (HeldRound setup new left polls now (AreHeard heard) [] (NextWaiting pt ∷ items)) Q →
    Triple a d (HeldRound setup old tills polls now (AreHeard heard) [] (apdu_items pt apdu ++ items)) Q
apdu-taken a b c d old new core tills mid left now pt apdu greets handles = λ setup polls heard items Q begins.
    triple-then a b d _ _ _ (greets setup old.records.ledger.records polls heard (Handle pt apdu ∷ NextWaiting pt ∷ items))
    (triple-then b c d _ _ _ (handles setup polls heard (NextWaiting pt ∷ items)) begins)

-- one whose record could not be kept
pub apdu-broken : (a b c : Observed) (old : RunState) (core : Core) (tills mid : List Till) (now : ℤ) (pt : ℕ) (apdu : ApduValue) → Handles a b old.core core tills mid now (Greet pt apdu) →
    ((setup : Setup) (polls : ℕ) (heard : ℕ → List ℕ) (items : List RoundItem) → Triple b c (HeldRound setup (record old { core = core }) mid polls now (AreHeard heard) [] (Handle pt apdu ∷ items)) (λ v. v.scene.stage ≡ Broken)) →
    (setup : Setup) (polls : ℕ) (heard : ℕ → List ℕ) (items : List RoundItem) → Triple a c (HeldRound setup old tills polls now (AreHeard heard) [] (apdu_items pt apdu ++ items)) (λ v. v.scene.stage ≡ Broken)
apdu-broken a b c old core tills mid now pt apdu greets handles = λ setup polls heard items.
    triple-then a b c _ _ _ (greets setup old.records.ledger.records polls heard (Handle pt apdu ∷ NextWaiting pt ∷ items)) (handles setup polls heard (NextWaiting pt ∷ items))
