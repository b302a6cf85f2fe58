-- The request that has waited longest for a terminal: it is begun or refused, and then the next one is looked at.
use Rattle.std.proofs.Common.{◌≡◌, ◌≤◌, ◌<◌, ◌+◌, ℕ, List, [], ◌∷◌, ◌++◌, length, refl, sym, ◌∙◌, ap, subst, arith}
use Rattle.std.specs.Prelude.{ℤ, Bool, true, false, Result, Ok, Err, option_to_list}
use Rattle.gw_base.specs.Moment.{moment_of}
use Rattle.gw_base.specs.declared.setup.Setup.{Setup}
use Rattle.gw_ledger.specs.Fold.{AreFolded}
use Rattle.gw_site.specs.Observed.{Observed}
use Rattle.gw_site.specs.Outside.{Connection, Outside}
use Rattle.jrn_record.specs.declared.records.Record.{Record}
use Rattle.gw_owes.specs.Calls.{OwedCall, records_kept}
use Rattle.gw_owes.specs.Core.{Core}
use Rattle.gw_owes.specs.Dialogues.{AllHaveDialogues, OthersHaveDialogues}
use Rattle.gw_owes.specs.Items.{RoundItem, NextWaiting}
use Rattle.gw_owes.specs.Links.{is_linked}
use Rattle.gw_owes.specs.Payments.{beginning_row}
use Rattle.gw_owes.specs.RecordLaws.{AreTerminalsInOrder, EachNextTakesItsMemory, HasRoom, IsInOrder, IsNumbered, memory_taken}
use Rattle.gw_owes.specs.Row.{Known, Row}
use Rattle.gw_owes.specs.Rows.{row_of}
use Rattle.gw_owes.specs.TerminalLaws.{ChangesTerminalAlone}
use Rattle.gw_owes.specs.WaitingLaws.{AreWaitsInOrder, EachNextKeepsInOrder, EachRowKeepsWaits}
use Rattle.gw_owes.specs.WaitingRows.{next_waiting_row}
use Rattle.gw_owes.specs.Waits.{memory_reserved}
use Rattle.gw_owes.proofs.DialogueLemmas.{rows-keep}
use Rattle.gw_owes.proofs.NextLemmas.{each-next, known_without}
use Rattle.gw_owes.proofs.NextOrderLemmas.{first-there, next-never-cuts, one-fewer}
use Rattle.gw_owes.proofs.PaymentLemmas.{day_row}
use Rattle.gw_owes.proofs.TerminalLemmas.{next-alone}
use Rattle.gw_owes.proofs.WaitingFrameLemmas.{moments-keep-waits}
use Rattle.gw_rules.specs.Stage.{Broken}
use Rattle.gw_rules.specs.Triple.{Triple}
use Rattle.gw_rules.specs.View.{at_first}
use Rattle.gw_rules.proofs.TripleLemmas.{triple-after, triple-before, triple-frame, triple-some, triple-then}
use Rattle.gw_core.specs.IsRow.{AreCallsWith, IsRowThen, KnowsWaits, keeping_calls, known_with, next_items}
use Rattle.gw_core.specs.declared.act.Acts.{Acts}
use Rattle.gw_core.specs.declared.gateway.Gateway.{Gateway}
use Rattle.gw_dispatch.specs.RunState.{IsOrderly}
use Rattle.gw_dispatch.specs.MidRound.{AreHeard, AreLinked, MidRound}
use Rattle.gw_dispatch.specs.Round.{HoldsTills, InRound, known_at}
use Rattle.gw_dispatch.specs.Wanted.{calls_wanted, owes_link}
use Rattle.gw_dispatch.specs.declared.tills.Till.{Till}
use Rattle.gw_dispatch.proofs.HandleLemmas.{KeepsWanted, StaysWith, WaitsWith, after-split, any_setup, disk-done, disk-failed, kept-kept, kept-link, moment-within, rest-kept}
use Rattle.gw_dispatch.proofs.LinkLemmas.{KeepsLinks, LinksStay, becomes-keeps, owing-keeps}
use Rattle.gw_dispatch.proofs.PerformLemmas.{MakesCall, rest-link}
use Rattle.gw_dispatch.proofs.ServeLemmas.{begin-item}

-- ---- what is known

-- with its setup what is held is in order
pub orderly-knows : (gateway : Gateway) (kept : List Record) (core : Core) (now : ℤ) → IsOrderly gateway kept core → KnowsWaits kept core (moment_of now)
orderly-knows gateway kept core now order = record {
  setup = order.setup;
  in_order = record {
    folded = order.folded;
    room = subst (λ slots. HasRoom slots kept core) (sym (ap (λ (g : Gateway). g.slots) order.gateway_is)) order.room;
    of_setup = order.of_setup;
    moment = moment-within now;
    numbered = order.numbered;
    terminals = order.terminals;
  };
  waits = order.waits (moment_of now);
}

-- ---- the row

-- links stay, and none is made
next-keeps : (known : Known) (pt : ℕ) → KeepsLinks known.core (next_waiting_row known pt)
next-keeps known pt = each-next (KeepsLinks known.core) known pt (record {
  none = owing-keeps known [] refl;
  refused = λ terminal last wait condition first why. record { stay = λ other. refl; none = refl };
  begins = λ terminal last wait asking at.
      let k : KeepsLinks (known_without known wait).core (beginning_row (known_without known wait) pt wait.till terminal last asking.intent asking.original) = becomes-keeps (known_without known wait) pt terminal _ _ at.first.found (sym (ap is_linked at.first.standing_is)) refl in
      record { stay = λ other. k.stay other; none = k.none };
  day = λ terminal last wait at.
      let k : KeepsLinks (known_without known wait).core (day_row (known_without known wait) pt wait.till wait.header terminal last) = becomes-keeps (known_without known wait) pt terminal _ _ at.first.found (sym (ap is_linked at.first.standing_is)) refl in
      record { stay = λ other. k.stay other; none = k.none };
  left = λ terminal last wait first. record { stay = λ other. refl; none = refl };
})

-- where another is looked at one waits no longer
next-fewer : (known : Known) (pt : ℕ) → (next_waiting_row known pt).items ≡ NextWaiting pt ∷ [] → length (next_waiting_row known pt).core.waits < length known.core.waits
next-fewer known pt = each-next (λ (row : Row). row.items ≡ NextWaiting pt ∷ [] → length row.core.waits < length known.core.waits) known pt (record {
  none = λ is. absurd (let h : [] ≡ NextWaiting pt ∷ [] = is in cc);
  refused = λ terminal last wait condition first why is.
      let there = first-there pt known.core.waits wait first.first_is in
      let fewer = one-fewer known.core.waits there.at wait there.there in
      omega (arith, fewer);
  begins = λ terminal last wait asking at is. absurd (let h : [] ≡ NextWaiting pt ∷ [] = is in cc);
  day = λ terminal last wait at is. absurd (let h : [] ≡ NextWaiting pt ∷ [] = is in cc);
  left = λ terminal last wait first is. absurd (let h : [] ≡ NextWaiting pt ∷ [] = is in cc);
})

-- the core has gone by the row of what waits for this terminal, whatever the setup
abbrev pub NextBy : List Record → Core → ℕ → ℕ → Core → Acts → Bool → Type 0
NextBy kept old moment pt mid acts more = (setup : Setup) → IsRowThen kept (next_waiting_row (known_with setup kept old moment) pt) mid acts (next_items pt more)

module _ (kept : List Record) (old mid : Core) (now : ℤ) (pt : ℕ) (acts : Acts) (more : Bool) (is : NextBy kept old (moment_of now) pt mid acts more) where
  abbrev row-at : Setup → Row
  row-at setup = next_waiting_row (known_with setup kept old (moment_of now)) pt

  parts : (setup : Setup) → (rest : List OwedCall) × AreCallsWith [] acts.act rest × ((row-at setup).calls ≡ keeping_calls (length kept) acts.keep ++ rest)
  parts setup = let r = is setup in after-split (keeping_calls (length kept) acts.keep) acts.act _ r.calls_are

  kept-same : (setup : Setup) → records_kept (row-at setup).calls ≡ option_to_list acts.keep
  kept-same setup = let p = parts setup in ap records_kept p.2 ∙ kept-kept (length kept) acts.keep p.0 (rest-kept acts.act p.0 p.1)

  -- no terminal is linked
  pub next-no-link : owes_link (calls_wanted acts.act) ≡ false
  next-no-link =
      let p = parts any_setup in
      let k = next-keeps (known_with any_setup kept old (moment_of now)) pt in
      sym (ap owes_link p.2 ∙ kept-link (length kept) acts.keep p.0 ∙ rest-link acts.act p.0 p.1) ∙ k.none

  links-stay : LinksStay old mid
  links-stay = let r = is any_setup in let k = next-keeps (known_with any_setup kept old (moment_of now)) pt in subst (LinksStay old) (sym r.core_is) k.stay

  pub next-alone-in : ChangesTerminalAlone pt old mid
  next-alone-in = let r = is any_setup in subst (ChangesTerminalAlone pt old) (sym r.core_is) (next-alone (known_with any_setup kept old (moment_of now)) pt)

  pub next-has : AllHaveDialogues old → AllHaveDialogues mid
  next-has all =
      let r = is any_setup in
      subst AllHaveDialogues (sym r.core_is) (rows-keep (known_with any_setup kept old (moment_of now)) (NextWaiting pt) all (next-never-cuts (known_with any_setup kept old (moment_of now)) pt))

  pub next-others : AllHaveDialogues old → OthersHaveDialogues pt mid
  next-others all = λ number terminal apart found. next-has all number terminal found

  pub next-less : more ≡ true → length mid.waits < length old.waits
  next-less looks =
      let r = is any_setup in
      subst (λ (c : Core). length c.waits < length old.waits) (sym r.core_is) (next-fewer (known_with any_setup kept old (moment_of now)) pt (r.items_are ∙ ap (next_items pt) looks))

  -- ---- records

  module _ (gateway : Gateway) (order : IsOrderly gateway kept old) where
    slots-same : order.setup.slots ≡ gateway.slots
    slots-same = ap (λ (g : Gateway). g.slots) order.gateway_is

    pub next-in : IsInOrder (known_with order.setup kept old (moment_of now))
    next-in = record {
      folded = order.folded;
      room = subst (λ slots. HasRoom slots kept old) (sym slots-same) order.room;
      of_setup = order.of_setup;
      moment = moment-within now;
      numbered = order.numbered;
      terminals = order.terminals;
    }

    -- what is held stays in order with the record that is kept
    pub next-stays : EachNextKeepsInOrder → EachNextTakesItsMemory → StaysWith gateway kept mid pt acts (memory_reserved old)
    next-stays rows takes =
        let r = is order.setup in
        let k = rows (known_with order.setup kept old (moment_of now)) pt next-in (order.waits (moment_of now)) in
        let same = kept-same order.setup in
        let terminals : AreTerminalsInOrder (kept ++ option_to_list acts.keep) mid =
        subst (λ l. AreTerminalsInOrder (kept ++ l) mid) same (subst (AreTerminalsInOrder (kept ++ records_kept (row-at order.setup).calls)) (sym r.core_is) k.terminals) in
        record {
          folded = subst (λ l. AreFolded (kept ++ l)) same k.folded;
          room = subst (λ slots. HasRoom slots (kept ++ option_to_list acts.keep) mid) slots-same (subst (λ l. HasRoom order.setup.slots (kept ++ l) mid) same
              (subst (HasRoom order.setup.slots (kept ++ records_kept (row-at order.setup).calls)) (sym r.core_is) k.room));
          numbered = subst IsNumbered (sym r.core_is) k.numbered;
          memory_left = subst (λ l. memory_taken l + memory_reserved mid ≤ memory_reserved old) same
              (subst (λ (c : Core). memory_taken (records_kept (row-at order.setup).calls) + memory_reserved c ≤ memory_reserved old) (sym r.core_is) (takes (known_with order.setup kept old (moment_of now)) pt));
          others = λ number terminal apart found. terminals number terminal found;
          all = λ none. terminals;
        }

    -- what waits stays in order with it
    pub next-waits : EachRowKeepsWaits → WaitsWith order.setup kept mid acts
    next-waits keeps moment =
        let r = is order.setup in
        let h = keeps [] (known_with order.setup kept old (moment_of now)) (NextWaiting pt) next-in (order.waits (moment_of now)) tt in
        moments-keep-waits (known_with order.setup (kept ++ option_to_list acts.keep) mid (moment_of now)) moment
        (subst (λ l. AreWaitsInOrder (known_with order.setup (kept ++ l) mid (moment_of now))) (kept-same order.setup)
        (subst (λ (c : Core). AreWaitsInOrder (known_with order.setup (kept ++ records_kept (row-at order.setup).calls) c (moment_of now))) (sym r.core_is) h))

    pub next-few-slots : gateway.slots ≤ 1000000
    next-few-slots = omega (arith, slots-same, order.of_setup.within.slots.1)

  -- ---- the round

  module _ (setup : Setup) (tills : List Till) (polls : ℕ) (heard : ℕ → List ℕ) (items : List RoundItem) where
    abbrev Beside : Outside → Type 0
    Beside o = HoldsTills tills o × (AreLinked old o × AreHeard heard o)

    -- its item begins
    next-begins : (s : Observed) → (rest : List OwedCall) × AreCallsWith [] acts.act rest
        × Triple s s (MidRound setup old kept tills polls now (AreHeard heard) [] (NextWaiting pt ∷ items)) (MidRound setup mid kept tills polls now (AreHeard heard) (keeping_calls (length kept) acts.keep ++ rest) (next_items pt more ++ items))
    next-begins s =
        let r = is setup in
        let p = parts setup in
        let row : Row = record { core = mid; calls = keeping_calls (length kept) acts.keep ++ p.0; items = next_items pt more } in
        let row_is : (connections : List Connection) → row_of connections (known_at setup old kept now) (NextWaiting pt) ≡ row = λ connections.
        ap (λ items. record { core = (row-at setup).core; calls = (row-at setup).calls; items = items }) r.items_are
        ∙ ap (λ calls. record { core = (row-at setup).core; calls = calls; items = next_items pt more }) p.2
        ∙ ap (λ (c : Core). record { core = c; calls = keeping_calls (length kept) acts.keep ++ p.0; items = next_items pt more }) (sym r.core_is) in (
          p.0,
          p.1,
          triple-before s s _ (λ v. (o : Outside) × (InRound (known_at setup old kept now) polls o (NextWaiting pt ∷ items) v × Beside o)) _ (λ v h. (h.outside, (h.round, (h.tills_are, (h.linked, h.also)))))
              (triple-some s s (λ (o : Outside) v. InRound (known_at setup old kept now) polls o (NextWaiting pt ∷ items) v × Beside o) _ at_first.scene.outside
              (λ o. triple-after s s _ _ _ (triple-frame s s _ _ (Beside o) (begin-item s (known_at setup old kept now) polls o (NextWaiting pt) items row (λ scene. refl) (row_is o.tills)))
              (λ v q. record { outside = o; round = q.0; tills_are = q.1.0; linked = λ number. q.1.1.0 number ∙ sym (links-stay number); also = q.1.1.1 }))),
        )

    module _ (a b : Observed) (new_kept : List Record) {T E : Type 0} (r : Result T E) (keeping : KeepsWanted a b kept new_kept now acts.keep r) where
      -- the record could not be kept
      pub next-broken : (failed : E) → r ≡ Err failed → Triple a b (MidRound setup old kept tills polls now (AreHeard heard) [] (NextWaiting pt ∷ items)) (λ v. v.scene.stage ≡ Broken)
      next-broken failed broken =
          let p = next-begins a in
          triple-then a a b _ _ _ p.2 (disk-failed a b r failed _ (λ done. MidRound setup mid new_kept tills polls now (AreHeard heard) p.0 (next_items pt more ++ items)) broken (keeping setup mid tills polls heard p.0 (next_items pt more ++ items)))

      -- it is kept, and the call is made
      pub next-done : (c : Observed) (new : Core) (left : List Till) (done : T) → r ≡ Ok done → MakesCall b c mid new tills left now acts.act →
          Triple a c (MidRound setup old kept tills polls now (AreHeard heard) [] (NextWaiting pt ∷ items)) (MidRound setup new new_kept left polls now (AreHeard heard) [] (next_items pt more ++ items))
      next-done c new left done went makes =
          let p = next-begins a in
          triple-then a a c _ _ _ p.2 (triple-then a b c _ _ _
          (disk-done a b r done _ (λ done. MidRound setup mid new_kept tills polls now (AreHeard heard) p.0 (next_items pt more ++ items)) went (keeping setup mid tills polls heard p.0 (next_items pt more ++ items)))
          (makes p.0 p.1 setup new_kept polls heard (next_items pt more ++ items)))
