-- What a request begins at a terminal: the Intent of a payment or a reversal is kept, and then the terminal is asked; a stop alone is sent; a Login
-- or a Logout alone gets its reply.
use Rattle.std.proofs.Common.{◌≡◌, ◌≤◌, ◌+◌, ℕ, List, [], ◌∷◌, ◌++◌, length, refl, sym, ◌∙◌, ap, subst, arith}
use Rattle.std.specs.Prelude.{ℤ, All, false, Some, Result, Ok, Err, IfSome, option_to_list}
use Rattle.gw_base.specs.Moment.{moment_of}
use Rattle.gw_base.specs.declared.setup.Setup.{Setup}
use Rattle.gw_site.specs.Observed.{Observed}
use Rattle.gw_site.specs.Outside.{new_connection}
use Rattle.jrn_record.specs.declared.records.Record.{Record}
use Rattle.jrn_record.specs.declared.records.How.TheVariants as hows
use Rattle.sale_values.specs.declared.header.Header.{Header}
use Rattle.sale_values.specs.declared.request.SaleRequest.{SaleRequest}
use Rattle.gw_ledger.specs.Fold.{AreFolded}
use Rattle.gw_owes.specs.Calls.{OwedCall, records_kept}
use Rattle.gw_owes.specs.Core.{Core}
use Rattle.gw_owes.specs.Dialogues.{AllHaveDialogues, OthersHaveDialogues}
use Rattle.gw_owes.specs.Items.{RoundItem, Asked, Serve}
use Rattle.gw_owes.specs.Payments.{serve_row}
use Rattle.gw_owes.specs.ReadAs.{Request}
use Rattle.gw_owes.specs.RecordLaws.{AreTerminalsInOrder, EachRequestTakesOne, EachRowBringsReadItems, EachRowKeepsInOrder, HasRoom, IsInOrder, IsNumbered, IsReadItem, IsReadRequest, memory_taken}
use Rattle.gw_owes.specs.Reconciliations.{reply_to_settled, settled_of}
use Rattle.gw_owes.specs.Requests.{begun_by}
use Rattle.gw_owes.specs.Row.{Known, Row, becoming}
use Rattle.gw_owes.specs.TerminalLaws.{ChangesTerminalAlone, owes_cut}
use Rattle.gw_owes.specs.WaitingLaws.{AreWaitsInOrder, EachRowKeepsWaits}
use Rattle.gw_owes.specs.Waits.{memory_reserved}
use Rattle.gw_owes.specs.Links.{is_linked}
use Rattle.gw_owes.proofs.BeginLemmas.{serve-never-cuts}
use Rattle.gw_owes.proofs.DialogueLemmas.{rows-keep}
use Rattle.gw_owes.proofs.PaymentLemmas.{each-served}
use Rattle.gw_owes.proofs.TerminalLemmas.{serve-alone}
use Rattle.gw_owes.proofs.WaitingFrameLemmas.{moments-keep-waits}
use Rattle.gw_rules.specs.Stage.{Broken}
use Rattle.gw_rules.specs.Triple.{Triple}
use Rattle.gw_rules.specs.View.{View}
use Rattle.gw_rules.proofs.TripleLemmas.{triple-then}
use Rattle.gw_core.specs.IsRow.{AreCallsWith, IsRow, MayBeKept, keeping_calls, known_with}
use Rattle.gw_core.specs.ReplyOf.{BeginsAt, IsKnownAt}
use Rattle.gw_core.specs.declared.act.Acts.{Acts}
use Rattle.gw_core.specs.declared.gateway.Gateway.{Gateway}
use Rattle.gw_dispatch.specs.RunState.{gateway_of, HasSlotsFor, IsOrderly, StandFor}
use Rattle.gw_dispatch.specs.MidRound.{AreHeard, MidRound}
use Rattle.gw_dispatch.specs.Round.{known_at}
use Rattle.gw_dispatch.specs.Wanted.{calls_wanted, owes_link}
use Rattle.gw_dispatch.specs.declared.records.Records.{Records}
use Rattle.gw_dispatch.specs.declared.tills.Till.{Till}
use Rattle.gw_dispatch.proofs.HandleLemmas.{KeepsWanted, StaysWith, WaitsWith, after-split, disk-done, disk-failed, kept-cut, kept-kept, kept-link, moment-within, rest-cut, rest-kept, slots-for}
use Rattle.gw_dispatch.proofs.LinkLemmas.{KeepsLinks, LinksStay, becomes-keeps, owing-keeps, reply-none}
use Rattle.gw_dispatch.proofs.PerformLemmas.{rest-link}
use Rattle.gw_dispatch.proofs.StepLemmas.{begin-held}

-- ---- the row

-- links stay, and none is made
served-keeps : (known : Known) (pt till : ℕ) (header : Header) (request : SaleRequest) → KeepsLinks known.core (serve_row known pt till header request)
served-keeps known pt till header request = each-served (KeepsLinks known.core) known pt till header request (record {
  none = owing-keeps known [] refl;
  begins = λ terminal last asking at. becomes-keeps known pt terminal _ _ at.found (sym (ap is_linked at.standing_is)) refl;
  sent = λ terminal talk at may. becomes-keeps known pt terminal _ _ at.found refl refl;
  wished = λ terminal talk at may. becomes-keeps known pt terminal _ _ at.found refl refl;
  session = λ at. record { stay = λ other. refl; none = refl };
  settles = λ terminal at. owing-keeps known _ (reply-none (Some till) (reply_to_settled known.kept (settled_of hows.Sale header terminal.pt.currency known.moment)));
  day = λ terminal last at. becomes-keeps known pt terminal _ _ at.found (sym (ap is_linked at.standing_is)) refl;
  displays = λ terminal last outputs command at. becomes-keeps known pt terminal _ _ at.found (sym (ap is_linked at.standing_is)) refl;
})

-- the core has gone by the row of this request, whatever else is in the setup
abbrev pub BeginsBy : Gateway → List Record → Core → ℕ → ℕ → ℕ → Header → SaleRequest → Core → Acts → Type 0
BeginsBy gateway kept old moment pt till header request mid acts = (known : Known) → IsKnownAt gateway kept old moment known → IsRow kept (serve_row known pt till header request) mid acts

module _ (gateway : Gateway) (kept : List Record) (old mid : Core) (now : ℤ) (pt till : ℕ) (header : Header) (request : SaleRequest) (acts : Acts) (order : IsOrderly gateway kept old) (is : BeginsBy gateway kept old (moment_of now) pt till header request mid acts) where
  abbrev row-at : Setup → Row
  row-at setup = serve_row (known_at setup old kept now) pt till header request

  is-known : (setup : Setup) → gateway_of setup ≡ gateway → IsKnownAt gateway kept old (moment_of now) (known_at setup old kept now)
  is-known setup same = record { name_is = ap (λ (g : Gateway). g.name) same; slots_is = ap (λ (g : Gateway). g.slots) same; line_is = ap (λ (g : Gateway). g.line) same; wait_is = ap (λ (g : Gateway). g.wait) same; kept_is = refl; core_is = refl; moment_is = refl }

  row-is : (setup : Setup) → gateway_of setup ≡ gateway → IsRow kept (row-at setup) mid acts
  row-is setup same = is (known_at setup old kept now) (is-known setup same)

  parts : (setup : Setup) → gateway_of setup ≡ gateway → (rest : List OwedCall) × AreCallsWith [] acts.act rest × ((row-at setup).calls ≡ keeping_calls (length kept) acts.keep ++ rest)
  parts setup same = let r = row-is setup same in after-split (keeping_calls (length kept) acts.keep) acts.act _ r.calls_are

  linking : KeepsLinks old (row-at order.setup)
  linking = served-keeps (known_at order.setup old kept now) pt till header request

  -- no terminal is linked
  pub begun-no-link : owes_link (calls_wanted acts.act) ≡ false
  begun-no-link =
      let p = parts order.setup order.gateway_is in
      let k = linking in
      sym (ap owes_link p.2 ∙ kept-link (length kept) acts.keep p.0 ∙ rest-link acts.act p.0 p.1) ∙ k.none

  -- none is cut
  pub begun-no-cut : owes_cut (calls_wanted acts.act) ≡ false
  begun-no-cut =
      let p = parts order.setup order.gateway_is in
      sym (ap owes_cut p.2 ∙ kept-cut (length kept) acts.keep p.0 ∙ rest-cut acts.act p.0 p.1) ∙ serve-never-cuts (known_at order.setup old kept now) pt till header request

  kept-same : records_kept (row-at order.setup).calls ≡ option_to_list acts.keep
  kept-same = let p = parts order.setup order.gateway_is in ap records_kept p.2 ∙ kept-kept (length kept) acts.keep p.0 (rest-kept acts.act p.0 p.1)

  links-stay : LinksStay old mid
  links-stay = let r = row-is order.setup order.gateway_is in let k = linking in subst (LinksStay old) (sym r.core_is) k.stay

  pub begun-alone : ChangesTerminalAlone pt old mid
  begun-alone = let r = row-is order.setup order.gateway_is in subst (ChangesTerminalAlone pt old) (sym r.core_is) (serve-alone (known_at order.setup old kept now) pt till header request)

  pub begun-has : AllHaveDialogues mid
  begun-has =
      let r = row-is order.setup order.gateway_is in
      subst AllHaveDialogues (sym r.core_is)
      (rows-keep (known_at order.setup old kept now) (Serve pt till header request) order.dialogues (serve-never-cuts (known_at order.setup old kept now) pt till header request))

  pub begun-others : OthersHaveDialogues pt mid
  begun-others = λ number terminal apart found. begun-has number terminal found

  -- ---- records

  slots-same : order.setup.slots ≡ gateway.slots
  slots-same = ap (λ (g : Gateway). g.slots) order.gateway_is

  in-order : IsInOrder (known_at order.setup old kept now)
  in-order = record {
    folded = order.folded;
    room = subst (λ slots. HasRoom slots kept old) (sym slots-same) order.room;
    of_setup = order.of_setup;
    moment = moment-within now;
    numbered = order.numbered;
    terminals = order.terminals;
  }

  module _ (begins : BeginsAt gateway kept old (moment_of now) pt header request) (rows : EachRowKeepsInOrder) (brings : EachRowBringsReadItems) (takes : EachRequestTakesOne) (waiting : EachRowKeepsWaits) where
    -- the request was read, and is about the terminal: what a message that was read begins is so
    is-read : IsReadRequest order.setup pt header request
    is-read =
        let known : Known = known_at order.setup old kept now in
        let read : All (IsReadItem order.setup) (begun_by known 0 (Request header request)) = brings (new_connection 0 ∷ []) known (Asked 0 (Request header request)) in-order begins.read in
        let one : All (IsReadItem order.setup) (Serve pt 0 header request ∷ []) = subst (All (IsReadItem order.setup)) (begins.begins known (is-known order.setup order.gateway_is) 0) read in
        one 0 (Serve pt 0 header request) (omega arith)

    -- what is held stays in order with the record that is kept
    pub begun-stays : StaysWith gateway kept mid pt acts (memory_reserved old + 1)
    begun-stays =
        let r = row-is order.setup order.gateway_is in
        let k = rows (known_at order.setup old kept now) (Serve pt till header request) (λ number same. cc) in-order is-read (serve-never-cuts (known_at order.setup old kept now) pt till header request) in
        let same = kept-same in
        let terminals : AreTerminalsInOrder (kept ++ option_to_list acts.keep) mid =
        subst (λ l. AreTerminalsInOrder (kept ++ l) mid) same (subst (AreTerminalsInOrder (kept ++ records_kept (row-at order.setup).calls)) (sym r.core_is) k.terminals) in
        record {
          folded = subst (λ l. AreFolded (kept ++ l)) same k.folded;
          room = subst (λ slots. HasRoom slots (kept ++ option_to_list acts.keep) mid) slots-same (subst (λ l. HasRoom order.setup.slots (kept ++ l) mid) same
              (subst (HasRoom order.setup.slots (kept ++ records_kept (row-at order.setup).calls)) (sym r.core_is) k.room));
          numbered = subst IsNumbered (sym r.core_is) k.numbered;
          memory_left = subst (λ l. memory_taken l + memory_reserved mid ≤ memory_reserved old + 1) same
              (subst (λ (c : Core). memory_taken (records_kept (row-at order.setup).calls) + memory_reserved c ≤ memory_reserved old + 1) (sym r.core_is) (takes (known_at order.setup old kept now) pt till header request).0);
          others = λ number terminal apart found. terminals number terminal found;
          all = λ none. terminals;
        }

    -- what waits stays in order with it
    pub begun-waits : WaitsWith order.setup kept mid acts
    begun-waits moment =
        let r = row-is order.setup order.gateway_is in
        let h = waiting [] (known_at order.setup old kept now) (Serve pt till header request) in-order (order.waits (moment_of now)) is-read in
        moments-keep-waits (known_with order.setup (kept ++ option_to_list acts.keep) mid (moment_of now)) moment
        (subst (λ l. AreWaitsInOrder (known_with order.setup (kept ++ l) mid (moment_of now))) kept-same
        (subst (λ (c : Core). AreWaitsInOrder (known_with order.setup (kept ++ records_kept (row-at order.setup).calls) c (moment_of now))) (sym r.core_is) h))

    -- there is room for it
    pub begun-room : (records : Records) (observed : Observed) → records.ledger.records ≡ kept → StandFor gateway records observed → memory_reserved old + 1 ≤ records.ledger.spare → IfSome acts.keep (MayBeKept kept) → IfSome acts.keep (HasSlotsFor records)
    begun-room records observed same stand spare may =
        slots-for gateway kept mid pt acts (memory_reserved old + 1) records observed begun-stays (omega (arith, slots-same, order.of_setup.within.slots.1)) same stand spare may

  -- ---- the round

  module _ (setup : Setup) (same : gateway_of setup ≡ gateway) (tills : List Till) (polls : ℕ) (heard : ℕ → List ℕ) (items : List RoundItem) where
    -- its item begins
    begun-begins : (s : Observed) → (rest : List OwedCall) × AreCallsWith [] acts.act rest
        × Triple s s (MidRound setup old kept tills polls now (AreHeard heard) [] (Serve pt till header request ∷ items)) (MidRound setup mid kept tills polls now (AreHeard heard) (keeping_calls (length kept) acts.keep ++ rest) items)
    begun-begins s =
        let r = row-is setup same in
        let p = parts setup same in
        let row : Row = row-at setup in (
          p.0,
          p.1,
          begin-held setup kept tills polls now (AreHeard heard) s old mid (Serve pt till header request) (keeping_calls (length kept) acts.keep ++ p.0) items (record {
            begins = λ scene items. refl;
            row = λ tills.
                ap (λ items. record { core = row.core; calls = row.calls; items = items }) r.items_are
                ∙ ap (λ calls. record { core = row.core; calls = calls; items = [] }) p.2
                ∙ ap (λ (c : Core). becoming c (keeping_calls (length kept) acts.keep ++ p.0)) (sym r.core_is);
            links = links-stay;
          }),
        )

    module _ (a b : Observed) (new_kept : List Record) {T E : Type 0} (r : Result T E) (keeping : KeepsWanted a b kept new_kept now acts.keep r) where
      -- the record could not be kept
      pub begun-broken : (failed : E) → r ≡ Err failed → Triple a b (MidRound setup old kept tills polls now (AreHeard heard) [] (Serve pt till header request ∷ items)) (λ v. v.scene.stage ≡ Broken)
      begun-broken failed broken =
          let p = begun-begins a in
          triple-then a a b _ _ _ p.2 (disk-failed a b r failed _ (λ done. MidRound setup mid new_kept tills polls now (AreHeard heard) p.0 items) broken (keeping setup mid tills polls heard p.0 items))

      -- it is kept, and the call is made
      pub begun-done : (c : Observed) (done : T) → r ≡ Ok done → (Q : View → Type 0) → ((calls : List OwedCall) → AreCallsWith [] acts.act calls → Triple b c (MidRound setup mid new_kept tills polls now (AreHeard heard) calls items) Q) →
          Triple a c (MidRound setup old kept tills polls now (AreHeard heard) [] (Serve pt till header request ∷ items)) Q
      begun-done c done went Q makes =
          let p = begun-begins a in
          triple-then a a c _ _ _ p.2 (triple-then a b c _ _ _
          (disk-done a b r done _ (λ done. MidRound setup mid new_kept tills polls now (AreHeard heard) p.0 items) went (keeping setup mid tills polls heard p.0 items))
          (makes p.0 p.1))
