-- A request that joins those that wait, or is taken out by an Abort.
use Rattle.std.proofs.Common.{◌≡◌, ◌≤◌, ◌<◌, ◌+◌, ℕ, List, [], ◌∷◌, ◌++◌, length, zero, suc, refl, sym, ◌∙◌, ap, subst, arith, append-nil}
use Rattle.std.specs.Prelude.{ℤ, All, Option, Some, None, map, slice_get, if◌then◌else◌, Bool, true, false}
use Rattle.std.proofs.lemmas.List.{length-map}
use Rattle.gw_base.specs.Moment.{moment_of}
use Rattle.gw_base.specs.declared.setup.Setup.{Setup}
use Rattle.gw_site.specs.Observed.{Observed}
use Rattle.gw_site.specs.Outside.{new_connection}
use Rattle.jrn_record.specs.declared.records.Record.{Record}
use Rattle.sale_values.specs.Key.{key_of}
use Rattle.sale_values.specs.declared.header.Header.{Header}
use Rattle.sale_values.specs.declared.request.Reference.{Reference}
use Rattle.sale_values.specs.declared.request.SaleRequest.{SaleRequest}
use Rattle.sale_values.specs.declared.request.SaleRequest.TheVariants as requests
use Rattle.gw_owes.specs.declared.terminal.Terminal.{Terminal}
use Rattle.gw_owes.specs.Calls.{records_kept}
use Rattle.gw_owes.specs.Core.{Core, Wait}
use Rattle.gw_owes.specs.Diagnosis.{NamedTerminal, named_terminal}
use Rattle.gw_owes.specs.Dialogues.{AllHaveDialogues}
use Rattle.gw_owes.specs.Items.{RoundItem, Asked, Queue, Serve}
use Rattle.gw_owes.specs.ReadAs.{Request}
use Rattle.gw_owes.specs.RecordLaws.{AreTerminalsInOrder, EachQueueKeepsInOrder, EachRequestTakesOne, EachRowBringsReadItems, HasRoom, IsInOrder, IsNumbered, IsReadItem, IsReadQueued}
use Rattle.gw_owes.specs.Requests.{abort_items, begun_by}
use Rattle.gw_owes.specs.Row.{Known, Row}
use Rattle.gw_owes.specs.Steps.{StepResult, KeptReply, Fails, Begins, Waits, items_of_result}
use Rattle.gw_owes.specs.Stops.{stop_items_at}
use Rattle.gw_owes.specs.WaitingLaws.{AreWaitsInOrder, EachRowKeepsWaits}
use Rattle.gw_owes.specs.WaitingRows.{queue_row}
use Rattle.gw_owes.specs.Waits.{memory_reserved, waiting_with}
use Rattle.gw_owes.proofs.NextLemmas.{each-queued}
use Rattle.gw_owes.proofs.WaitingFrameLemmas.{moments-keep-waits, named-there}
use Rattle.gw_owes.proofs.WaitingListLemmas.{waits-under}
use Rattle.gw_rules.specs.Triple.{Triple}
use Rattle.gw_rules.proofs.TripleLemmas.{triple-then}
use Rattle.gw_core.specs.IsRow.{IsRow, alone, known_with}
use Rattle.gw_core.specs.ReplyOf.{IsKnownAt, QueuesAt}
use Rattle.gw_core.specs.declared.act.Act.{Act}
use Rattle.gw_core.specs.declared.gateway.Gateway.{Gateway}
use Rattle.gw_dispatch.specs.Growth.{GoesOnBesideDisk}
use Rattle.gw_dispatch.specs.RunState.{ForgetsAny, IsOrderly, IsWell, gateway_of}
use Rattle.gw_dispatch.specs.MidRound.{AreHeard, MidRound, is_linked_in}
use Rattle.gw_dispatch.specs.Round.{known_at}
use Rattle.gw_dispatch.specs.Wanted.{is_none_or_reply}
use Rattle.gw_dispatch.specs.declared.run_state.RunState.{RunState}
use Rattle.gw_dispatch.specs.declared.tills.Till.{Till}
use Rattle.gw_dispatch.proofs.HandleLemmas.{moment-within, rest-kept}
use Rattle.gw_dispatch.proofs.PerformLemmas.{MakesCall, replies_only, row-becomes, wanted-reply}
use Rattle.gw_dispatch.proofs.RunStateLemmas.{well-core}
use Rattle.gw_dispatch.proofs.SendLemmas.{sent-dialogues, sent-stays}
use Rattle.gw_dispatch.proofs.StepLemmas.{begin-held}

-- ---- its terminal

there-within : (all : List Terminal) (at : ℕ) (terminal : Terminal) → slice_get all at ≡ Some terminal → at < length all
there-within [] at terminal found = absurd (let h : None ≡ Some terminal = found in cc)
there-within (first ∷ rest) zero terminal found = omega arith
there-within (first ∷ rest) (suc at) terminal found = omega (arith, there-within rest at terminal found)

named-within : (core : Core) (poi : List ℕ) (named : NamedTerminal) → named_terminal core poi ≡ Some named → named.number < length core.terminals
named-within core poi named is = there-within core.terminals named.number named.terminal (named-there core poi named is)

module _ (core : Core) (header : Header) (request : SaleRequest) (pt : ℕ) where
  -- the item of a result is one of the terminal that is named
  result-within : (poi : List ℕ) (asked : SaleRequest) (result : StepResult) (named : Option NamedTerminal) → named_terminal core poi ≡ named → items_of_result 0 header asked named result ≡ Queue pt 0 header request ∷ [] → pt < length core.terminals
  result-within poi asked result None is same = absurd (let h : [] ≡ Queue pt 0 header request ∷ [] = same in cc)
  result-within poi asked KeptReply (Some named) is same = absurd (let h : [] ≡ Queue pt 0 header request ∷ [] = same in cc)
  result-within poi asked (Fails condition) (Some named) is same = absurd (let h : [] ≡ Queue pt 0 header request ∷ [] = same in cc)
  result-within poi asked Begins (Some named) is same = absurd cc
  result-within poi asked Waits (Some named) is same =
      let number_is : named.number ≡ pt = cc in
      subst (λ n. n < length core.terminals) number_is (named-within core poi named is)

module _ (setup : Setup) (kept : List Record) (core : Core) (moment : ℕ) (waits : AreWaitsInOrder (known_with setup kept core moment)) (header : Header) (request : SaleRequest) (pt : ℕ) where
  abort-within : (reference : Reference) (found : Option Wait) → waiting_with (key_of header reference) core.waits ≡ found → abort_items (known_with setup kept core moment) 0 header reference found ≡ Queue pt 0 header request ∷ [] → pt < length core.terminals
  abort-within reference None is same = by_named (named_terminal core (key_of header reference).poi) same
    where
      by_named : (named : Option NamedTerminal) → stop_items_at (known_with setup kept core moment) 0 header reference named ≡ Queue pt 0 header request ∷ [] → pt < length core.terminals
      by_named None same = absurd (let h : [] ≡ Queue pt 0 header request ∷ [] = same in cc)
      by_named (Some named) same = by_test _ same
        where
          by_test : (test : Bool) → (if test then Serve named.number 0 header (requests.Abort reference) ∷ [] else []) ≡ Queue pt 0 header request ∷ [] → pt < length core.terminals
          by_test true same = absurd cc
          by_test false same = absurd (let h : [] ≡ Queue pt 0 header request ∷ [] = same in cc)
  abort-within reference (Some wait) is same =
      let there = waits-under (key_of header reference) core.waits wait is in
      let order = waits.each there.place wait there.there in
      let number_is : wait.pt ≡ pt = cc in
      subst (λ n. n < length core.terminals) number_is (named-within core wait.key.poi (record { number = wait.pt; terminal = order.terminal }) order.named)

  -- the terminal of an item by which a request waits, or by which one is taken out, is there
  pub queues-within : begun_by (known_with setup kept core moment) 0 (Request header request) ≡ Queue pt 0 header request ∷ [] → pt < length core.terminals
  queues-within same = by_request request same
    where
      by_request : (asked : SaleRequest) → begun_by (known_with setup kept core moment) 0 (Request header asked) ≡ Queue pt 0 header request ∷ [] → pt < length core.terminals
      by_request requests.Login same = result-within core header request pt header.poi requests.Login _ (named_terminal core header.poi) refl same
      by_request requests.Logout same = result-within core header request pt header.poi requests.Logout _ (named_terminal core header.poi) refl same
      by_request (requests.Payment ask) same = result-within core header request pt header.poi (requests.Payment ask) _ (named_terminal core header.poi) refl same
      by_request (requests.Reversal ask) same = result-within core header request pt header.poi (requests.Reversal ask) _ (named_terminal core header.poi) refl same
      by_request (requests.Abort reference) same = abort-within reference (waiting_with (key_of header reference) core.waits) refl same
      by_request (requests.Status reference) same = absurd (let h : [] ≡ Queue pt 0 header request ∷ [] = same in cc)
      by_request (requests.Reconciliation period) same = result-within core header request pt header.poi (requests.Reconciliation period) _ (named_terminal core header.poi) refl same
      by_request (requests.Display outputs) same = result-within core header request pt header.poi (requests.Display outputs) _ (named_terminal core header.poi) refl same
      by_request (requests.Print qualifier) same = absurd (let h : [] ≡ Queue pt 0 header request ∷ [] = same in cc)
      by_request requests.Diagnosis same = absurd (let h : [] ≡ Queue pt 0 header request ∷ [] = same in cc)

-- and has one of the 32 numbers
pub queues-few : (gateway : Gateway) (kept : List Record) (core : Core) (now : ℤ) (header : Header) (request : SaleRequest) (pt : ℕ) → IsOrderly gateway kept core → QueuesAt gateway kept core (moment_of now) pt header request → pt < 32
queues-few gateway kept core now header request pt order queues =
    let same = order.gateway_is in
    let known_is : IsKnownAt gateway kept core (moment_of now) (known_at order.setup core kept now) = record {
      name_is = ap (λ (g : Gateway). g.name) same;
      slots_is = ap (λ (g : Gateway). g.slots) same;
      line_is = ap (λ (g : Gateway). g.line) same;
      wait_is = ap (λ (g : Gateway). g.wait) same;
      kept_is = refl;
      core_is = refl;
      moment_is = refl;
    } in
    let there = queues-within order.setup kept core (moment_of now) (order.waits (moment_of now)) header request pt (queues.queues (known_at order.setup core kept now) known_is 0) in
    let count : length core.terminals ≡ length order.setup.terminals = sym (length-map core.terminals (λ (terminal : Terminal). terminal.pt)) ∙ ap length order.of_setup.settings in
    omega (arith, there, count, order.of_setup.within.count)

-- ---- the row

-- the core has gone by the row of this request, whatever else is in the setup
abbrev pub QueuesBy : Gateway → List Record → Core → ℕ → ℕ → ℕ → Header → SaleRequest → Core → Option Act → Type 0
QueuesBy gateway kept old moment pt till header request mid wanted = (known : Known) → IsKnownAt gateway kept old moment known → IsRow kept (queue_row known pt till header request) mid (alone wanted)

module _ (gateway : Gateway) (kept : List Record) (old mid : Core) (now : ℤ) (pt till : ℕ) (header : Header) (request : SaleRequest) (wanted : Option Act) (order : IsOrderly gateway kept old) (is : QueuesBy gateway kept old (moment_of now) pt till header request mid wanted) where
  abbrev row-at : Setup → Row
  row-at setup = queue_row (known_at setup old kept now) pt till header request

  is-known : (setup : Setup) → gateway_of setup ≡ gateway → IsKnownAt gateway kept old (moment_of now) (known_at setup old kept now)
  is-known setup same = record {
    name_is = ap (λ (g : Gateway). g.name) same;
    slots_is = ap (λ (g : Gateway). g.slots) same;
    line_is = ap (λ (g : Gateway). g.line) same;
    wait_is = ap (λ (g : Gateway). g.wait) same;
    kept_is = refl;
    core_is = refl;
    moment_is = refl;
  }

  row-is : (setup : Setup) → gateway_of setup ≡ gateway → IsRow kept (row-at setup) mid (alone wanted)
  row-is setup same = is (known_at setup old kept now) (is-known setup same)

  -- at most a reply is owed
  pub queued-reply : is_none_or_reply wanted ≡ true
  queued-reply =
      let r = row-is order.setup order.gateway_is in
      wanted-reply wanted (row-at order.setup).calls
      (each-queued (λ (row : Row). replies_only row.calls ≡ true) (known_at order.setup old kept now) pt till header request (record { none = refl; joins = λ terminal key at. refl; taken = λ wait at. refl })) r.calls_are

  terminals-same : mid.terminals ≡ old.terminals
  terminals-same =
      let r = row-is order.setup order.gateway_is in
      ap (λ (c : Core). c.terminals) r.core_is
      ∙ each-queued (λ (row : Row). row.core.terminals ≡ old.terminals) (known_at order.setup old kept now) pt till header request (record { none = refl; joins = λ terminal key at. refl; taken = λ wait at. refl })

  pub queued-count : length mid.terminals ≡ length old.terminals
  queued-count = ap length terminals-same

  queued-has : AllHaveDialogues mid
  queued-has = λ number terminal found. order.dialogues number terminal (ap (λ (list : List Terminal). slice_get list number) (sym terminals-same) ∙ found)

  none-kept : records_kept (row-at order.setup).calls ≡ []
  none-kept = let r = row-is order.setup order.gateway_is in rest-kept wanted (row-at order.setup).calls r.calls_are

  slots-same : order.setup.slots ≡ gateway.slots
  slots-same = ap (λ (g : Gateway). g.slots) order.gateway_is

  in-order : IsInOrder (known_at order.setup old kept now)
  in-order = record {
    folded = order.folded;
    room = subst (λ slots. HasRoom slots kept old) (sym slots-same) order.room;
    of_setup = order.of_setup;
    moment = moment-within now;
    numbered = order.numbered;
    terminals = order.terminals;
  }

  -- ---- the round

  -- its item begins, and its call is made
  pub queued-done : (a b : Observed) (new : Core) (tills left : List Till) → MakesCall a b mid new tills left now wanted → (setup : Setup) → gateway_of setup ≡ gateway → (polls : ℕ) (heard : ℕ → List ℕ) (items : List RoundItem) →
      Triple a b (MidRound setup old kept tills polls now (AreHeard heard) [] (Queue pt till header request ∷ items)) (MidRound setup new kept left polls now (AreHeard heard) [] items)
  queued-done a b new tills left makes setup same polls heard items =
      let r = row-is setup same in
      triple-then a a b _ _ _
      (begin-held setup kept tills polls now (AreHeard heard) a old mid (Queue pt till header request) (row-at setup).calls items (record {
        begins = λ scene items. refl;
        row = λ connections. row-becomes kept (row-at setup) mid wanted r;
        links = λ number. ap (λ (list : List Terminal). is_linked_in (slice_get list number)) terminals-same;
      }))
      (makes (row-at setup).calls r.calls_are setup kept polls heard items)

  module _ (queues : QueuesAt gateway kept old (moment_of now) pt header request) (rows : EachQueueKeepsInOrder) (brings : EachRowBringsReadItems) (takes : EachRequestTakesOne) (waiting : EachRowKeepsWaits) where
    is-read : IsReadQueued order.setup pt header request
    is-read =
        let known : Known = known_at order.setup old kept now in
        let read : All (IsReadItem order.setup) (begun_by known 0 (Request header request)) = brings (new_connection 0 ∷ []) known (Asked 0 (Request header request)) in-order queues.read in
        let one : All (IsReadItem order.setup) (Queue pt 0 header request ∷ []) = subst (All (IsReadItem order.setup)) (queues.queues known (is-known order.setup order.gateway_is) 0) read in
        one 0 (Queue pt 0 header request) (omega arith)

    -- what is remembered stays in order
    queued-orderly : IsOrderly gateway kept mid
    queued-orderly =
        let r = row-is order.setup order.gateway_is in
        let k = rows (known_at order.setup old kept now) pt till header request in-order in
        let same : kept ++ records_kept (row-at order.setup).calls ≡ kept = ap (λ l. kept ++ l) none-kept ∙ append-nil kept in
        let h = waiting [] (known_at order.setup old kept now) (Queue pt till header request) in-order (order.waits (moment_of now)) is-read in
        record {
          setup = order.setup;
          gateway_is = order.gateway_is;
          of_setup = record { within = order.of_setup.within; settings = ap (λ (list : List Terminal). map (λ (terminal : Terminal). terminal.pt) list) terminals-same ∙ order.of_setup.settings };
          folded = order.folded;
          room = subst (λ slots. HasRoom slots kept mid) slots-same (subst (λ l. HasRoom order.setup.slots l mid) same (subst (HasRoom order.setup.slots (kept ++ records_kept (row-at order.setup).calls)) (sym r.core_is) k.room));
          numbered = subst IsNumbered (sym r.core_is) k.numbered;
          terminals = subst (λ l. AreTerminalsInOrder l mid) same (subst (AreTerminalsInOrder (kept ++ records_kept (row-at order.setup).calls)) (sym r.core_is) k.terminals);
          dialogues = queued-has;
          waits = λ moment. moments-keep-waits (known_with order.setup kept mid (moment_of now)) moment
              (subst (λ l. AreWaitsInOrder (known_with order.setup l mid (moment_of now))) same (subst (λ (c : Core). AreWaitsInOrder (known_with order.setup (kept ++ records_kept (row-at order.setup).calls) c (moment_of now))) (sym r.core_is) h));
        }

    queued-memory : memory_reserved mid ≤ memory_reserved old + 1
    queued-memory =
        let r = row-is order.setup order.gateway_is in
        let taken = (takes (known_at order.setup old kept now) pt till header request).1 in
        subst (λ (c : Core). memory_reserved c ≤ memory_reserved old + 1) (sym r.core_is) (omega (arith, taken))

    -- what is held then is in order
    pub queued-well : (state : RunState) (new : Core) (a b : Observed) → IsWell state a → state.gateway ≡ gateway → state.records.ledger.records ≡ kept → memory_reserved old + 1 ≤ state.records.ledger.spare → ForgetsAny mid new → GoesOnBesideDisk a b → IsWell (record state { core = new }) b
    queued-well state new a b well named records spare forgets goes =
        well-core (record state { core = mid }) new a b
        (record {
          order = subst (λ l. IsOrderly state.gateway l mid) (sym records) (subst (λ g. IsOrderly g kept mid) (sym named) queued-orderly);
          records = well.records;
          spare = omega (arith, queued-memory, spare);
        })
        (sent-stays mid new forgets) (sent-dialogues mid new forgets queued-has) goes
