-- What is owed as the loop serves a till.
use Rattle.std.proofs.Common.{◌≡◌, true, false, ℕ, ◌+◌, ◌<◌, ◌≤◌, List, [], ◌∷◌, ◌++◌, length, refl, sym, ◌∙◌, ap, arith, length-append, subst, inl, inr, get_or}
use Rattle.std.specs.Prelude.{ℤ, None, Some, map, unwrap_or, slice_set, Result, Ok, Err, IfOk, OnOk}
use Rattle.gw_base.specs.Moment.{moment_of}
use Rattle.gw_base.specs.declared.setup.Setup.{Setup}
use Rattle.gw_site.specs.Observed.{Observed}
use Rattle.gw_site.specs.Outside.{Outside, nothing_yet, is_connected}
use Rattle.jrn_record.specs.declared.records.Record.{Record}
use Rattle.sale_frame.specs.Grammar.{frame, IsPayload, IsIncompleteFrame, BeginsWithBadLength}
use Rattle.sale_frame.specs.Decode.{decode_frames, DecodedFrames}
use Rattle.jrn_log.specs.Journal.{JournalValue, StandsFor}
use Rattle.gw_owes.specs.Calls.{OwedCall, CutTill}
use Rattle.gw_owes.specs.Core.{Core}
use Rattle.gw_owes.specs.Waits.{memory_reserved}
use Rattle.gw_owes.specs.Events.{decoded_items}
use Rattle.gw_owes.specs.Items.{RoundItem, Message, Asked, Unframed}
use Rattle.gw_owes.specs.ReadAs.{ReadAs, IsReadAs}
use Rattle.gw_owes.specs.Row.{Known, Row, owing, owing_where}
use Rattle.gw_owes.specs.Rows.{row_of, asked_row}
use Rattle.gw_owes.proofs.FrameLemmas.{items-waiting, items-unframed, items-payload, reading-payload}
use Rattle.gw_rules.specs.Lawful.{IsIdle, may_begin}
use Rattle.gw_rules.specs.Scene.{Scene}
use Rattle.gw_rules.specs.Stage.{busy}
use Rattle.gw_rules.specs.Triple.{Triple, Owing}
use Rattle.gw_rules.specs.View.{View, at_item, begun}
use Rattle.gw_rules.proofs.TripleLemmas.{triple-refl, triple-then, triple-after, triple-before, triple-some, begin-triple, read-triple}
use Rattle.gw_core.specs.ReplyOf.{AreSendOf, IsTillRow, items_given, reply_given}
use Rattle.gw_core.specs.declared.gateway.Gateway.{Gateway}
use Rattle.gw_core.specs.declared.till.Given.{Given}
use Rattle.gw_dispatch.specs.Growth.{GoesOnBesideDisk}
use Rattle.gw_dispatch.specs.RunState.{ForgetsAny, gateway_of, HoldsSame, IsOrderly, IsWell}
use Rattle.gw_dispatch.specs.MidRound.{AreHeard, AreLinked, HeldRound, MidRound}
use Rattle.gw_dispatch.specs.NextMessage.{HasSpareAfter, IsNextOf, IsThereWith, TakesMessage}
use Rattle.gw_dispatch.specs.Round.{HoldsTills, InRound, IsIn, Pending, known_at, with_core}
use Rattle.gw_dispatch.specs.Serving.{AfterFault, items_of}
use Rattle.gw_dispatch.specs.Tills.{OthersStillHold, StillHolds, IsThere, bytes_held, others, rank, reader_of, rested}
use Rattle.gw_dispatch.specs.declared.fault.TurnFault.{TurnFault}
use Rattle.gw_dispatch.specs.declared.fault.TurnFault.TheVariants.{Memory}
use Rattle.gw_dispatch.specs.declared.run_state.RunState.{RunState}
use Rattle.gw_dispatch.specs.declared.serving.Next.{Next}
use Rattle.gw_dispatch.specs.declared.serving.Next.TheVariants.{Incomplete, Message as NextMessage, Unframed as NextUnframed}
use Rattle.gw_dispatch.specs.declared.tills.Till.{Till}
use Rattle.gw_dispatch.proofs.EngineLemmas.{IsHere, begin-first, begun-in, pass-all, read-in, round-idle, row-known, some-scene, triple-known}
use Rattle.gw_dispatch.proofs.ReaderLemmas.{IsAt, dropped-reader, empty-waits, rank-rested, reader-absent, till-at}
use Rattle.gw_dispatch.proofs.RunStateLemmas.{stand-on, well-core}
use Rattle.gw_dispatch.proofs.SendLemmas.{sent-dialogues, sent-stays}
use Rattle.gw_dispatch.proofs.TillLemmas.{rank-held-none, rank-held-open}

-- ---- a till that isn't there

-- its reader holds nothing
none-of : (till : ℕ) (tills : List Till) → reader_of till tills ≡ None → items_of till tills ≡ []
none-of till tills gone = ap (λ r. decoded_items till (decode_frames (unwrap_or r []))) gone ∙ items-waiting till [] empty-waits

-- after its cut nothing of its bytes comes
pub dropped-items : (setup : Setup) (state : RunState) (left mid : List Till) (polls : ℕ) (now : ℤ) (heard : ℕ → List ℕ) (till : ℕ) (items : List RoundItem) (v : View) → left ≡ others mid till → HeldRound setup state left polls now (AreHeard heard) [] items v → HeldRound setup state left polls now (AreHeard heard) [] (items_of till left ++ items) v
dropped-items setup state left mid polls now heard till items v is h =
    subst (λ list. HeldRound setup state left polls now (AreHeard heard) [] (list ++ items) v) (sym (none-of till left (ap (reader_of till) is ∙ dropped-reader mid till))) h

-- its bytes are the same
pub same-items : (setup : Setup) (state : RunState) (polls : ℕ) (now : ℤ) (heard : ℕ → List ℕ) (till : ℕ) (tills left : List Till) (items : List RoundItem) (v : View) → bytes_held till tills ≡ bytes_held till left →
    HeldRound setup state tills polls now (AreHeard heard) [] (items_of till tills ++ items) v → HeldRound setup state tills polls now (AreHeard heard) [] (items_of till left ++ items) v
same-items setup state polls now heard till tills left items v same h = subst (λ bytes. HeldRound setup state tills polls now (AreHeard heard) [] (decoded_items till (decode_frames bytes) ++ items) v) same h

-- where less than a frame waits nothing comes
pub waiting-items : (setup : Setup) (core : Core) (kept : List Record) (tills : List Till) (polls : ℕ) (now : ℤ) (Also : Outside → Type 0) (till : ℕ) (items : List RoundItem) (v : View) → IsIncompleteFrame (bytes_held till tills) → MidRound setup core kept tills polls now Also [] (items_of till tills ++ items) v → MidRound setup core kept tills polls now Also [] items v
waiting-items setup core kept tills polls now Also till items v waits h = subst (λ list. MidRound setup core kept tills polls now Also [] (list ++ items) v) (items-waiting till (bytes_held till tills) waits) h

-- ---- an item of a till begins

-- the first item begins, and what it owes comes before the items after it
pub begin-item : (s : Observed) (known : Known) (polls : ℕ) (o : Outside) (item : RoundItem) (items : List RoundItem) (row : Row) → ((scene : Scene) → may_begin scene (item ∷ items) ≡ true) → row_of o.tills known item ≡ row →
    Triple s s (InRound known polls o (item ∷ items)) (Pending (with_core known row.core) polls o row.calls (row.items ++ items))
begin-item s known polls o item items row begins is = some-scene s s known polls o [] (item ∷ items) (Pending (with_core known row.core) polls o row.calls (row.items ++ items)) (λ scene.
    triple-known s (IsIn known polls o scene) (Owing scene [] (item ∷ items)) _ (λ f.
    triple-after s s _ _ _ (begin-triple s scene item items f.round (begins scene))
    (λ v q. (record scene { stage = busy scene.stage; core = row.core }, q ∙ ap (λ (r : Row). begun scene r items) (row-known known polls o scene item f ∙ is), begun-in known polls o row.core scene f))))

-- a message of a till that is there was read and has begun
begin-message : (s : Observed) (known : Known) (polls : ℕ) (o : Outside) (till : ℕ) (old new message : List ℕ) (items : List RoundItem) (as_read : ReadAs) → IsPayload message → old ≡ frame message ++ new → IsReadAs message as_read → IsHere o till →
    Triple s s (InRound known polls o (decoded_items till (decode_frames old) ++ items))
    (Pending known polls o (asked_row known till as_read).calls ((asked_row known till as_read).items ++ (decoded_items till (decode_frames new) ++ items)))
begin-message s known polls o till old new message items as_read lawful taken reads here =
    triple-before s s _ (InRound known polls o (Message till message ∷ later)) _ first (triple-then s s s _ _ _ read begin)
  where
    later : List RoundItem
    later = decoded_items till (decode_frames new) ++ items

    first : (v : View) → InRound known polls o (decoded_items till (decode_frames old) ++ items) v → InRound known polls o (Message till message ∷ later) v
    first v p =
        let same : decoded_items till (decode_frames old) ≡ Message till message ∷ decoded_items till (decode_frames new) = ap (λ b. decoded_items till (decode_frames b)) taken ∙ items-payload till message new lawful in
        subst (λ list. InRound known polls o (list ++ items) v) same p

    read : Triple s s (InRound known polls o (Message till message ∷ later)) (InRound known polls o (Asked till as_read ∷ later))
    read = some-scene s s known polls o [] (Message till message ∷ later) (InRound known polls o (Asked till as_read ∷ later)) (λ scene.
        triple-known s (IsIn known polls o scene) _ _ (λ f.
        triple-after s s _ _ _ (read-triple s scene till message as_read later f.round (ap (λ (p : Outside). is_connected p.tills till) f.outside_is ∙ here) reads)
        (λ v q. (at_item scene, q, read-in known polls o scene f))))

    begin : Triple s s (InRound known polls o (Asked till as_read ∷ later)) (Pending known polls o (asked_row known till as_read).calls ((asked_row known till as_read).items ++ later))
    begin = begin-item s known polls o (Asked till as_read) later (asked_row known till as_read) (λ scene. refl) (ap (λ there. owing_where there known (asked_row known till as_read)) here)

-- ---- what is held

-- what is held beside the scene
record IsHeld (core : Core) (tills : List Till) (heard : ℕ → List ℕ) (o : Outside) : Type 0 where
  pub tills_are : HoldsTills tills o
  pub linked : AreLinked core o
  pub also : AreHeard heard o

module _ (setup : Setup) (core : Core) (kept : List Record) (tills : List Till) (polls : ℕ) (now : ℤ) (heard : ℕ → List ℕ) where
  abbrev knows : Known
  knows = known_at setup core kept now

  -- these calls are owed, and then these items come
  abbrev Owes : List OwedCall → List RoundItem → View → Type 0
  Owes calls items v = MidRound setup core kept tills polls now (AreHeard heard) calls items v

  into : (calls : List OwedCall) (items : List RoundItem) (o : Outside) (v : View) → IsHeld core tills heard o → Pending knows polls o calls items v → Owes calls items v
  into calls items o v h p = record { outside = o; round = p; tills_are = h.tills_are; linked = h.linked; also = h.also }

  out-of : (calls : List OwedCall) (items : List RoundItem) (v : View) → Owes calls items v → (o : Outside) × (Pending knows polls o calls items v × IsHeld core tills heard o)
  out-of calls items v m = (m.outside, (m.round, record { tills_are = m.tills_are; linked = m.linked; also = m.also }))

  -- without a call, in each outside in which it is held
  mid-still : (s : Observed) (calls : List OwedCall) (items : List RoundItem) (Q : View → Type 0) → ((o : Outside) → IsHeld core tills heard o → Triple s s (Pending knows polls o calls items) Q) → Triple s s (Owes calls items) Q
  mid-still s calls items Q k =
      triple-before s s (Owes calls items) (λ v. (o : Outside) × (Pending knows polls o calls items v × IsHeld core tills heard o)) Q (out-of calls items)
      (triple-some s s (λ o v. Pending knows polls o calls items v × IsHeld core tills heard o) Q nothing_yet
      (λ o. triple-known s (IsHeld core tills heard o) (Pending knows polls o calls items) Q (λ h. k o h)))

  is-here : (till : ℕ) → IsThere till tills → (o : Outside) → IsHeld core tills heard o → IsHere o till
  is-here till there o h = rank-held-open o.tills till there.0 (ap (rank till) (sym h.tills_are.tills_are) ∙ rank-rested till tills ∙ there.1)

  -- ---- what a reader holds

  -- bytes that begin no frame owe the cut
  pub unframed : (s : Observed) (till : ℕ) (bytes : List ℕ) (items : List RoundItem) → IsThere till tills → BeginsWithBadLength bytes →
      Triple s s (Owes [] (decoded_items till (decode_frames bytes) ++ items)) (Owes (CutTill till ∷ []) items)
  unframed s till bytes items there bad =
      triple-before s s _ (Owes [] (Unframed till ∷ items)) _ (λ v p. subst (λ list. Owes [] (list ++ items) v) (items-unframed till bytes bad) p)
      (mid-still s [] (Unframed till ∷ items) (Owes (CutTill till ∷ []) items) (λ o h. triple-after s s _ _ _
      (begin-first s knows polls o (Unframed till) items core (CutTill till ∷ [])
      (record { begins = λ scene e. refl; row = ap (λ there. owing_where there knows (owing knows (CutTill till ∷ []))) (is-here till there o h) }))
      (λ v p. into (CutTill till ∷ []) items o v h p)))

  is-gone : (till : ℕ) → reader_of till tills ≡ None → (o : Outside) → IsHeld core tills heard o → is_connected o.tills till ≡ false
  is-gone till gone o h = rank-held-none o.tills till (ap (rank till) (sym h.tills_are.tills_are) ∙ rank-rested till tills ∙ reader-absent till tills gone)

  -- the items of what its reader held come next while the till is there, and else none
  pub still-left : (s : Observed) (till : ℕ) (mid : List Till) (items : List RoundItem) → StillHolds till mid tills → Triple s s (Owes [] (items_of till mid ++ items)) (Owes [] (items_of till tills ++ items))
  still-left s till mid items (inl same) =
      triple-before s s _ (Owes [] (items_of till tills ++ items)) _ (λ v p. subst (λ r. Owes [] (decoded_items till (decode_frames (unwrap_or r [])) ++ items) v) (sym same) p) (triple-refl s (Owes [] (items_of till tills ++ items)))
  still-left s till mid items (inr gone) =
      mid-still s [] (items_of till mid ++ items) (Owes [] (items_of till tills ++ items)) (λ o h. triple-after s s _ _ _
      (pass-all knows polls o till (is-gone till gone o h) s (decode_frames (bytes_held till mid)) items)
      (λ v p. subst (λ list. Owes [] (list ++ items) v) (sym (none-of till tills gone)) (into [] items o v h p)))

  -- ---- a message

  -- a message is taken: the row of what it is read as
  module _ (gateway : Gateway) (same : gateway_of setup ≡ gateway) (till : ℕ) (there : IsThere till tills) (wanted : Given) (old new : List ℕ) (t : TakesMessage gateway kept core (moment_of now) wanted old new) where
    abbrev row : Row
    row = asked_row knows till (t.row till).as_read

    row-is : IsTillRow row core till wanted
    row-is = (t.row till).row knows (record { name_is = ap (λ (g : Gateway). g.name) same; slots_is = ap (λ (g : Gateway). g.slots) same; line_is = ap (λ (g : Gateway). g.line) same; wait_is = ap (λ (g : Gateway). g.wait) same; kept_is = refl; core_is = refl; moment_is = refl })

    taken : (s : Observed) (items : List RoundItem) (calls : List OwedCall) → row.calls ≡ calls →
        Triple s s (Owes [] (decoded_items till (decode_frames old) ++ items)) (Owes calls (items_given till wanted ++ (decoded_items till (decode_frames new) ++ items)))
    taken s items calls is = mid-still s [] _ _ (λ o h. triple-after s s _ _ _
        (begin-message s knows polls o till old new t.message items (t.row till).as_read t.payload t.taken (t.row till).read (is-here till there o h))
        (λ v p. into calls _ o v h (subst (λ list. Pending knows polls o calls (list ++ (decoded_items till (decode_frames new) ++ items)) v) row-is.items_are
        (subst (λ list. Pending knows polls o list (row.items ++ (decoded_items till (decode_frames new) ++ items)) v) is p))))

  -- the reply that is given is owed, and what that begins comes before the items of what its reader still holds
  taken-given : (gateway : Gateway) → gateway_of setup ≡ gateway → (till : ℕ) → IsThere till tills → (wanted : Given) (old new : List ℕ) → TakesMessage gateway kept core (moment_of now) wanted old new →
      (calls : List OwedCall) × AreSendOf till (reply_given wanted) calls × ((s : Observed) (items : List RoundItem) → Triple s s (Owes [] (decoded_items till (decode_frames old) ++ items)) (Owes calls (items_given till wanted ++ (decoded_items till (decode_frames new) ++ items))))
  taken-given gateway same till there wanted old new t =
      ((row gateway same till there wanted old new t).calls, (row-is gateway same till there wanted old new t).calls_are, λ s items. taken gateway same till there wanted old new t s items _ refl)

-- ---- where only the ledger's memory differs

-- what is owed is so with what is held then
pub same-round : (old new : RunState) → HoldsSame old new → (setup : Setup) (tills : List Till) (polls : ℕ) (now : ℤ) (heard : ℕ → List ℕ) (calls : List OwedCall) (items : List RoundItem) (v : View) →
    HeldRound setup old tills polls now (AreHeard heard) calls items v → HeldRound setup new tills polls now (AreHeard heard) calls items v
same-round old new same setup tills polls now heard calls items v h =
    subst (λ (kept : List Record). MidRound setup new.core kept tills polls now (AreHeard heard) calls items v) (sym same.records)
    (subst (λ (core : Core). MidRound setup core old.records.ledger.records tills polls now (AreHeard heard) calls items v) (sym same.core) h)

-- and with readers that have the same rests
pub moved : (old new : RunState) → HoldsSame old new → (tills left : List Till) → map rested left ≡ map rested tills → (setup : Setup) (polls : ℕ) (now : ℤ) (heard : ℕ → List ℕ) (calls : List OwedCall) (items : List RoundItem) (v : View) →
    HeldRound setup old tills polls now (AreHeard heard) calls items v → HeldRound setup new left polls now (AreHeard heard) calls items v
moved old new same tills left rests setup polls now heard calls items v h =
    same-round old new same setup left polls now heard calls items v (record {
      outside = h.outside;
      round = h.round;
      tills_are = record { tills_are = rests ∙ h.tills_are.tills_are; below = h.tills_are.below };
      linked = h.linked;
      also = h.also;
    })

-- a message is taken, and then what it wants is done
pub message-served : (s t : Observed) (old mid : RunState) → HoldsSame old mid → (tills left : List Till) → map rested left ≡ map rested tills → (setup : Setup) (polls : ℕ) (now : ℤ) (heard : ℕ → List ℕ) (till : ℕ) (items : List RoundItem) (wanted : Given) → gateway_of setup ≡ old.gateway → IsThere till tills →
    TakesMessage old.gateway old.records.ledger.records old.core (moment_of now) wanted (bytes_held till tills) (bytes_held till left) → (Q : View → Type 0) →
    ((calls : List OwedCall) → AreSendOf till (reply_given wanted) calls → Triple s t (HeldRound setup mid left polls now (AreHeard heard) calls (items_given till wanted ++ (items_of till left ++ items))) Q) →
    Triple s t (HeldRound setup old tills polls now (AreHeard heard) [] (items_of till tills ++ items)) Q
message-served s t old mid holds tills left rests setup polls now heard till items wanted same there takes Q serves =
    let owed = taken-given setup old.core old.records.ledger.records tills polls now heard old.gateway same till there wanted (bytes_held till tills) (bytes_held till left) takes in
    triple-then s s t _ _ Q
    (triple-after s s _ _ _ (owed.2 s items) (λ v p. moved old mid holds tills left rests setup polls now heard owed.0 (items_given till wanted ++ (items_of till left ++ items)) v p))
    (serves owed.0 owed.1)

-- it is in order
pub same-well : (old new : RunState) (next : Next) (s : Observed) → HoldsSame old new → HasSpareAfter next old.core old.records.ledger.spare new.records.ledger.spare → IsWell old s → IsWell new s
same-well old new next s same spare well = record {
  order = subst (λ (gateway : Gateway). IsOrderly gateway new.records.ledger.records new.core) (sym same.gateway)
      (subst (λ (kept : List Record). IsOrderly old.gateway kept new.core) (sym same.records) (subst (IsOrderly old.gateway old.records.ledger.records) (sym same.core) well.order));
  records = record {
    count = ap (λ (journal : JournalValue). journal.len) same.journal ∙ well.records.count ∙ ap length (sym same.records);
    slots = ap (λ (journal : JournalValue). journal.slots) same.journal ∙ well.records.slots ∙ ap (λ (gateway : Gateway). gateway.slots) (sym same.gateway);
    stands = subst (λ (journal : JournalValue). StandsFor journal s) (sym same.journal) well.records.stands;
  };
  spare = subst (λ (core : Core). memory_reserved core ≤ new.records.ledger.spare) (sym same.core) (enough next old.core old.records.ledger.spare new.records.ledger.spare spare well.spare);
}
  where
    enough : (next : Next) (core : Core) (before after : ℕ) → HasSpareAfter next core before after → memory_reserved core ≤ before → memory_reserved core ≤ after
    enough Incomplete core before after spare had = omega (arith, spare, had)
    enough (NextMessage wanted) core before after spare had = omega (arith, spare)
    enough NextUnframed core before after spare had = omega (arith, spare, had)

-- and after calls that aren't on the disk
pub well-on : (state : RunState) (a b : Observed) → IsWell state a → GoesOnBesideDisk a b → IsWell state b
well-on state a b well goes = record { order = well.order; records = stand-on state.gateway state.records a b well.records goes; spare = well.spare }

-- ---- a fault

-- no call is owed where items come next
pub held-idle : (setup : Setup) (core : Core) (kept : List Record) (tills : List Till) (polls : ℕ) (now : ℤ) (Also : Outside → Type 0) (items : List RoundItem) (v : View) → MidRound setup core kept tills polls now Also [] items v → IsIdle v
held-idle setup core kept tills polls now Also items v h = round-idle (known_at setup core kept now) polls h.outside items v h.round

-- memory was refused, in a round in which no call is owed
pub no-memory-said : (s : Observed) (P : View → Type 0) → ((v : View) → P v → IsIdle v) → (fault : TurnFault) → fault ≡ Memory → Triple s s P (λ v. AfterFault fault v)
no-memory-said s P idle fault is = triple-after s s P P _ (triple-refl s P) (λ v p. subst (λ fault. AfterFault fault v) (sym is) (idle v p))

-- ---- what a reader holds then

-- a till was served
pub well-sent : (state : RunState) (core : Core) (a b : Observed) → IsWell state a → ForgetsAny state.core core → GoesOnBesideDisk a b → IsWell (record state { core = core }) b
well-sent state core a b well forgets goes = well-core state core a b well (sent-stays state.core core forgets) (sent-dialogues state.core core forgets well.order.dialogues) goes

-- it is less, and ends in the same rest
pub takes-less : (gateway : Gateway) (kept : List Record) (core : Core) (wanted : Given) (old new : List ℕ) (moment : ℕ) → TakesMessage gateway kept core moment wanted old new → (length new < length old) × ((decode_frames new).rest ≡ (decode_frames old).rest)
takes-less gateway kept core wanted old new moment t =
    let l : length old ≡ length (frame t.message) + length new = ap length t.taken ∙ length-append (frame t.message) new in
    let m : length (frame t.message) ≡ 4 + length t.message = omega arith in
    (omega (arith, t.payload), sym (ap (λ b. (decode_frames b).rest) t.taken ∙ ap (λ (r : DecodedFrames). r.rest) (reading-payload t.message new t.payload)))

-- whatever the first of the bytes were the rest is the same
pub next-rests : (gateway : Gateway) (kept : List Record) (core : Core) (now : ℤ) (next : Next) (old new : List ℕ) → IsNextOf gateway kept core now next old new → (decode_frames new).rest ≡ (decode_frames old).rest
next-rests gateway kept core now Incomplete old new is = ap (λ b. (decode_frames b).rest) is.1
next-rests gateway kept core now (NextMessage wanted) old new is = (takes-less gateway kept core wanted old new (moment_of now) is).1
next-rests gateway kept core now NextUnframed old new is = ap (λ b. (decode_frames b).rest) is.1

-- a reader holds no more once its till is served or gone
pub still-shorter : (till : ℕ) (mid left : List Till) (count : ℕ) → StillHolds till mid left → length (bytes_held till mid) < count → length (bytes_held till left) < count
still-shorter till mid left count (inl same) less = subst (λ r. length (unwrap_or r []) < count) (sym same) less
still-shorter till mid left count (inr gone) less = subst (λ r. length (unwrap_or r []) < count) (sym gone) (omega (arith, less))

-- ---- the reader of a till that is there

module _ (number at : ℕ) (tills : List Till) (till : Till) (left : List ℕ) (ranked : rank number tills ≡ Some at) (is : till ≡ get_or tills at till) where
  abbrev taken-from : Till
  taken-from = record till { reader = left }

  there-at : IsAt number tills at till
  there-at = till-at number tills at till ranked

  number-at : till.number ≡ number
  number-at = let there = there-at in ap (λ (t : Till). t.number) is ∙ there.number_is

  held-at : bytes_held number tills ≡ till.reader
  held-at = let there = there-at in ap (λ r. unwrap_or r []) there.reader ∙ ap (λ (t : Till). t.reader) (sym is)

  left-at : bytes_held number (slice_set tills at taken-from) ≡ left
  left-at = let there = there-at in ap (λ r. unwrap_or r []) (there.set_here taken-from number-at)

  pub next-at : {E : Type 0} (gateway : Gateway) (kept : List Record) (core : Core) (now : ℤ) (r : Result Next E) → IfOk r (λ next. IsNextOf gateway kept core now next till.reader left) →
      IfOk r (λ next. IsNextOf gateway kept core now next (bytes_held number tills) (bytes_held number (slice_set tills at taken-from)))
  next-at gateway kept core now (Err failed) next = tt
  next-at gateway kept core now (Ok one) next = subst (λ bytes. IsNextOf gateway kept core now one bytes (bytes_held number (slice_set tills at taken-from))) (sym held-at) (subst (IsNextOf gateway kept core now one till.reader) (sym left-at) next)

  pub rests-at : {E : Type 0} (gateway : Gateway) (kept : List Record) (core : Core) (now : ℤ) (r : Result Next E) → IfOk r (λ next. IsNextOf gateway kept core now next till.reader left) → OnOk r (map rested (slice_set tills at taken-from) ≡ map rested tills)
  rests-at gateway kept core now (Err failed) next = tt
  rests-at gateway kept core now (Ok one) next =
      let there = there-at in
      there.stays taken-from (ap (λ bytes. record { number = till.number; reader = bytes }) (next-rests gateway kept core now one till.reader left next) ∙ ap rested is)

  pub others-at : OthersStillHold number tills (slice_set tills at taken-from)
  others-at = let there = there-at in λ other apart. inl (there.set_apart taken-from number-at other apart)

pub there-with : {E : Type 0} (number at : ℕ) (tills : List Till) (r : Result Next E) → rank number tills ≡ Some at → IfOk r (λ next. IsThereWith next number tills)
there-with number at tills (Err failed) ranked = tt
there-with number at tills (Ok Incomplete) ranked = tt
there-with number at tills (Ok (NextMessage wanted)) ranked = (at, ranked)
there-with number at tills (Ok NextUnframed) ranked = (at, ranked)
