-- What the steps of a turn come to.
use Rattle.std.proofs.Common.{◌≡◌, ◌<◌, ℕ, List, [], ◌∷◌, ◌++◌, length, Option, Some, None, Result, Ok, Err, Bool, true, false, refl, sym, ap, ◌∙◌, subst, arith, inl}
use Rattle.std.specs.Prelude.{◌↔◌, ◌==◌}
use Rattle.std.proofs.lemmas.Bool.{eqb-true}
use Rattle.std.proofs.lemmas.List.{append-nil}
use Rattle.gw_site.specs.Streams.{AddsTo}
use Rattle.sale_frame.specs.Grammar.{frame}
use Rattle.sale_ws.specs.Gateway.{ObservedGate, Heard, Brought, ReadFailed, NotAsked, TakesChunk}
use Rattle.sale_ws.specs.Socket.{ObservedWire, TakesGot}
use Rattle.sale_ws.specs.Turn.{Delivery, Delivers, IsTurnOf, PassesOn, SendsFrame, SendsUntil, framed, has_frame, waiting_after}
use Rattle.sale_ws.specs.inner.Steps.{ChunkDelivered, Hears, IsDelivering, IsHearing, IsPassed}
use Rattle.sale_ws.proofs.DeliveryLemmas.{DeliveredAs, adds-none}
use Rattle.sale_ws.proofs.ResultLemmas.{heard-end, heard-fault, heard-messages, heard-nothing, not-passed, read-failed, read-without-memory, socket-ended, unheard}
use Rattle.sale_ws.specs.declared.bridge.Bridge.{Bridge}
use Rattle.sale_ws.specs.declared.bridge.Bridged.TheVariants.{Went, Ended}
use Rattle.sale_ws.specs.declared.bridge.Hearing.{Hearing}
use Rattle.sale_ws.specs.declared.fault.BridgeFault.{BridgeFault}
use Rattle.sale_ws.specs.declared.fault.BridgeFault.TheVariants as Fault
use Rattle.sale_ws.specs.declared.wire.Got.{Got}
use Rattle.sale_ws.specs.declared.wire.Got.TheVariants.{Message, Nothing, End}
use Rattle.sale_ws.specs.declared.wire.WireFault.{WireFault}
use Rattle.sale_ws.specs.declared.wire.WireFault.TheVariants.{Failed, Memory}

-- the frame of a message that has one was written, whole
pub writes-message : (a b : Option (List ℕ)) (message bytes : List ℕ) → has_frame message ≡ true → bytes ≡ frame message → ((before : List ℕ) → a ≡ Some before → b ≡ Some (before ++ bytes)) → AddsTo {E = BridgeFault} a b (framed (Ok (Message message))) (Ok tt)
writes-message a b message bytes has is adds = λ before was. adds before was ∙ ap (λ added. Some (before ++ added)) (is ∙ sym (framed-is message has))
  where
    framed-is : (message : List ℕ) → has_frame message ≡ true → framed (Ok (Message message)) ≡ frame message
    framed-is message has = rw has refl

-- the socket's read, and what comes later leaves what is left
pub takes-got-then : (a b c : Option (List Got)) (got : Result Got WireFault) → TakesGot a b got → c ≡ b → TakesGot a c got
takes-got-then a b c (Ok got) takes same = λ left is. let taken = takes left is in (taken.0, same ∙ taken.1)
takes-got-then a b c (Err fault) takes same = same ∙ takes

-- all of the frame was written, and the gateway's connection was read
pub writes-frame : (a b c : Option (List ℕ)) (bytes : List ℕ) (heard : Heard) → AddsTo {E = BridgeFault} a b bytes (Ok tt) → c ≡ b → ¬ (heard ≡ NotAsked) → SendsFrame a c bytes heard
writes-frame a b c bytes (Brought chunk) adds same asked = λ before is. same ∙ adds before is
writes-frame a b c bytes ReadFailed adds same asked = λ before is. same ∙ adds before is
writes-frame a b c bytes NotAsked adds same asked = absurd (asked refl)

pub writes-none : (a : Option (List ℕ)) (bytes : List ℕ) → SendsFrame a a bytes NotAsked
writes-none a bytes = λ before is. ([], (bytes, refl), is ∙ ap Some (sym (append-nil before)))

-- how the sends went doesn't depend on what was heard
pub sends-heard : {W : Type 0} (sends : W → W → List ℕ → Result (Unit {0}) WireFault → Type 0) (old new : W) (delivery : Delivery) (heard : Heard) (sending : Result (Unit {0}) WireFault) → SendsUntil sends old new delivery sending → SendsUntil sends old new (record delivery { heard = heard }) sending
sends-heard sends old new delivery heard (Ok done) sent = sent
sends-heard sends old new delivery heard (Err Failed) sent = sent
sends-heard sends old new delivery heard (Err Memory) sent = sent

-- nothing was sent
pub undelivered : {W : Type 0} (observed : W → ObservedWire) (sends : W → W → List ℕ → Result (Unit {0}) WireFault → Type 0) (wire : W) (waiting : List ℕ) (heard : Heard) → waiting_after waiting heard ≡ waiting → Delivers observed sends wire wire waiting (record { heard = heard; sent = []; rest = waiting; sending = Ok tt })
undelivered observed sends wire waiting heard same = record {
  whole = same;
  each = tt;
  in_order = refl;
  sent = adds-none _ _ refl;
  left = refl;
}

-- a read that brought nothing
pub hears-nothing : {W : Type 0} (observed : W → ObservedWire) (sends : W → W → List ℕ → Result (Unit {0}) WireFault → Type 0) (chunks after : Option (List (Option (List ℕ)))) (wire : W) (waiting : List ℕ) → TakesChunk chunks after (Brought None)
    → (delivery : Delivery) × Hears observed sends chunks after wire wire waiting waiting (Ok Hearing.Nothing) delivery
hears-nothing observed sends chunks after wire waiting takes = (
  record { heard = Brought None; sent = []; rest = waiting; sending = Ok tt },
  record {
    chunk = takes;
    asked = λ e. cc;
    delivered = undelivered observed sends wire waiting (Brought None) refl;
    result_is = (refl, (refl, refl, refl, refl));
  },
)

pub hears-failure : {W : Type 0} (observed : W → ObservedWire) (sends : W → W → List ℕ → Result (Unit {0}) WireFault → Type 0) (chunks after : Option (List (Option (List ℕ)))) (wire : W) (waiting left : List ℕ) → TakesChunk chunks after ReadFailed
    → (delivery : Delivery) × Hears observed sends chunks after wire wire waiting left (Err Fault.Gate) delivery
hears-failure observed sends chunks after wire waiting left takes = (
  record { heard = ReadFailed; sent = []; rest = waiting; sending = Ok tt },
  record {
    chunk = takes;
    asked = λ e. cc;
    delivered = undelivered observed sends wire waiting ReadFailed refl;
    result_is = refl;
  },
)

empty-of : (chunk : List ℕ) → true ≡ (length chunk == 0) → chunk ≡ []
empty-of [] is = refl
empty-of (byte ∷ chunk) is = absurd (let zero : length (byte ∷ chunk) ≡ 0 = eqb-true (length (byte ∷ chunk)) 0 (sym is) in omega arith)

some-of : (chunk : List ℕ) → false ≡ (length chunk == 0) → 0 < length chunk
some-of [] is = cc
some-of (byte ∷ chunk) is = omega arith

pub brings-end : {W : Type 0} (observed : W → ObservedWire) (sends : W → W → List ℕ → Result (Unit {0}) WireFault → Type 0) (wire : W) (waiting chunk : List ℕ) → true ≡ (length chunk == 0) → (delivery : Delivery) × ChunkDelivered observed sends wire wire waiting waiting chunk (Ok Hearing.Ended) delivery
brings-end observed sends wire waiting chunk empty =
    let none : chunk ≡ [] = empty-of chunk empty in (
      record { heard = Brought (Some []); sent = []; rest = waiting; sending = Ok tt },
      record {
        heard = ap (λ c. Brought (Some c)) (sym none);
        delivered = undelivered observed sends wire waiting (Brought (Some [])) (append-nil waiting);
        result_is = (refl, (refl, refl, refl, refl));
      },
    )

pub brings-without-memory : {W : Type 0} (observed : W → ObservedWire) (sends : W → W → List ℕ → Result (Unit {0}) WireFault → Type 0) (wire : W) (waiting left chunk : List ℕ) → false ≡ (length chunk == 0) → (delivery : Delivery) × ChunkDelivered observed sends wire wire waiting left chunk (Err Fault.Memory) delivery
brings-without-memory observed sends wire waiting left chunk some = (
  record { heard = Brought (Some chunk); sent = []; rest = waiting ++ chunk; sending = Err Memory },
  record {
    heard = refl;
    delivered = record {
      whole = refl;
      each = tt;
      in_order = (wire, refl, inl refl);
      sent = adds-none _ _ refl;
      left = refl;
    };
    result_is = ((chunk, refl, some-of chunk some), refl);
  },
)

-- the delivery of the bytes that have waited and those that came is one of a read that brought these
delivers-chunk : {W : Type 0} (observed : W → ObservedWire) (sends : W → W → List ℕ → Result (Unit {0}) WireFault → Type 0) (old new : W) (waiting chunk fed : List ℕ) (delivery : Delivery) → fed ≡ waiting ++ chunk → delivery.heard ≡ NotAsked → Delivers observed sends old new fed delivery
    → Delivers observed sends old new waiting (record delivery { heard = Brought (Some chunk) })
delivers-chunk observed sends old new waiting chunk fed delivery is unasked delivered = record {
  whole = sym is ∙ ap (waiting_after fed) (sym unasked) ∙ delivered.whole;
  each = delivered.each;
  in_order = sends-heard sends old new delivery (Brought (Some chunk)) delivery.sending delivered.in_order;
  sent = delivered.sent;
  left = delivered.left;
}

pub brings-messages : {W : Type 0} (observed : W → ObservedWire) (sends : W → W → List ℕ → Result (Unit {0}) WireFault → Type 0) (old new : W) (waiting chunk fed left : List ℕ) → false ≡ (length chunk == 0) → fed ≡ waiting ++ chunk
    → DeliveredAs observed sends old new fed left (Ok tt) → (delivery : Delivery) × ChunkDelivered observed sends old new waiting left chunk (Ok Hearing.Messages) delivery
brings-messages observed sends old new waiting chunk fed left some is (delivery, unasked, delivered, result) = (
  record delivery { heard = Brought (Some chunk) },
  record {
    heard = refl;
    delivered = delivers-chunk observed sends old new waiting chunk fed delivery is unasked delivered;
    result_is = (((chunk, refl, some-of chunk some), result.0), result.1, result.2);
  },
)

-- and one that stops
hearing-stops : (delivery : Delivery) (chunk waiting left : List ℕ) (fault : BridgeFault) → 0 < length chunk → IsDelivering (Err fault) left delivery → IsHearing (Err fault) waiting left (record delivery { heard = Brought (Some chunk) })
hearing-stops delivery chunk waiting left Fault.Gate some result = absurd result
hearing-stops delivery chunk waiting left Fault.Frame some result = (((chunk, refl, some), result.0), result.1)
hearing-stops delivery chunk waiting left (Fault.Length size) some result = absurd result
hearing-stops delivery chunk waiting left Fault.Socket some result = ((chunk, refl, some), result)
hearing-stops delivery chunk waiting left Fault.Memory some result = ((chunk, refl, some), result)

pub brings-fault : {W : Type 0} (observed : W → ObservedWire) (sends : W → W → List ℕ → Result (Unit {0}) WireFault → Type 0) (old new : W) (waiting chunk fed left : List ℕ) (fault : BridgeFault) → false ≡ (length chunk == 0) → fed ≡ waiting ++ chunk
    → DeliveredAs observed sends old new fed left (Err fault) → (delivery : Delivery) × ChunkDelivered observed sends old new waiting left chunk (Err fault) delivery
brings-fault observed sends old new waiting chunk fed left fault some is (delivery, unasked, delivered, result) = (
  record delivery { heard = Brought (Some chunk) },
  record {
    heard = refl;
    delivered = delivers-chunk observed sends old new waiting chunk fed delivery is unasked delivered;
    result_is = hearing-stops delivery chunk waiting left fault (some-of chunk some) result;
  },
)

-- a delivery doesn't fail for the gateway
pub delivery-has-no-gate-fault : {W : Type 0} (observed : W → ObservedWire) (sends : W → W → List ℕ → Result (Unit {0}) WireFault → Type 0) (old new : W) (waiting left : List ℕ) (fault : BridgeFault) → DeliveredAs observed sends old new waiting left (Err fault) → ¬ (fault ≡ Fault.Gate)
delivery-has-no-gate-fault observed sends old new waiting left fault (delivery, unasked, delivered, result) is = absurd (subst (λ f. IsDelivering (Err f) left delivery) is result)

-- a read that brought a chunk
pub hears-chunk : {W : Type 0} (observed : W → ObservedWire) (sends : W → W → List ℕ → Result (Unit {0}) WireFault → Type 0) (chunks after : Option (List (Option (List ℕ)))) (old new : W) (waiting left chunk : List ℕ) (result : Result Hearing BridgeFault) → TakesChunk chunks after (Brought (Some chunk))
    → ((delivery : Delivery) × ChunkDelivered observed sends old new waiting left chunk result delivery) → (delivery : Delivery) × Hears observed sends chunks after old new waiting left result delivery
hears-chunk observed sends chunks after old new waiting left chunk result takes (delivery, brings) = (
  delivery,
  record {
    chunk = subst (TakesChunk chunks after) (sym brings.heard) takes;
    asked = λ unasked. let heard = brings.heard in cc;
    delivered = brings.delivered;
    result_is = brings.result_is;
  },
)

-- ---- the whole turn

-- a turn that ended before it read the gateway's connection
passes-unheard : {W G : Type 0} (observed : W → ObservedWire) (reads : W → W → Result Got WireFault → Type 0) (sends : W → W → List ℕ → Result (Unit {0}) WireFault → Type 0) (observed_gate : G → ObservedGate) (old : Bridge W G) (wire : W) (gate : G) (got : Result Got WireFault) → reads old.wire wire got
    → TakesGot (observed old.wire).left (observed wire).left got → (observed_gate gate).left ≡ (observed_gate old.gate).left → SendsFrame (observed_gate old.gate).sent (observed_gate gate).sent (framed got) NotAsked
    → PassesOn observed reads sends observed_gate old (record { wire = wire; gate = gate; reader = old.reader; is_idle = false }) (record { got = got; read = wire; delivery = unheard old.reader })
passes-unheard observed reads sends observed_gate old wire gate got read takes left sent = record {
  read = read;
  got = takes;
  chunk = left;
  sent = sent;
  delivered = undelivered observed sends wire old.reader NotAsked refl;
}

-- one that read it
passes-heard : {W G : Type 0} (observed : W → ObservedWire) (reads : W → W → Result Got WireFault → Type 0) (sends : W → W → List ℕ → Result (Unit {0}) WireFault → Type 0) (observed_gate : G → ObservedGate) (old : Bridge W G) (read wire : W) (between gate : G) (reader : List ℕ) (is_idle : Bool) (got : Result Got WireFault) (result : Result Hearing BridgeFault) (delivery : Delivery)
    → reads old.wire read got → TakesGot (observed old.wire).left (observed read).left got → AddsTo {E = BridgeFault} (observed_gate old.gate).sent (observed_gate between).sent (framed got) (Ok tt) → (observed_gate between).left ≡ (observed_gate old.gate).left
    → (observed_gate gate).sent ≡ (observed_gate between).sent → Hears observed sends (observed_gate between).left (observed_gate gate).left read wire old.reader reader result delivery
    → PassesOn observed reads sends observed_gate old (record { wire = wire; gate = gate; reader = reader; is_idle = is_idle }) (record { got = got; read = read; delivery = delivery })
passes-heard observed reads sends observed_gate old read wire between gate reader is_idle got result delivery did takes adds left same hears = record {
  read = did;
  got = takes-got-then (observed old.wire).left (observed read).left (observed wire).left got takes hears.delivered.left;
  chunk = subst (λ chunks. TakesChunk chunks (observed_gate gate).left delivery.heard) left hears.chunk;
  sent = writes-frame (observed_gate old.gate).sent (observed_gate between).sent (observed_gate gate).sent (framed got) delivery.heard adds same hears.asked;
  delivered = hears.delivered;
}

pub turn-read-failed : {W G : Type 0} (observed : W → ObservedWire) (reads : W → W → Result Got WireFault → Type 0) (sends : W → W → List ℕ → Result (Unit {0}) WireFault → Type 0) (observed_gate : G → ObservedGate) (old : Bridge W G) (wire : W) → reads old.wire wire (Err Failed) → TakesGot (observed old.wire).left (observed wire).left (Err Failed)
    → IsTurnOf observed reads sends observed_gate old (record { wire = wire; gate = old.gate; reader = old.reader; is_idle = false }) (Err Fault.Socket)
turn-read-failed observed reads sends observed_gate old wire read takes =
    (record { got = Err Failed; read = wire; delivery = unheard old.reader }, passes-unheard observed reads sends observed_gate old wire old.gate (Err Failed) read takes refl (writes-none (observed_gate old.gate).sent []), read-failed wire old.reader old.reader)

pub turn-without-memory : {W G : Type 0} (observed : W → ObservedWire) (reads : W → W → Result Got WireFault → Type 0) (sends : W → W → List ℕ → Result (Unit {0}) WireFault → Type 0) (observed_gate : G → ObservedGate) (old : Bridge W G) (wire : W) → reads old.wire wire (Err Memory) → TakesGot (observed old.wire).left (observed wire).left (Err Memory)
    → IsTurnOf observed reads sends observed_gate old (record { wire = wire; gate = old.gate; reader = old.reader; is_idle = false }) (Err Fault.Memory)
turn-without-memory observed reads sends observed_gate old wire read takes =
    (record { got = Err Memory; read = wire; delivery = unheard old.reader }, passes-unheard observed reads sends observed_gate old wire old.gate (Err Memory) read takes refl (writes-none (observed_gate old.gate).sent []), read-without-memory wire old.reader old.reader)

pub turn-socket-ended : {W G : Type 0} (observed : W → ObservedWire) (reads : W → W → Result Got WireFault → Type 0) (sends : W → W → List ℕ → Result (Unit {0}) WireFault → Type 0) (observed_gate : G → ObservedGate) (old : Bridge W G) (wire : W) (got : Got) → got ≡ End → reads old.wire wire (Ok got) → TakesGot (observed old.wire).left (observed wire).left (Ok got)
    → IsTurnOf observed reads sends observed_gate old (record { wire = wire; gate = old.gate; reader = old.reader; is_idle = false }) (Ok Ended)
turn-socket-ended observed reads sends observed_gate old wire got is read takes =
    (record { got = Ok End; read = wire; delivery = unheard old.reader }, passes-unheard observed reads sends observed_gate old wire old.gate (Ok End) (subst (λ g. reads old.wire wire (Ok g)) is read) (subst (λ g. TakesGot (observed old.wire).left (observed wire).left (Ok g)) is takes) refl (writes-none (observed_gate old.gate).sent []), socket-ended wire old.reader)

pub turn-not-passed : {W G : Type 0} (observed : W → ObservedWire) (reads : W → W → Result Got WireFault → Type 0) (sends : W → W → List ℕ → Result (Unit {0}) WireFault → Type 0) (observed_gate : G → ObservedGate) (old : Bridge W G) (wire : W) (gate : G) (got : Got) (fault : BridgeFault) → ¬ (got ≡ End) → reads old.wire wire (Ok got) → TakesGot (observed old.wire).left (observed wire).left (Ok got)
    → AddsTo {E = BridgeFault} (observed_gate old.gate).sent (observed_gate gate).sent (framed (Ok got)) (Err fault) → (observed_gate gate).left ≡ (observed_gate old.gate).left → IsPassed got (Err fault)
    → IsTurnOf observed reads sends observed_gate old (record { wire = wire; gate = gate; reader = old.reader; is_idle = false }) (Err fault)
turn-not-passed observed reads sends observed_gate old wire gate got fault not_end read takes adds left passed =
    (record { got = Ok got; read = wire; delivery = unheard old.reader }, passes-unheard observed reads sends observed_gate old wire gate (Ok got) read takes left adds, not-passed wire old.reader old.reader got fault not_end passed)

-- what the steps before the gateway's connection is read have come to
pub record BeforeHearing {W G : Type 0} (observed : W → ObservedWire) (reads : W → W → Result Got WireFault → Type 0) (observed_gate : G → ObservedGate) (old : Bridge W G) (wire : W) (gate : G) (got : Got) : Type 0 where
  pub not_end : ¬ (got ≡ End)
  pub read : reads old.wire wire (Ok got)
  pub takes : TakesGot (observed old.wire).left (observed wire).left (Ok got)
  pub adds : AddsTo {E = BridgeFault} (observed_gate old.gate).sent (observed_gate gate).sent (framed (Ok got)) (Ok tt)
  pub left : (observed_gate gate).left ≡ (observed_gate old.gate).left
  pub passed : IsPassed got (Ok tt)

pub turn-heard-nothing : {W G : Type 0} (observed : W → ObservedWire) (reads : W → W → Result Got WireFault → Type 0) (sends : W → W → List ℕ → Result (Unit {0}) WireFault → Type 0) (observed_gate : G → ObservedGate) (old : Bridge W G) (read wire : W) (between gate : G) (reader : List ℕ) (is_idle : Bool) (got : Got) → BeforeHearing observed reads observed_gate old read between got
    → (observed_gate gate).sent ≡ (observed_gate between).sent → (is_idle ≡ true) ↔ (got ≡ Nothing) → ((delivery : Delivery) × Hears observed sends (observed_gate between).left (observed_gate gate).left read wire old.reader reader (Ok Hearing.Nothing) delivery)
    → IsTurnOf observed reads sends observed_gate old (record { wire = wire; gate = gate; reader = reader; is_idle = is_idle }) (Ok Went)
turn-heard-nothing observed reads sends observed_gate old read wire between gate reader is_idle got before same quiet (delivery, hears) =
    (record { got = Ok got; read = read; delivery = delivery }, passes-heard observed reads sends observed_gate old read wire between gate reader is_idle (Ok got) (Ok Hearing.Nothing) delivery before.read before.takes before.adds before.left same hears, heard-nothing read old.reader reader is_idle got delivery before.not_end before.passed quiet hears.result_is)

pub turn-heard-end : {W G : Type 0} (observed : W → ObservedWire) (reads : W → W → Result Got WireFault → Type 0) (sends : W → W → List ℕ → Result (Unit {0}) WireFault → Type 0) (observed_gate : G → ObservedGate) (old : Bridge W G) (read wire : W) (between gate : G) (reader : List ℕ) (got : Got) → BeforeHearing observed reads observed_gate old read between got
    → (observed_gate gate).sent ≡ (observed_gate between).sent → ((delivery : Delivery) × Hears observed sends (observed_gate between).left (observed_gate gate).left read wire old.reader reader (Ok Hearing.Ended) delivery)
    → IsTurnOf observed reads sends observed_gate old (record { wire = wire; gate = gate; reader = reader; is_idle = false }) (Ok Ended)
turn-heard-end observed reads sends observed_gate old read wire between gate reader got before same (delivery, hears) =
    (record { got = Ok got; read = read; delivery = delivery }, passes-heard observed reads sends observed_gate old read wire between gate reader false (Ok got) (Ok Hearing.Ended) delivery before.read before.takes before.adds before.left same hears, heard-end read old.reader reader got delivery before.not_end before.passed hears.result_is)

pub turn-heard-messages : {W G : Type 0} (observed : W → ObservedWire) (reads : W → W → Result Got WireFault → Type 0) (sends : W → W → List ℕ → Result (Unit {0}) WireFault → Type 0) (observed_gate : G → ObservedGate) (old : Bridge W G) (read wire : W) (between gate : G) (reader : List ℕ) (got : Got) → BeforeHearing observed reads observed_gate old read between got
    → (observed_gate gate).sent ≡ (observed_gate between).sent → ((delivery : Delivery) × Hears observed sends (observed_gate between).left (observed_gate gate).left read wire old.reader reader (Ok Hearing.Messages) delivery)
    → IsTurnOf observed reads sends observed_gate old (record { wire = wire; gate = gate; reader = reader; is_idle = false }) (Ok Went)
turn-heard-messages observed reads sends observed_gate old read wire between gate reader got before same (delivery, hears) =
    (record { got = Ok got; read = read; delivery = delivery }, passes-heard observed reads sends observed_gate old read wire between gate reader false (Ok got) (Ok Hearing.Messages) delivery before.read before.takes before.adds before.left same hears, heard-messages read old.reader reader got delivery before.not_end before.passed hears.result_is)

pub turn-hearing-failed : {W G : Type 0} (observed : W → ObservedWire) (reads : W → W → Result Got WireFault → Type 0) (sends : W → W → List ℕ → Result (Unit {0}) WireFault → Type 0) (observed_gate : G → ObservedGate) (old : Bridge W G) (read wire : W) (between gate : G) (reader : List ℕ) (got : Got) (fault : BridgeFault) → BeforeHearing observed reads observed_gate old read between got
    → (observed_gate gate).sent ≡ (observed_gate between).sent → ((delivery : Delivery) × Hears observed sends (observed_gate between).left (observed_gate gate).left read wire old.reader reader (Err fault) delivery)
    → IsTurnOf observed reads sends observed_gate old (record { wire = wire; gate = gate; reader = reader; is_idle = false }) (Err fault)
turn-hearing-failed observed reads sends observed_gate old read wire between gate reader got fault before same (delivery, hears) =
    (record { got = Ok got; read = read; delivery = delivery }, passes-heard observed reads sends observed_gate old read wire between gate reader false (Ok got) (Err fault) delivery before.read before.takes before.adds before.left same hears, heard-fault read old.reader reader got delivery fault before.not_end before.passed hears.result_is)
