-- In which order the deadlines of requests that wait are looked at, along each move.
use Rattle.std.proofs.Common.{◌≡◌, ℕ, ◌+◌, Bool, true, false, List, [], ◌∷◌, ◌++◌, refl, sym, ap, ◌∙◌, inl, inr, append-nil}
use Rattle.std.proofs.lemmas.Bool.{and_parts}
use Rattle.std.specs.List.{flat_map}
use Rattle.std.specs.Prelude.{if◌then◌else◌, length, map, nat_lt, Option, Some, None}
use Rattle.gw_base.specs.declared.key.Key.{Key}
use Rattle.gw_base.specs.declared.setup.Setup.{Setup}
use Rattle.gw_site.specs.Outside.{Connection, heard_on}
use Rattle.gw_site.specs.declared.turn.Turn.{Turn}
use Rattle.gw_site.specs.declared.turn.Turn.TheVariants.{Start, OpenFailed, Polled, Opened, HeardTill, Closed, HeardPt, Lost, Stopped, Linked, LinkFailed, SentTill, SentPt, CutTill, CutPt, Wrote, Synced, DiskFailed, Crash}
use Rattle.sale_frame.specs.Decode.{DecodedFrames, decode_after, decode_frames}
use Rattle.zvt_apdu.specs.Decode.{decode_apdu}
use Rattle.zvt_apdu.specs.DecodeStream.{DecodedApdus, decode_apdus}
use Rattle.zvt_apdu.specs.Grammar.{ApduValue}
use Rattle.gw_owes.specs.declared.terminal.Terminal.{Terminal}
use Rattle.gw_owes.specs.Core.{Wait, Core}
use Rattle.gw_owes.specs.Events.{apdu_items, decoded_apdu_items, decoded_items, for_each_terminal, has_bad_length, is_oversized, items_due, pt_bytes_items, till_bytes_items, till_opened_items, waits_by_deadline}
use Rattle.gw_owes.specs.Items.{RoundItem, Crowded, Message, Asked, Unframed, Gone, Greet, Handle, Serve, Queue, NextWaiting, Oversized, LinkLost, Late, Overdue, Due}
use Rattle.gw_owes.specs.ReadAs.{ReadAs}
use Rattle.gw_owes.specs.Terminals.{link_lost, link_made}
use Rattle.gw_rules.specs.QueueLaws.{DueChange, NoneLooked, FirstLooked, RoundBrings, RoundEnds, EachMoveLooksInOrder, keys_due}
use Rattle.gw_rules.specs.Scene.{Scene, known_in, row_in, link_lost_at, link_made_at}
use Rattle.gw_rules.specs.View.{View, Begin, Read, Make, after, after_turn, read_first}
use Rattle.gw_rules.proofs.DayLogLemmas.{stands-agree}
use Rattle.gw_rules.proofs.KeptLemmas.{BeginsFirst, begins-first}
use Rattle.gw_rules.proofs.LinkStateLemmas.{all_follow, each-following, lost-turns, made-turns, may_follow}

-- ---- the keys among items

keys-append : (items more : List RoundItem) → keys_due (items ++ more) ≡ keys_due items ++ keys_due more
keys-append [] more = refl
keys-append (Crowded till ∷ items) more = keys-append items more
keys-append (Message till bytes ∷ items) more = keys-append items more
keys-append (Asked till other ∷ items) more = keys-append items more
keys-append (Unframed till ∷ items) more = keys-append items more
keys-append (Gone till ∷ items) more = keys-append items more
keys-append (Greet pt apdu ∷ items) more = keys-append items more
keys-append (Handle pt apdu ∷ items) more = keys-append items more
keys-append (Serve pt till header request ∷ items) more = keys-append items more
keys-append (Queue pt till header request ∷ items) more = keys-append items more
keys-append (NextWaiting pt ∷ items) more = keys-append items more
keys-append (Oversized pt ∷ items) more = keys-append items more
keys-append (LinkLost pt ∷ items) more = keys-append items more
keys-append (Late pt ∷ items) more = keys-append items more
keys-append (Overdue key ∷ items) more = ap (λ (l : List Key). key ∷ l) (keys-append items more)
keys-append (Due pt ∷ items) more = keys-append items more

-- what may come next after an item has none
keys-following : (items : List RoundItem) → all_follow items ≡ true → keys_due items ≡ []
keys-following [] follow = refl
keys-following (item ∷ items) follow =
    let p = and_parts (may_follow item) (all_follow items) follow in
    each-following (λ (i : RoundItem). keys_due (i ∷ items) ≡ []) item p.0 (λ number till header request. keys-following items p.1) (λ number till header request. keys-following items p.1) (λ number. keys-following items p.1)

keys-late : (number : ℕ) (terminals : List Terminal) → keys_due (for_each_terminal number Late terminals) ≡ []
keys-late number [] = refl
keys-late number (terminal ∷ terminals) = keys-late (number + 1) terminals

keys-links : (number : ℕ) (terminals : List Terminal) → keys_due (for_each_terminal number Due terminals) ≡ []
keys-links number [] = refl
keys-links number (terminal ∷ terminals) = keys-links (number + 1) terminals

keys-overdue : (waits : List Wait) → keys_due (map (λ (wait : Wait). Overdue wait.key) waits) ≡ map (λ (wait : Wait). wait.key) waits
keys-overdue [] = refl
keys-overdue (wait ∷ waits) = ap (λ (l : List Key). wait.key ∷ l) (keys-overdue waits)

-- what may be due has those of the requests that wait, in the order of their deadlines
keys-items-due : (core : Core) → keys_due (items_due core) ≡ map (λ (wait : Wait). wait.key) (waits_by_deadline core.waits)
keys-items-due core =
    keys-append (for_each_terminal 0 Late core.terminals) (map (λ (wait : Wait). Overdue wait.key) (waits_by_deadline core.waits) ++ for_each_terminal 0 Due core.terminals)
    ∙ (ap (λ (l : List Key). l ++ keys_due (map (λ (wait : Wait). Overdue wait.key) (waits_by_deadline core.waits) ++ for_each_terminal 0 Due core.terminals)) (keys-late 0 core.terminals)
    ∙ (keys-append (map (λ (wait : Wait). Overdue wait.key) (waits_by_deadline core.waits)) (for_each_terminal 0 Due core.terminals)
    ∙ (ap (λ (l : List Key). keys_due (map (λ (wait : Wait). Overdue wait.key) (waits_by_deadline core.waits)) ++ l) (keys-links 0 core.terminals)
    ∙ (append-nil (keys_due (map (λ (wait : Wait). Overdue wait.key) (waits_by_deadline core.waits))) ∙ keys-overdue (waits_by_deadline core.waits)))))

-- what an event brings has none
keys-messages : (till : ℕ) (payloads : List (List ℕ)) → keys_due (map (Message till) payloads) ≡ []
keys-messages till [] = refl
keys-messages till (payload ∷ payloads) = keys-messages till payloads

keys-decoded : (till : ℕ) (decoded : DecodedFrames) → keys_due (decoded_items till decoded) ≡ []
keys-decoded till decoded =
    keys-append (map (Message till) decoded.payloads) (if has_bad_length decoded.rest then Unframed till ∷ [] else [])
    ∙ (ap (λ (l : List Key). l ++ keys_due (if has_bad_length decoded.rest then Unframed till ∷ [] else [])) (keys-messages till decoded.payloads) ∙ by-test (has_bad_length decoded.rest))
  where
    by-test : (bad : Bool) → keys_due (if bad then Unframed till ∷ [] else []) ≡ []
    by-test true = refl
    by-test false = refl

keys-apdus : (number : ℕ) (apdus : List ApduValue) → keys_due (flat_map (apdu_items number) apdus) ≡ []
keys-apdus number [] = refl
keys-apdus number (apdu ∷ apdus) = keys-apdus number apdus

keys-pt : (number : ℕ) (decoded : DecodedApdus) → keys_due (decoded_apdu_items number decoded) ≡ []
keys-pt number decoded =
    keys-append (flat_map (apdu_items number) decoded.apdus) (if is_oversized (decode_apdu decoded.rest) then Oversized number ∷ [] else [])
    ∙ (ap (λ (l : List Key). l ++ keys_due (if is_oversized (decode_apdu decoded.rest) then Oversized number ∷ [] else [])) (keys-apdus number decoded.apdus) ∙ by-test (is_oversized (decode_apdu decoded.rest)))
  where
    by-test : (over : Bool) → keys_due (if over then Oversized number ∷ [] else []) ≡ []
    by-test true = refl
    by-test false = refl

keys-opened : (till : ℕ) (tills : List Connection) → keys_due (till_opened_items till tills) ≡ []
keys-opened till tills = by-test (nat_lt (length tills) 64)
  where
    by-test : (few : Bool) → keys_due (if few then [] else Crowded till ∷ []) ≡ []
    by-test true = refl
    by-test false = refl

keys-event : (items : List RoundItem) (core : Core) → keys_due items ≡ [] → keys_due (items ++ items_due core) ≡ map (λ (wait : Wait). wait.key) (waits_by_deadline core.waits)
keys-event items core none = keys-append items (items_due core) ∙ (ap (λ (l : List Key). l ++ keys_due (items_due core)) none ∙ keys-items-due core)

-- ---- an item that begins or is read

begin-looks : (v : View) (f : BeginsFirst v) → (item : RoundItem) → BeginsFirst.item f ≡ item → DueChange v Begin (keys_due v.items) (keys_due (after v Begin).items)
begin-looks v f item is = by-item item (f.items_are ∙ ap (λ (i : RoundItem). i ∷ f.rest) is)
  where
    left : keys_due (after v Begin).items ≡ keys_due f.rest
    left = ap keys_due f.left ∙ (keys-append f.new f.rest ∙ ap (λ (l : List Key). l ++ keys_due f.rest) (keys-following f.new f.new_is))

    by-item : (first : RoundItem) → v.items ≡ first ∷ f.rest → DueChange v Begin (keys_due v.items) (keys_due (after v Begin).items)
    by-item (Crowded till) e = NoneLooked (left ∙ sym (ap keys_due e))
    by-item (Message till bytes) e = NoneLooked (left ∙ sym (ap keys_due e))
    by-item (Asked till other) e = NoneLooked (left ∙ sym (ap keys_due e))
    by-item (Unframed till) e = NoneLooked (left ∙ sym (ap keys_due e))
    by-item (Gone till) e = NoneLooked (left ∙ sym (ap keys_due e))
    by-item (Greet pt apdu) e = NoneLooked (left ∙ sym (ap keys_due e))
    by-item (Handle pt apdu) e = NoneLooked (left ∙ sym (ap keys_due e))
    by-item (Serve pt till header request) e = NoneLooked (left ∙ sym (ap keys_due e))
    by-item (Queue pt till header request) e = NoneLooked (left ∙ sym (ap keys_due e))
    by-item (NextWaiting pt) e = NoneLooked (left ∙ sym (ap keys_due e))
    by-item (Oversized pt) e = NoneLooked (left ∙ sym (ap keys_due e))
    by-item (LinkLost pt) e = NoneLooked (left ∙ sym (ap keys_due e))
    by-item (Late pt) e = NoneLooked (left ∙ sym (ap keys_due e))
    by-item (Overdue key) e = FirstLooked key (record { move_is = refl; rest = f.rest; items_are = e }) (ap keys_due e ∙ ap (λ (l : List Key). key ∷ l) (sym left))
    by-item (Due pt) e = NoneLooked (left ∙ sym (ap keys_due e))

keys-read : (as_read : ReadAs) (items : List RoundItem) → keys_due (read_first as_read items) ≡ keys_due items
keys-read as_read [] = refl
keys-read as_read (Crowded till ∷ items) = refl
keys-read as_read (Message till bytes ∷ items) = refl
keys-read as_read (Asked till other ∷ items) = refl
keys-read as_read (Unframed till ∷ items) = refl
keys-read as_read (Gone till ∷ items) = refl
keys-read as_read (Greet pt apdu ∷ items) = refl
keys-read as_read (Handle pt apdu ∷ items) = refl
keys-read as_read (Serve pt till header request ∷ items) = refl
keys-read as_read (Queue pt till header request ∷ items) = refl
keys-read as_read (NextWaiting pt ∷ items) = refl
keys-read as_read (Oversized pt ∷ items) = refl
keys-read as_read (LinkLost pt ∷ items) = refl
keys-read as_read (Late pt ∷ items) = refl
keys-read as_read (Overdue key ∷ items) = refl
keys-read as_read (Due pt ∷ items) = refl

-- ---- a turn

made-items : (scene : Scene) (pt : ℕ) (setup : Option Setup) → (row_in scene (λ known. link_made known pt) setup).items ≡ []
made-items scene pt None = refl
made-items scene pt (Some setup) = (made-turns (known_in scene setup) pt).items

lost-items : (scene : Scene) (pt : ℕ) (setup : Option Setup) → (row_in scene (λ known. link_lost known pt) setup).items ≡ []
lost-items scene pt None = refl
lost-items scene pt (Some setup) = (lost-turns (known_in scene setup) pt).items

link-looks : (v : View) (turn : Turn) (items : List RoundItem) → items ≡ [] → DueChange v (Make turn) (keys_due v.items) (keys_due (items ++ v.items))
link-looks v turn items none = NoneLooked (ap (λ (l : List RoundItem). keys_due (l ++ v.items)) none)

turn-looks : (v : View) (turn : Turn) → DueChange v (Make turn) (keys_due v.items) (keys_due (after_turn v turn).items)
turn-looks v (Start setup) = RoundEnds (Start setup) refl (inl refl) refl
turn-looks v OpenFailed = RoundEnds OpenFailed refl (inl refl) refl
turn-looks v (Polled now) = RoundBrings (Polled now) refl (inl refl) (keys-items-due v.scene.core)
turn-looks v (Opened till) = RoundBrings (Opened till) refl (inr refl) (keys-event (till_opened_items till v.scene.outside.tills) v.scene.core (keys-opened till v.scene.outside.tills))
turn-looks v (HeardTill till bytes) =
    RoundBrings (HeardTill till bytes) refl (inr refl)
    (keys-event (till_bytes_items till (heard_on v.scene.outside.tills till) bytes) v.scene.core (keys-decoded till (decode_after (decode_frames (heard_on v.scene.outside.tills till)).rest bytes)))
turn-looks v (Closed till) = RoundBrings (Closed till) refl (inr refl) (keys-event (Gone till ∷ []) v.scene.core refl)
turn-looks v (HeardPt pt bytes) =
    RoundBrings (HeardPt pt bytes) refl (inr refl)
    (keys-event (pt_bytes_items pt (heard_on v.scene.outside.links pt) bytes) v.scene.core (keys-pt pt (decode_apdus ((decode_apdus (heard_on v.scene.outside.links pt)).rest ++ bytes))))
turn-looks v (Lost pt) = RoundBrings (Lost pt) refl (inr refl) (keys-event (LinkLost pt ∷ []) v.scene.core refl)
turn-looks v Stopped = RoundEnds Stopped refl (inr (inl refl)) refl
turn-looks v (Linked pt) = link-looks v (Linked pt) (link_made_at v.scene pt).items (made-items v.scene pt v.scene.setup)
turn-looks v (LinkFailed pt) = link-looks v (LinkFailed pt) (link_lost_at v.scene pt).items (lost-items v.scene pt v.scene.setup)
turn-looks v (SentTill till bytes true) = NoneLooked refl
turn-looks v (SentTill till bytes false) = NoneLooked refl
turn-looks v (SentPt pt bytes true) = NoneLooked refl
turn-looks v (SentPt pt bytes false) = NoneLooked refl
turn-looks v (CutTill till) = NoneLooked refl
turn-looks v (CutPt pt) = link-looks v (CutPt pt) (link_lost_at v.scene pt).items (lost-items v.scene pt v.scene.setup)
turn-looks v (Wrote offset bytes) = NoneLooked refl
turn-looks v Synced = NoneLooked refl
turn-looks v DiskFailed = RoundEnds DiskFailed refl (inr (inr refl)) refl
turn-looks v (Crash file) = RoundEnds (Crash file) refl (inl refl) refl

pub each-move-looks : EachMoveLooksInOrder
each-move-looks log v Begin stands allowed = let f = begins-first v (stands-agree log v stands) allowed in begin-looks v f f.item refl
each-move-looks log v (Read as_read) stands allowed = NoneLooked (keys-read as_read v.items)
each-move-looks log v (Make turn) stands allowed = turn-looks v turn
