-- A till whose cut an item owes is cut before the next poll, and so is one whose bytes begin no frame.
use Rattle.std.proofs.Common.{◌≡◌, ℕ, List, [], ◌∷◌, ◌++◌, refl, sym, ◌∙◌, ap, subst, true, false, inl, inr, append_assoc, eqb-true}
use Rattle.std.specs.Prelude.{Bool, ℤ, map, ◌==◌, ◌⊎◌, Option, Some, None}
use Rattle.gw_base.specs.declared.setup.Setup.{Setup}
use Rattle.gw_bytes.specs.Bytes.{AreBytes}
use Rattle.gw_bytes.proofs.ByteLemmas.{bytes_prefix}
use Rattle.sale_frame.specs.Decode.{decode_frames}
use Rattle.sale_frame.specs.Grammar.{BeginsWithBadLength, Frames}
use Rattle.sale_frame.proofs.DecodeLemmas.{reads_all}
use Rattle.gw_site.specs.Outside.{Connection, Outside, is_connected, without, hears, heard_on, outside_after, outside_from}
use Rattle.gw_site.specs.declared.turn.Turn.{Turn}
use Rattle.gw_site.specs.declared.turn.Turn.TheVariants.{Start, OpenFailed, Polled, Opened, HeardTill, Closed, HeardPt, Lost, Stopped, Linked, LinkFailed, SentTill, SentPt, CutTill, CutPt, Wrote, Synced, DiskFailed, Crash}
use Rattle.gw_owes.specs.Calls.{OwedCall, SendTill, SendPt, LinkPt, Sync, write_turn, CutTill as OwedCutTill, CutPt as OwedCutPt}
use Rattle.gw_owes.specs.Events.{till_bytes_items}
use Rattle.gw_owes.specs.Items.{RoundItem, Crowded, Message, Asked, Unframed, Gone, Greet, Handle, Serve, Queue, NextWaiting, Oversized, LinkLost, Late, Overdue, Due}
use Rattle.gw_owes.specs.ReadAs.{ReadAs}
use Rattle.gw_owes.specs.Row.{owing, owing_where}
use Rattle.gw_owes.specs.Rows.{row_of}
use Rattle.gw_owes.proofs.FrameLemmas.{till-bytes-give}
use Rattle.gw_rules.specs.Laws.{IsCutIn, BadFrameCuts}
use Rattle.gw_rules.specs.Lawful.{first_call, first_message, Begins, IsRead, AllowedTurn, IsCourse, turns_of}
use Rattle.gw_rules.specs.Scene.{Scene, known_in, row_in, row_at, link_made_at, link_lost_at}
use Rattle.gw_rules.specs.Stage.{Stage, Resting, Opening, Looking, AtPoll, Handling, Over, Broken, busy, is_round, is_running, stage_synced, stage_wrote}
use Rattle.gw_site.specs.Sorts.{AreOfRound, is_sort_of_round, sort_of}
use Rattle.gw_rules.specs.View.{View, Move, Begin, Read, Make, begin, read_first, after, after_turn, at_first}
use Rattle.gw_rules.proofs.CourseLemmas.{begin-outside, begin-stage, after-outside}
use Rattle.gw_rules.proofs.HeardLemmas.{HeardBytes, first-bytes, begin-bytes, turn-bytes, heard-bytes, bytes-append}
use Rattle.gw_rules.proofs.SetupLemmas.{begin-setup, IsInRun, first-run, begin-run, read-run, turn-run, polled-setup}
use Rattle.gw_rules.proofs.StageLemmas.{no-true, handling-not-polled}

-- the item is among these
abbrev pub IsAmong : RoundItem → List RoundItem → Type 0
IsAmong item items = (first : List RoundItem) × (rest : List RoundItem) × (items ≡ first ++ item ∷ rest)

pub has-after : (item : RoundItem) (more items : List RoundItem) → IsAmong item items → IsAmong item (more ++ items)
has-after item more items (first, rest, e) = (more ++ first, rest, ap (λ l. more ++ l) e ∙ sym (append_assoc more first (item ∷ rest)))

pub has-before : (item : RoundItem) (items more : List RoundItem) → IsAmong item items → IsAmong item (items ++ more)
has-before item items more (first, rest, e) = (first, rest ++ more, ap (λ l. l ++ more) e ∙ append_assoc first (item ∷ rest) more)

-- the run has ended
abbrev pub is_dead : Stage → Bool
is_dead Resting = false
is_dead (Opening refused) = false
is_dead (Looking refused) = false
is_dead AtPoll = false
is_dead Handling = false
is_dead Over = true
is_dead Broken = true

-- there is a run, so the setup is known
abbrev pub HasSome : Option Setup → Type 0
HasSome setup = (is : Setup) × (setup ≡ Some is)

-- the item owes the cut of the till, where this is there
abbrev pub IsCutItem : ℕ → RoundItem → Type 0
IsCutItem till item = (item ≡ Unframed till) ⊎ (item ≡ Crowded till)

-- such an item is among these
abbrev pub HasCutItem : ℕ → List RoundItem → Type 0
HasCutItem till items = (item : RoundItem) × IsCutItem till item × IsAmong item items

-- the cut of the till is owed, or will be
abbrev pub IsOwed : ℕ → View → Type 0
IsOwed till v = HasCutItem till v.items ⊎ (v.calls ≡ OwedCutTill till ∷ [])

pub record Waits (till : ℕ) (v : View) : Type 0 where
  pub stage : v.scene.stage ≡ Handling
  pub run : HasSome v.scene.setup
  pub there : is_connected v.scene.outside.tills till ≡ true
  pub owed : IsOwed till v

abbrev pub Holds : ℕ → View → Type 0
Holds till v = Waits till v ⊎ (is_dead v.scene.stage ≡ true)

pub dead-poll : {A : Type 0} (stage : Stage) → is_dead stage ≡ true → stage ≡ AtPoll → A
dead-poll stage d e = no-true (sym (ap is_dead e) ∙ d)

pub dead-round : {A : Type 0} (stage : Stage) → is_dead stage ≡ true → is_round stage ≡ true → A
dead-round Resting d e = no-true d
dead-round (Opening refused) d e = no-true d
dead-round (Looking refused) d e = no-true d
dead-round AtPoll d e = no-true d
dead-round Handling d e = no-true d
dead-round Over d e = no-true e
dead-round Broken d e = no-true e

pub dead-running : {A : Type 0} (stage : Stage) → is_dead stage ≡ true → is_running stage ≡ true → A
dead-running Resting d e = no-true d
dead-running (Opening refused) d e = no-true d
dead-running (Looking refused) d e = no-true d
dead-running AtPoll d e = no-true d
dead-running Handling d e = no-true d
dead-running Over d e = no-true e
dead-running Broken d e = no-true e

pub dead-busy : (stage : Stage) → is_dead stage ≡ true → is_dead (busy stage) ≡ true
dead-busy Resting d = d
dead-busy (Opening refused) d = d
dead-busy (Looking refused) d = d
dead-busy AtPoll d = no-true d
dead-busy Handling d = d
dead-busy Over d = d
dead-busy Broken d = d

pub dead-wrote : (stage : Stage) → is_dead stage ≡ true → is_dead (stage_wrote stage) ≡ true
dead-wrote Resting d = d
dead-wrote (Opening refused) d = d
dead-wrote (Looking refused) d = no-true d
dead-wrote AtPoll d = no-true d
dead-wrote Handling d = d
dead-wrote Over d = d
dead-wrote Broken d = d

pub dead-synced : (stage : Stage) → is_dead stage ≡ true → is_dead (stage_synced stage) ≡ true
dead-synced Resting d = d
dead-synced (Opening refused) d = no-true d
dead-synced (Looking refused) d = d
dead-synced AtPoll d = no-true d
dead-synced Handling d = d
dead-synced Over d = d
dead-synced Broken d = d

-- the owed item stays where the items do
owed-more : (till : ℕ) (v w : View) (call : OwedCall) (more : List RoundItem) → IsOwed till v → first_call v.calls ≡ Some call → (◌≡◌ {A = Option OwedCall} (Some (OwedCutTill till)) (Some call) → ⊥) → w.items ≡ more ++ v.items → IsOwed till w
owed-more till v w call more (inl (item, cuts, has)) next other e = inl (item, cuts, subst (IsAmong item) (sym e) (has-after item more v.items has))
owed-more till v w call more (inr owed) next other e = absurd (other (sym (ap first_call owed) ∙ next))

-- a till that isn't cut stays
connected-without : (connections : List Connection) (number other : ℕ) → (other == number) ≡ false → is_connected connections number ≡ true → is_connected (without connections other) number ≡ true
connected-without [] number other d e = e
connected-without (connection ∷ connections) number other d e = by_tests (connected-without connections number other d) (connection.number == other) (connection.number == number) refl refl
  where
    by_tests : (is_connected connections number ≡ true → is_connected (without connections other) number ≡ true) → (one two : Bool) → (connection.number == other) ≡ one → (connection.number == number) ≡ two → is_connected (without (connection ∷ connections) other) number ≡ true
    by_tests more true true t u =
        let same : connection.number ≡ other = eqb-true connection.number other t in
        no-true (sym d ∙ ap (λ n. n == number) (sym same) ∙ u)
    by_tests more true false t u =
        let rest : is_connected connections number ≡ true = (let h : is_connected (connection ∷ connections) number ≡ true = e in rw u at h) in
        rw t (more rest)
    by_tests more false true t u = rw (t, u) refl
    by_tests more false false t u =
        let rest : is_connected connections number ≡ true = (let h : is_connected (connection ∷ connections) number ≡ true = e in rw u at h) in
        rw (t, u) (more rest)

-- what one turn of the round leaves: it is the cut itself, or the same holds
abbrev After : ℕ → View → Turn → Type 0
After till v turn = (turn ≡ CutTill till) ⊎ Holds till (after_turn v turn)

cut-turn : (till other : ℕ) (v : View) → Waits till v → first_call v.calls ≡ Some (OwedCutTill other) → After till v (CutTill other)
cut-turn till other v w next = by_test (other == till) refl
  where
    by_test : (test : Bool) → (other == till) ≡ test → After till v (CutTill other)
    by_test true t = inl (ap CutTill (eqb-true other till t))
    by_test false t = by_owed w.owed
      where
        by_owed : IsOwed till v → After till v (CutTill other)
        by_owed (inl has) = inr (inl (record { stage = ap busy w.stage; run = w.run; there = connected-without v.scene.outside.tills till other t w.there; owed = inl has }))
        by_owed (inr owed) =
            let n : ◌≡◌ {A = Option OwedCall} (Some (OwedCutTill till)) (Some (OwedCutTill other)) = sym (ap first_call owed) ∙ next in
            let same : other ≡ till = cc in
            inl (ap CutTill same)

wrote-turn : (till : ℕ) (v : View) (offset : ℕ) (bytes : List ℕ) (call : OwedCall) → Waits till v → first_call v.calls ≡ Some call → write_turn call ≡ Some (Wrote offset bytes) → After till v (Wrote offset bytes)
wrote-turn till v offset bytes call w next writes = inr (inl (record {
  stage = ap stage_wrote w.stage;
  run = w.run;
  there = w.there;
  owed = owed-more till v (after_turn v (Wrote offset bytes)) call [] w.owed next (λ e. let same : OwedCutTill till ≡ call = cc in let n : None ≡ Some (Wrote offset bytes) = ap write_turn same ∙ writes in cc) refl;
}))

-- a call other than the cut was made
other-turn : (till : ℕ) (v : View) (turn : Turn) (call : OwedCall) (more : List RoundItem) → Waits till v → first_call v.calls ≡ Some call → (◌≡◌ {A = Option OwedCall} (Some (OwedCutTill till)) (Some call) → ⊥) → (after_turn v turn).scene.stage ≡ Handling → (after_turn v turn).scene.setup ≡ v.scene.setup →
    (after_turn v turn).scene.outside.tills ≡ v.scene.outside.tills → (after_turn v turn).items ≡ more ++ v.items → After till v turn
other-turn till v turn call more w next other stage setup tills items = inr (inl (record {
  stage = stage;
  run = subst HasSome (sym setup) w.run;
  there = ap (λ (t : List Connection). is_connected t till) tills ∙ w.there;
  owed = owed-more till v (after_turn v turn) call more w.owed next other items;
}))

waits-turn : (till : ℕ) (v : View) (turn : Turn) → Waits till v → AllowedTurn v turn → is_sort_of_round (sort_of turn) ≡ true → After till v turn
waits-turn till v (Start setup) w ok e = no-true e
waits-turn till v OpenFailed w ok e = no-true e
waits-turn till v (Polled now) w ok e = no-true e
waits-turn till v (Opened other) w ok e = handling-not-polled (sym w.stage ∙ ok.0)
waits-turn till v (HeardTill other bytes) w ok e = handling-not-polled (sym w.stage ∙ ok.0.polled)
waits-turn till v (Closed other) w ok e = handling-not-polled (sym w.stage ∙ ok.polled)
waits-turn till v (HeardPt pt bytes) w ok e = handling-not-polled (sym w.stage ∙ ok.0.polled)
waits-turn till v (Lost pt) w ok e = handling-not-polled (sym w.stage ∙ ok.polled)
waits-turn till v Stopped w ok e = handling-not-polled (sym w.stage ∙ ok)
waits-turn till v (Linked pt) w ok e = other-turn till v (Linked pt) (LinkPt pt) (link_made_at v.scene pt).items w ok (λ n. cc) (ap busy w.stage) refl refl refl
waits-turn till v (LinkFailed pt) w ok e = other-turn till v (LinkFailed pt) (LinkPt pt) (link_lost_at v.scene pt).items w ok (λ n. cc) (ap busy w.stage) refl refl refl
waits-turn till v (SentTill other bytes true) w ok e = other-turn till v (SentTill other bytes true) (SendTill other ok.0) [] w ok.1 (λ n. cc) (ap busy w.stage) refl refl refl
waits-turn till v (SentTill other bytes false) w ok e = other-turn till v (SentTill other bytes false) (SendTill other ok.0) [] w ok.1 (λ n. cc) (ap busy w.stage) refl refl refl
waits-turn till v (SentPt pt bytes true) w ok e = other-turn till v (SentPt pt bytes true) (SendPt pt ok.0) [] w ok.1 (λ n. cc) (ap busy w.stage) refl refl refl
waits-turn till v (SentPt pt bytes false) w ok e = other-turn till v (SentPt pt bytes false) (SendPt pt ok.0) [] w ok.1 (λ n. cc) (ap busy w.stage) refl refl refl
waits-turn till v (CutTill other) w ok e = cut-turn till other v w ok
waits-turn till v (CutPt pt) w ok e = other-turn till v (CutPt pt) (OwedCutPt pt) (link_lost_at v.scene pt).items w ok (λ n. cc) (ap busy w.stage) refl refl refl
waits-turn till v (Wrote offset bytes) w ok e = wrote-turn till v offset bytes ok.0 w ok.1 ok.2
waits-turn till v Synced w ok e = other-turn till v Synced Sync [] w ok (λ n. cc) (ap stage_synced w.stage) refl refl refl
waits-turn till v DiskFailed w ok e = inr (inr refl)
waits-turn till v (Crash file) w ok e = no-true e

-- a run that has ended stays so in its round
pub dead-turn : (v : View) (turn : Turn) → is_dead v.scene.stage ≡ true → AllowedTurn v turn → is_sort_of_round (sort_of turn) ≡ true → is_dead (after_turn v turn).scene.stage ≡ true
dead-turn v (Start setup) d ok e = no-true e
dead-turn v OpenFailed d ok e = no-true e
dead-turn v (Polled now) d ok e = no-true e
dead-turn v (Opened other) d ok e = dead-poll v.scene.stage d ok.0
dead-turn v (HeardTill other bytes) d ok e = dead-poll v.scene.stage d ok.0.polled
dead-turn v (Closed other) d ok e = dead-poll v.scene.stage d ok.polled
dead-turn v (HeardPt pt bytes) d ok e = dead-poll v.scene.stage d ok.0.polled
dead-turn v (Lost pt) d ok e = dead-poll v.scene.stage d ok.polled
dead-turn v Stopped d ok e = refl
dead-turn v (Linked pt) d ok e = dead-busy v.scene.stage d
dead-turn v (LinkFailed pt) d ok e = dead-busy v.scene.stage d
dead-turn v (SentTill other bytes true) d ok e = dead-busy v.scene.stage d
dead-turn v (SentTill other bytes false) d ok e = dead-busy v.scene.stage d
dead-turn v (SentPt pt bytes true) d ok e = dead-busy v.scene.stage d
dead-turn v (SentPt pt bytes false) d ok e = dead-busy v.scene.stage d
dead-turn v (CutTill other) d ok e = dead-busy v.scene.stage d
dead-turn v (CutPt pt) d ok e = dead-busy v.scene.stage d
dead-turn v (Wrote offset bytes) d ok e = dead-wrote v.scene.stage d
dead-turn v Synced d ok e = dead-synced v.scene.stage d
dead-turn v DiskFailed d ok e = refl
dead-turn v (Crash file) d ok e = no-true e

-- ---- an item that begins

no-idle : {A : Type 0} (till : ℕ) (owed : List OwedCall) → owed ≡ OwedCutTill till ∷ [] → owed ≡ [] → A
no-idle till owed e f = absurd (let n : [] ≡ OwedCutTill till ∷ [] = sym f ∙ e in cc)

-- the item owes the cut of a till that is there
cut-item-owes : (scene : Scene) (till : ℕ) (item : RoundItem) → HasSome scene.setup → is_connected scene.outside.tills till ≡ true → IsCutItem till item → (row_at scene item).calls ≡ OwedCutTill till ∷ []
cut-item-owes scene till item (setup, is) there (inl unframed) =
    ap (λ i. (row_at scene i).calls) unframed
    ∙ ap (λ (s : Option Setup). (row_in scene (λ known. row_of scene.outside.tills known (Unframed till)) s).calls) is
    ∙ ap (λ b. (owing_where b (known_in scene setup) (owing (known_in scene setup) (OwedCutTill till ∷ []))).calls) there
cut-item-owes scene till item (setup, is) there (inr crowded) =
    ap (λ i. (row_at scene i).calls) crowded
    ∙ ap (λ (s : Option Setup). (row_in scene (λ known. row_of scene.outside.tills known (Crowded till)) s).calls) is

begin-owed : (till : ℕ) (scene : Scene) (items : List RoundItem) (cut : RoundItem) → HasSome scene.setup → is_connected scene.outside.tills till ≡ true → IsCutItem till cut → IsAmong cut items → IsOwed till (begin scene items)
begin-owed till scene [] cut run there cuts ([], rest, e) = absurd (let n : [] ≡ cut ∷ rest = e in cc)
begin-owed till scene [] cut run there cuts (x ∷ first, rest, e) = absurd (let n : [] ≡ x ∷ (first ++ cut ∷ rest) = e in cc)
begin-owed till scene (item ∷ items) cut run there cuts ([], rest, e) =
    let heads : item ≡ cut = (let n : item ∷ items ≡ cut ∷ rest = e in cc) in
    inr (ap (λ i. (row_at scene i).calls) heads ∙ cut-item-owes scene till cut run there cuts)
begin-owed till scene (item ∷ items) cut run there cuts (x ∷ first, rest, e) =
    let tails : items ≡ first ++ cut ∷ rest = (let n : item ∷ items ≡ x ∷ (first ++ cut ∷ rest) = e in cc) in
    inl (cut, cuts, has-after cut (row_at scene item).items items (first, rest, tails))

holds-begin : (till : ℕ) (v : View) → Holds till v → Begins v → Holds till (after v Begin)
holds-begin till v (inr dead) b = dead-round v.scene.stage dead b.idle.round
holds-begin till v (inl w) b = by_owed w.owed
  where
    by_owed : IsOwed till v → Holds till (after v Begin)
    by_owed (inr owed) = no-idle till v.calls owed b.idle.calls
    by_owed (inl (cut, cuts, has)) = inl (record {
      stage = begin-stage v.scene v.items ∙ ap busy w.stage;
      run = subst HasSome (sym (begin-setup v.scene v.items)) w.run;
      there = ap (λ (o : Outside). is_connected o.tills till) (begin-outside v.scene v.items) ∙ w.there;
      owed = begin-owed till v.scene v.items cut w.run w.there cuts has;
    })

no-message : {A : Type 0} (till other : ℕ) (text : List ℕ) → IsCutItem till (Message other text) → A
no-message till other text (inl unframed) = absurd (let n : Message other text ≡ Unframed till = unframed in cc)
no-message till other text (inr crowded) = absurd (let n : Message other text ≡ Crowded till = crowded in cc)

read-has : (till : ℕ) (as_read : ReadAs) (cut : RoundItem) (items : List RoundItem) (bytes : List ℕ) → first_message items ≡ Some bytes → IsCutItem till cut → IsAmong cut items → IsAmong cut (read_first as_read items)
read-has till as_read cut [] bytes m cuts h = absurd (let n : None ≡ Some bytes = m in cc)
read-has till as_read cut (Message other text ∷ items) bytes m cuts ([], rest, e) =
    let heads : cut ≡ Message other text = (let n : Message other text ∷ items ≡ cut ∷ rest = e in cc) in
    no-message till other text (subst (IsCutItem till) heads cuts)
read-has till as_read cut (Message other text ∷ items) bytes m cuts (x ∷ first, rest, e) =
    let tails : items ≡ first ++ cut ∷ rest = (let n : Message other text ∷ items ≡ x ∷ (first ++ cut ∷ rest) = e in cc) in
    (Asked other as_read ∷ first, rest, ap (λ l. Asked other as_read ∷ l) tails)
read-has till as_read cut (Crowded other ∷ items) bytes m cuts h = h
read-has till as_read cut (Asked other before ∷ items) bytes m cuts h = h
read-has till as_read cut (Unframed other ∷ items) bytes m cuts h = h
read-has till as_read cut (Gone other ∷ items) bytes m cuts h = h
read-has till as_read cut (Greet pt apdu ∷ items) bytes m cuts h = h
read-has till as_read cut (Handle pt apdu ∷ items) bytes m cuts h = h
read-has till as_read cut (Serve pt other header request ∷ items) bytes m cuts h = h
read-has till as_read cut (Queue pt other header request ∷ items) bytes m cuts h = h
read-has till as_read cut (NextWaiting pt ∷ items) bytes m cuts h = h
read-has till as_read cut (Oversized pt ∷ items) bytes m cuts h = h
read-has till as_read cut (LinkLost pt ∷ items) bytes m cuts h = h
read-has till as_read cut (Late pt ∷ items) bytes m cuts h = h
read-has till as_read cut (Overdue key ∷ items) bytes m cuts h = h
read-has till as_read cut (Due pt ∷ items) bytes m cuts h = h

holds-read : (till : ℕ) (v : View) (as_read : ReadAs) → Holds till v → IsRead v as_read → Holds till (after v (Read as_read))
holds-read till v as_read (inr dead) r = dead-round v.scene.stage dead r.idle.round
holds-read till v as_read (inl w) r = by_owed w.owed
  where
    by_owed : IsOwed till v → Holds till (after v (Read as_read))
    by_owed (inr owed) = no-idle till v.calls owed r.idle.calls
    by_owed (inl (cut, cuts, has)) = inl (record { stage = ap busy w.stage; run = w.run; there = w.there; owed = inl (cut, cuts, read-has till as_read cut v.items r.bytes r.message cuts has) })

-- ---- along the course

pub none-among : {A : Type 0} (item : RoundItem) (items : List RoundItem) → IsAmong item items → items ≡ [] → A
none-among item items ([], rest, e) none = absurd (let n : [] ≡ item ∷ rest = sym none ∙ e in cc)
none-among item items (x ∷ first, rest, e) none = absurd (let n : [] ≡ x ∷ (first ++ item ∷ rest) = sym none ∙ e in cc)

holds-polled : {A : Type 0} (till : ℕ) (v : View) (now : ℤ) → Holds till v → AllowedTurn v (Polled now) → A
holds-polled till v now (inr dead) ok = dead-running v.scene.stage dead ok.running
holds-polled {A} till v now (inl w) ok = by_owed w.owed
  where
    by_owed : IsOwed till v → A
    by_owed (inr owed) = no-idle till v.calls owed ok.calls
    by_owed (inl (cut, cuts, has)) = none-among cut v.items has ok.items

holds-turn : (till : ℕ) (v : View) (turn : Turn) → Holds till v → AllowedTurn v turn → is_sort_of_round (sort_of turn) ≡ true → After till v turn
holds-turn till v turn (inl w) ok e = waits-turn till v turn w ok e
holds-turn till v turn (inr dead) ok e = inr (inr (dead-turn v turn dead ok e))

cut-later : (till : ℕ) (turn : Turn) (turns : List Turn) → IsCutIn till turns → IsCutIn till (turn ∷ turns)
cut-later till turn turns (first, rest, e) = (turn ∷ first, rest, ap (λ l. turn ∷ l) e)

-- where the cut of the till is owed, or will be, it is made before the next poll
pub cut-before-poll : (till : ℕ) (now : ℤ) (rest : List Turn) (v : View) (moves : List Move) (inside : List Turn) → Holds till v → IsCourse v moves → turns_of moves ≡ inside ++ Polled now ∷ rest → AreOfRound inside → IsCutIn till inside
cut-before-poll till now rest v [] [] h c e a = absurd (let n : [] ≡ Polled now ∷ rest = e in cc)
cut-before-poll till now rest v [] (turn ∷ inside) h c e a = absurd (let n : [] ≡ turn ∷ (inside ++ Polled now ∷ rest) = e in cc)
cut-before-poll till now rest v (Begin ∷ moves) inside h c e a = cut-before-poll till now rest (after v Begin) moves inside (holds-begin till v h c.0) c.1 e a
cut-before-poll till now rest v (Read as_read ∷ moves) inside h c e a = cut-before-poll till now rest (after v (Read as_read)) moves inside (holds-read till v as_read h c.0) c.1 e a
cut-before-poll till now rest v (Make turn ∷ moves) [] h c e a =
    let heads : turn ≡ Polled now = (let n : turn ∷ turns_of moves ≡ Polled now ∷ rest = e in cc) in
    holds-polled till v now h (subst (AllowedTurn v) heads c.0)
cut-before-poll till now rest v (Make turn ∷ moves) (other ∷ inside) h c e a =
    let heads : turn ≡ other = (let n : turn ∷ turns_of moves ≡ other ∷ (inside ++ Polled now ∷ rest) = e in cc) in
    let tails : turns_of moves ≡ inside ++ Polled now ∷ rest = (let n : turn ∷ turns_of moves ≡ other ∷ (inside ++ Polled now ∷ rest) = e in cc) in
    by_after (λ holds. cut-before-poll till now rest (after_turn v turn) moves inside holds c.1 tails a.1) heads (holds-turn till v turn h c.0 (ap (λ t. is_sort_of_round (sort_of t)) heads ∙ a.0))
  where
    by_after : (Holds till (after_turn v turn) → IsCutIn till inside) → turn ≡ other → After till v turn → IsCutIn till (other ∷ inside)
    by_after more heads (inl cut) = ([], inside, ap (λ t. t ∷ inside) (sym heads ∙ cut))
    by_after more heads (inr holds) = cut-later till other inside (more holds)

pub connected-hears : (connections : List Connection) (number : ℕ) (bytes : List ℕ) → is_connected (hears connections number bytes) number ≡ is_connected connections number
connected-hears [] number bytes = refl
connected-hears (connection ∷ connections) number bytes = by_test (connection.number == number) refl (connected-hears connections number bytes)
  where
    by_test : (test : Bool) → (connection.number == number) ≡ test → is_connected (hears connections number bytes) number ≡ is_connected connections number → is_connected (hears (connection ∷ connections) number bytes) number ≡ is_connected (connection ∷ connections) number
    by_test true t h = rw t (rw t refl)
    by_test false t h = rw t (rw t h)

-- bytes that begin no frame bring an item that says so
bad-brings : (till : ℕ) (heard chunk : List ℕ) (payloads : List (List ℕ)) (left : List ℕ) → AreBytes (heard ++ chunk) → Frames (heard ++ chunk) payloads left → BeginsWithBadLength left → IsAmong (Unframed till) (till_bytes_items till heard chunk)
bad-brings till heard chunk payloads left small all bad =
    let old = reads_all heard (bytes_prefix heard chunk small) in
    let brings = till-bytes-give till heard chunk (decode_frames heard).payloads payloads (decode_frames heard).rest left small old all in
    (map (Message till) brings.new, [], brings.items_are ∙ ap (λ l. map (Message till) brings.new ++ l) (brings.bad bad))

heard-holds : (till : ℕ) (v : View) (chunk : List ℕ) (payloads : List (List ℕ)) (left : List ℕ) → HeardBytes v.scene.outside → IsInRun v → AllowedTurn v (HeardTill till chunk)
    → Frames (heard_on v.scene.outside.tills till ++ chunk) payloads left → BeginsWithBadLength left → Holds till (after_turn v (HeardTill till chunk))
heard-holds till v chunk payloads left small run ok all bad =
    let heard : List ℕ = heard_on v.scene.outside.tills till in
    let known = polled-setup v run ok.0.polled in
    inl (record {
      stage = refl;
      run = (known.setup, known.setup_is);
      there = connected-hears v.scene.outside.tills till chunk ∙ ok.0.connected_is;
      owed = inl (Unframed till, inl refl, has-before (Unframed till) (till_bytes_items till heard chunk) _ (bad-brings till heard chunk payloads left (bytes-append heard chunk (heard-bytes v.scene.outside.tills till small.tills) ok.1.bytes) all bad));
    })

-- what was heard of the till ends in bytes that begin no frame
abbrev EndsBad : Outside → ℕ → List ℕ → List (List ℕ) → List ℕ → Type 0
EndsBad o till chunk payloads left = Frames (heard_on o.tills till ++ chunk) payloads left × BeginsWithBadLength left

to-heard : (till : ℕ) (chunk : List ℕ) (now : ℤ) (payloads : List (List ℕ)) (left : List ℕ) (inside rest : List Turn) (v : View) (moves : List Move) (before : List Turn)
    → HeardBytes v.scene.outside → IsInRun v → IsCourse v moves → turns_of moves ≡ before ++ HeardTill till chunk ∷ (inside ++ Polled now ∷ rest) → AreOfRound inside
    → EndsBad (outside_from v.scene.outside before) till chunk payloads left → IsCutIn till inside
to-heard till chunk now payloads left inside rest v [] [] small run c e a bad = absurd (let n : [] ≡ HeardTill till chunk ∷ (inside ++ Polled now ∷ rest) = e in cc)
to-heard till chunk now payloads left inside rest v [] (turn ∷ before) small run c e a bad = absurd (let n : [] ≡ turn ∷ (before ++ HeardTill till chunk ∷ (inside ++ Polled now ∷ rest)) = e in cc)
to-heard till chunk now payloads left inside rest v (Begin ∷ moves) before small run c e a bad =
    to-heard till chunk now payloads left inside rest (after v Begin) moves before (begin-bytes v small) (begin-run v run c.0.idle.round) c.1 e a
    (subst (λ (o : Outside). EndsBad (outside_from o before) till chunk payloads left) (sym (begin-outside v.scene v.items)) bad)
to-heard till chunk now payloads left inside rest v (Read as_read ∷ moves) before small run c e a bad =
    to-heard till chunk now payloads left inside rest (after v (Read as_read)) moves before small (read-run v as_read run c.0.idle.round) c.1 e a bad
to-heard till chunk now payloads left inside rest v (Make turn ∷ moves) [] small run c e a bad =
    let heads : turn ≡ HeardTill till chunk = (let n : turn ∷ turns_of moves ≡ HeardTill till chunk ∷ (inside ++ Polled now ∷ rest) = e in cc) in
    let tails : turns_of moves ≡ inside ++ Polled now ∷ rest = (let n : turn ∷ turns_of moves ≡ HeardTill till chunk ∷ (inside ++ Polled now ∷ rest) = e in cc) in
    let course : IsCourse (after_turn v (HeardTill till chunk)) moves = subst (λ t. IsCourse (after_turn v t) moves) heads c.1 in
    cut-before-poll till now rest (after_turn v (HeardTill till chunk)) moves inside (heard-holds till v chunk payloads left small run (subst (AllowedTurn v) heads c.0) bad.0 bad.1) course tails a
to-heard till chunk now payloads left inside rest v (Make turn ∷ moves) (other ∷ before) small run c e a bad =
    let heads : turn ≡ other = (let n : turn ∷ turns_of moves ≡ other ∷ (before ++ HeardTill till chunk ∷ (inside ++ Polled now ∷ rest)) = e in cc) in
    let tails : turns_of moves ≡ before ++ HeardTill till chunk ∷ (inside ++ Polled now ∷ rest) = (let n : turn ∷ turns_of moves ≡ other ∷ (before ++ HeardTill till chunk ∷ (inside ++ Polled now ∷ rest)) = e in cc) in
    to-heard till chunk now payloads left inside rest (after_turn v turn) moves before (turn-bytes v turn small c.0) (turn-run v turn run c.0) c.1 tails a
    (subst (λ (o : Outside). EndsBad (outside_from o before) till chunk payloads left) (sym (after-outside v turn ∙ ap (outside_after v.scene.outside) heads)) bad)

pub bad-frame-cuts : BadFrameCuts
bad-frame-cuts before inside rest till chunk now payloads left (v, s) a all bad =
    to-heard till chunk now payloads left inside rest at_first s.course before first-bytes first-run s.lawful s.log_is a (all, bad)
