-- Where a call is owed first that isn't on the disk it is the last, no record is in flight, and the round goes on. And what holds once it was made, by what that leaves.
use Rattle.std.proofs.Common.{◌≡◌, ◌≤◌, ◌∙◌, ℕ, ◌+◌, Bool, true, false, List, [], ◌∷◌, length, refl, sym, ap, subst, arith, inl, inr}
use Rattle.std.proofs.lemmas.Bool.{and_parts}
use Rattle.std.specs.Prelude.{◌⊎◌, ◌||◌, nat_le, if◌then◌else◌, slice_get, Some, None}
use Rattle.std.specs.List.{list_any, list_all}
use Rattle.gw_base.specs.declared.setup.Pt.{Pt}
use Rattle.gw_site.specs.declared.turn.Turn.{Turn}
use Rattle.gw_site.specs.declared.turn.Turn.TheVariants.{Start, OpenFailed, Polled, Opened, HeardTill, Closed, HeardPt, Lost, Stopped, Linked, LinkFailed, SentTill, SentPt, CutTill, CutPt, Wrote, Synced, DiskFailed, Crash}
use Rattle.jrn_record.specs.declared.records.Record.{Record}
use Rattle.gw_owes.specs.Calls.{OwedCall, SendTill, SendPt, LinkPt, WriteFirstGate, Sync, CutTill as OwedCutTill, CutPt as OwedCutPt}
use Rattle.gw_owes.specs.Core.{Core}
use Rattle.gw_owes.specs.Dialogues.{HasItsDialogue}
use Rattle.gw_owes.specs.Laws.{owes_none, ends_in_one}
use Rattle.gw_owes.specs.TerminalLaws.{settings_of}
use Rattle.gw_owes.specs.declared.terminal.Terminal.{Terminal}
use Rattle.gw_owes.proofs.SetLemmas.{same-some}
use Rattle.gw_rules.specs.JournalFiles.{is_on_disk, spare_disk}
use Rattle.gw_rules.specs.KeptLaws.{KeepsOn}
use Rattle.gw_rules.specs.Lawful.{first_call, AllowedTurn}
use Rattle.gw_rules.specs.LedgerRules.{ledger_rules}
use Rattle.gw_rules.specs.RecordOrder.{records_coming}
use Rattle.gw_rules.specs.Stage.{Stage, Resting, Opening, Looking, AtPoll, Handling, Over, Broken, busy, is_round, is_broken, stage_synced, stage_wrote}
use Rattle.gw_rules.specs.TranscriptLaws.{cuts_terminal, cut_owed}
use Rattle.gw_rules.specs.View.{View, later, after_turn, at_first}
use Rattle.gw_rules.proofs.KeptFileLemmas.{owned}
use Rattle.gw_rules.proofs.KeptLawLemmas.{holds}
use Rattle.gw_rules.proofs.KeptPhaseLemmas.{Rests, rests-owing, Holds as Keeps}
use Rattle.gw_rules.proofs.OpeningLemmas.{all_on_disk, start-owes-disk}
use Rattle.gw_rules.proofs.OwedLemmas.{call-last}
use Rattle.gw_rules.proofs.OwingLemmas.{clear-where}
use Rattle.gw_rules.proofs.RecordOrderLemmas.{Ordered}
use Rattle.gw_rules.proofs.RecordRowLemmas.{coming-kept, first-later}
use Rattle.gw_rules.proofs.StageLemmas.{no-call, no-true, round-busy}
use Rattle.gw_rules.proofs.TranscriptLogLemmas.{image-there, there-image}
use Rattle.gw_books.specs.Agrees.{is_inside}
use Rattle.gw_books.specs.Books.{BookedEntry}
use Rattle.gw_books.specs.Past.{Occasion, SentCommand, MadeLink, SentReply, Past}
use Rattle.gw_books.proofs.Holding.{AreOutcomesTrue, AreFalling, AreKeyed, IsFirstOf, IsSentTrue, AreCallsSound, charges_terminal, charge_owed, deed_owed, IsServingSound, AreRepliable, is_report_after, IsResolvedOn, IsOfTerminal, IsLinkSound, IsLinkAtRest, is_handle, Holds}
use Rattle.gw_books.proofs.ListLemmas.{In}

-- ---- while no round goes on, calls on the disk alone are owed

-- nothing is owed, or the round goes on, or each call is on the disk
abbrev IsPlaced : View → Type 0
IsPlaced v = (v.calls ≡ []) ⊎ ((is_round v.scene.stage ≡ true) ⊎ (all_on_disk v.calls ≡ true))

first-on-disk : (calls : List OwedCall) (call : OwedCall) → all_on_disk calls ≡ true → first_call calls ≡ Some call → is_on_disk call ≡ true
first-on-disk [] call all next = absurd (let n : None ≡ Some call = next in cc)
first-on-disk (first ∷ calls) call all next = subst (λ c. is_on_disk c ≡ true) (let n : Some first ≡ Some call = next in cc) (and_parts (is_on_disk first) (all_on_disk calls) all).0

later-on-disk : (calls : List OwedCall) → all_on_disk calls ≡ true → all_on_disk (later calls) ≡ true
later-on-disk [] all = all
later-on-disk (call ∷ calls) all = (and_parts (is_on_disk call) (all_on_disk calls) all).1

-- so the round goes on where another call is owed first
placed-round : (v : View) (call : OwedCall) → IsPlaced v → first_call v.calls ≡ Some call → is_on_disk call ≡ false → is_round v.scene.stage ≡ true
placed-round v call (inl none) next off = no-call v.calls call none next
placed-round v call (inr (inl round)) next off = round
placed-round v call (inr (inr all)) next off = no-true (sym off ∙ first-on-disk v.calls call all next)

busy-placed : (v w : View) (call : OwedCall) → IsPlaced v → first_call v.calls ≡ Some call → is_on_disk call ≡ false → w.scene.stage ≡ busy v.scene.stage → IsPlaced w
busy-placed v w call p next off stage = inr (inl (ap is_round (stage ∙ round-busy v.scene.stage (placed-round v call p next off))))

wrote-round : (stage : Stage) → is_round stage ≡ true → is_round (stage_wrote stage) ≡ true
wrote-round Resting e = e
wrote-round (Opening refused) e = e
wrote-round (Looking refused) e = refl
wrote-round AtPoll e = refl
wrote-round Handling e = refl
wrote-round Over e = e
wrote-round Broken e = e

synced-round : (stage : Stage) → is_round stage ≡ true → is_round (stage_synced stage) ≡ true
synced-round Resting e = e
synced-round (Opening refused) e = no-true e
synced-round (Looking refused) e = e
synced-round AtPoll e = refl
synced-round Handling e = refl
synced-round Over e = e
synced-round Broken e = e

-- a call on the disk was made
disk-placed : (v w : View) (call : OwedCall) → IsPlaced v → first_call v.calls ≡ Some call → (is_round v.scene.stage ≡ true → is_round w.scene.stage ≡ true) → w.calls ≡ later v.calls → IsPlaced w
disk-placed v w call (inl none) next round calls = no-call v.calls call none next
disk-placed v w call (inr (inl goes)) next round calls = inr (inl (round goes))
disk-placed v w call (inr (inr all)) next round calls = inr (inr (ap all_on_disk calls ∙ later-on-disk v.calls all))

turn-placed : (v : View) (turn : Turn) → IsPlaced v → AllowedTurn v turn → IsPlaced (after_turn v turn)
turn-placed v (Start setup) p ok = inr (inr ((start-owes-disk v setup).disk refl))
turn-placed v OpenFailed p ok = inl refl
turn-placed v (Polled now) p ok = inl refl
turn-placed v (Opened till) p ok = inl refl
turn-placed v (HeardTill till bytes) p ok = inl refl
turn-placed v (Closed till) p ok = inl refl
turn-placed v (HeardPt pt bytes) p ok = inl refl
turn-placed v (Lost pt) p ok = inl refl
turn-placed v Stopped p ok = inl refl
turn-placed v (Linked pt) p ok = busy-placed v (after_turn v (Linked pt)) (LinkPt pt) p ok refl refl
turn-placed v (LinkFailed pt) p ok = busy-placed v (after_turn v (LinkFailed pt)) (LinkPt pt) p ok refl refl
turn-placed v (SentTill till bytes true) p ok = busy-placed v (after_turn v (SentTill till bytes true)) (SendTill till ok.0) p ok.1 refl refl
turn-placed v (SentTill till bytes false) p ok = busy-placed v (after_turn v (SentTill till bytes false)) (SendTill till ok.0) p ok.1 refl refl
turn-placed v (SentPt pt bytes true) p ok = busy-placed v (after_turn v (SentPt pt bytes true)) (SendPt pt ok.0) p ok.1 refl refl
turn-placed v (SentPt pt bytes false) p ok = busy-placed v (after_turn v (SentPt pt bytes false)) (SendPt pt ok.0) p ok.1 refl refl
turn-placed v (CutTill till) p ok = busy-placed v (after_turn v (CutTill till)) (OwedCutTill till) p ok refl refl
turn-placed v (CutPt pt) p ok = busy-placed v (after_turn v (CutPt pt)) (OwedCutPt pt) p ok refl refl
turn-placed v (Wrote offset bytes) p ok = disk-placed v (after_turn v (Wrote offset bytes)) ok.0 p ok.1 (wrote-round v.scene.stage) refl
turn-placed v Synced p ok = disk-placed v (after_turn v Synced) Sync p ok (synced-round v.scene.stage) refl
turn-placed v DiskFailed p ok = inl refl
turn-placed v (Crash file) p ok = inl refl

opening-on-disk : (small : Bool) → all_on_disk (Sync ∷ (if small then WriteFirstGate ∷ Sync ∷ [] else [])) ≡ true
opening-on-disk true = refl
opening-on-disk false = refl

keeps-placed : (log : List Turn) (v : View) → KeepsOn ledger_rules [] at_first log v → IsPlaced v
keeps-placed _ _ KeepsOn.NoMoves = inl refl
keeps-placed _ _ (KeepsOn.RunBegins log v setup refused k ok) = inr (inr (opening-on-disk (nat_le (length v.scene.outside.file) 1)))
keeps-placed _ _ (KeepsOn.TurnComes log v turn k ok other) = turn-placed v turn (keeps-placed log v k) ok
keeps-placed _ _ (KeepsOn.MessageIsRead log v as_read k ok) = inl refl
keeps-placed _ _ (KeepsOn.ItemBegins log v item items row k b is one) = inr (inl (ap is_round (round-busy v.scene.stage b.idle.round)))

-- ---- a call that isn't on the disk

-- the call alone is owed, in a round, and the records that come are those that are kept
pub record IsLast (v : View) (call : OwedCall) : Type 0 where
  pub calls_are : v.calls ≡ call ∷ []
  pub none_later : later v.calls ≡ []
  pub no_flight : v.scene.flight ≡ None
  pub now : records_coming v ≡ v.scene.kept
  pub round : is_round v.scene.stage ≡ true
  pub clear : is_broken v.scene.stage ≡ false

-- so it is where such a call is owed first
pub is-last : (log : List Turn) (v : View) (call : OwedCall) → Ordered log v → first_call v.calls ≡ Some call → is_on_disk call ≡ false → ((more : List OwedCall) → ends_in_one (call ∷ more) ≡ owes_none more) → IsLast v call
is-last log v call o next off ends =
    let keeps : Keeps (owned ledger_rules) log v = holds ledger_rules log v o.keeps in
    let r : Rests log v.scene.kept v.scene.flight v.calls = rests-owing (owned ledger_rules) log v.scene.kept v.scene.flight v.calls v.scene.stage call keeps.phase next off in
    let none : later v.calls ≡ [] = call-last v.calls call ends next o.agrees.ends in
    let round : is_round v.scene.stage ≡ true = placed-round v call (keeps-placed log v o.keeps) next off in
    record {
      calls_are = first-later v.calls call next ∙ ap (λ calls. call ∷ calls) none;
      none_later = none;
      no_flight = r.is_open.no_flight;
      now = coming-kept v r.spares r.is_open.no_flight;
      round = round;
      clear = clear-where v.scene.stage is_round refl round;
    }

-- what it doesn't cut isn't cut, and what it doesn't charge isn't charged
pub last-cuts : (v : View) (call : OwedCall) (number : ℕ) → IsLast v call → cuts_terminal number call ≡ false → cut_owed number v.calls ≡ false
last-cuts v call number last none = ap (cut_owed number) last.calls_are ∙ ap (λ (b : Bool). b || false) none

pub last-charges : (v : View) (call : OwedCall) (number : ℕ) → IsLast v call → charges_terminal number call ≡ false → charge_owed number v.calls ≡ false
last-charges v call number last none = ap (charge_owed number) last.calls_are ∙ ap (λ (b : Bool). b || false) none

-- the same records come once it was made
pub same-coming : (v w : View) (call : OwedCall) → IsLast v call → spare_disk w.calls ≡ true → w.scene.kept ≡ v.scene.kept → w.scene.flight ≡ v.scene.flight → records_coming w ≡ records_coming v
same-coming v w call last spares kept flight = coming-kept w spares (flight ∙ last.no_flight) ∙ kept ∙ sym last.now

-- ---- links

-- a link whose terminal isn't to be cut
pub link-rests : (records : List Record) (core : Core) (calls : List OwedCall) (past : Past) (link : MadeLink) (l : IsLinkSound records core calls past link) → cut_owed l.of_terminal.number calls ≡ false → IsLinkAtRest records core past link
link-rests records core calls past link l no_cut = record { of_terminal = l.of_terminal; before = l.before; records_before = l.records_before; resolved = λ reports. by_case (l.resolved reports) }
  where
    by_case : (cut_owed l.of_terminal.number calls ≡ true) ⊎ IsResolvedOn records link → IsResolvedOn records link
    by_case (inl cut) = no-true (sym no_cut ∙ cut)
    by_case (inr resolved) = resolved

-- with the settings that were, a link is of the terminal that it was of
pub terminal-stays : (core other : Core) (link : MadeLink) → settings_of other ≡ settings_of core → IsOfTerminal core link → IsOfTerminal other link
terminal-stays core other link same t =
    let there : slice_get (settings_of other) t.number ≡ Some t.terminal.pt = ap (λ (pts : List Pt). slice_get pts t.number) same ∙ there-image (λ (terminal : Terminal). terminal.pt) core.terminals t.number t.terminal t.found in
    let one = image-there (λ (terminal : Terminal). terminal.pt) other.terminals t.number t.terminal.pt there in
    let pt_is : one.0.pt ≡ t.terminal.pt = same-some one.0.pt t.terminal.pt (sym (there-image (λ (terminal : Terminal). terminal.pt) other.terminals t.number one.0 one.1) ∙ there) in
    record { number = t.number; terminal = one.0; found = one.1; poi_is = ap (λ (pt : Pt). pt.poi) pt_is ∙ t.poi_is }

-- a link at rest stays sound
pub rest-sound : (records : List Record) (core other : Core) (calls : List OwedCall) (past next : Past) (link : MadeLink) → settings_of other ≡ settings_of core → past.place ≤ next.place → next.ends ≡ past.ends
    → IsLinkAtRest records core past link → IsLinkSound records other calls next link
rest-sound records core other calls past next link same places ends r =
    let before = r.before in
    record {
      of_terminal = terminal-stays core other link same r.of_terminal;
      before = omega (arith, before, places);
      records_before = r.records_before;
      resolved = λ reports. inr (r.resolved (ap (list_any (is_report_after link)) (sym ends) ∙ reports));
    }

-- ---- once it was made

-- the past once a turn was made
abbrev pub past_then : Past → List SentCommand → List MadeLink → List MadeLink → List SentReply → List Occasion → Past
past_then past commands links lasting replies deeds = record past { place = past.place + 1; commands = commands; links = links; lasting = lasting; replies = replies; deeds = deeds }

-- what a call that was made leaves
pub record Leaves (v w : View) (past next : Past) (book : List BookedEntry) : Type 0 where
  pub kept : w.scene.kept ≡ v.scene.kept
  pub coming : records_coming w ≡ records_coming v
  pub items : w.items ≡ v.items
  pub commands : AreKeyed v.scene.kept next.place next.commands
  pub outcomes : AreOutcomesTrue next.commands book next.place (records_coming v)
  pub calls : AreCallsSound (records_coming v) w.scene.core next.commands past.occasion w.calls
  pub serving : (number : ℕ) (terminal : Terminal) → slice_get w.scene.core.terminals number ≡ Some terminal → charge_owed number w.calls ≡ false → cut_owed number w.calls ≡ false
      → IsServingSound (records_coming v) next.commands terminal.pt.poi terminal.standing
  pub repliable : AreRepliable w.scene.core
  pub dialogues : (number : ℕ) (terminal : Terminal) → slice_get w.scene.core.terminals number ≡ Some terminal → cut_owed number w.calls ≡ false → HasItsDialogue terminal
  pub no_deed : deed_owed w.calls ≡ false
  pub deeds : list_all is_inside next.deeds ≡ true
  pub links : (link : MadeLink) → In link next.lasting → IsLinkSound (records_coming v) w.scene.core w.calls next link
  pub replies : (reply : SentReply) → In reply next.replies → IsSentTrue next.commands book reply
  pub replied : (reply : SentReply) → In reply next.replies → IsFirstOf reply.kept v.scene.kept

-- with that it holds on
pub holds-on : (v w : View) (past : Past) (book : List BookedEntry) (commands : List SentCommand) (links lasting : List MadeLink) (replies : List SentReply) (deeds : List Occasion) → Holds v past book
    → Leaves v w past (past_then past commands links lasting replies deeds) book → Holds w (past_then past commands links lasting replies deeds) book
holds-on v w past book commands links lasting replies deeds h l =
    let next : Past = past_then past commands links lasting replies deeds in
    let heard = h.heard in
    record {
      heard = omega (arith, heard);
      ended = h.ended;
      commands = subst (λ kept. AreKeyed kept next.place commands) (sym l.kept) l.commands;
      outcomes = subst (λ records. AreOutcomesTrue commands book next.place records) (sym l.coming) l.outcomes;
      calls = subst (λ records. AreCallsSound records w.scene.core commands past.occasion w.calls) (sym l.coming) l.calls;
      serving = λ clear number terminal found no_charge no_cut. subst (λ records. IsServingSound records commands terminal.pt.poi terminal.standing) (sym l.coming) (l.serving number terminal found no_charge no_cut);
      repliable = l.repliable;
      dialogues = λ clear number terminal found no_cut. l.dialogues number terminal found no_cut;
      inside = λ round deed. no-true (sym l.no_deed ∙ deed);
      deeds = l.deeds;
      polled = λ poll within. let before = h.polled poll within in omega (arith, before);
      handled = λ handles poll within. h.handled (sym (ap (list_any is_handle) l.items) ∙ handles) poll within;
      links = λ clear link within. subst (λ records. IsLinkSound records w.scene.core w.calls next link) (sym l.coming) (l.links link within);
      polls = h.polls;
      replies = l.replies;
      replied = λ reply within. subst (IsFirstOf reply.kept) (sym l.kept) (l.replied reply within);
      kept_polled = λ poll within. subst (IsFirstOf poll.kept) (sym l.kept) (h.kept_polled poll within);
    }

-- ---- places

falling-later : (place : ℕ) (commands : List SentCommand) → AreFalling place commands → AreFalling (place + 1) commands
falling-later place [] f = tt
falling-later place (command ∷ commands) f = let before = f.0 in (omega (arith, before), f.1)

pub keyed-later : (kept : List Record) (place : ℕ) (commands : List SentCommand) → AreKeyed kept place commands → AreKeyed kept (place + 1) commands
keyed-later kept place commands k = record { falling = falling-later place commands k.falling; accepted = k.accepted; once = k.once }
