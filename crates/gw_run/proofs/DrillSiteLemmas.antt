-- What is known of the site of a drill once its last run is over.
use Rattle.std.proofs.Common.{◌≡◌, ℕ, ◌<◌, ◌≤◌, ◌+◌, List, [], ◌∷◌, ◌++◌, arith, length, refl, sym, ◌∙◌, ap, subst, append-nil, inl, inr, true, false}
use Rattle.std.proofs.Math.Logic.{∥∥₁_elim}
use Rattle.std.proofs.Props.{props}
use Rattle.std.proofs.lemmas.List.{length-map}
use Rattle.std.specs.Borrow.{Bor}
use Rattle.std.specs.Option.{option_copied}
use Rattle.std.specs.Prelude.{◌||◌, Bool, IsTrue, is_some, Option, Some, None}
use Rattle.gw_base.specs.declared.setup.Setup.{Setup}
use Rattle.gw_site.specs.Observed.{Observed}
use Rattle.gw_site.specs.Steps.{PowerBack, SiteStep, TakenStep, log_of_parts, steps_of, turns_of_steps}
use Rattle.gw_site.specs.declared.turn.Turn.{Turn}
use Rattle.gw_site.specs.declared.turn.Turn.TheVariants.{Start, OpenFailed, DiskFailed}
use Rattle.gw_ledger.specs.Sums.{tally_of}
use Rattle.pt_core.specs.Book.{all_fit, last_trace}
use Rattle.pt_core.specs.Exchange.{met_of}
use Rattle.pt_core.specs.History.{Met, Setting, book_after}
use Rattle.pt_core.specs.declared.book.BookEntry.{BookEntry}
use Rattle.gw_script.proofs.site.StepTurnLemmas.{from_computed, to_log}
use Rattle.gw_script.proofs.site.NoFailureLemmas.{drill-fails-no-call, no-call-fails}
use Rattle.gw_script.proofs.site.PowerLemmas.{power-fails-once-per-line, steps_count}
use Rattle.gw_script.specs.site.Calls.{LeadsBy, are_scripted}
use Rattle.gw_script.specs.site.Drill.{drill_begins, drill_lines, drill_origin, drill_payments, drill_script, drill_terminals, drill_turns}
use Rattle.gw_script.specs.site.NoFailures.{HasNoFailedCall, is_failed_call}
use Rattle.gw_script.specs.site.Peers.{book_of_peer}
use Rattle.gw_script.specs.site.Playing.{Play, begins}
use Rattle.gw_script.specs.site.Powers.{power_failures, power_failures_left, power_lines}
use Rattle.gw_script.specs.site.ScriptLine.{Script, setup_of}
use Rattle.sim_site.specs.Sites.{IsDrillPlayedTo, is_log_full, log_of, place_of, played_script, sim_observed}
use Rattle.sim_site.specs.declared.site.SimSite.{SimSite}
use Rattle.gw_site.specs.Sorts.{sort_of}
use Rattle.gw_rules.specs.Acts.{Unopened, taken_of}
use Rattle.gw_rules.specs.Lawful.{IsLawful, Stands}
use Rattle.gw_rules.specs.Laws.{EachHasOneLeanCourse}
use Rattle.gw_rules.specs.LedgerRules.{EachLawfulHasKept}
use Rattle.gw_rules.specs.View.{at_first}
use Rattle.gw_rules.proofs.ActLemmas.{turns-of-acts}
use Rattle.gw_books.specs.PastLaws.{EachLogAgrees}
use Rattle.gw_dispatch.specs.declared.engine.Ended.{Ended}
use Rattle.gw_dispatch.specs.declared.engine.Ended.TheVariants.{Done, NotOpened as RunNotOpened, NoMemory, Disk as RunDisk, TooLong, Cut, BadRecord}
use Rattle.gw_dispatch.specs.declared.engine.TalliedEnd.{TalliedEnd}
use Rattle.gw_drill.specs.Counts.{IsCountable, counts_of}
use Rattle.gw_drill.specs.DrillBooks.{DrillIsAt, DrillIsHonest, StartWith, drill_book, drill_setup, exchanges_at, setting_at}
use Rattle.gw_drill.specs.declared.counts.Counts.{Counts}
use Rattle.gw_run.specs.Drill.{HasCounted, IsDrillLog}
use Rattle.gw_run.specs.Drills.{HasRunDrill}
use Rattle.gw_run.specs.RunEnds.{ending_of}
use Rattle.gw_run.specs.PlayedRuns.{FailsAtMost, HasPlayed, HasTallied, HasTalliedFrom, IsUnbegun, view_of}
use Rattle.gw_run.specs.ScriptLog.{AreOpenings, HasLastTurn, is_power_failure}
use Rattle.gw_run.specs.Top.{ShowsEnd}
use Rattle.gw_run.specs.declared.ending.Ending.TheVariants.{Played, NotOpened, Memory, Disk, LongJournal, CutJournal, BadSlot}
use Rattle.gw_run.proofs.RunsLemmas.{done-stands, due-scripted, steps-played, with-more}
use Rattle.gw_run.proofs.SiteRunLemmas.{site-rests}

-- ---- the runs that start

start-same : (setup own : Setup) → Start setup ≡ Start own → setup ≡ own
start-same setup own e = cc

-- each run is opened with the setup, so it starts with it
start-with : (own : Setup) (first : Bool) (log : List Turn) → AreOpenings own first log → StartWith own log
start-with own first log openings [] after setup e =
    let o : AreOpenings own first (Start setup ∷ after) = subst (AreOpenings own first) e openings in
    elim (o.0 refl).1 [ inl same ↦ start-same setup own same | inr failed ↦ absurd (let n : Start setup ≡ OpenFailed = failed in cc) ]
start-with own first log openings (turn ∷ before) after setup e =
    let o : AreOpenings own first (turn ∷ (before ++ Start setup ∷ after)) = subst (AreOpenings own first) e openings in
    start-with own (is_power_failure (sort_of turn)) (before ++ Start setup ∷ after) o.1 before after setup refl

-- ---- how the last run has ended

memory-ended : (ended : Ended) → ending_of ended ≡ Memory → ended ≡ NoMemory
memory-ended Done e = absurd (let n : Played ≡ Memory = e in cc)
memory-ended RunNotOpened e = absurd (let n : NotOpened ≡ Memory = e in cc)
memory-ended NoMemory e = refl
memory-ended RunDisk e = absurd (let n : Disk ≡ Memory = e in cc)
memory-ended (TooLong size) e = absurd (let n : LongJournal size ≡ Memory = e in cc)
memory-ended (Cut slot) e = absurd (let n : CutJournal slot ≡ Memory = e in cc)
memory-ended (BadRecord slot) e = absurd (let n : BadSlot slot ≡ Memory = e in cc)

-- the last of turns of which none is a failed call is none
last-fails : {A : Type 0} (log prefix : List Turn) (turn : Turn) → is_failed_call turn ≡ true → HasNoFailedCall log → log ≡ prefix ++ turn ∷ [] → A
last-fails log prefix turn failed none e = among prefix (subst HasNoFailedCall e none)
  where
    among : {A : Type 0} (prefix : List Turn) → HasNoFailedCall (prefix ++ turn ∷ []) → A
    among [] h = absurd (let n : true ≡ false = sym failed ∙ h.0 in cc)
    among (first ∷ prefix) h = among prefix h.1

module _ (from payments : ℕ) (end : TalliedEnd) (site : SimSite) (ran : HasRunDrill from payments end site) (few : length (log_of site) < 18446744073709551615) where
  shows : (end.ended ≡ NoMemory → ⊥) → ShowsEnd (ending_of end.ended) (log_of site)
  shows other = elim (ran.ran.run.end (ran.lit other) few) [ inl memory ↦ absurd (other (memory-ended end.ended memory)) | inr end ↦ end ]

  abbrev played : HasPlayed drill_setup (drill_turns from payments) (sim_observed site).plan (log_of site)
  played = ran.ran.run.played

  abbrev steps : List SiteStep
  steps = steps_of (taken_of played.acts)

  abbrev parts : List (List Turn)
  parts = turns_of_steps (taken_of played.acts)

  scripted : are_scripted steps ≡ true
  scripted = due-scripted drill_setup at_first Unopened played.acts played.done.due

  -- the steps have led to a place of the drill
  leads : (end.ended ≡ NoMemory → ⊥) → (after : Play) × LeadsBy [] (drill_begins from payments) steps (log_of site) after
  leads other =
      let rests = site-rests site (ran.lit other) in
      let counted : length parts ≡ length steps = length-map (taken_of played.acts) (λ (one : TakenStep). one.turns) ∙ sym (length-map (taken_of played.acts) (λ (one : TakenStep). one.step)) in
      let led = to_log steps parts [] (drill_begins from payments) (from_computed steps parts [] (drill_begins from payments) (steps-played drill_setup (drill_turns from payments) (sim_observed site).plan (log_of site) played rests.known) counted) in
      let log_is : log_of site ≡ log_of_parts parts = sym played.done.log_is ∙ turns-of-acts played.acts in
      (led.0, subst (λ l. LeadsBy [] (drill_begins from payments) steps l led.0) (sym log_is) led.1)

  -- no call has failed
  none-failed : (end.ended ≡ NoMemory → ⊥) → HasNoFailedCall (log_of site)
  none-failed other =
      let led = leads other in
      no-call-fails (drill_terminals (drill_payments from payments)) (drill_lines (drill_payments from payments)) steps (log_of site) led.0 (drill-fails-no-call (drill_payments from payments)) led.1

  -- so the runs end with the stop, unless memory was refused
  pub refused : (end.ended ≡ Done → ⊥) → ending_of end.ended ≡ Memory
  refused undone = by_end end.ended refl
    where
      by_end : (ended : Ended) → end.ended ≡ ended → ending_of ended ≡ Memory
      by_end Done e = absurd (undone e)
      by_end NoMemory e = refl
      by_end RunNotOpened e =
          let other : end.ended ≡ NoMemory → ⊥ = λ memory. (let n : RunNotOpened ≡ NoMemory = sym e ∙ memory in cc) in
          let last : HasLastTurn OpenFailed (log_of site) = subst (λ ended. ShowsEnd (ending_of ended) (log_of site)) e (shows other) in
          last-fails (log_of site) last.0 OpenFailed refl (none-failed other) last.1
      by_end RunDisk e =
          let other : end.ended ≡ NoMemory → ⊥ = λ memory. (let n : RunDisk ≡ NoMemory = sym e ∙ memory in cc) in
          let last : HasLastTurn DiskFailed (log_of site) = subst (λ ended. ShowsEnd (ending_of ended) (log_of site)) e (shows other) in
          last-fails (log_of site) last.0 DiskFailed refl (none-failed other) last.1
      by_end (TooLong size) e = absurd (subst (λ ended. ShowsEnd (ending_of ended) (log_of site)) e (shows (λ memory. (let n : TooLong size ≡ NoMemory = sym e ∙ memory in cc))))
      by_end (Cut slot) e = absurd (subst (λ ended. ShowsEnd (ending_of ended) (log_of site)) e (shows (λ memory. (let n : Cut slot ≡ NoMemory = sym e ∙ memory in cc))))
      by_end (BadRecord slot) e = absurd (subst (λ ended. ShowsEnd (ending_of ended) (log_of site)) e (shows (λ memory. (let n : BadRecord slot ≡ NoMemory = sym e ∙ memory in cc))))

  module _ (done : end.ended ≡ Done) where
    other : end.ended ≡ NoMemory → ⊥
    other memory = let n : Done ≡ NoMemory = sym done ∙ memory in cc

    -- it is the log of the drill
    log-is : IsDrillLog from payments (log_of site)
    log-is =
        let rests = site-rests site (ran.lit other) in
        record {
          acts = played.acts;
          done = played.done;
          turns = steps-played drill_setup (drill_turns from payments) (sim_observed site).plan (log_of site) played rests.known;
          ends = subst (λ ended. ShowsEnd (ending_of ended) (log_of site)) done (shows other);
          power =
              with-more drill_setup (drill_turns from payments) (sim_observed site).plan (log_of site) rests.known.later played rests.known.plan_is (PowerBack ∷ [])
              ∙ ap (λ l. turns_of_steps (taken_of played.acts) ++ l) rests.no_power
              ∙ append-nil (turns_of_steps (taken_of played.acts));
        }

    stands : Stands (log_of site) (view_of played.acts)
    stands = done-stands drill_setup played.acts (log_of site) played.done

    -- what it has counted, where the books are those of the site's place
    pub counted : EachLogAgrees → EachHasOneLeanCourse → EachLawfulHasKept → DrillIsAt → DrillIsHonest → (first second : List BookEntry)
        → first ≡ drill_book from payments 0 (log_of site) → second ≡ drill_book from payments 1 (log_of site) → HasCounted from payments (counts_of end.tally first second)
    counted headline one_course has_kept is_at is_honest first second first_is second_is =
        let lawful : IsLawful (log_of site) = (view_of played.acts, stands) in
        let led = leads other in
        let at = is_at from payments steps (log_of site) led.0 scripted led.1 in
        let course = one_course (log_of site) lawful in
        record {
          log = log_of site;
          log_is = log-is;
          agrees = headline (log_of site) lawful;
          books = is_honest from payments (log_of site) course.moves course.is_course (start-with drill_setup true (log_of site) played.openings) at.first_hears at.second_hears;
          kept = (view_of played.acts).scene.kept;
          are_kept = (has_kept (log_of site) (view_of played.acts) stands).file.stable;
          counts_are = ap (λ tally. counts_of tally first second) (ran.ran.tally (ran.lit other) done) ∙ ap (λ book. counts_of (tally_of (view_of played.acts).scene.kept) book second) first_is
              ∙ ap (λ book. counts_of (tally_of (view_of played.acts).scene.kept) (drill_book from payments 0 (log_of site)) book) second_is;
        }

    -- the books of the place are those of the log
    pub books-are : DrillIsAt → IsDrillPlayedTo (sim_observed site).origin (log_of site) (place_of site)
        → (book_of_peer (place_of site).peers 0 ≡ Some (drill_book from payments 0 (log_of site))) × (book_of_peer (place_of site).peers 1 ≡ Some (drill_book from payments 1 (log_of site)))
    books-are is_at played_to = ∥∥₁_elim (played_to from payments ran.origin_is) (hlevel props) (λ stood.
        let at = is_at from payments stood.0 (log_of site) (place_of site) stood.1 stood.2 in
        (at.first_book, at.second_book))

-- nothing was played of a drill, and the power fails once for each power line at most
pub drill-fails : (from payments : ℕ) → FailsAtMost (power_lines (drill_script from payments).lines) (drill_turns from payments)
drill-fails from payments steps parts scripted e counted =
    let led = to_log steps parts [] (drill_begins from payments) (from_computed steps parts [] (drill_begins from payments) e counted) in
    let most = steps_count steps scripted [] (drill_begins from payments) (log_of_parts parts) led.0 led.1 in
    let lines = (drill_script from payments).lines in
    let few : power_failures [] + power_failures_left (drill_begins from payments) ≤ power_lines lines = power-fails-once-per-line.steps_leave lines [] [] (begins lines) refl (refl, refl) in
    omega (arith, most, few)

-- ---- as it is asked

lit-room : (full other : Bool) → (full || other) ≡ false → full ≡ false
lit-room true other e = e
lit-room false other e = refl

-- a list of turns in memory has fewer than a word counts
pub few-turns : (slice log : List Turn) → slice ≡ log → length slice < 18446744073709551615 → length log < 18446744073709551615
few-turns slice log is few = subst (λ l. length l < 18446744073709551615) is few

-- a book that is there
pub some-book : {T : Type 0} (book : Option (Bor T)) → is_some (option_copied book) ≡ true → is_some book ≡ true
some-book None e = e
some-book (Some book) e = refl

-- the books of the site's place, by what is known of its log
pub site-books : (from payments : ℕ) (end : TalliedEnd) (site : SimSite) (log : List Turn) → HasRunDrill from payments end site → end.ended ≡ Done → length log < 18446744073709551615 → log ≡ log_of site → DrillIsAt → (is_log_full site ≡ false → IsDrillPlayedTo (sim_observed site).origin log (place_of site))
    → (book_of_peer (place_of site).peers 0 ≡ Some (drill_book from payments 0 (log_of site))) × (book_of_peer (place_of site).peers 1 ≡ Some (drill_book from payments 1 (log_of site)))
site-books from payments end site log ran done few log_is is_at played_to =
    let other : end.ended ≡ NoMemory → ⊥ = λ memory. (let n : Done ≡ NoMemory = sym done ∙ memory in cc) in
    let few_there : length (log_of site) < 18446744073709551615 = subst (λ l. length l < 18446744073709551615) log_is few in
    let room : is_log_full site ≡ false = lit-room site.played.short (is_some site.played.place.off) (ran.lit other) in
    books-are from payments end site ran few_there done is_at (subst (λ l. IsDrillPlayedTo (sim_observed site).origin l (place_of site)) log_is (played_to room))

-- one of them, as it was given
pub book-is : (book drill : List BookEntry) (peers : Option (List BookEntry)) → Some book ≡ peers → peers ≡ Some drill → book ≡ drill
book-is book drill peers given is = let n : Some book ≡ Some drill = given ∙ is in cc

-- it can be counted
pub book-countable : (from payments pt : ℕ) (log : List Turn) (book : List BookEntry) → ((setting : Setting) (met : List Met) → IsTrue (all_fit (book_after setting met))) → ((setting : Setting) (met : List Met) → length (book_after setting met) ≤ last_trace) → book ≡ drill_book from payments pt log → IsCountable book
book-countable from payments pt log book fit few is = subst IsCountable (sym is) (record { fit = fit (setting_at from payments pt) (met_of (exchanges_at pt log)); few = few (setting_at from payments pt) (met_of (exchanges_at pt log)) })

-- the drill has counted this
pub has-counted : (from payments : ℕ) (end : TalliedEnd) (site : SimSite) (log : List Turn) (counts : Counts) (first second : List BookEntry) → HasRunDrill from payments end site → end.ended ≡ Done → length log < 18446744073709551615 → log ≡ log_of site
    → EachLogAgrees → EachHasOneLeanCourse → EachLawfulHasKept → DrillIsAt → DrillIsHonest → first ≡ drill_book from payments 0 (log_of site) → second ≡ drill_book from payments 1 (log_of site) → counts ≡ counts_of end.tally first second → HasCounted from payments counts
has-counted from payments end site log counts first second ran done few log_is headline one_course has_kept is_at is_honest first_is second_is counts_are =
    let few_there : length (log_of site) < 18446744073709551615 = subst (λ l. length l < 18446744073709551615) log_is few in
    subst (HasCounted from payments) (sym counts_are) (counted from payments end site ran few_there done headline one_course has_kept is_at is_honest first second first_is second_is)

-- or memory was refused
pub end-refused : (from payments : ℕ) (end : TalliedEnd) (site : SimSite) (log : List Turn) → HasRunDrill from payments end site → (end.ended ≡ Done → ⊥) → length log < 18446744073709551615 → log ≡ log_of site → ending_of end.ended ≡ Memory
end-refused from payments end site log ran undone few log_is = refused from payments end site ran (subst (λ l. length l < 18446744073709551615) log_is few) undone

-- ---- before the first run

-- nothing was played of the drill
pub drill-unbegun : (from payments : ℕ) (site : SimSite) → sim_observed site ≡ record { log = Some []; faults = 0; dark = false; origin = drill_origin from payments; plan = Some (drill_turns from payments) } → played_script site ≡ drill_script from payments → IsUnbegun (played_script site).lines (sim_observed site)
drill-unbegun from payments site fresh script = subst (λ (s : Script). IsUnbegun s.lines (sim_observed site)) (sym script) (record {
  log_is = ap (λ (o : Observed). o.log) fresh;
  whole = drill_turns from payments;
  plan_is = ap (λ (o : Observed). o.plan) fresh;
  few = drill-fails from payments;
})

-- and all runs were made
pub drill-ran : (from payments : ℕ) (old site : SimSite) (end : TalliedEnd) → sim_observed old ≡ record { log = Some []; faults = 0; dark = false; origin = drill_origin from payments; plan = Some (drill_turns from payments) } → played_script old ≡ drill_script from payments
    → HasTalliedFrom (sim_observed old) (setup_of (played_script old).given) end (sim_observed site) (log_of site) → ((end.ended ≡ NoMemory → ⊥) → (sim_observed site).dark ≡ false) → (sim_observed site).origin ≡ (sim_observed old).origin → HasRunDrill from payments end site
drill-ran from payments old site end fresh script ran lit origin = record {
  ran = subst (λ (s : Script). HasTallied (setup_of s.given) (drill_turns from payments) end (sim_observed site) (log_of site)) script (ran (drill_turns from payments) (ap (λ (o : Observed). o.plan) fresh));
  lit = lit;
  origin_is = origin ∙ ap (λ (o : Observed). o.origin) fresh;
}
