-- How the calls on a site make its log grow.
use Rattle.std.proofs.Common.{◌≡◌, ℕ, List, [], ◌∷◌, ◌++◌, get_or, refl, sym, ◌∙◌, ap, subst, arith, true, false, append-nil, inl, inr, take, drop, take-append-drop}
use Rattle.std.specs.Prelude.{Bool, Option, not, option_and_then, ◌||◌, if◌then◌else◌, Some, None, Result, Ok, Err, IsErr, IfOk, OnOk, OnErr, is_some}
use Rattle.std.specs.Str.{is_utf8}
use Rattle.std.proofs.lemmas.List.{append_cancel_left}
use Rattle.gw_base.specs.declared.setup.Setup.{Setup}
use Rattle.gw_site.specs.Observed.{Observed, Added, AddedWhole, Grows, GrowsBy, GrowsWhole}
use Rattle.gw_site.specs.declared.site.Failed.{Failed}
use Rattle.gw_site.specs.declared.site.Polled.{Polled as PollResult}
use Rattle.gw_site.specs.declared.site.What.{What}
use Rattle.gw_site.specs.declared.site.What.TheVariants.{Stopped}
use Rattle.gw_site.specs.Outside.{outside_of}
use Rattle.gw_site.specs.Turns.{PolledTurns, SentPtTurns, SentTillTurns, WroteTurns, event_turns}
use Rattle.gw_site.specs.declared.turn.Turn.{Turn}
use Rattle.gw_site.specs.declared.turn.Turn.TheVariants.{DiskFailed, Polled, SentPt, SentTill, Stopped as StoppedTurn, Wrote}
use Rattle.gw_site.proofs.GrowsLemmas.{all_grows}
use Rattle.gw_site.specs.Steps.{Plan, PollCall, SiteCall, WriteCall}
use Rattle.gw_script.specs.site.Calls.{call_turns}
use Rattle.gw_script.specs.Decode.{split_lines}
use Rattle.gw_script.specs.site.Decode.{no_lines, script_from, script_goes_on, script_of, spelled, with_entry}
use Rattle.gw_script.specs.site.Drill.{drill_begins, drill_lines, drill_origin, drill_payments, drill_script, drill_terminals, drill_turns}
use Rattle.gw_script.specs.site.Hazards.{sent_of}
use Rattle.gw_script.specs.site.ScriptLine.{Script, setup_of}
use Rattle.gw_script.specs.site.StepTurns.{site_turns_with, turns_by}
use Rattle.gw_script.specs.site.Playing.{begins_with}
use Rattle.sim_script.specs.Values.{lines_value, whole_script_value}
use Rattle.sim_site.specs.Dark.{is_dark}
use Rattle.sim_site.specs.Made.{IsLit, IsCallMade, IsPollMade, IsPollRefused, IsRefused, IsCallReported, IsSameScript, IsUnchanged, IsUnplayed, IsWriteRefused, outside_at, play_at}
use Rattle.sim_site.specs.Sources.{source_origin, source_script, source_terminals}
use Rattle.sim_site.specs.declared.drill.Drill.{Drill}
use Rattle.sim_site.specs.Sites.{GoesOn, IsDrillSetup, IsOriginSetup, IsReturned, observed_with, origin_beside, origin_of, plan_from, plan_of}
use Rattle.sim_site.specs.declared.played.Played.{Played}
use Rattle.sim_site.specs.declared.site.SimSite.{SimSite}

-- ---- dark or not

pub lit_there : (played : Played) → IsLit played → is_dark played ≡ false
lit_there played lit = ap (λ short. short || is_some played.place.off) lit.whole ∙ ap is_some lit.power

pub short_dark : (played : Played) → played.short ≡ true → is_dark played ≡ true
short_dark played short = ap (λ s. s || is_some played.place.off) short

pub origin_same : (old new : Played) → IsSameScript old new → origin_of new ≡ origin_of old
origin_same old new same = ap (λ s. if s then source_origin new.drill new.text.value else origin_beside) same.scripted
    ∙ ap (λ drill. if old.scripted then source_origin drill new.text.value else origin_beside) same.drill
    ∙ ap (λ (text : List ℕ). if old.scripted then source_origin old.drill text else origin_beside) same.text

-- ---- what is added

all_added : (dark : Bool) (turns : List Turn) → Added false dark turns turns
all_added true turns = ([], sym (append-nil turns))
all_added false turns = refl

all_added_whole : (dark : Bool) (turns : List Turn) → AddedWhole false dark turns turns
all_added_whole true turns = inr refl
all_added_whole false turns = refl

nothing_added : (before after : Bool) (turns : List Turn) → after ≡ true → Added before after turns []
nothing_added true true turns e = refl
nothing_added false true turns e = (turns, refl)
nothing_added before false turns e = absurd (let h : false ≡ true = e in cc)

none_added : (before after : Bool) (turns : List Turn) → after ≡ true → AddedWhole before after turns []
none_added true true turns e = refl
none_added false true turns e = inl refl
none_added before false turns e = absurd (let h : false ≡ true = e in cc)

same_grows : (Add : Bool → Bool → List Turn → List Turn → Type 0) (old new : Observed) (Call : List Turn → List Turn → Type 0) (turns : List Turn) → ((before : List Turn) → Call before turns) → Add old.dark new.dark turns [] → new.dark ≡ true → new.log ≡ old.log → new.origin ≡ old.origin → GrowsBy Add old new Call
same_grows Add old new Call turns call add d l o = record {
  observed = λ before f. (turns, [], call before, add, (l ∙ f ∙ ap Some (sym (append-nil before))));
  unobserved = λ f. l ∙ f;
  stays = λ f. d;
  origin = o;
}

-- a call on a site that is dark after it, and adds nothing
pub dark_grows : (old new : Observed) (Call : List Turn → Type 0) (turns : List Turn) → Call turns → new.dark ≡ true → new.log ≡ old.log → new.origin ≡ old.origin → Grows old new Call
dark_grows old new Call turns call d l o = same_grows Added old new (λ before. Call) turns (λ before. call) (nothing_added old.dark new.dark turns d) d l o

-- opening, likewise
pub dark_opens : (old new : Observed) (Call : List Turn → List Turn → Type 0) (turns : List Turn) → ((before : List Turn) → Call before turns) → new.dark ≡ true → new.log ≡ old.log → new.origin ≡ old.origin → GrowsWhole old new Call
dark_opens old new Call turns call d l o = same_grows AddedWhole old new Call turns call (none_added old.dark new.dark turns d) d l o

-- a call for which memory was refused after some of its turns
pub part_grows : (old new : Observed) (Call : List Turn → Type 0) (before turns added rest : List Turn) → Call turns → turns ≡ added ++ rest → old.dark ≡ false → new.dark ≡ true → old.log ≡ Some before → new.log ≡ Some (before ++ added) → new.origin ≡ old.origin → Grows old new Call
part_grows old new Call before turns added rest call split d n l e o = record {
  observed = λ b f. let same : b ≡ before = (let h : Some b ≡ Some before = sym f ∙ l in cc) in (turns, added, call, rw (d, n) (rest, split), rw same e);
  unobserved = λ f. absurd (let h : None ≡ Some before = sym f ∙ l in cc);
  stays = λ f. n;
  origin = o;
}

-- a call that was made
pub made_grows : (f g : ℕ) (old new : Played) (call : SiteCall) (Call : List Turn → Type 0) → IsLit old → IsCallMade old new call → IsSameScript old new → Call (call_turns (outside_at old) (play_at old) call) → Grows (observed_with f old) (observed_with g new) Call
made_grows f g old new call Call lit made same has =
    let turns = call_turns (outside_at old) (play_at old) call in
    let dark = lit_there old lit in
    all_grows Added (observed_with f old) (observed_with g new) (λ before. Call) old.log turns (subst (λ d. Added d (is_dark new) turns turns) (sym dark) (all_added (is_dark new) turns)) dark refl (ap Some made.log) (origin_same old new same) has

-- opening that was made
pub made_opens : (f g : ℕ) (old new : Played) (call : SiteCall) (Call : List Turn → List Turn → Type 0) → IsLit old → IsCallMade old new call → IsSameScript old new → Call old.log (call_turns (outside_at old) (play_at old) call) → GrowsWhole (observed_with f old) (observed_with g new) Call
made_opens f g old new call Call lit made same has =
    let turns = call_turns (outside_at old) (play_at old) call in
    let dark = lit_there old lit in
    all_grows AddedWhole (observed_with f old) (observed_with g new) Call old.log turns (subst (λ d. AddedWhole d (is_dark new) turns turns) (sym dark) (all_added_whole (is_dark new) turns)) dark refl (ap Some made.log) (origin_same old new same) has

-- a call for which memory was refused
pub refused_grows : (f g : ℕ) (old new : Played) (Call : List Turn → Type 0) (turns : List Turn) → IsRefused old new → IsSameScript old new → Call turns → Grows (observed_with f old) (observed_with g new) Call
refused_grows f g old new Call turns refused same has = dark_grows (observed_with f old) (observed_with g new) Call turns has (short_dark new refused.short) (ap Some refused.log) (origin_same old new same)

-- a call that is reported as it was made
pub reported_grows : (Call : Result (Unit {0}) Failed → List Turn → Type 0) (f g : ℕ) (old new : Played) (call : SiteCall) (test : Bool) (failed : List Turn) {E : Type 0} (made : Result Bool E) (result : Result (Unit {0}) Failed) →
    IsLit old → OnOk made (IsCallMade old new call) → IfOk made (λ fails. fails ≡ test) → OnErr made (IsRefused old new) → IsSameScript old new → IsCallReported made result →
    (test ≡ false → (done : Unit {0}) → Call (Ok done) (call_turns (outside_at old) (play_at old) call)) → (test ≡ true → (error : Failed) → Call (Err error) (call_turns (outside_at old) (play_at old) call)) → ((error : Failed) → Call (Err error) failed) →
    Grows (observed_with f old) (observed_with g new) (Call result)
reported_grows Call f g old new call test failed (Ok true) (Ok done) lit made fails refused same reported went fell short = absurd (let h : false ≡ true = reported in cc)
reported_grows Call f g old new call test failed (Ok true) (Err error) lit made fails refused same reported went fell short = made_grows f g old new call (Call (Err error)) lit made same (fell (sym fails) error)
reported_grows Call f g old new call test failed (Ok false) (Ok done) lit made fails refused same reported went fell short = made_grows f g old new call (Call (Ok done)) lit made same (went (sym fails) done)
reported_grows Call f g old new call test failed (Ok false) (Err error) lit made fails refused same reported went fell short = absurd (let h : false ≡ true = reported in cc)
reported_grows Call f g old new call test failed (Err refusal) (Ok done) lit made fails refused same reported went fell short = absurd (let h : false ≡ true = reported in cc)
reported_grows Call f g old new call test failed (Err refusal) (Err error) lit made fails refused same reported went fell short = refused_grows f g old new (Call (Err error)) failed refused same (short error)

-- a call for which no memory was refused was made
pub was_made : {A E : Type 0} (old new : Played) (call : SiteCall) (made : Result A E) → OnOk made (IsCallMade old new call) → OnErr made (new.short ≡ true) → new.short ≡ false → IsCallMade old new call
was_made old new call (Ok given) made refused whole = made
was_made old new call (Err error) made refused whole = absurd (let h : true ≡ false = sym refused ∙ whole in cc)

pub short_there : {A E : Type 0} (old new : Played) (made : Result A E) → OnErr made (IsRefused old new) → OnErr made (new.short ≡ true)
short_there old new (Ok given) refused = tt
short_there old new (Err error) refused = refused.short

-- what a call returns
pub returned : {E T F : Type 0} (old new last : Played) (call : SiteCall) (fails : Bool) (made : Result Bool E) (result : Result T F) → last ≡ new → OnOk made (IsCallMade old new call) → IfOk made (λ f. f ≡ fails) → OnErr made (new.short ≡ true) → IsCallReported made result
    → IsReturned (fails || last.short) result
returned old new last call fails made result same went failed refused reported = rw same (by_made made went failed refused reported)
  where
    by_made : {E : Type 0} (made : Result Bool E) → OnOk made (IsCallMade old new call) → IfOk made (λ f. f ≡ fails) → OnErr made (new.short ≡ true) → IsCallReported made result → IsReturned (fails || new.short) result
    by_made (Ok true) went failed refused reported = rw (sym failed) reported
    by_made (Ok false) went failed refused reported = rw (sym failed) (rw went.whole reported)
    by_made (Err error) went failed refused reported = rw refused (by_fails fails)
      where
        by_fails : (fails : Bool) → IsReturned (fails || true) result
        by_fails true = reported
        by_fails false = reported

-- likewise, with another value
pub returned_ok : {T U F : Type 0} (fails : Bool) (result : Result T F) (done : T) (value : U) → result ≡ Ok done → IsReturned fails result → IsReturned {E = F} fails (Ok value)
returned_ok true result done value is returned = absurd (let h : false ≡ true = rw is at returned in cc)
returned_ok false result done value is returned = refl

pub returned_err : {T F : Type 0} (U : Type 0) (fails : Bool) (result : Result T F) (error : F) → result ≡ Err error → IsReturned fails result → IsReturned {T = U} fails (Err error)
returned_err U true result error is returned = refl
returned_err U false result error is returned = absurd (let h : false ≡ true = rw is at returned in cc)

-- a poll after which the site is dark brings the stop
pub poll_stops : (old new : Played) (what : What) (buf : List ℕ) → new.short ≡ false → IsPollMade old new what buf → is_dark new ≡ true → what ≡ Stopped
poll_stops old new what buf whole made dark = elim made [
  | inl lit ↦ absurd (let h : true ≡ false = sym dark ∙ lit_there new (record { whole = whole; power = lit.0 }) in cc)
  | inr fallen ↦ fallen.2
]

-- ---- cases of a result

pub on_err : {T E A B : Type 0} (result : Result T E) → (A → B) → OnErr result A → OnErr result B
on_err (Ok given) f h = tt
on_err (Err error) f h = f h

pub on_ok : {T E A B : Type 0} (result : Result T E) → (A → B) → OnOk result A → OnOk result B
on_ok (Ok given) f h = f h
on_ok (Err error) f h = tt

-- ---- more calls

-- a call on a dark site
pub dark_there_grows : (f g : ℕ) (old new : Played) (Call : List Turn → Type 0) (turns : List Turn) → new ≡ old → is_dark old ≡ true → Call turns → Grows (observed_with f old) (observed_with g new) Call
dark_there_grows f g old new Call turns e d has = subst (λ p. Grows (observed_with f old) (observed_with g p) Call) (sym e) (dark_grows (observed_with f old) (observed_with g old) Call turns has d refl refl)

-- opening that is reported as it was made
pub reported_opens : (Call : Result (Unit {0}) Failed → List Turn → List Turn → Type 0) (f g : ℕ) (old new : Played) (call : SiteCall) (test : Bool) (failed : List Turn) {E : Type 0} (made : Result Bool E) (result : Result (Unit {0}) Failed) →
    IsLit old → OnOk made (IsCallMade old new call) → IfOk made (λ fails. fails ≡ test) → OnErr made (IsRefused old new) → IsSameScript old new → IsCallReported made result →
    (test ≡ false → (done : Unit {0}) → Call (Ok done) old.log (call_turns (outside_at old) (play_at old) call)) → (test ≡ true → (error : Failed) → Call (Err error) old.log (call_turns (outside_at old) (play_at old) call)) → ((error : Failed) (before : List Turn) → Call (Err error) before failed) →
    GrowsWhole (observed_with f old) (observed_with g new) (Call result)
reported_opens Call f g old new call test failed (Ok true) (Ok done) lit made fails refused same reported went fell short = absurd (let h : false ≡ true = reported in cc)
reported_opens Call f g old new call test failed (Ok true) (Err error) lit made fails refused same reported went fell short = made_opens f g old new call (Call (Err error)) lit made same (fell (sym fails) error)
reported_opens Call f g old new call test failed (Ok false) (Ok done) lit made fails refused same reported went fell short = made_opens f g old new call (Call (Ok done)) lit made same (went (sym fails) done)
reported_opens Call f g old new call test failed (Ok false) (Err error) lit made fails refused same reported went fell short = absurd (let h : false ≡ true = reported in cc)
reported_opens Call f g old new call test failed (Err refusal) (Ok done) lit made fails refused same reported went fell short = absurd (let h : false ≡ true = reported in cc)
reported_opens Call f g old new call test failed (Err refusal) (Err error) lit made fails refused same reported went fell short = dark_opens (observed_with f old) (observed_with g new) (Call (Err error)) failed (short error) (short_dark new refused.short) (ap Some refused.log) (origin_same old new same)

-- a write that is reported as it was made
pub reported_write : (f g : ℕ) (old new : Played) (offset : ℕ) (bytes : List ℕ) {E : Type 0} (made : Result Bool E) (result : Result (Unit {0}) Failed) →
    IsLit old → OnOk made (IsCallMade old new (WriteCall offset bytes)) → IfOk made (λ fails. fails ≡ old.place.hazard.write) → OnErr made (IsWriteRefused old new offset bytes) → OnErr made (new.short ≡ true) → IsSameScript old new → IsCallReported made result →
    Grows (observed_with f old) (observed_with g new) (WroteTurns offset bytes result)
reported_write f g old new offset bytes (Ok true) (Ok done) lit made fails refused short same reported = absurd (let h : false ≡ true = reported in cc)
reported_write f g old new offset bytes (Ok true) (Err error) lit made fails refused short same reported = made_grows f g old new (WriteCall offset bytes) (WroteTurns {E = Failed} offset bytes (Err error)) lit made same (ap (λ b. if b then Wrote offset bytes ∷ DiskFailed ∷ [] else Wrote offset bytes ∷ []) (sym fails))
reported_write f g old new offset bytes (Ok false) (Ok done) lit made fails refused short same reported = made_grows f g old new (WriteCall offset bytes) (WroteTurns {E = Failed} offset bytes (Ok done)) lit made same (ap (λ b. if b then Wrote offset bytes ∷ DiskFailed ∷ [] else Wrote offset bytes ∷ []) (sym fails))
reported_write f g old new offset bytes (Ok false) (Err error) lit made fails refused short same reported = absurd (let h : false ≡ true = reported in cc)
reported_write f g old new offset bytes (Err refusal) (Ok done) lit made fails refused short same reported = absurd (let h : false ≡ true = reported in cc)
reported_write f g old new offset bytes (Err refusal) (Err error) lit made fails (inl log) short same reported =
    dark_grows (observed_with f old) (observed_with g new) (WroteTurns {E = Failed} offset bytes (Err error)) (Wrote offset bytes ∷ DiskFailed ∷ []) refl (short_dark new short) (ap Some log) (origin_same old new same)
reported_write f g old new offset bytes (Err refusal) (Err error) lit made fails (inr log) short same reported =
    part_grows (observed_with f old) (observed_with g new) (WroteTurns {E = Failed} offset bytes (Err error)) old.log (Wrote offset bytes ∷ DiskFailed ∷ []) (Wrote offset bytes ∷ []) (DiskFailed ∷ []) refl refl (lit_there old lit) (short_dark new short) refl (ap Some log) (origin_same old new same)

-- ---- sends

-- a send takes all of its bytes, or where it failed a prefix of them
pub till_sent : (till : ℕ) (bytes : List ℕ) (most : Option ℕ) (done : Unit {0}) → is_some most ≡ false → SentTillTurns {E = Failed} till bytes (Ok done) (SentTill till (sent_of most bytes) (not (is_some most)) ∷ [])
till_sent till bytes None done e = refl
till_sent till bytes (Some most) done e = absurd (let h : true ≡ false = e in cc)

pub till_cut : (till : ℕ) (bytes : List ℕ) (most : Option ℕ) (error : Failed) → is_some most ≡ true → SentTillTurns till bytes (Err error) (SentTill till (sent_of most bytes) (not (is_some most)) ∷ [])
till_cut till bytes None error e = absurd (let h : false ≡ true = e in cc)
till_cut till bytes (Some most) error e = (take most bytes, (drop most bytes, sym (take-append-drop most bytes)), refl)

pub pt_sent : (pt : ℕ) (bytes : List ℕ) (most : Option ℕ) (done : Unit {0}) → is_some most ≡ false → SentPtTurns {E = Failed} pt bytes (Ok done) (SentPt pt (sent_of most bytes) (not (is_some most)) ∷ [])
pt_sent pt bytes None done e = refl
pt_sent pt bytes (Some most) done e = absurd (let h : true ≡ false = e in cc)

pub pt_cut : (pt : ℕ) (bytes : List ℕ) (most : Option ℕ) (error : Failed) → is_some most ≡ true → SentPtTurns pt bytes (Err error) (SentPt pt (sent_of most bytes) (not (is_some most)) ∷ [])
pt_cut pt bytes None error e = absurd (let h : false ≡ true = e in cc)
pt_cut pt bytes (Some most) error e = (take most bytes, (drop most bytes, sym (take-append-drop most bytes)), refl)

-- ---- looks

not_err : (done : Unit {0}) (result : Result (Unit {0}) Failed) → result ≡ Ok done → IsErr result → ⊥
not_err done (Ok given) ok err = let h : false ≡ true = err in cc
not_err done (Err error) ok err = cc

-- a look that succeeds leaves the log as it was, and the disk is that of the log
pub looked : (old new : Played) (call : SiteCall) (test : Bool) {E : Type 0} (made : Result Bool E) (result : Result (Unit {0}) Failed) (done : Unit {0}) → OnOk made (IsCallMade old new call) → IfOk made (λ fails. fails ≡ test) → IsCallReported made result → result ≡ Ok done →
    (test ≡ false → call_turns (outside_at old) (play_at old) call ≡ []) → (outside_of old.log).file ≡ new.disk.file.items
looked old new call test (Ok true) result done made fails reported ok none = absurd (not_err done result ok reported)
looked old new call test (Ok false) result done made fails reported ok none =
    let same : new.log ≡ old.log = made.log ∙ ap (λ turns. old.log ++ turns) (none (sym fails)) ∙ append-nil old.log in
    ap (λ log. (outside_of log).file) (sym same) ∙ (new.disk_is made.whole).file
looked old new call test (Err refusal) result done made fails reported ok none = absurd (not_err done result ok reported)

-- the call was made
pub goes_on : (old new : SimSite) (after : Played) (call : SiteCall) → new.played ≡ after → IsCallMade old.played after call → GoesOn old new call
goes_on old new after call e made = record { turns = ap (λ (p : Played). p.log) e ∙ made.log; place = ap play_at e ∙ made.place }

-- ---- the site itself

pub observed_same : (f : ℕ) (old new : Played) → IsUnchanged old new → observed_with f new ≡ observed_with f old
observed_same f old new u = rw (u.log, u.short, u.place, u.scripted, u.drill, u.text, u.script) refl

pub play_same : (old new : Played) → IsUnchanged old new → play_at new ≡ play_at old
play_same old new u = rw (u.script, u.place) refl

-- no script has the text of a site that doesn't play its script alone
no_text : script_of (255 ∷ []) ≡ Err 1
no_text = by_test (is_utf8 (255 ∷ []))
  where
    by_test : (test : Bool) → script_goes_on (option_and_then (with_entry no_lines) (if test then spelled (255 ∷ []) else None)) 1 (λ more. Ok more) ≡ Err 1
    by_test true = refl
    by_test false = refl

ok_same : (a b : Script) → ◌≡◌ {A = Result Script ℕ} (Ok a) (Ok b) → a ≡ b
ok_same a b e = cc

-- nor has it that of a drill
no_drill_text : (from payments : ℕ) → script_of (drill_origin from payments) ≡ Err 1
no_drill_text from payments = by_test (is_utf8 (254 ∷ []))
  where
    by_test : (test : Bool) → script_goes_on (option_and_then (with_entry no_lines) (if test then spelled (254 ∷ []) else None)) 1 (λ more. script_from more 2 (split_lines (from ∷ payments ∷ []))) ≡ Err 1
    by_test true = refl
    by_test false = refl

-- the script of the text that determines what is played is played alone
pub record IsOwn (played : Played) (script : Script) : Type 0 where
  pub scripted : played.scripted ≡ true
  pub alone : source_terminals played.drill ≡ []
  pub script_is : whole_script_value played.script ≡ script

pub origin_own : (played : Played) (script : Script) → script_of (origin_of played) ≡ Ok script → IsOwn played script
origin_own played script e = by_test played.scripted refl e
  where
    by_drill : (drill : Option Drill) → played.drill ≡ drill → played.scripted ≡ true → source_script drill played.text.value ≡ Ok (whole_script_value played.script) → script_of (source_origin drill played.text.value) ≡ Ok script → IsOwn played script
    by_drill None is own source same = record { scripted = own; alone = ap source_terminals is; script_is = ok_same (whole_script_value played.script) script (sym source ∙ same) }
    by_drill (Some drill) is own source same = absurd (let h : Err 1 ≡ Ok script = sym (no_drill_text drill.from drill.payments) ∙ same in cc)

    by_test : (test : Bool) → played.scripted ≡ test → script_of (if test then source_origin played.drill played.text.value else origin_beside) ≡ Ok script → IsOwn played script
    by_test true own same = by_drill played.drill refl own played.source same
    by_test false own same = absurd (let h : Err 1 ≡ Ok script = sym no_text ∙ same in cc)

-- the drill whose numbers determine what is played is played alone
pub record IsOwnDrill (played : Played) (from payments : ℕ) : Type 0 where
  pub scripted : played.scripted ≡ true
  pub terminals : source_terminals played.drill ≡ drill_terminals (drill_payments from payments)
  pub script_is : whole_script_value played.script ≡ drill_script from payments

pub drill_own : (played : Played) (from payments : ℕ) → origin_of played ≡ drill_origin from payments → IsOwnDrill played from payments
drill_own played from payments e = by_test played.scripted refl e
  where
    by_drill : (drill : Option Drill) → played.drill ≡ drill → played.scripted ≡ true → source_script drill played.text.value ≡ Ok (whole_script_value played.script) → source_origin drill played.text.value ≡ drill_origin from payments → IsOwnDrill played from payments
    by_drill None is own source same = absurd (let h : Err 1 ≡ Ok (whole_script_value played.script) = sym (no_drill_text from payments) ∙ ap script_of (sym same) ∙ source in cc)
    by_drill (Some drill) is own source same =
        let first : drill.from ≡ from = ap (λ (l : List ℕ). get_or l 2 0) same in
        let count : drill.payments ≡ payments = ap (λ (l : List ℕ). get_or l 3 0) same in
        record {
          scripted = own;
          terminals = ap source_terminals is ∙ ap (λ n. drill_terminals (drill_payments n drill.payments)) first ∙ ap (λ n. drill_terminals (drill_payments from n)) count;
          script_is = ok_same (whole_script_value played.script) (drill_script drill.from drill.payments) (sym source) ∙ ap (λ n. drill_script n drill.payments) first ∙ ap (λ n. drill_script from n) count;
        }

    by_test : (test : Bool) → played.scripted ≡ test → (if test then source_origin played.drill played.text.value else origin_beside) ≡ drill_origin from payments → IsOwnDrill played from payments
    by_test true own same = by_drill played.drill refl own played.source same
    by_test false own same = absurd (omega (arith, ap (λ (l : List ℕ). get_or l 0 0) same))

-- the setup of a drill
pub setup_drill : {E : Type 0} (played : Played) (result : Result Setup E) → IfOk result (λ setup. setup ≡ setup_of (whole_script_value played.script).given) → IfOk result (λ setup. IsDrillSetup (origin_of played) setup)
setup_drill played (Ok setup) is = λ from payments e. is ∙ ap (λ (x : Script). setup_of x.given) (drill_own played from payments e).script_is
setup_drill played (Err error) is = tt

pub some_same : (a b : List Turn) → Some a ≡ Some b → a ≡ b
some_same a b e = cc

-- the setup that the script gives is that of the text
pub setup_own : {E : Type 0} (played : Played) (result : Result Setup E) → IfOk result (λ setup. setup ≡ setup_of (whole_script_value played.script).given) → IfOk result (λ setup. IsOriginSetup (origin_of played) setup)
setup_own played (Ok setup) is = λ script e. is ∙ ap (λ (x : Script). setup_of x.given) (origin_own played script e).script_is
setup_own played (Err error) is = tt

-- ---- a new site

observed_is : (log other : List Turn) (dark lit : Bool) (origin text : List ℕ) (plan first : Option Plan) → log ≡ other → dark ≡ lit → origin ≡ text → plan ≡ first →
    ◌≡◌ {A = Observed} (record { log = Some log; faults = 0; dark = dark; origin = origin; plan = plan }) (record { log = Some other; faults = 0; dark = lit; origin = text; plan = first })
observed_is log other dark lit origin text plan first l d o p = rw (l, d, o, p) refl

-- nothing is played yet
pub unplayed_observed : (text : List ℕ) (drill : Option Drill) (played : Played) → IsUnplayed text drill played →
    observed_with 0 played ≡ record { log = Some []; faults = 0; dark = false; origin = source_origin drill text; plan = Some (site_turns_with (source_terminals drill) (lines_value played.script.lines.items)) }
unplayed_observed text drill played u = observed_is played.log [] (is_dark played) false (origin_of played) (source_origin drill text) (plan_of played) (Some (site_turns_with (source_terminals drill) (lines_value played.script.lines.items)))
    u.log
    (lit_there played (record { whole = u.whole; power = u.power }))
    (ap (λ s. if s then source_origin played.drill played.text.value else origin_beside) u.scripted ∙ ap (λ one. source_origin one played.text.value) u.drill_is ∙ ap (source_origin drill) u.text_is)
    (ap (λ short. plan_from short played.log (play_at played)) u.whole ∙ ap (λ log. Some (turns_by log (play_at played))) u.log ∙ ap (λ place. Some (turns_by [] place)) u.place)

-- a new drill
lines_same : (from payments : ℕ) (played : Played) → whole_script_value played.script ≡ drill_script from payments → lines_value played.script.lines.items ≡ drill_lines (drill_payments from payments)
lines_same from payments played is = ap (λ (script : Script). script.lines) is

pub drill_observed : (from payments : ℕ) (played : Played) → IsUnplayed [] (Some (record { from = from; payments = payments })) played → whole_script_value played.script ≡ drill_script from payments
    → observed_with 0 played ≡ record { log = Some []; faults = 0; dark = false; origin = drill_origin from payments; plan = Some (drill_turns from payments) }
drill_observed from payments played u is =
    unplayed_observed [] (Some (record { from = from; payments = payments })) played u
    ∙ ap (λ lines. record { log = Some []; faults = 0; dark = false; origin = drill_origin from payments; plan = Some (site_turns_with (drill_terminals (drill_payments from payments)) lines) }) (lines_same from payments played is)

pub drill_place : (from payments : ℕ) (played : Played) → IsUnplayed [] (Some (record { from = from; payments = payments })) played → whole_script_value played.script ≡ drill_script from payments → play_at played ≡ drill_begins from payments
drill_place from payments played u is = u.place ∙ ap (begins_with (drill_terminals (drill_payments from payments))) (lines_same from payments played is)

-- ---- polls

dark_by : (short off : Bool) → off ≡ true → (short || off) ≡ true
dark_by true off e = refl
dark_by false off e = e

-- a poll that was made
pub polled_grows : (f g : ℕ) (old new : Played) (what : What) (result : PollResult) (buf : List ℕ) → IsLit old → IsCallMade old new PollCall → IsPollMade old new what buf → IsSameScript old new → result ≡ record { now = new.place.moment; what = what } →
    Grows (observed_with f old) (observed_with g new) (PolledTurns result buf)
polled_grows f g old new what result buf lit made polled same is = subst (λ (r : PollResult). Grows (observed_with f old) (observed_with g new) (PolledTurns r buf)) (sym is) (grows polled)
  where
    turns : List Turn
    turns = Polled new.place.moment ∷ event_turns what buf

    grows : IsPollMade old new what buf → Grows (observed_with f old) (observed_with g new) (PolledTurns (record { now = new.place.moment; what = what }) buf)
    grows (inl grown) = made_grows f g old new PollCall (PolledTurns (record { now = new.place.moment; what = what }) buf) lit made same (append_cancel_left old.log (call_turns (outside_at old) (play_at old) PollCall) turns (sym made.log ∙ grown.1))
    grows (inr fallen) = dark_grows (observed_with f old) (observed_with g new) (PolledTurns (record { now = new.place.moment; what = what }) buf) turns refl (dark_by new.short (is_some new.place.off) fallen.0) (ap Some fallen.1) (origin_same old new same)

-- a poll for which memory was refused
pub refused_poll_grows : (f g : ℕ) (old new : Played) (result : PollResult) (buf : List ℕ) → IsLit old → IsPollRefused old new → new.short ≡ true → IsSameScript old new → result ≡ record { now = new.place.moment; what = Stopped } →
    Grows (observed_with f old) (observed_with g new) (PolledTurns result buf)
refused_poll_grows f g old new result buf lit (inl log) short same stop =
    dark_grows (observed_with f old) (observed_with g new) (PolledTurns result buf) (Polled result.now ∷ event_turns result.what buf) refl (short_dark new short) (ap Some log) (origin_same old new same)
refused_poll_grows f g old new result buf lit (inr log) short same stop =
    part_grows (observed_with f old) (observed_with g new) (PolledTurns result buf) old.log (Polled new.place.moment ∷ StoppedTurn ∷ []) (Polled new.place.moment ∷ []) (StoppedTurn ∷ [])
    (ap (λ (r : PollResult). Polled r.now ∷ event_turns r.what buf) (sym stop)) refl (lit_there old lit) (short_dark new short) refl (ap Some log) (origin_same old new same)
