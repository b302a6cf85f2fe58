-- Runs over the site in memory, and what its plan says once no run more begins.
use Rattle.std.proofs.Common.{◌≡◌, ℕ, ◌<◌, List, [], ◌∷◌, ◌++◌, length, refl, sym, ◌∙◌, ap, subst, append-nil, inl, inr, true, false}
use Rattle.std.specs.Prelude.{Bool, ◌⊎◌, ◌||◌, Option, Some, None, Ok, is_some, option_map}
use Rattle.gw_base.specs.declared.setup.Setup.{Setup}
use Rattle.gw_site.specs.Observed.{IfObserved, Observed}
use Rattle.gw_site.specs.Outside.{outside_of}
use Rattle.gw_site.specs.Steps.{Plan, PowerBack, turns_of_steps}
use Rattle.gw_site.specs.declared.turn.Turn.{Turn}
use Rattle.gw_site.specs.declared.turn.Turn.TheVariants.{Crash}
use Rattle.gw_script.specs.site.Decode.{script_of}
use Rattle.gw_script.specs.site.Hazards.{crash_file}
use Rattle.gw_script.specs.site.Playing.{Play, PlaysLines}
use Rattle.gw_script.specs.site.Powers.{power_lines}
use Rattle.gw_script.specs.site.ScriptLine.{PlayedLine, Script, setup_of}
use Rattle.gw_script.specs.site.StepTurns.{site_turns, place_after_step, power_turns, turns_by, with_those_after}
use Rattle.sim_script.specs.Values.{image_value}
use Rattle.sim_script.specs.declared.line.ImageKind.{ImageKind}
use Rattle.sim_site.specs.Made.{play_at}
use Rattle.sim_site.specs.Sites.{IsRestarted, PlaysOrigin, is_log_full, log_of, outside_there, plan_from, sim_observed}
use Rattle.sim_site.specs.declared.site.SimSite.{SimSite}
use Rattle.gw_rules.specs.LedgerRules.{LawfulRefusedOnlyWithFewerSlots}
use Rattle.gw_rules.specs.Acts.{taken_of}
use Rattle.gw_rules.specs.Triple.{IsRun, RunTriple}
use Rattle.gw_dispatch.specs.RunEnd.{NoneBegan, TalliedBy}
use Rattle.gw_dispatch.specs.declared.engine.Ended.TheVariants.{Done, NoMemory, NotOpened as RunNotOpened}
use Rattle.gw_dispatch.specs.declared.engine.TalliedEnd.{TalliedEnd}
use Rattle.gw_run.specs.Replay.{HasEnd, IsFresh, IsPlayEnd, IsPlayOf, IsWrittenEnd}
use Rattle.gw_run.specs.RunEnds.{ending_of}
use Rattle.gw_run.specs.PlayedRuns.{FailsAtMost, HasPlayed, HasRun, HasRunAgain, HasTallied, HasTalliedFrom, IsUnbegun}
use Rattle.gw_run.specs.ScriptLog.{IsEnded, IsLogOf}
use Rattle.gw_run.specs.Top.{ShowsEnd}
use Rattle.gw_run.specs.declared.ending.Ending.{Ending}
use Rattle.gw_run.specs.declared.ending.Ending.TheVariants.{Played, Words, Long, Line as AtLine, Input, NotOpened, Memory, OutputFailed, Disk, LongJournal, CutJournal, BadSlot}
use Rattle.gw_run.proofs.RunsLemmas.{IsKnown, MayRun, done-stands, failures-few, failures-more, fewer-left, has-run, may-run-again, nothing-played, some-log, some-plan, steps-played, with-more}

-- ---- what is known of further steps

plan-known : (full : Bool) (log : List Turn) (p : Play) → full ≡ false → IsKnown (plan_from full log p)
plan-known true log p e = absurd (let h : true ≡ false = e in cc)
plan-known false log p e = record { later = turns_by log p; plan_is = refl; nothing = refl }

-- where its log could grow the turns of further steps are known
site-known : (site : SimSite) → is_log_full site ≡ false → IsKnown (sim_observed site).plan
site-known site e = plan-known site.played.short site.played.log (play_at site.played) e

-- and the power, which is there, comes back no more
pub record IsResting (plan : Option Plan) : Type 0 where
  pub known : IsKnown plan
  pub no_power : known.later (PowerBack ∷ []) ≡ []

none-waits : (log : List Turn) (p : Play) → p.off ≡ None → turns_by log p (PowerBack ∷ []) ≡ []
none-waits log p e = ap (λ off. with_those_after (power_turns (outside_of log) off) (λ turns. turns_by (log ++ turns) (place_after_step log p PowerBack) [])) e

plan-rests : (full : Bool) (off : Option ImageKind) (log : List Turn) (p : Play) → p.off ≡ option_map image_value off → (full || is_some off) ≡ false → IsResting (plan_from full log p)
plan-rests true off log p e lit = absurd (let h : true ≡ false = lit in cc)
plan-rests false (Some kind) log p e lit = absurd (let h : true ≡ false = lit in cc)
plan-rests false None log p e lit = record { known = record { later = turns_by log p; plan_is = refl; nothing = refl }; no_power = none-waits log p e }

-- so it is where it isn't dark
pub site-rests : (site : SimSite) → (sim_observed site).dark ≡ false → IsResting (sim_observed site).plan
site-rests site lit = plan-rests site.played.short site.played.place.off site.played.log (play_at site.played) refl lit

-- ---- the first run

-- nothing was played without memory for the setup
pub nothing-run : (own : Setup) (old : Observed) (end : TalliedEnd) (log : List Turn) → old.log ≡ Some [] → end.ended ≡ NoMemory → old.log ≡ Some log → HasTalliedFrom old own end old log
nothing-run own old end log fresh refused e = λ whole is. record {
  run = record {
    played = subst (HasPlayed own whole old.plan) (some-log (sym fresh ∙ e)) (nothing-played own whole old.plan is);
    end = λ lit few. inl (ap ending_of refused);
  };
  tally = λ lit done. absurd (let h : NoMemory ≡ Done = sym refused ∙ done in cc);
}

-- ---- one run more

pub ran-again : LawfulRefusedOnlyWithFewerSlots → (own : Setup) (whole : Plan) (most : ℕ) (end : TalliedEnd) (old back new : SimSite) → FailsAtMost most whole → HasPlayed own whole (sim_observed old).plan (log_of old) → IsRestarted old back
    → (end.ended ≡ RunNotOpened → IfObserved (sim_observed back) (λ before. NoneBegan before (sim_observed new)))
    → RunTriple own (sim_observed back) (sim_observed new) (IsRun own) (TalliedBy end 18446744073709551615)
    → HasRunAgain own whole most end (log_of old) (sim_observed new) (log_of new)
ran-again rules own whole most end old back new least p x none runs =
    let file = crash_file x.kind (outside_there old) in
    let before = log_of old ++ Crash file ∷ [] in
    let old_is : (sim_observed back).log ≡ Some before = ap Some x.log in
    let m : MayRun own whole (sim_observed back).plan before = may-run-again own whole (sim_observed old).plan (sim_observed back).plan (log_of old) file p x.image x.bytes x.taken in
    let none_is = λ (e : end.ended ≡ RunNotOpened). none e before old_is in
    let more = failures-more rules own whole end (sim_observed back) (sim_observed new) before (log_of new) m old_is refl none_is runs in
    record {
      run = has-run rules own whole end (sim_observed back) (sim_observed new) before (log_of new) m old_is refl none_is runs;
      fewer = fewer-left most (log_of old) more.0 (log_of new) file (failures-few own whole (sim_observed back).plan most before least m.played (site-known back x.short)) more.1;
    }

-- so it is after whatever was to be played
pub run-again-from : (own : Setup) (lines : List PlayedLine) (first old new : Observed) (end last : TalliedEnd) (before after : List Turn) → IsUnbegun lines first → HasTalliedFrom first own end old before
    → ((whole : Plan) (most : ℕ) → FailsAtMost most whole → HasPlayed own whole old.plan before → HasRunAgain own whole most last before new after) → HasTalliedFrom first own last new after
run-again-from own lines first old new end last before after unbegun ran again = λ whole is.
    let few : FailsAtMost (power_lines lines) whole = subst (FailsAtMost (power_lines lines)) (some-plan (sym unbegun.plan_is ∙ is)) unbegun.few in
    (again whole (power_lines lines) few (ran whole is).run.played).run

-- without memory to restart the site nothing more is played
pub run-refused : (own : Setup) (first : Observed) (end last : TalliedEnd) (old new : SimSite) → last.ended ≡ NoMemory → sim_observed new ≡ sim_observed old → HasTalliedFrom first own end (sim_observed old) (log_of old) → HasTalliedFrom first own last (sim_observed new) (log_of new)
run-refused own first end last old new refused same ran = λ whole is.
    let run = (ran whole is).run in
    record {
      run = record {
        played = subst (λ plan. HasPlayed own whole plan (log_of new)) (sym (ap (λ (o : Observed). o.plan) same)) (subst (HasPlayed own whole (sim_observed old).plan) (sym (some-log (ap (λ (o : Observed). o.log) same))) run.played);
        end = λ lit few. inl (ap ending_of refused);
      };
      tally = λ lit done. absurd (let h : NoMemory ≡ Done = sym refused ∙ done in cc);
    }

-- ---- the end

-- what is reported after the last run: its end, or that memory was refused
pub run-given : (own : Setup) (first : Observed) (end last : TalliedEnd) (site : SimSite) → (last.ended ≡ NoMemory) ⊎ ((last ≡ end) × ((sim_observed site).dark ≡ false)) → HasTalliedFrom first own end (sim_observed site) (log_of site) → HasTalliedFrom first own last (sim_observed site) (log_of site)
run-given own first end last site (inl memory) ran = run-refused own first end last site site memory refl ran
run-given own first end last site (inr (same, lit)) ran = subst (λ one. HasTalliedFrom first own one (sim_observed site) (log_of site)) (sym same) ran

memory-or : (ending : Ending) → (ending ≡ Memory) ⊎ (ending ≡ Memory → ⊥)
memory-or Played = inr (λ e. cc)
memory-or Words = inr (λ e. cc)
memory-or Long = inr (λ e. cc)
memory-or (AtLine line) = inr (λ e. cc)
memory-or Input = inr (λ e. cc)
memory-or NotOpened = inr (λ e. cc)
memory-or Memory = inl refl
memory-or OutputFailed = inr (λ e. cc)
memory-or Disk = inr (λ e. cc)
memory-or (LongJournal size) = inr (λ e. cc)
memory-or (CutJournal slot) = inr (λ e. cc)
memory-or (BadSlot slot) = inr (λ e. cc)

-- unless memory was refused the site isn't dark, and the log ends as the end says
ends-so : (own : Setup) (whole : Plan) (ending : Ending) (observed : Observed) (log : List Turn) → HasRun own whole ending observed log → ((ending ≡ Memory → ⊥) → observed.dark ≡ false) → length log < 18446744073709551615 → (ending ≡ Memory) ⊎ ((observed.dark ≡ false) × ShowsEnd ending log)
ends-so own whole ending observed log run lit few = by_memory (memory-or ending)
  where
    by_memory : (ending ≡ Memory) ⊎ (ending ≡ Memory → ⊥) → (ending ≡ Memory) ⊎ ((observed.dark ≡ false) × ShowsEnd ending log)
    by_memory (inl e) = inl e
    by_memory (inr other) = elim (run.end (lit other) few) [ inl e ↦ inl e | inr end ↦ inr (lit other, end) ]

end-of-log : (ending : Ending) (dark : Bool) (log : List Turn) → (ending ≡ Memory) ⊎ ((dark ≡ false) × ShowsEnd ending log) → (ending ≡ Memory) ⊎ ShowsEnd ending log
end-of-log ending dark log (inl e) = inl e
end-of-log ending dark log (inr end) = inr end.1

end-ended : (ending : Ending) (log : List Turn) → ShowsEnd ending log → IsEnded log
end-ended Played log end = inl end
end-ended NotOpened log end = inr (inl end)
end-ended Disk log end = inr (inr end)
end-ended Words log end = absurd end
end-ended Long log end = absurd end
end-ended (AtLine line) log end = absurd end
end-ended Input log end = absurd end
end-ended Memory log end = absurd end
end-ended OutputFailed log end = absurd end
end-ended (LongJournal size) log end = absurd end
end-ended (CutJournal slot) log end = absurd end
end-ended (BadSlot slot) log end = absurd end

-- what was played is the log of the script, where the site rests and no run more begins
is-log : (text : List ℕ) (script : Script) (plan : Option Plan) (log : List Turn) → script_of text ≡ Ok script → HasPlayed (setup_of script.given) (site_turns script.lines) plan log → IsResting plan → IsEnded log → IsLogOf text log
is-log text script plan log served p rests ended = record {
  script = script;
  script_is = served;
  acts = p.acts;
  done = p.done;
  turns = steps-played (setup_of script.given) (site_turns script.lines) plan log p rests.known;
  ends = ended;
  power =
      with-more (setup_of script.given) (site_turns script.lines) plan log rests.known.later p rests.known.plan_is (PowerBack ∷ [])
      ∙ ap (λ l. turns_of_steps (taken_of p.acts) ++ l) rests.no_power
      ∙ append-nil (turns_of_steps (taken_of p.acts));
}

-- so a play has this log
play-of : (text : List ℕ) (script : Script) (ending : Ending) (site : SimSite) → script_of text ≡ Ok script → HasRun (setup_of script.given) (site_turns script.lines) ending (sim_observed site) (log_of site)
    → (ending ≡ Memory) ⊎ (((sim_observed site).dark ≡ false) × ShowsEnd ending (log_of site)) → ∥ PlaysLines script.lines (log_of site) ∥₁ → IsPlayOf text ending (log_of site)
play-of text script ending site served run ends plays = record {
  script = script;
  script_is = served;
  lawful = (_, done-stands (setup_of script.given) run.played.acts (log_of site) run.played.done);
  openings = run.played.openings;
  plays = plays;
  whole = elim ends [ inl e ↦ inl e | inr end ↦ inr (is-log text script (sim_observed site).plan (log_of site) served run.played (site-rests site end.0) (end-ended ending (log_of site) end.1), end.1) ];
}

-- ---- the log that is written

-- the end of the runs, as it is reported
pub as-ending : (own : Setup) (whole : Plan) (end : TalliedEnd) (ending : Ending) (observed : Observed) (log : List Turn) → ending ≡ ending_of end.ended → HasTallied own whole end observed log → HasRun own whole ending observed log
as-ending own whole end ending observed log e ran = subst (λ one. HasRun own whole one observed log) (sym e) ran.run

pub lit-unless : (end : TalliedEnd) (ending : Ending) (observed : Observed) → ending ≡ ending_of end.ended → ((end.ended ≡ NoMemory → ⊥) → observed.dark ≡ false) → (ending ≡ Memory → ⊥) → observed.dark ≡ false
lit-unless end ending observed e lit other = lit (λ refused. other (e ∙ ap ending_of refused))

-- the log of the site, as it is given: how it ends
pub given-ends : (own : Setup) (whole : Plan) (ending : Ending) (site : SimSite) (log : List Turn) → log ≡ log_of site → length log < 18446744073709551615 → HasRun own whole ending (sim_observed site) (log_of site) → ((ending ≡ Memory → ⊥) → (sim_observed site).dark ≡ false)
    → (ending ≡ Memory) ⊎ (((sim_observed site).dark ≡ false) × ShowsEnd ending (log_of site))
given-ends own whole ending site log log_is few run lit = ends-so own whole ending (sim_observed site) (log_of site) run lit (subst (λ l. length l < 18446744073709551615) log_is few)

pub given-end : (own : Setup) (whole : Plan) (ending : Ending) (site : SimSite) (log : List Turn) → log ≡ log_of site → length log < 18446744073709551615 → HasRun own whole ending (sim_observed site) (log_of site) → ((ending ≡ Memory → ⊥) → (sim_observed site).dark ≡ false)
    → (ending ≡ Memory) ⊎ ShowsEnd ending log
given-end own whole ending site log log_is few run lit = subst (λ l. (ending ≡ Memory) ⊎ ShowsEnd ending l) (sym log_is) (end-of-log ending (sim_observed site).dark (log_of site) (given-ends own whole ending site log log_is few run lit))

-- and that it is the log of the script of a text, of which nothing had been played
pub given-play : (text : List ℕ) (script : Script) (ending : Ending) (old : Observed) (site : SimSite) (log : List Turn) → script_of text ≡ Ok script → IsFresh old text script → log ≡ log_of site → length log < 18446744073709551615
    → HasRun (setup_of script.given) (site_turns script.lines) ending (sim_observed site) (log_of site) → ((ending ≡ Memory → ⊥) → (sim_observed site).dark ≡ false) → (sim_observed site).origin ≡ old.origin → PlaysOrigin (sim_observed site).origin log → IsPlayOf text ending log
given-play text script ending old site log served fresh log_is few run lit origin plays =
    let read : script_of (sim_observed site).origin ≡ Ok script = ap script_of (origin ∙ ap (λ (o : Observed). o.origin) fresh) ∙ served in
    let ends = given-ends (setup_of script.given) (site_turns script.lines) ending site log log_is few run lit in
    subst (IsPlayOf text ending) (sym log_is) (play-of text script ending site served run ends (subst (λ l. ∥ PlaysLines script.lines l ∥₁) log_is (plays script read)))

-- and its end
pub play-has-end : (text : List ℕ) (ending result : Ending) (log : List Turn) → IsPlayOf text ending log → IsWrittenEnd ending result → HasEnd text result
play-has-end text ending result log p (inl same) = rw same (elim p.whole [ inl e ↦ inl e | inr w ↦ inr (inr (log, w.0, w.1)) ])
play-has-end text ending result log p (inr (inl memory)) = inl memory
play-has-end text ending result log p (inr (inr failed)) = inr (inl failed)

site-end : (ending : Ending) (log : List Turn) → ShowsEnd ending log → IsPlayEnd ending
site-end Played log end = tt
site-end NotOpened log end = tt
site-end Disk log end = tt
site-end Words log end = end
site-end Long log end = end
site-end (AtLine line) log end = end
site-end Input log end = end
site-end Memory log end = tt
site-end OutputFailed log end = tt
site-end (LongJournal size) log end = end
site-end (CutJournal slot) log end = end
site-end (BadSlot slot) log end = end

pub is-play-end : (ending result : Ending) (log : List Turn) → (ending ≡ Memory) ⊎ ShowsEnd ending log → IsWrittenEnd ending result → IsPlayEnd result
is-play-end ending result log (inl memory) (inl same) = subst IsPlayEnd (sym (same ∙ memory)) tt
is-play-end ending result log (inr end) (inl same) = subst IsPlayEnd (sym same) (site-end ending log end)
is-play-end ending result log ends (inr (inl memory)) = subst IsPlayEnd (sym memory) tt
is-play-end ending result log ends (inr (inr failed)) = subst IsPlayEnd (sym failed) tt
