-- Closed examples of what is added to a log, and of logs after which memory may be refused.
use Rattle.std.proofs.Common.{◌∙◌, sym, ap, inl, inr}
use Rattle.std.specs.Prelude.{◌≡◌, ◌⊎◌, ℕ, ℤ, pos, List, [], ◌∷◌, ◌++◌, true, false, Option, Some, None, refl}
use Rattle.gw_site.specs.Observed.{Observed}
use Rattle.gw_site.specs.Sorts.{Event, Poll, CallOutcome, sort_of}
use Rattle.gw_site.specs.declared.turn.Turn.{Turn}
use Rattle.gw_site.specs.declared.turn.Turn.TheVariants.{Polled, Opened, HeardTill, Lost, CutTill, Stopped}
use Rattle.gw_dispatch.specs.Growth.{AddsTakingEvent, AreOutcomes, EndsWithStop, LastTakesMemory, PollsToEnd, polls_in, takes_memory}

-- a till has opened, and was cut
abbrev pub till_opened_log : List Turn
till_opened_log = Polled (pos 3) ∷ Opened 1 ∷ CutTill 1 ∷ []

-- bytes of a till have come, and then a terminal's connection was lost
abbrev pub pt_lost_log : List Turn
pt_lost_log = HeardTill 1 (0 ∷ []) ∷ Lost 0 ∷ []

-- bytes of a till have come, and then the site was polled
abbrev pub last_polled_log : List Turn
last_polled_log = HeardTill 1 (0 ∷ []) ∷ Polled (pos 4) ∷ []

-- a terminal's connection was lost in a round
abbrev pub pt_lost_round : List Turn
pt_lost_round = Polled (pos 3) ∷ Lost 0 ∷ []

-- a poll has brought the stop
abbrev pub stopped_log : List Turn
stopped_log = Polled (pos 4) ∷ Stopped ∷ []

-- a site that isn't dark, with this log
abbrev pub lit_site : List Turn → Observed
lit_site log = record { log = Some log; faults = 0; dark = false; origin = []; plan = None }

-- memory may be refused where a till has opened and only a call came after that, and not where a connection was lost since, or a poll came; so it is in a round; a cut is the outcome of a call, and an event is none; each poll counts, and nothing else; a run is done where the stop was polled or all polls were made, and not where it wasn't polled at all
pub record GrowsExample : Type 0 where
  pub opened : LastTakesMemory till_opened_log
  pub lost : LastTakesMemory pt_lost_log → ⊥
  pub polled : LastTakesMemory last_polled_log → ⊥
  pub opened_round : AddsTakingEvent [] (lit_site till_opened_log)
  pub lost_round : AddsTakingEvent [] (lit_site pt_lost_round) → ⊥
  pub cut : AreOutcomes (CutTill 1 ∷ [])
  pub event : AreOutcomes till_opened_log → ⊥
  pub one_poll : polls_in till_opened_log ≡ 1
  pub two_polls : polls_in (till_opened_log ++ last_polled_log) ≡ 2
  pub stopped : PollsToEnd 9 [] (lit_site stopped_log)
  pub all_made : PollsToEnd 1 [] (lit_site till_opened_log)
  pub unpolled : PollsToEnd 1 [] (lit_site []) → ⊥

-- no list of which one is a part is empty
not_empty : (before : List Turn) (turn : Turn) (calls : List Turn) → ◌≡◌ {A = List Turn} [] (before ++ turn ∷ calls) → ⊥
not_empty [] turn calls e = cc
not_empty (one ∷ before) turn calls e = cc

-- the last of two turns, which is neither the outcome of a call nor one after which memory may be refused
not_last : (first last : Turn) → takes_memory last ≡ false → (sort_of last ≡ CallOutcome → ⊥) → LastTakesMemory (first ∷ last ∷ []) → ⊥
not_last first last takes_none apart l = by_before l.before l.turn l.calls l.log_is l.takes l.outcomes
  where
    by_before : (before : List Turn) (turn : Turn) (calls : List Turn) → first ∷ last ∷ [] ≡ before ++ turn ∷ calls → takes_memory turn ≡ true → AreOutcomes calls → ⊥
    by_before [] turn [] e takes are = cc
    by_before [] turn (call ∷ calls) e takes are = let same : call ≡ last = cc in let is : sort_of call ≡ CallOutcome = are.0 in apart (cc)
    by_before (one ∷ []) turn calls e takes are = let same : last ≡ turn = cc in let h : false ≡ true = cc in cc
    by_before (one ∷ two ∷ before) turn calls e takes are = not_empty before turn calls (cc)

-- the event of the round is the second turn of its log
event_is : (now : ℤ) (event : Turn) (calls : List Turn) → Some pt_lost_round ≡ Some (Polled now ∷ event ∷ calls) → event ≡ Lost 0
event_is now event calls e = cc

not_taking : (event last : Turn) → event ≡ last → takes_memory last ≡ false → takes_memory event ≡ true → ⊥
not_taking event last same takes_none takes = let h : false ≡ true = cc in cc

-- a site with an empty log wasn't polled
nothing_added : (more : List Turn) → ◌≡◌ {A = Option (List Turn)} (Some []) (Some ([] ++ more)) → more ≡ []
nothing_added more e = cc

none_polled : (more : List Turn) → more ≡ [] → EndsWithStop more ⊎ (polls_in more ≡ 1) → ⊥
none_polled more none (inl stop) = not_empty stop.0 (Polled stop.1) (Stopped ∷ []) (sym none ∙ stop.2)
none_polled more none (inr made) = let h : ◌≡◌ {A = ℕ} 0 1 = sym (ap polls_in none) ∙ made in cc

not_polled : PollsToEnd 1 [] (lit_site []) → ⊥
not_polled (inl dark) = let h : false ≡ true = dark in cc
not_polled (inr x) = none_polled x.0 (nothing_added x.0 x.1) x.2

example_growth : GrowsExample
example_growth = record {
  opened = record { before = Polled (pos 3) ∷ []; turn = Opened 1; calls = CutTill 1 ∷ []; log_is = refl; takes = refl; outcomes = (refl, tt) };
  lost = not_last (HeardTill 1 (0 ∷ [])) (Lost 0) refl (λ e. let h : Event ≡ CallOutcome = e in cc);
  polled = not_last (HeardTill 1 (0 ∷ [])) (Polled (pos 4)) refl (λ e. let h : Poll ≡ CallOutcome = e in cc);
  opened_round = record { now = pos 3; event = Opened 1; calls = CutTill 1 ∷ []; log_is = refl; sort = refl; takes = refl; outcomes = (refl, tt) };
  lost_round = λ x. not_taking x.event (Lost 0) (event_is x.now x.event x.calls x.log_is) refl x.takes;
  cut = (refl, tt);
  event = λ are. let h : Poll ≡ CallOutcome = are.0 in cc;
  one_poll = refl;
  two_polls = refl;
  stopped = inr (stopped_log, refl, inl ([], pos 4, refl));
  all_made = inr (till_opened_log, refl, inr refl);
  unpolled = not_polled;
}
