-- How far a drill is, by its log: its terminals are as their connections say.
use Rattle.std.proofs.Common.{◌≡◌, ℕ, Bool, true, false, not, List, [], ◌∷◌, ◌++◌, refl, sym, ◌∙◌, ap, subst, append-nil, append_assoc}
use Rattle.std.specs.Prelude.{◌==◌, ◌-◌, Option, Some, None, ℤ, if◌then◌else◌, is_some, nat_le}
use Rattle.std.proofs.lemmas.Bool.Decides.{Decides-eqb}
use Rattle.gw_base.specs.declared.setup.Setup.{Setup}
use Rattle.gw_site.specs.Outside.{Outside, Connection, hears, is_connected, outside_after, outside_of, without}
use Rattle.gw_site.proofs.OutsideLemmas.{outside_of_more}
use Rattle.gw_site.specs.Steps.{SiteCall, OpenCall, PollCall, SendTillCall, SendPtCall, LinkCall, CutTillCall, CutPtCall, LengthCall, ReadCall, WriteCall, SyncCall, SiteStep, Made, PowerBack, StopAfter, Holding}
use Rattle.gw_site.specs.declared.turn.Turn.{Turn}
use Rattle.gw_site.specs.declared.turn.Turn.TheVariants.{Start, OpenFailed, Polled, Opened, HeardTill, Closed, HeardPt, Lost, Stopped, Linked, LinkFailed, SentTill, SentPt, CutTill, CutPt, Wrote, Synced, DiskFailed, Crash}
use Rattle.zvt_apdu.specs.DecodeStream.{DecodedApdus, decode_apdus}
use Rattle.pt_core.specs.Exchange.{Hears, met_of}
use Rattle.pt_core.specs.History.{Setting, NewLink, earlier, sent_for, sent_on_link}
use Rattle.gw_script.specs.site.Calls.{LeadsBy, are_scripted, call_turns, place_after, play_from, polled_place, polled_turns}
use Rattle.gw_script.specs.site.Hazards.{Armed, Hazard, crash_file, is_failing, links_without, sends_without, sent_of, takes_most}
use Rattle.gw_script.specs.site.Peers.{Peers, peers_after_crash}
use Rattle.gw_script.specs.site.Playing.{Write, Sync, Length, Read, Idle, Play, applies, brings, brought, counted, is_off, met, met_coming, one_call_less, power_forgotten, powered, linked_to_pt, restarted, send_failed_pt, send_failed_till, sent_to_pt, then_coming}
use Rattle.gw_script.specs.site.ScriptLine.{Event, Open, Close, FromTill, FromPt, Lose, Tick, PlayedLine, At, Poll, Fail, Power, ForgetPower}
use Rattle.gw_rules.proofs.LinkedLemmas.{connected-removed}
use Rattle.gw_drill.specs.DrillBooks.{exchange_at, exchanges_at}
use Rattle.gw_drill.proofs.PeerLemmas.{Follows, LeavesLink, MetLaws, coming_bytes, comes_cut, cut-leaves, heard-own, linked-follows, quiet-follows, same-way, sent-follows, unlinked-follows}

-- ---- what a drill's lines and logs don't have

-- a till's event, or none
abbrev pub IsOfTill : Event → Type 0
IsOfTill (Open till) = Unit {0}
IsOfTill (Close till) = Unit {0}
IsOfTill (FromTill till bytes) = Unit {0}
IsOfTill (FromPt pt bytes) = ⊥
IsOfTill (Lose pt) = ⊥
IsOfTill Tick = Unit {0}

-- no line brings anything of a terminal, or makes a call fail
abbrev pub AreOfTills : List PlayedLine → Type 0
AreOfTills [] = Unit {0}
AreOfTills (At now ∷ lines) = AreOfTills lines
AreOfTills (Poll event ∷ lines) = IsOfTill event × AreOfTills lines
AreOfTills (Fail failing ∷ lines) = ⊥
AreOfTills (Power calls kind ∷ lines) = AreOfTills lines
AreOfTills (ForgetPower ∷ lines) = AreOfTills lines

-- no opening and no call on the disk fails here
pub record IsCalm (hazard : Hazard) : Type 0 where
  pub opens : hazard.fail_open ≡ false
  pub write : hazard.fail_write ≡ false
  pub sync : hazard.fail_sync ≡ false
  pub lengths : hazard.fail_length ≡ false
  pub read : hazard.fail_read ≡ false

-- ---- connections

-- what is heard changes no number
numbers-stay : (links : List Connection) (number other : ℕ) (bytes : List ℕ) → is_connected (hears links number bytes) other ≡ is_connected links other
numbers-stay [] number other bytes = refl
numbers-stay (link ∷ links) number other bytes = by_tests (link.number == number) (link.number == other) refl (numbers-stay links number other bytes)
  where
    by_tests : (test own : Bool) → (link.number == other) ≡ own → is_connected (hears links number bytes) other ≡ is_connected links other
        → is_connected (if test then record link { heard = link.heard ++ bytes } ∷ links else link ∷ hears links number bytes) other ≡ is_connected (link ∷ links) other
    by_tests true own t h = refl
    by_tests false true t h = rw t refl
    by_tests false false t h = rw t h

-- ---- one terminal

module _ (pt : ℕ) (setting : Setting) (laws : MetLaws pt setting) (nothing : decode_apdus [] ≡ record { apdus = []; rest = [] }) where
  -- the log has led to this place
  pub record Goes (log : List Turn) (p : Play) : Type 0 where
    pub follows : Follows pt setting log p.peers
    pub lines : AreOfTills p.lines
    pub calm : IsCalm p.hazard

  -- a call that counts keeps this
  less : (power : Option Armed) (log : List Turn) (p : Play) → Goes log p → Goes log (one_call_less power p)
  less None log p g = g
  less (Some armed) log p g = by_test (nat_le armed.calls 1)
    where
      by_test : (test : Bool) → Goes log (if test then is_off armed.kind p else powered (armed.calls - 1) armed.kind p)
      by_test true = record { follows = g.follows; lines = g.lines; calm = record { opens = g.calm.opens; write = g.calm.write; sync = g.calm.sync; lengths = g.calm.lengths; read = g.calm.read } }
      by_test false = record { follows = g.follows; lines = g.lines; calm = record { opens = g.calm.opens; write = g.calm.write; sync = g.calm.sync; lengths = g.calm.lengths; read = g.calm.read } }

  counted-goes : (log : List Turn) (p : Play) → Goes log p → Goes log (counted p)
  counted-goes log p g = less p.hazard.power log p g

  -- a turn that leaves the terminals alone
  still-goes : (log : List Turn) (turn : Turn) (p q : Play) → LeavesLink pt log turn → q.peers ≡ p.peers → q.lines ≡ p.lines → IsCalm q.hazard → Goes log p → Goes (log ++ turn ∷ []) q
  still-goes log turn p q leaves peers lines calm g = record {
    follows = subst (Follows pt setting (log ++ turn ∷ [])) (sym peers) (quiet-follows pt setting log turn p.peers p.peers leaves refl (λ connected. (refl, refl)) g.follows);
    lines = subst AreOfTills (sym lines) g.lines;
    calm = calm;
  }

  -- nothing changes in the links
  alone : (log : List Turn) (turn : Turn) → exchange_at pt turn ≡ [] → (outside_after (outside_of log) turn).links ≡ (outside_of log).links → LeavesLink pt log turn
  alone log turn none same = record { none = none; links = λ connected. sym (ap (λ l. is_connected l pt) same) ∙ connected }

  -- ---- calls

  -- of no turn
  no-turn : (log : List Turn) (p : Play) → Goes log p → Goes (log ++ []) p
  no-turn log p g = subst (λ l. Goes l p) (sym (append-nil log)) g

  open-goes : (log : List Turn) (p : Play) (setup : Setup) → Goes log p → Goes (log ++ call_turns (outside_of log) p (OpenCall setup)) (place_after (outside_of log) p (OpenCall setup))
  open-goes log p setup g =
      subst (λ test. Goes (log ++ (if test then OpenFailed ∷ [] else Start setup ∷ [])) (play_from (outside_of log) Sync p (if test then OpenFailed ∷ [] else Start setup ∷ []))) (sym g.calm.opens)
      (counted-goes (log ++ Start setup ∷ []) p (record { follows = unlinked-follows pt setting log (Start setup) p.peers p.peers refl refl refl g.follows; lines = g.lines; calm = g.calm }))

  till-goes : (log : List Turn) (p : Play) (till : ℕ) (bytes : List ℕ) (fails : Bool) → Goes log p → Goes (log ++ SentTill till bytes (not fails) ∷ []) (send_failed_till till (not fails) p)
  till-goes log p till bytes true g =
      counted-goes (log ++ SentTill till bytes false ∷ []) (record p { hazard = record p.hazard { fail_tills = sends_without p.hazard.fail_tills till } })
      (still-goes log (SentTill till bytes false) p (record p { hazard = record p.hazard { fail_tills = sends_without p.hazard.fail_tills till } }) (alone log (SentTill till bytes false) refl refl) refl refl (record { opens = g.calm.opens; write = g.calm.write; sync = g.calm.sync; lengths = g.calm.lengths; read = g.calm.read }) g)
  till-goes log p till bytes false g = counted-goes (log ++ SentTill till bytes true ∷ []) p (still-goes log (SentTill till bytes true) p p (alone log (SentTill till bytes true) refl refl) refl refl g.calm g)

  sent-goes : (log : List Turn) (p : Play) (number : ℕ) (bytes : List ℕ) (sent : Bool) → Goes log p → Goes (log ++ SentPt number bytes sent ∷ []) (sent_to_pt number bytes p)
  sent-goes log p number bytes sent g = record { follows = sent-follows pt setting laws log number bytes sent p.peers g.follows; lines = g.lines; calm = g.calm }

  pt-goes : (log : List Turn) (p : Play) (number : ℕ) (bytes : List ℕ) (fails : Bool) → Goes log p → Goes (log ++ SentPt number bytes (not fails) ∷ []) (send_failed_pt number (not fails) (sent_to_pt number bytes p))
  pt-goes log p number bytes false g = counted-goes (log ++ SentPt number bytes true ∷ []) (sent_to_pt number bytes p) (sent-goes log p number bytes true g)
  pt-goes log p number bytes true g =
      let h = sent-goes log p number bytes false g in
      counted-goes (log ++ SentPt number bytes false ∷ []) (record (sent_to_pt number bytes p) { hazard = record p.hazard { fail_pts = sends_without p.hazard.fail_pts number } })
      (record { follows = h.follows; lines = h.lines; calm = record { opens = g.calm.opens; write = g.calm.write; sync = g.calm.sync; lengths = g.calm.lengths; read = g.calm.read } })

  fresh : (log : List Turn) → sent_on_link setting (NewLink ∷ met_of (exchanges_at pt log)) ≡ []
  fresh log = ap (λ (s : DecodedApdus). sent_for setting (earlier setting (NewLink ∷ met_of (exchanges_at pt log))) s.apdus) nothing

  link-goes : (log : List Turn) (p : Play) (number : ℕ) (fails : Bool) → Goes log p → Goes (log ++ (if fails then LinkFailed number ∷ [] else Linked number ∷ [])) (play_from (outside_of log) Sync p (if fails then LinkFailed number ∷ [] else Linked number ∷ []))
  link-goes log p number true g =
      counted-goes (log ++ LinkFailed number ∷ []) (record p { hazard = record p.hazard { fail_links = links_without p.hazard.fail_links number } })
      (still-goes log (LinkFailed number) p (record p { hazard = record p.hazard { fail_links = links_without p.hazard.fail_links number } }) (alone log (LinkFailed number) refl refl) refl refl (record { opens = g.calm.opens; write = g.calm.write; sync = g.calm.sync; lengths = g.calm.lengths; read = g.calm.read }) g)
  link-goes log p number false g =
      counted-goes (log ++ Linked number ∷ []) (linked_to_pt number p)
      (record { follows = linked-follows pt setting laws log number p.peers (fresh log) g.follows; lines = g.lines; calm = g.calm })

  write-goes : (log : List Turn) (p : Play) (offset : ℕ) (bytes : List ℕ) → Goes log p → Goes (log ++ call_turns (outside_of log) p (WriteCall offset bytes)) (place_after (outside_of log) p (WriteCall offset bytes))
  write-goes log p offset bytes g =
      subst (λ test. Goes (log ++ (if test then Wrote offset bytes ∷ DiskFailed ∷ [] else Wrote offset bytes ∷ [])) (play_from (outside_of log) Write p (if test then Wrote offset bytes ∷ DiskFailed ∷ [] else Wrote offset bytes ∷ []))) (sym g.calm.write)
      (counted-goes (log ++ Wrote offset bytes ∷ []) (record p { failing = p.hazard.fail_write; hazard = record p.hazard { fail_write = false } })
      (still-goes log (Wrote offset bytes) p (record p { failing = p.hazard.fail_write; hazard = record p.hazard { fail_write = false } }) (alone log (Wrote offset bytes) refl refl) refl refl (record { opens = g.calm.opens; write = refl; sync = g.calm.sync; lengths = g.calm.lengths; read = g.calm.read }) g))

  -- ---- polls

  -- a poll has met this
  abbrev PollGoes : List Turn → Play → Type 0
  PollGoes log m = Goes (log ++ polled_turns m m.off) (polled_place m m.off)

  -- two turns are one and then one more
  and-then : (log : List Turn) (first second : Turn) (p : Play) → Goes ((log ++ first ∷ []) ++ second ∷ []) p → Goes (log ++ first ∷ second ∷ []) p
  and-then log first second p g = subst (λ l. Goes l p) (append_assoc log (first ∷ []) (second ∷ [])) g

  -- the poll alone
  poll-goes : (log : List Turn) (now : ℤ) (p : Play) → Goes log p → Goes (log ++ Polled now ∷ []) p
  poll-goes log now p g = still-goes log (Polled now) p p (alone log (Polled now) refl refl) refl refl g.calm g

  -- and then a till's event
  till-event : (log : List Turn) (now : ℤ) (event : Event) (p q : Play) → IsOfTill event → q.peers ≡ p.peers → q.lines ≡ p.lines → IsCalm q.hazard → Goes log p → Goes (log ++ Polled now ∷ brings event) q
  till-event log now (Open till) p q of peers lines calm g = and-then log (Polled now) (Opened till) q (still-goes (log ++ Polled now ∷ []) (Opened till) p q (alone (log ++ Polled now ∷ []) (Opened till) refl refl) peers lines calm (poll-goes log now p g))
  till-event log now (Close till) p q of peers lines calm g = and-then log (Polled now) (Closed till) q (still-goes (log ++ Polled now ∷ []) (Closed till) p q (alone (log ++ Polled now ∷ []) (Closed till) refl refl) peers lines calm (poll-goes log now p g))
  till-event log now (FromTill till bytes) p q of peers lines calm g = and-then log (Polled now) (HeardTill till bytes) q (still-goes (log ++ Polled now ∷ []) (HeardTill till bytes) p q (alone (log ++ Polled now ∷ []) (HeardTill till bytes) refl refl) peers lines calm (poll-goes log now p g))
  till-event log now (FromPt number bytes) p q of peers lines calm g = absurd of
  till-event log now (Lose number) p q of peers lines calm g = absurd of
  till-event log now Tick p q of peers lines calm g = still-goes log (Polled now) p q (alone log (Polled now) refl refl) peers lines calm g

  -- where the power is there
  lit : (log : List Turn) (m : Play) → m.off ≡ None → Goes (log ++ Polled m.moment ∷ m.due) (brought m) → PollGoes log m
  lit log m off g = subst (λ off. Goes (log ++ polled_turns m off) (polled_place m off)) (sym off) g

  -- an event of a line, or one that comes of a terminal, is met
  abbrev met_here : Play → List PlayedLine → Event → Play
  met_here p lines event = record p { lines = lines; due = brings event }

  abbrev coming_here : Play → List Event → Event → Play
  coming_here p events event = record (then_coming events p) { due = brings event }

  met-goes : (log : List Turn) (p : Play) (lines : List PlayedLine) → p.off ≡ None → AreOfTills lines → Goes log p → PollGoes log (met (outside_of log) p lines)
  met-goes log p [] off of g =
      let m : Play = record p { lines = []; due = Stopped ∷ [] } in
      lit log m off (and-then log (Polled p.moment) Stopped (brought m)
      (record { follows = quiet-follows pt setting (log ++ Polled p.moment ∷ []) Stopped p.peers p.peers (alone (log ++ Polled p.moment ∷ []) Stopped refl refl) refl (λ connected. (refl, refl)) (poll-goes log p.moment p g).follows; lines = tt; calm = g.calm }))
  met-goes log p (At now ∷ lines) off of g = met-goes log (record p { moment = now }) lines off of (record { follows = g.follows; lines = g.lines; calm = g.calm })
  met-goes log p (Poll event ∷ lines) off of g = by_test (applies (outside_of log) event) (met-goes log p lines off of.1 g)
    where
      by_test : (test : Bool) → PollGoes log (met (outside_of log) p lines) → PollGoes log (if test then (met_here p lines event) else met (outside_of log) p lines)
      by_test true later = lit log (met_here p lines event) off (till-event log p.moment event (record p { lines = lines }) (brought (met_here p lines event)) of.0 refl refl g.calm (record { follows = g.follows; lines = of.1; calm = g.calm }))
      by_test false later = later
  met-goes log p (Fail failing ∷ lines) off of g = absurd of
  met-goes log p (Power calls kind ∷ lines) off of g = by_test (calls == 0) (met-goes log (powered calls kind p) lines off of (record { follows = g.follows; lines = g.lines; calm = record { opens = g.calm.opens; write = g.calm.write; sync = g.calm.sync; lengths = g.calm.lengths; read = g.calm.read } }))
    where
      by_test : (test : Bool) → PollGoes log (met (outside_of log) (powered calls kind p) lines) → PollGoes log (if test then is_off kind (record p { lines = lines }) else met (outside_of log) (powered calls kind p) lines)
      by_test true later = no-turn log (is_off kind (record p { lines = lines })) (record { follows = g.follows; lines = of; calm = record { opens = g.calm.opens; write = g.calm.write; sync = g.calm.sync; lengths = g.calm.lengths; read = g.calm.read } })
      by_test false later = later
  met-goes log p (ForgetPower ∷ lines) off of g = met-goes log (power_forgotten p) lines off of (record { follows = g.follows; lines = g.lines; calm = record { opens = g.calm.opens; write = g.calm.write; sync = g.calm.sync; lengths = g.calm.lengths; read = g.calm.read } })

  -- ---- what comes of a terminal

  -- an event that comes of one that isn't linked is lost
  lost-follows : (log : List Turn) (event : Event) (events : List Event) (peers : Peers) → applies (outside_of log) event ≡ false → Follows pt setting log (record peers { coming = event ∷ events }) → Follows pt setting log (record peers { coming = events })
  lost-follows log event events peers lost f = record {
    terminal = f.terminal;
    hears = f.hears;
    way = λ connected. same-way pt setting (exchanges_at pt log) (event ∷ events) events (same-bytes event connected lost) (same-cut event connected lost) (f.way connected);
  }
    where
      own : (number : ℕ) → is_connected (outside_of log).links pt ≡ true → is_connected (outside_of log).links number ≡ false → (number == pt) ≡ false
      own number there away = by_test (number == pt) refl
        where
          by_test : (test : Bool) → (number == pt) ≡ test → test ≡ false
          by_test false e = refl
          by_test true e = absurd (let n : true ≡ false = sym there ∙ ap (λ n. is_connected (outside_of log).links n) (sym ((Decides-eqb number pt).0 e)) ∙ away in cc)

      same-bytes : (event : Event) → is_connected (outside_of log).links pt ≡ true → applies (outside_of log) event ≡ false → coming_bytes pt events ≡ coming_bytes pt (event ∷ events)
      same-bytes (Open till) there away = refl
      same-bytes (Close till) there away = refl
      same-bytes (FromTill till bytes) there away = refl
      same-bytes Tick there away = refl
      same-bytes (FromPt number bytes) there away = sym (ap (λ test. if test then bytes ++ coming_bytes pt events else coming_bytes pt events) (own number there away))
      same-bytes (Lose number) there away = sym (ap (λ test. if test then [] else coming_bytes pt events) (own number there away))

      same-cut : (event : Event) → is_connected (outside_of log).links pt ≡ true → applies (outside_of log) event ≡ false → comes_cut pt events ≡ comes_cut pt (event ∷ events)
      same-cut (Open till) there away = refl
      same-cut (Close till) there away = refl
      same-cut (FromTill till bytes) there away = refl
      same-cut Tick there away = refl
      same-cut (FromPt number bytes) there away = refl
      same-cut (Lose number) there away = sym (ap (λ test. if test then true else comes_cut pt events) (own number there away))

  -- one that comes of one that is linked is brought
  brought-follows : (log : List Turn) (event : Event) (events : List Event) (peers : Peers) → applies (outside_of log) event ≡ true → (now : ℤ) → Follows pt setting log (record peers { coming = event ∷ events })
      → Follows pt setting (log ++ Polled now ∷ brings event) (record peers { coming = events })
  brought-follows log event events peers there now f = by_event event there f
    where
      polled : (first : Event) → Follows pt setting log (record peers { coming = first ∷ events }) → Follows pt setting (log ++ Polled now ∷ []) (record peers { coming = first ∷ events })
      polled first f = quiet-follows pt setting log (Polled now) (record peers { coming = first ∷ events }) (record peers { coming = first ∷ events }) (alone log (Polled now) refl refl) refl (λ connected. (refl, refl)) f

      both : (turn : Turn) → Follows pt setting ((log ++ Polled now ∷ []) ++ turn ∷ []) (record peers { coming = events }) → Follows pt setting (log ++ Polled now ∷ turn ∷ []) (record peers { coming = events })
      both turn g = subst (λ l. Follows pt setting l (record peers { coming = events })) (append_assoc log (Polled now ∷ []) (turn ∷ [])) g

      same-links : (number : ℕ) → is_connected (outside_of (log ++ Polled now ∷ [])).links number ≡ is_connected (outside_of log).links number
      same-links number = ap (λ (o : Outside). is_connected o.links number) (outside_of_more log (Polled now))

      heard : (number : ℕ) (bytes : List ℕ) (test : Bool) → (number == pt) ≡ test → is_connected (outside_of log).links number ≡ true → Follows pt setting log (record peers { coming = FromPt number bytes ∷ events })
          → Follows pt setting ((log ++ Polled now ∷ []) ++ HeardPt number bytes ∷ []) (record peers { coming = events })
      heard number bytes true e there f =
          let same : number ≡ pt = (Decides-eqb number pt).0 e in
          let g : Follows pt setting (log ++ Polled now ∷ []) (record peers { coming = FromPt pt bytes ∷ events }) = subst (λ n. Follows pt setting (log ++ Polled now ∷ []) (record peers { coming = FromPt n bytes ∷ events })) same (polled (FromPt number bytes) f) in
          subst (λ n. Follows pt setting ((log ++ Polled now ∷ []) ++ HeardPt n bytes ∷ []) (record peers { coming = events })) (sym same)
          (heard-own pt setting (log ++ Polled now ∷ []) bytes events (record peers { coming = FromPt pt bytes ∷ events }) refl (same-links pt ∙ ap (λ n. is_connected (outside_of log).links n) (sym same) ∙ there) g)
      heard number bytes false e there f =
          quiet-follows pt setting (log ++ Polled now ∷ []) (HeardPt number bytes) (record peers { coming = FromPt number bytes ∷ events }) (record peers { coming = events })
          (record { none = ap (λ test. if test then Hears bytes ∷ [] else []) e; links = λ connected. sym (numbers-stay (outside_of (log ++ Polled now ∷ [])).links number pt bytes) ∙ connected }) refl
          (λ connected. (sym (ap (λ test. if test then bytes ++ coming_bytes pt events else coming_bytes pt events) e), refl)) (polled (FromPt number bytes) f)

      cut : (number : ℕ) (test : Bool) → (number == pt) ≡ test → Follows pt setting log (record peers { coming = Lose number ∷ events }) → Follows pt setting ((log ++ Polled now ∷ []) ++ Lost number ∷ []) (record peers { coming = events })
      cut number true e f =
          let same : number ≡ pt = (Decides-eqb number pt).0 e in
          unlinked-follows pt setting (log ++ Polled now ∷ []) (Lost number) (record peers { coming = Lose number ∷ events }) (record peers { coming = events }) refl
          (ap (λ n. is_connected (without (outside_of (log ++ Polled now ∷ [])).links n) pt) same ∙ connected-removed (outside_of (log ++ Polled now ∷ [])).links pt) refl (polled (Lose number) f)
      cut number false e f =
          quiet-follows pt setting (log ++ Polled now ∷ []) (Lost number) (record peers { coming = Lose number ∷ events }) (record peers { coming = events })
          (cut-leaves pt (log ++ Polled now ∷ []) (Lost number) number refl refl) refl
          (λ connected. (sym (ap (λ test. if test then [] else coming_bytes pt events) e), sym (ap (λ test. if test then true else comes_cut pt events) e))) (polled (Lose number) f)

      of-till : (first : Event) (turn : Turn) → exchange_at pt turn ≡ [] → (outside_after (outside_of (log ++ Polled now ∷ [])) turn).links ≡ (outside_of (log ++ Polled now ∷ [])).links → coming_bytes pt (first ∷ events) ≡ coming_bytes pt events → comes_cut pt (first ∷ events) ≡ comes_cut pt events
          → Follows pt setting log (record peers { coming = first ∷ events }) → Follows pt setting ((log ++ Polled now ∷ []) ++ turn ∷ []) (record peers { coming = events })
      of-till first turn no_exchange links bytes_are cut_is f =
          quiet-follows pt setting (log ++ Polled now ∷ []) turn (record peers { coming = first ∷ events }) (record peers { coming = events }) (alone (log ++ Polled now ∷ []) turn no_exchange links) refl (λ connected. (sym bytes_are, sym cut_is)) (polled first f)

      by_event : (event : Event) → applies (outside_of log) event ≡ true → Follows pt setting log (record peers { coming = event ∷ events }) → Follows pt setting (log ++ Polled now ∷ brings event) (record peers { coming = events })
      by_event (Open till) there f = both (Opened till) (of-till (Open till) (Opened till) refl refl refl refl f)
      by_event (Close till) there f = both (Closed till) (of-till (Close till) (Closed till) refl refl refl refl f)
      by_event (FromTill till bytes) there f = both (HeardTill till bytes) (of-till (FromTill till bytes) (HeardTill till bytes) refl refl refl refl f)
      by_event (FromPt number bytes) there f = both (HeardPt number bytes) (heard number bytes (number == pt) refl there f)
      by_event (Lose number) there f = both (Lost number) (cut number (number == pt) refl f)
      by_event Tick there f = quiet-follows pt setting log (Polled now) (record peers { coming = Tick ∷ events }) (record peers { coming = events }) (alone log (Polled now) refl refl) refl (λ connected. (refl, refl)) f

  coming-goes : (log : List Turn) (p : Play) (events : List Event) → p.off ≡ None → Follows pt setting log (record p.peers { coming = events }) → AreOfTills p.lines → IsCalm p.hazard → PollGoes log (met_coming (outside_of log) events p)
  coming-goes log p [] off f of calm = met-goes log (then_coming [] p) p.lines off of (record { follows = f; lines = of; calm = record { opens = calm.opens; write = calm.write; sync = calm.sync; lengths = calm.lengths; read = calm.read } })
  coming-goes log p (event ∷ events) off f of calm = by_test (applies (outside_of log) event) refl (λ away. coming-goes log p events off (lost-follows log event events p.peers away f) of calm)
    where
      by_test : (test : Bool) → applies (outside_of log) event ≡ test → (applies (outside_of log) event ≡ false → PollGoes log (met_coming (outside_of log) events p)) → PollGoes log (if test then (coming_here p events event) else met_coming (outside_of log) events p)
      by_test true there later =
          let g = brought-follows log event events p.peers there p.moment f in
          lit log (coming_here p events event) off (record { follows = g; lines = of; calm = record { opens = calm.opens; write = calm.write; sync = calm.sync; lengths = calm.lengths; read = calm.read } })
      by_test false away later = later away

  -- ---- each call

  call-goes : (log : List Turn) (p : Play) (call : SiteCall) → Idle p → Goes log p → Goes (log ++ call_turns (outside_of log) p call) (place_after (outside_of log) p call)
  call-goes log p (OpenCall setup) idle g = open-goes log p setup g
  call-goes log p PollCall idle g = coming-goes log p p.peers.coming idle.power g.follows g.lines g.calm
  call-goes log p (SendTillCall till bytes) idle g = till-goes log p till (sent_of (takes_most p.hazard.fail_tills till) bytes) (is_some (takes_most p.hazard.fail_tills till)) g
  call-goes log p (SendPtCall number bytes) idle g = pt-goes log p number (sent_of (takes_most p.hazard.fail_pts number) bytes) (is_some (takes_most p.hazard.fail_pts number)) g
  call-goes log p (LinkCall number) idle g = link-goes log p number (is_failing p.hazard.fail_links number) g
  call-goes log p (CutTillCall till) idle g = counted-goes (log ++ CutTill till ∷ []) p (still-goes log (CutTill till) p p (alone log (CutTill till) refl refl) refl refl g.calm g)
  call-goes log p (CutPtCall number) idle g = counted-goes (log ++ CutPt number ∷ []) p (still-goes log (CutPt number) p p (cut-leaves pt log (CutPt number) number refl refl) refl refl g.calm g)
  call-goes log p LengthCall idle g = subst (λ test. Goes (log ++ (if test then DiskFailed ∷ [] else [])) (play_from (outside_of log) Length p (if test then DiskFailed ∷ [] else []))) (sym g.calm.lengths) (no-turn log p g)
  call-goes log p (ReadCall offset size) idle g = subst (λ test. Goes (log ++ (if test then DiskFailed ∷ [] else [])) (play_from (outside_of log) Read p (if test then DiskFailed ∷ [] else []))) (sym g.calm.read) (no-turn log p g)
  call-goes log p (WriteCall offset bytes) idle g = write-goes log p offset bytes g
  call-goes log p SyncCall idle g =
      subst (λ test. Goes (log ++ (if test then DiskFailed ∷ [] else Synced ∷ [])) (play_from (outside_of log) Sync p (if test then DiskFailed ∷ [] else Synced ∷ []))) (sym g.calm.sync)
      (counted-goes (log ++ Synced ∷ []) p (still-goes log Synced p p (alone log Synced refl refl) refl refl g.calm g))

  -- the power is there again
  crash-goes : (log : List Turn) (p : Play) (file : List ℕ) → Goes log p → Goes (log ++ Crash file ∷ []) (restarted p)
  crash-goes log p file g = record {
    follows = unlinked-follows pt setting log (Crash file) p.peers (peers_after_crash p.peers) refl refl refl g.follows;
    lines = g.lines;
    calm = record { opens = g.calm.opens; write = refl; sync = refl; lengths = g.calm.lengths; read = g.calm.read };
  }

  -- so it is after any steps
  pub steps-go : (past : List Turn) (p : Play) (steps : List SiteStep) (turns : List Turn) (after : Play) → are_scripted steps ≡ true → LeadsBy past p steps turns after → Goes past p → Goes (past ++ turns) after
  steps-go past p [] turns after scripted leads g = subst (λ l. Goes (past ++ l) after) (sym leads.0) (no-turn past after (subst (Goes past) leads.1 g))
  steps-go past p (Made call ∷ steps) turns after scripted (made, later, fits, turns_are, leads) g =
      let here : Goes (past ++ made) (place_after (outside_of past) p call) = subst (λ l. Goes (past ++ l) (place_after (outside_of past) p call)) (sym fits.1) (call-goes past p call fits.0 g) in
      subst (λ l. Goes l after) (append_assoc past made later ∙ ap (λ l. past ++ l) (sym turns_are)) (steps-go (past ++ made) (place_after (outside_of past) p call) steps later after scripted leads here)
  steps-go past p (PowerBack ∷ steps) turns after scripted (kind, later, off, turns_are, leads) g =
      subst (λ l. Goes l after) (append_assoc past (Crash (crash_file kind (outside_of past)) ∷ []) later ∙ ap (λ l. past ++ l) (sym turns_are))
      (steps-go (past ++ Crash (crash_file kind (outside_of past)) ∷ []) (restarted p) steps later after scripted leads (crash-goes past p (crash_file kind (outside_of past)) g))
  steps-go past p (StopAfter calls kind ∷ steps) turns after scripted leads g = absurd (let n : false ≡ true = scripted in cc)
  steps-go past p (Holding file ∷ steps) turns after scripted leads g = absurd (let n : false ≡ true = scripted in cc)
