-- How far a played terminal is, and what is still to come of it, by what a log does on its connection.
use Rattle.std.proofs.Common.{◌≡◌, ◌≢◌, ℕ, zero, suc, Bool, true, false, not, List, [], ◌∷◌, ◌++◌, reverse, length, refl, sym, ◌∙◌, ap, subst, append-nil, append_assoc, inl, inr}
use Rattle.std.specs.Prelude.{◌⊎◌, ◌==◌, Option, Some, None, filter, if◌then◌else◌, nat_le, slice_get, slice_set}
use Rattle.std.specs.List.{flat_map}
use Rattle.std.proofs.lemmas.Bool.Decides.{Decides-eqb}
use Rattle.std.proofs.lemmas.Grind.{flat_map-append}
use Rattle.std.proofs.lemmas.List.{reverse-append}
use Rattle.gw_bytes.specs.Bytes.{IsPrefix}
use Rattle.gw_site.specs.Outside.{Outside, hears, is_connected, outside_after, outside_of, without}
use Rattle.gw_site.proofs.OutsideLemmas.{outside_of_more}
use Rattle.gw_site.specs.declared.turn.Turn.{Turn}
use Rattle.gw_site.specs.declared.turn.Turn.TheVariants.{HeardPt, Linked, SentPt}
use Rattle.pt_core.specs.Exchange.{Exchange, Links, Sends, Hears, HearsSent, heard_on_link, met_of}
use Rattle.pt_core.specs.History.{Setting, Met, NewLink, Chunk, sent_on_link, terminal_after}
use Rattle.pt_core.specs.Serving.{Served, TerminalValue, heard_by_terminal, next_terminal}
use Rattle.gw_script.specs.site.Peers.{Peers, bytes_coming, coming_after, coming_of, cut_coming, heard_by_peer, is_event_of, linked_to_peer, peers_after_bytes, peers_after_link}
use Rattle.gw_script.specs.site.ScriptLine.{Event, Open, Close, FromTill, FromPt, Lose, Tick}
use Rattle.gw_rules.proofs.LinkedLemmas.{connected-other, connected-removed, connected-old}
use Rattle.gw_drill.specs.DrillBooks.{exchange_at, exchanges_at, where_number}
use Rattle.gw_drill.proofs.ExchangeLemmas.{one-reversed}

-- ---- lists

get-set-same : {A : Type 0} (list : List A) (at : ℕ) (old new : A) → slice_get list at ≡ Some old → slice_get (slice_set list at new) at ≡ Some new
get-set-same [] at old new found = absurd (let n : None ≡ Some old = found in cc)
get-set-same (first ∷ list) zero old new found = refl
get-set-same (first ∷ list) (suc at) old new found = get-set-same list at old new found

get-set-other : {A : Type 0} (list : List A) (at other : ℕ) (new : A) → at ≢ other → slice_get (slice_set list other new) at ≡ slice_get list at
get-set-other [] at other new differ = refl
get-set-other (first ∷ list) zero zero new differ = absurd (differ refl)
get-set-other (first ∷ list) zero (suc other) new differ = refl
get-set-other (first ∷ list) (suc at) zero new differ = refl
get-set-other (first ∷ list) (suc at) (suc other) new differ = get-set-other list at other new (λ same. differ (ap suc same))

-- one turn more
pub exchanges-more : (number : ℕ) (log : List Turn) (turn : Turn) → exchanges_at number (log ++ turn ∷ []) ≡ exchange_at number turn ++ exchanges_at number log
exchanges-more number log turn =
    ap reverse (flat_map-append (exchange_at number) log (turn ∷ []))
    ∙ ap (λ l. reverse (flat_map (exchange_at number) log ++ l)) (append-nil (exchange_at number turn))
    ∙ reverse-append (flat_map (exchange_at number) log) (exchange_at number turn)
    ∙ ap (λ l. l ++ exchanges_at number log) (one-reversed number turn)

-- ---- numbers

differs : (a b : ℕ) → (a == b) ≡ false → a ≢ b
differs a b e same = absurd (let n : true ≡ false = sym ((Decides-eqb a b).1 same) ∙ e in cc)

is-same : (a b : ℕ) → (a == b) ≡ true → a ≡ b
is-same a b e = (Decides-eqb a b).0 e

-- ---- what is to come of one terminal

module _ (pt : ℕ) where
  -- its bytes, up to its first cut
  abbrev pub coming_bytes : List Event → List ℕ
  coming_bytes [] = []
  coming_bytes (Open till ∷ events) = coming_bytes events
  coming_bytes (Close till ∷ events) = coming_bytes events
  coming_bytes (FromTill till bytes ∷ events) = coming_bytes events
  coming_bytes (FromPt other bytes ∷ events) = if other == pt then bytes ++ coming_bytes events else coming_bytes events
  coming_bytes (Lose other ∷ events) = if other == pt then [] else coming_bytes events
  coming_bytes (Tick ∷ events) = coming_bytes events

  -- it cuts
  abbrev pub comes_cut : List Event → Bool
  comes_cut [] = false
  comes_cut (Open till ∷ events) = comes_cut events
  comes_cut (Close till ∷ events) = comes_cut events
  comes_cut (FromTill till bytes ∷ events) = comes_cut events
  comes_cut (FromPt other bytes ∷ events) = comes_cut events
  comes_cut (Lose other ∷ events) = if other == pt then true else comes_cut events
  comes_cut (Tick ∷ events) = comes_cut events

  -- more comes
  pub bytes-then : (events more : List Event) → coming_bytes (events ++ more) ≡ (if comes_cut events then coming_bytes events else coming_bytes events ++ coming_bytes more)
  bytes-then [] more = refl
  bytes-then (Open till ∷ events) more = bytes-then events more
  bytes-then (Close till ∷ events) more = bytes-then events more
  bytes-then (FromTill till bytes ∷ events) more = bytes-then events more
  bytes-then (Tick ∷ events) more = bytes-then events more
  bytes-then (FromPt other bytes ∷ events) more = by_test (other == pt) (comes_cut events) (bytes-then events more)
    where
      by_test : (own cut : Bool) → coming_bytes (events ++ more) ≡ (if cut then coming_bytes events else coming_bytes events ++ coming_bytes more)
          → (if own then bytes ++ coming_bytes (events ++ more) else coming_bytes (events ++ more)) ≡ (if cut then (if own then bytes ++ coming_bytes events else coming_bytes events) else (if own then bytes ++ coming_bytes events else coming_bytes events) ++ coming_bytes more)
      by_test true true e = ap (λ l. bytes ++ l) e
      by_test true false e = ap (λ l. bytes ++ l) e ∙ sym (append_assoc bytes (coming_bytes events) (coming_bytes more))
      by_test false true e = e
      by_test false false e = e
  bytes-then (Lose other ∷ events) more = by_test (other == pt) (comes_cut events) (bytes-then events more)
    where
      by_test : (own cut : Bool) → coming_bytes (events ++ more) ≡ (if cut then coming_bytes events else coming_bytes events ++ coming_bytes more)
          → (if own then [] else coming_bytes (events ++ more)) ≡ (if (if own then true else cut) then (if own then [] else coming_bytes events) else (if own then [] else coming_bytes events) ++ coming_bytes more)
      by_test true cut e = refl
      by_test false true e = e
      by_test false false e = e

  pub cut-then : (events more : List Event) → comes_cut (events ++ more) ≡ (if comes_cut events then true else comes_cut more)
  cut-then [] more = refl
  cut-then (Open till ∷ events) more = cut-then events more
  cut-then (Close till ∷ events) more = cut-then events more
  cut-then (FromTill till bytes ∷ events) more = cut-then events more
  cut-then (FromPt other bytes ∷ events) more = cut-then events more
  cut-then (Tick ∷ events) more = cut-then events more
  cut-then (Lose other ∷ events) more = by_test (other == pt) (comes_cut events) (cut-then events more)
    where
      by_test : (own cut : Bool) → comes_cut (events ++ more) ≡ (if cut then true else comes_cut more) → (if own then true else comes_cut (events ++ more)) ≡ (if (if own then true else cut) then true else comes_cut more)
      by_test true cut e = refl
      by_test false cut e = e

  -- nothing of it is to come
  pub record ComesNone (events : List Event) : Type 0 where
    pub bytes : coming_bytes events ≡ []
    pub cut : comes_cut events ≡ false

  none-of-bytes : (other : ℕ) (bytes : List ℕ) → (other == pt) ≡ false → ComesNone (bytes_coming other bytes)
  none-of-bytes other [] e = record { bytes = refl; cut = refl }
  none-of-bytes other (byte ∷ bytes) e = record { bytes = ap (λ test. if test then (byte ∷ bytes) ++ [] else []) e; cut = refl }

  abbrev no_bytes : List ℕ
  no_bytes = []

  none-of-cut : (other : ℕ) (cut : Bool) → (other == pt) ≡ false → ComesNone (cut_coming other cut)
  none-of-cut other true e = record { bytes = ap (λ test. if test then no_bytes else no_bytes) e; cut = ap (λ test. if test then true else false) e }
  none-of-cut other false e = record { bytes = refl; cut = refl }

  none-then : (events more : List Event) → ComesNone events → ComesNone more → ComesNone (events ++ more)
  none-then events more h k = record {
    bytes = bytes-then events more ∙ ap (λ cut. if cut then coming_bytes events else coming_bytes events ++ coming_bytes more) h.cut ∙ ap (λ l. l ++ coming_bytes more) h.bytes ∙ k.bytes;
    cut = cut-then events more ∙ ap (λ cut. if cut then true else comes_cut more) h.cut ∙ k.cut;
  }

  -- of another terminal
  none-of : (other : ℕ) (bytes : List ℕ) (cut : Bool) → (other == pt) ≡ false → ComesNone (coming_of other bytes cut)
  none-of other bytes cut e = by_test (nat_le (length bytes) 4096)
    where
      by_test : (test : Bool) → ComesNone (if test then bytes_coming other bytes ++ cut_coming other cut else Lose other ∷ [])
      by_test true = none-then (bytes_coming other bytes) (cut_coming other cut) (none-of-bytes other bytes e) (none-of-cut other cut e)
      by_test false = none-of-cut other true e

  -- its own
  own-bytes : (bytes : List ℕ) (cut : Bool) → (coming_bytes (coming_of pt bytes cut) ≡ bytes) ⊎ ((coming_bytes (coming_of pt bytes cut) ≡ []) × (comes_cut (coming_of pt bytes cut) ≡ true))
  own-bytes bytes cut = by_test (nat_le (length bytes) 4096)
    where
      same : (pt == pt) ≡ true
      same = (Decides-eqb pt pt).1 refl

      whole : (bytes : List ℕ) → coming_bytes (bytes_coming pt bytes) ≡ bytes
      whole [] = refl
      whole (byte ∷ bytes) = ap (λ test. if test then (byte ∷ bytes) ++ [] else []) same ∙ append-nil (byte ∷ bytes)

      uncut : (bytes : List ℕ) → comes_cut (bytes_coming pt bytes) ≡ false
      uncut [] = refl
      uncut (byte ∷ bytes) = refl

      no-bytes : (cut : Bool) → coming_bytes (cut_coming pt cut) ≡ []
      no-bytes true = ap (λ test. if test then [] else []) same
      no-bytes false = refl

      by_test : (test : Bool) → (coming_bytes (if test then bytes_coming pt bytes ++ cut_coming pt cut else Lose pt ∷ []) ≡ bytes)
          ⊎ ((coming_bytes (if test then bytes_coming pt bytes ++ cut_coming pt cut else Lose pt ∷ []) ≡ []) × (comes_cut (if test then bytes_coming pt bytes ++ cut_coming pt cut else Lose pt ∷ []) ≡ true))
      by_test true = inl (
          bytes-then (bytes_coming pt bytes) (cut_coming pt cut)
          ∙ ap (λ test. if test then coming_bytes (bytes_coming pt bytes) else coming_bytes (bytes_coming pt bytes) ++ coming_bytes (cut_coming pt cut)) (uncut bytes)
          ∙ ap (λ l. coming_bytes (bytes_coming pt bytes) ++ l) (no-bytes cut)
          ∙ append-nil (coming_bytes (bytes_coming pt bytes))
          ∙ whole bytes)
      by_test false = inr (ap (λ test. if test then [] else []) same, ap (λ test. if test then true else false) same)

  -- ---- what is on the way

  -- what was heard on the link and is to come on it is what was sent on it; where the terminal's cut is to come it is a prefix of that
  pub record OnTheWay (setting : Setting) (exchanges : List Exchange) (coming : List Event) : Type 0 where
    pub prefix : IsPrefix (heard_on_link exchanges ++ coming_bytes coming) (sent_on_link setting (met_of exchanges))
    pub whole : comes_cut coming ≡ false → heard_on_link exchanges ++ coming_bytes coming ≡ sent_on_link setting (met_of exchanges)

  -- so it is where the same comes
  pub same-way : (setting : Setting) (exchanges : List Exchange) (old new : List Event) → coming_bytes new ≡ coming_bytes old → comes_cut new ≡ comes_cut old → OnTheWay setting exchanges old → OnTheWay setting exchanges new
  same-way setting exchanges old new bytes cut way = record {
    prefix = subst (λ l. IsPrefix (heard_on_link exchanges ++ l) (sent_on_link setting (met_of exchanges))) (sym bytes) way.prefix;
    whole = λ uncut. ap (λ l. heard_on_link exchanges ++ l) bytes ∙ way.whole (sym cut ∙ uncut);
  }

  -- where nothing more of it comes
  pub way-and-none : (setting : Setting) (exchanges : List Exchange) (coming more : List Event) → ComesNone more → OnTheWay setting exchanges coming → OnTheWay setting exchanges (coming ++ more)
  way-and-none setting exchanges coming more none way = same-way setting exchanges coming (coming ++ more) (bytes (comes_cut coming)) (cut (comes_cut coming)) way
    where
      bytes : (test : Bool) → coming_bytes (coming ++ more) ≡ coming_bytes coming
      bytes test = bytes-then coming more ∙ by_cut (comes_cut coming)
        where
          by_cut : (cut : Bool) → (if cut then coming_bytes coming else coming_bytes coming ++ coming_bytes more) ≡ coming_bytes coming
          by_cut true = refl
          by_cut false = ap (λ l. coming_bytes coming ++ l) none.bytes ∙ append-nil (coming_bytes coming)

      cut : (test : Bool) → comes_cut (coming ++ more) ≡ comes_cut coming
      cut test = cut-then coming more ∙ by_cut (comes_cut coming)
        where
          by_cut : (cut : Bool) → (if cut then true else comes_cut more) ≡ cut
          by_cut true = refl
          by_cut false = none.cut

  -- where it is sent bytes, and what it sends for them comes
  pub way-sent : (setting : Setting) (exchanges : List Exchange) (bytes : List ℕ) (coming : List Event) (done : Served) → sent_on_link setting (Chunk bytes ∷ met_of exchanges) ≡ sent_on_link setting (met_of exchanges) ++ done.bytes
      → OnTheWay setting exchanges coming → OnTheWay setting (Sends bytes ∷ exchanges) (coming ++ coming_of pt done.bytes done.cut)
  way-sent setting exchanges bytes coming done sent way = by_cut (comes_cut coming) refl
    where
      by_cut : (cut : Bool) → comes_cut coming ≡ cut → OnTheWay setting (Sends bytes ∷ exchanges) (coming ++ (coming_of pt done.bytes done.cut))
      by_cut true e =
          let bytes_are : coming_bytes (coming ++ (coming_of pt done.bytes done.cut)) ≡ coming_bytes coming = bytes-then coming (coming_of pt done.bytes done.cut) ∙ ap (λ cut. if cut then coming_bytes coming else coming_bytes coming ++ coming_bytes (coming_of pt done.bytes done.cut)) e in
          let cut_is : comes_cut (coming ++ (coming_of pt done.bytes done.cut)) ≡ true = cut-then coming (coming_of pt done.bytes done.cut) ∙ ap (λ cut. if cut then true else comes_cut (coming_of pt done.bytes done.cut)) e in
          record {
            prefix = (way.prefix.0 ++ done.bytes, sent ∙ ap (λ l. l ++ done.bytes) way.prefix.1 ∙ append_assoc ((heard_on_link exchanges) ++ coming_bytes coming) way.prefix.0 done.bytes ∙ ap (λ l. ((heard_on_link exchanges) ++ l) ++ (way.prefix.0 ++ done.bytes)) (sym bytes_are));
            whole = λ uncut. absurd (let n : true ≡ false = sym cut_is ∙ uncut in cc);
          }
      by_cut false e =
          let bytes_are : coming_bytes (coming ++ (coming_of pt done.bytes done.cut)) ≡ coming_bytes coming ++ coming_bytes (coming_of pt done.bytes done.cut) = bytes-then coming (coming_of pt done.bytes done.cut) ∙ ap (λ cut. if cut then coming_bytes coming else coming_bytes coming ++ coming_bytes (coming_of pt done.bytes done.cut)) e in
          let cut_is : comes_cut (coming ++ (coming_of pt done.bytes done.cut)) ≡ comes_cut (coming_of pt done.bytes done.cut) = cut-then coming (coming_of pt done.bytes done.cut) ∙ ap (λ cut. if cut then true else comes_cut (coming_of pt done.bytes done.cut)) e in
          let all : (heard_on_link exchanges) ++ coming_bytes coming ≡ (sent_on_link setting (met_of exchanges)) = way.whole e in
          elim (own-bytes done.bytes done.cut) [
            | inl own ↦ (
                let is : (heard_on_link exchanges) ++ coming_bytes (coming ++ (coming_of pt done.bytes done.cut)) ≡ sent_on_link setting (Chunk bytes ∷ met_of exchanges) =
                ap (λ l. (heard_on_link exchanges) ++ l) bytes_are ∙ sym (append_assoc (heard_on_link exchanges) (coming_bytes coming) (coming_bytes (coming_of pt done.bytes done.cut))) ∙ ap (λ l. l ++ coming_bytes (coming_of pt done.bytes done.cut)) all ∙ ap (λ l. (sent_on_link setting (met_of exchanges)) ++ l) own ∙ sym sent in
                record { prefix = ([], sym is ∙ sym (append-nil ((heard_on_link exchanges) ++ coming_bytes (coming ++ (coming_of pt done.bytes done.cut))))); whole = λ uncut. is })
            | inr lost ↦ (
                let is : (heard_on_link exchanges) ++ coming_bytes (coming ++ (coming_of pt done.bytes done.cut)) ≡ (sent_on_link setting (met_of exchanges)) = ap (λ l. (heard_on_link exchanges) ++ l) (bytes_are ∙ ap (λ l. coming_bytes coming ++ l) lost.0 ∙ append-nil (coming_bytes coming)) ∙ all in
                record { prefix = (done.bytes, sent ∙ ap (λ l. l ++ done.bytes) (sym is)); whole = λ uncut. absurd (let n : true ≡ false = sym (cut_is ∙ lost.1) ∙ uncut in cc) })
          ]

  -- where the first that comes is heard
  pub way-heard : (setting : Setting) (exchanges : List Exchange) (bytes : List ℕ) (coming : List Event) → OnTheWay setting exchanges (FromPt pt bytes ∷ coming) → OnTheWay setting (Hears bytes ∷ exchanges) coming × IsPrefix (heard_on_link exchanges ++ bytes) (sent_on_link setting (met_of exchanges))
  way-heard setting exchanges bytes coming way =
      let first : coming_bytes (FromPt pt bytes ∷ coming) ≡ bytes ++ coming_bytes coming = ap (λ test. if test then bytes ++ coming_bytes coming else coming_bytes coming) ((Decides-eqb pt pt).1 refl) in
      let is : heard_on_link exchanges ++ coming_bytes (FromPt pt bytes ∷ coming) ≡ (heard_on_link exchanges ++ bytes) ++ coming_bytes coming = ap (λ l. heard_on_link exchanges ++ l) first ∙ sym (append_assoc (heard_on_link exchanges) bytes (coming_bytes coming)) in (
        record {
          prefix = subst (λ l. IsPrefix l (sent_on_link setting (met_of exchanges))) is way.prefix;
          whole = λ uncut. sym is ∙ way.whole uncut;
        },
        (coming_bytes coming ++ way.prefix.0, way.prefix.1 ∙ ap (λ l. l ++ way.prefix.0) is ∙ append_assoc (heard_on_link exchanges ++ bytes) (coming_bytes coming) way.prefix.0),
      )

  -- ---- along a log

  -- what these played terminals are, and what comes of them, is that of this log for the terminal of this number
  pub record Follows (setting : Setting) (log : List Turn) (peers : Peers) : Type 0 where
    pub terminal : slice_get peers.terminals pt ≡ Some (terminal_after setting (met_of (exchanges_at pt log)))
    pub hears : HearsSent setting (exchanges_at pt log)
    pub way : is_connected (outside_of log).links pt ≡ true → OnTheWay setting (exchanges_at pt log) peers.coming

  -- by what is done on its connection
  follows-by : (setting : Setting) (log : List Turn) (exchanges : List Exchange) (peers : Peers) → exchanges_at pt log ≡ exchanges → slice_get peers.terminals pt ≡ Some (terminal_after setting (met_of exchanges)) → HearsSent setting exchanges
      → (is_connected (outside_of log).links pt ≡ true → OnTheWay setting exchanges peers.coming) → Follows setting log peers
  follows-by setting log exchanges peers e terminal hears way = record {
    terminal = terminal ∙ ap (λ l. Some (terminal_after setting (met_of l))) (sym e);
    hears = subst (HearsSent setting) (sym e) hears;
    way = λ connected. subst (λ l. OnTheWay setting l peers.coming) (sym e) (way connected);
  }

  -- a turn after which it is connected only where it was
  pub record LeavesLink (log : List Turn) (turn : Turn) : Type 0 where
    pub none : exchange_at pt turn ≡ []
    pub links : is_connected (outside_after (outside_of log) turn).links pt ≡ true → is_connected (outside_of log).links pt ≡ true

  -- such a turn does nothing to it
  pub quiet-follows : (setting : Setting) (log : List Turn) (turn : Turn) (old new : Peers) → LeavesLink log turn → new.terminals ≡ old.terminals → (is_connected (outside_of log).links pt ≡ true → (coming_bytes new.coming ≡ coming_bytes old.coming) × (comes_cut new.coming ≡ comes_cut old.coming))
      → Follows setting log old → Follows setting (log ++ turn ∷ []) new
  quiet-follows setting log turn old new leaves terminals coming f =
      let same : exchanges_at pt (log ++ turn ∷ []) ≡ exchanges_at pt log = exchanges-more pt log turn ∙ ap (λ l. l ++ exchanges_at pt log) leaves.none in
      follows-by setting (log ++ turn ∷ []) (exchanges_at pt log) new same (ap (λ l. slice_get l pt) terminals ∙ f.terminal) f.hears
      (λ connected.
      let was = leaves.links (sym (ap (λ (o : Outside). is_connected o.links pt) (outside_of_more log turn)) ∙ connected) in
      let comes = coming was in
      same-way setting (exchanges_at pt log) old.coming new.coming comes.0 comes.1 (f.way was))

  -- the laws of what is met
  pub record MetLaws (setting : Setting) : Type 0 where
    pub bytes : (met : List Met) (bytes : List ℕ) → next_terminal (terminal_after setting met) bytes ≡ terminal_after setting (Chunk bytes ∷ met)
    pub sent : (met : List Met) (bytes : List ℕ) → sent_on_link setting (Chunk bytes ∷ met) ≡ sent_on_link setting met ++ (heard_by_terminal (terminal_after setting met) (terminal_after setting met).connection bytes).bytes
    pub link : (met : List Met) → record (terminal_after setting met) { connection = Some [] } ≡ terminal_after setting (NewLink ∷ met)

  own-exchange : (log : List Turn) (turn : Turn) (exchange : Exchange) → exchange_at pt turn ≡ exchange ∷ [] → exchanges_at pt (log ++ turn ∷ []) ≡ exchange ∷ exchanges_at pt log
  own-exchange log turn exchange e = exchanges-more pt log turn ∙ ap (λ l. l ++ exchanges_at pt log) e

  other-exchange : (number : ℕ) (exchange : Exchange) → (number == pt) ≡ false → where_number pt number exchange ≡ []
  other-exchange number exchange e = ap (λ test. if test then exchange ∷ [] else []) e

  own-number : where_number pt pt ≡ (λ (exchange : Exchange). exchange ∷ [])
  own-number = ap (λ test. λ (exchange : Exchange). if test then exchange ∷ [] else []) ((Decides-eqb pt pt).1 refl)

  -- it is sent bytes
  sent-own : (setting : Setting) (laws : MetLaws setting) (log : List Turn) (bytes : List ℕ) (sent : Bool) (peers : Peers) → Follows setting log peers → Follows setting (log ++ SentPt pt bytes sent ∷ []) (peers_after_bytes pt bytes peers)
  sent-own setting laws log bytes sent peers f =
      let exchanges = exchanges_at pt log in
      let terminal : TerminalValue = terminal_after setting (met_of exchanges) in
      let done : Served = heard_by_terminal terminal terminal.connection bytes in
      subst (λ found. Follows setting (log ++ SentPt pt bytes sent ∷ []) (heard_by_peer found pt bytes peers)) (sym f.terminal)
      (follows-by setting (log ++ SentPt pt bytes sent ∷ []) (Sends bytes ∷ exchanges) (heard_by_peer (Some terminal) pt bytes peers) (own-exchange log (SentPt pt bytes sent) (Sends bytes) (ap (λ f. f (Sends bytes)) own-number))
      (get-set-same peers.terminals pt terminal (next_terminal terminal bytes) f.terminal ∙ ap Some (laws.bytes (met_of exchanges) bytes))
      f.hears
      (λ connected. way-sent setting exchanges bytes peers.coming done (laws.sent (met_of exchanges) bytes) (f.way (sym (ap (λ (o : Outside). is_connected o.links pt) (outside_of_more log (SentPt pt bytes sent))) ∙ connected))))

  sent-other : (setting : Setting) (log : List Turn) (number : ℕ) (bytes : List ℕ) (sent : Bool) (peers : Peers) → (number == pt) ≡ false → Follows setting log peers → Follows setting (log ++ SentPt number bytes sent ∷ []) (peers_after_bytes number bytes peers)
  sent-other setting log number bytes sent peers e f = by_peer (slice_get peers.terminals number)
    where
      leaves : LeavesLink log (SentPt number bytes sent)
      leaves = record { none = other-exchange number (Sends bytes) e; links = λ connected. connected }

      by_peer : (found : Option TerminalValue) → Follows setting (log ++ SentPt number bytes sent ∷ []) (heard_by_peer found number bytes peers)
      by_peer None = quiet-follows setting log (SentPt number bytes sent) peers peers leaves refl (λ connected. (refl, refl)) f
      by_peer (Some terminal) =
          let done = heard_by_terminal terminal terminal.connection bytes in
          let same : exchanges_at pt (log ++ SentPt number bytes sent ∷ []) ≡ exchanges_at pt log = exchanges-more pt log (SentPt number bytes sent) ∙ ap (λ l. l ++ exchanges_at pt log) leaves.none in
          follows-by setting (log ++ SentPt number bytes sent ∷ []) (exchanges_at pt log) (heard_by_peer (Some terminal) number bytes peers) same
          (get-set-other peers.terminals pt number (next_terminal terminal bytes) (λ is. differs number pt e (sym is)) ∙ f.terminal) f.hears
          (λ connected. way-and-none setting (exchanges_at pt log) peers.coming (coming_after number done) (none-of number done.bytes done.cut e)
          (f.way (sym (ap (λ (o : Outside). is_connected o.links pt) (outside_of_more log (SentPt number bytes sent))) ∙ connected)))

  -- a terminal is sent bytes
  pub sent-follows : (setting : Setting) (laws : MetLaws setting) (log : List Turn) (number : ℕ) (bytes : List ℕ) (sent : Bool) (peers : Peers) → Follows setting log peers → Follows setting (log ++ SentPt number bytes sent ∷ []) (peers_after_bytes number bytes peers)
  sent-follows setting laws log number bytes sent peers f = by_test (number == pt) refl
    where
      by_test : (test : Bool) → (number == pt) ≡ test → Follows setting (log ++ SentPt number bytes sent ∷ []) (peers_after_bytes number bytes peers)
      by_test true e = subst (λ n. Follows setting (log ++ SentPt n bytes sent ∷ []) (peers_after_bytes n bytes peers)) (sym (is-same number pt e)) (sent-own setting laws log bytes sent peers f)
      by_test false e = sent-other setting log number bytes sent peers e f

  -- what is left of it once the terminal of a number is linked
  abbrev left_for : ℕ → List Event → List Event
  left_for number events = filter (λ event. not (is_event_of number event)) events

  -- nothing of its own
  none-left : (events : List Event) → ComesNone (left_for pt events)
  none-left [] = record { bytes = refl; cut = refl }
  none-left (Open till ∷ events) = let h = none-left events in record { bytes = h.bytes; cut = h.cut }
  none-left (Close till ∷ events) = let h = none-left events in record { bytes = h.bytes; cut = h.cut }
  none-left (FromTill till bytes ∷ events) = let h = none-left events in record { bytes = h.bytes; cut = h.cut }
  none-left (Tick ∷ events) = let h = none-left events in record { bytes = h.bytes; cut = h.cut }
  none-left (FromPt other bytes ∷ events) = by_test (other == pt) refl (none-left events)
    where
      by_test : (test : Bool) → (other == pt) ≡ test → ComesNone (left_for pt events) → ComesNone (if not test then FromPt other bytes ∷ left_for pt events else left_for pt events)
      by_test true e h = h
      by_test false e h = record { bytes = ap (λ test. if test then bytes ++ coming_bytes (left_for pt events) else coming_bytes (left_for pt events)) e ∙ h.bytes; cut = h.cut }
  none-left (Lose other ∷ events) = by_test (other == pt) refl (none-left events)
    where
      by_test : (test : Bool) → (other == pt) ≡ test → ComesNone (left_for pt events) → ComesNone (if not test then Lose other ∷ left_for pt events else left_for pt events)
      by_test true e h = h
      by_test false e h = record { bytes = ap (λ test. if test then [] else coming_bytes (left_for pt events)) e ∙ h.bytes; cut = ap (λ test. if test then true else comes_cut (left_for pt events)) e ∙ h.cut }

  -- what is left where another is linked
  others-left : (number : ℕ) (events : List Event) → (number == pt) ≡ false → (coming_bytes (filter (λ event. not (is_event_of number event)) events) ≡ coming_bytes events) × (comes_cut (filter (λ event. not (is_event_of number event)) events) ≡ comes_cut events)
  others-left number [] e = (refl, refl)
  others-left number (Open till ∷ events) e = others-left number events e
  others-left number (Close till ∷ events) e = others-left number events e
  others-left number (FromTill till bytes ∷ events) e = others-left number events e
  others-left number (Tick ∷ events) e = others-left number events e
  others-left number (FromPt other bytes ∷ events) e = by_test (other == number) refl (others-left number events e)
    where
      by_test : (test : Bool) → (other == number) ≡ test → (coming_bytes (left_for number events) ≡ coming_bytes events) × (comes_cut (left_for number events) ≡ comes_cut events) → (coming_bytes (if not test then FromPt other bytes ∷ left_for number events else left_for number events) ≡ coming_bytes (FromPt other bytes ∷ events)) × (comes_cut (if not test then FromPt other bytes ∷ left_for number events else left_for number events) ≡ comes_cut events)
      by_test true same h =
          let own : (other == pt) ≡ false = ap (λ n. n == pt) (is-same other number same) ∙ e in
          (h.0 ∙ sym (ap (λ test. if test then bytes ++ coming_bytes events else coming_bytes events) own), h.1)
      by_test false differ h = (ap (λ l. if other == pt then bytes ++ l else l) h.0, h.1)
  others-left number (Lose other ∷ events) e = by_test (other == number) refl (others-left number events e)
    where
      by_test : (test : Bool) → (other == number) ≡ test → (coming_bytes (left_for number events) ≡ coming_bytes events) × (comes_cut (left_for number events) ≡ comes_cut events) → (coming_bytes (if not test then Lose other ∷ left_for number events else left_for number events) ≡ coming_bytes (Lose other ∷ events)) × (comes_cut (if not test then Lose other ∷ left_for number events else left_for number events) ≡ comes_cut (Lose other ∷ events))
      by_test true same h =
          let own : (other == pt) ≡ false = ap (λ n. n == pt) (is-same other number same) ∙ e in
          (h.0 ∙ sym (ap (λ test. if test then [] else coming_bytes events) own), h.1 ∙ sym (ap (λ test. if test then true else comes_cut events) own))
      by_test false differ h = (ap (λ l. if other == pt then [] else l) h.0, ap (λ l. if other == pt then true else l) h.1)

  -- it is linked: nothing was sent on the new link
  fresh-way : (setting : Setting) (exchanges : List Exchange) (coming : List Event) → sent_on_link setting (NewLink ∷ met_of exchanges) ≡ [] → ComesNone coming → OnTheWay setting (Links ∷ exchanges) coming
  fresh-way setting exchanges coming sent none = record { prefix = ([], sent ∙ sym (ap (λ l. l ++ []) none.bytes)); whole = λ uncut. none.bytes ∙ sym sent }

  linked-own : (setting : Setting) (laws : MetLaws setting) (log : List Turn) (peers : Peers) → sent_on_link setting (NewLink ∷ met_of (exchanges_at pt log)) ≡ [] → Follows setting log peers → Follows setting (log ++ Linked pt ∷ []) (peers_after_link pt peers)
  linked-own setting laws log peers sent f =
      let exchanges = exchanges_at pt log in
      let terminal : TerminalValue = terminal_after setting (met_of exchanges) in
      subst (λ found. Follows setting (log ++ Linked pt ∷ []) (linked_to_peer found pt peers)) (sym f.terminal)
      (follows-by setting (log ++ Linked pt ∷ []) (Links ∷ exchanges) (linked_to_peer (Some terminal) pt peers) (own-exchange log (Linked pt) Links (ap (λ f. f Links) own-number))
      (get-set-same peers.terminals pt terminal (record terminal { connection = Some [] }) f.terminal ∙ ap Some (laws.link (met_of exchanges)))
      f.hears
      (λ connected. fresh-way setting exchanges (filter (λ event. not (is_event_of pt event)) peers.coming) sent (none-left peers.coming)))

  linked-other : (setting : Setting) (log : List Turn) (number : ℕ) (peers : Peers) → (number == pt) ≡ false → Follows setting log peers → Follows setting (log ++ Linked number ∷ []) (peers_after_link number peers)
  linked-other setting log number peers e f = by_peer (slice_get peers.terminals number)
    where
      apart : pt ≢ number
      apart is = differs number pt e (sym is)

      leaves : LeavesLink log (Linked number)
      leaves = record {
        none = other-exchange number Links e;
        links = λ connected. sym (connected-old (without (outside_of log).links number) number pt apart ∙ connected-other (outside_of log).links number pt apart) ∙ connected;
      }

      by_peer : (found : Option TerminalValue) → Follows setting (log ++ Linked number ∷ []) (linked_to_peer found number peers)
      by_peer None = quiet-follows setting log (Linked number) peers peers leaves refl (λ connected. (refl, refl)) f
      by_peer (Some terminal) =
          let same : exchanges_at pt (log ++ Linked number ∷ []) ≡ exchanges_at pt log = exchanges-more pt log (Linked number) ∙ ap (λ l. l ++ exchanges_at pt log) leaves.none in
          let left = others-left number peers.coming e in
          follows-by setting (log ++ Linked number ∷ []) (exchanges_at pt log) (linked_to_peer (Some terminal) number peers) same
          (get-set-other peers.terminals pt number (record terminal { connection = Some [] }) apart ∙ f.terminal) f.hears
          (λ connected. same-way setting (exchanges_at pt log) peers.coming (filter (λ event. not (is_event_of number event)) peers.coming) left.0 left.1
          (f.way (leaves.links (sym (ap (λ (o : Outside). is_connected o.links pt) (outside_of_more log (Linked number))) ∙ connected))))

  -- a terminal is linked
  pub linked-follows : (setting : Setting) (laws : MetLaws setting) (log : List Turn) (number : ℕ) (peers : Peers) → sent_on_link setting (NewLink ∷ met_of (exchanges_at pt log)) ≡ [] → Follows setting log peers → Follows setting (log ++ Linked number ∷ []) (peers_after_link number peers)
  linked-follows setting laws log number peers sent f = by_test (number == pt) refl
    where
      by_test : (test : Bool) → (number == pt) ≡ test → Follows setting (log ++ Linked number ∷ []) (peers_after_link number peers)
      by_test true e = subst (λ n. Follows setting (log ++ Linked n ∷ []) (peers_after_link n peers)) (sym (is-same number pt e)) (linked-own setting laws log peers sent f)
      by_test false e = linked-other setting log number peers e f

  -- it is connected no more
  pub unlinked-follows : (setting : Setting) (log : List Turn) (turn : Turn) (old new : Peers) → exchange_at pt turn ≡ [] → is_connected (outside_after (outside_of log) turn).links pt ≡ false → new.terminals ≡ old.terminals → Follows setting log old → Follows setting (log ++ turn ∷ []) new
  unlinked-follows setting log turn old new none links terminals f =
      let same : exchanges_at pt (log ++ turn ∷ []) ≡ exchanges_at pt log = exchanges-more pt log turn ∙ ap (λ l. l ++ exchanges_at pt log) none in
      follows-by setting (log ++ turn ∷ []) (exchanges_at pt log) new same (ap (λ l. slice_get l pt) terminals ∙ f.terminal) f.hears
      (λ connected. absurd (let n : true ≡ false = sym connected ∙ ap (λ (o : Outside). is_connected o.links pt) (outside_of_more log turn) ∙ links in cc))

  -- a connection is cut or lost
  pub cut-leaves : (log : List Turn) (turn : Turn) (number : ℕ) → exchange_at pt turn ≡ [] → (outside_after (outside_of log) turn).links ≡ without (outside_of log).links number → LeavesLink log turn
  cut-leaves log turn number none links = record {
    none = none;
    links = λ connected. by_test (number == pt) refl (sym (ap (λ l. is_connected l pt) links) ∙ connected);
  }
    where
      by_test : (test : Bool) → (number == pt) ≡ test → is_connected (without (outside_of log).links number) pt ≡ true → is_connected (outside_of log).links pt ≡ true
      by_test true e there = absurd (let n : true ≡ false = sym there ∙ ap (λ n. is_connected (without (outside_of log).links n) pt) (is-same number pt e) ∙ connected-removed (outside_of log).links pt in cc)
      by_test false e there = sym (connected-other (outside_of log).links number pt (λ is. differs number pt e (sym is))) ∙ there

  -- the first that comes of it is heard
  pub heard-own : (setting : Setting) (log : List Turn) (bytes : List ℕ) (coming : List Event) (peers : Peers) → peers.coming ≡ FromPt pt bytes ∷ coming → is_connected (outside_of log).links pt ≡ true → Follows setting log peers
      → Follows setting (log ++ HeardPt pt bytes ∷ []) (record peers { coming = coming })
  heard-own setting log bytes coming peers comes connected f =
      let exchanges = exchanges_at pt log in
      let way = way-heard setting exchanges bytes coming (subst (OnTheWay setting exchanges) comes (f.way connected)) in
      follows-by setting (log ++ HeardPt pt bytes ∷ []) (Hears bytes ∷ exchanges) (record peers { coming = coming }) (own-exchange log (HeardPt pt bytes) (Hears bytes) (ap (λ f. f (Hears bytes)) own-number)) f.terminal (way.1, f.hears)
      (λ connected. way.0)
