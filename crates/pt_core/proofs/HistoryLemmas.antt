-- What a terminal keeps and sends is what its history says.
use Rattle.std.proofs.Common.{◌≡◌, ℕ, zero, suc, ◌+◌, Bool, true, false, cond, List, [], ◌∷◌, ◌++◌, drop, Option, None, Some, refl, sym, ap, ◌∙◌, arith}
use Rattle.std.proofs.lemmas.List.{drop-drop, append-nil}
use Rattle.std.specs.Prelude.{◌||◌, slice_get, unwrap_or}
use Rattle.zvt_apdu.specs.Grammar.{ApduValue}
use Rattle.zvt_apdu.specs.Decode.{DecodedApdu, decode_apdu}
use Rattle.zvt_apdu.specs.DecodeStream.{decode_apdus}
use Rattle.zvt_msg.specs.CommandDecode.{decode_command}
use Rattle.pt_core.specs.declared.play.Play.{Play}
use Rattle.pt_core.specs.declared.play.Play.TheVariants as play
use Rattle.pt_core.specs.Table.{bytes_of, cuts, entries_of, reaction_at, is_authorisation}
use Rattle.pt_core.specs.Serving.{AccountValue, Served, TerminalValue, account_after, after_bytes, first_play, heard, heard_by_terminal, is_bad, connection_after, reaction_by, served, next_terminal, with_rest}
use Rattle.pt_core.specs.History.{Setting, Met, Chunk, terminal_account, all_handled, sent_on_link, sent_for, book_of, count_authorisations, earlier, handled, has_cut, is_cut_by, link_bytes, reaction_after, requests, terminal_after}
use Rattle.pt_core.proofs.SplitLemmas.{Laws, joined, joins}

-- ---- the plays that are left

pub next_play : (plays : List Play) (n : ℕ) → first_play (drop n plays) ≡ unwrap_or (slice_get plays n) play.Approve
next_play [] zero = refl
next_play [] (suc n) = refl
next_play (first ∷ plays) zero = refl
next_play (first ∷ plays) (suc n) = next_play plays n

plays_left : (is : Bool) (plays : List Play) (n : ℕ) → cond is (drop 1 (drop n plays)) (drop n plays) ≡ drop (n + cond is 1 0) plays
plays_left true plays n = drop-drop 1 n plays
plays_left false plays n = ap (λ (k : ℕ). drop k plays) (omega arith)

-- the account after one request more
step_account : (setting : Setting) (before : List ApduValue) (apdu : ApduValue) → account_after (terminal_account setting before) apdu ≡ terminal_account setting (apdu ∷ before)
step_account setting before apdu =
    let n = count_authorisations before in
    let plays = plays_left (is_authorisation (decode_command apdu)) setting.plays n in
    let same = next_play setting.plays n in
    ap (λ (left : List Play). let a : AccountValue = record { none = setting.none; plays = left; book = book_of setting before ++ entries_of (reaction_by (terminal_account setting before) apdu) } in a) plays
    ∙ ap (λ (p : Play). let a : AccountValue = record { none = setting.none; plays = drop (count_authorisations (apdu ∷ before)) setting.plays; book = book_of setting before ++ entries_of (reaction_at setting.none p (book_of setting before) apdu) } in a) same

-- and what is done at it
step_reaction : (setting : Setting) (before : List ApduValue) (apdu : ApduValue) → reaction_by (terminal_account setting before) apdu ≡ reaction_after setting before apdu
step_reaction setting before apdu = ap (λ (p : Play). reaction_at setting.none p (book_of setting before) apdu) (next_play setting.plays (count_authorisations before))

-- ---- the requests of one link

-- what requests come to, with these before them
abbrev pub link_served : Setting → List ApduValue → List ApduValue → Served
link_served setting before apdus = record {
  bytes = sent_for setting before apdus;
  account = terminal_account setting (handled setting before apdus);
  cut = is_cut_by setting before apdus;
}

served_choice : (cut : Bool) (bytes more : List ℕ) (here later : AccountValue) (is : Bool)
    → cond cut (let s : Served = record { bytes = bytes; account = here; cut = true } in s) (record { bytes = bytes ++ more; account = later; cut = is })
    ≡ record { bytes = cond cut bytes (bytes ++ more); account = cond cut here later; cut = cond cut true is }
served_choice true bytes more here later is = refl
served_choice false bytes more here later is = refl

account_choice : (cut : Bool) (setting : Setting) (here later : List ApduValue) → cond cut (terminal_account setting here) (terminal_account setting later) ≡ terminal_account setting (cond cut here later)
account_choice true setting here later = refl
account_choice false setting here later = refl

pub served_is : (setting : Setting) (before apdus : List ApduValue) → served (terminal_account setting before) apdus ≡ link_served setting before apdus
served_is setting before [] = refl
served_is setting before (apdu ∷ apdus) =
    let reaction = reaction_after setting before apdu in
    let more = link_served setting (apdu ∷ before) apdus in
    ap (λ (account : AccountValue). let s : Served = cond (cuts (reaction_by (terminal_account setting before) apdu)) (record { bytes = bytes_of (reaction_by (terminal_account setting before) apdu); account = account; cut = true }) (after_bytes (bytes_of (reaction_by (terminal_account setting before) apdu)) (served account apdus)) in s) (step_account setting before apdu)
    ∙ ap (λ r. let s : Served = cond (cuts r) (record { bytes = bytes_of r; account = terminal_account setting (apdu ∷ before); cut = true }) (after_bytes (bytes_of r) (served (terminal_account setting (apdu ∷ before)) apdus)) in s) (step_reaction setting before apdu)
    ∙ ap (λ (m : Served). let s : Served = cond (cuts reaction) (record { bytes = bytes_of reaction; account = terminal_account setting (apdu ∷ before); cut = true }) (after_bytes (bytes_of reaction) m) in s) (served_is setting (apdu ∷ before) apdus)
    ∙ served_choice (cuts reaction) (bytes_of reaction) more.bytes (terminal_account setting (apdu ∷ before)) more.account more.cut
    ∙ ap (λ (a : AccountValue). let s : Served = record { bytes = sent_for setting before (apdu ∷ apdus); account = a; cut = is_cut_by setting before (apdu ∷ apdus) } in s) (account_choice (cuts reaction) setting (apdu ∷ before) (handled setting (apdu ∷ before) apdus))

-- ---- all that was met

-- what the bytes of the present link came to
abbrev pub met_served : Setting → List Met → Served
met_served setting met = record {
  bytes = sent_on_link setting met;
  account = terminal_account setting (all_handled setting met);
  cut = has_cut setting met;
}

with_bad : (cut : Bool) (bytes : List ℕ) (account : AccountValue) (prefix : DecodedApdu)
    → cond cut (let s : Served = record { bytes = bytes; account = account; cut = cut } in s) (record { bytes = bytes; account = account; cut = is_bad prefix })
    ≡ record { bytes = bytes; account = account; cut = cut || is_bad prefix }
with_bad true bytes account prefix = refl
with_bad false bytes account prefix = refl

pub met_is : (setting : Setting) (met : List Met) → heard (terminal_account setting (earlier setting met)) (link_bytes met) ≡ met_served setting met
met_is setting met =
    ap (λ (s : Served). with_rest s (decode_apdus (link_bytes met)).rest) (served_is setting (earlier setting met) (requests met))
    ∙ with_bad (is_cut_by setting (earlier setting met) (requests met)) (sent_on_link setting met) (terminal_account setting (all_handled setting met)) (decode_apdu (decode_apdus (link_bytes met)).rest)

-- all that bytes on the connection change
pub record Adds (setting : Setting) (met : List Met) (bytes : List ℕ) : Type 0 where
  pub terminal : next_terminal (terminal_after setting met) bytes ≡ terminal_after setting (Chunk bytes ∷ met)
  pub sent_bytes : sent_on_link setting (Chunk bytes ∷ met) ≡ sent_on_link setting met ++ (heard_by_terminal (terminal_after setting met) (terminal_after setting met).connection bytes).bytes
  pub cut : has_cut setting (Chunk bytes ∷ met) ≡ (has_cut setting met || (heard_by_terminal (terminal_after setting met) (terminal_after setting met).connection bytes).cut)

same_terminal : {a b : AccountValue} → {x y : Option (List ℕ)} → a ≡ b → x ≡ y → (let t : TerminalValue = record { account = a; connection = x } in t) ≡ record { account = b; connection = y }
same_terminal {a} {b} {x} {y} same connection = ap (λ (v : AccountValue). let t : TerminalValue = record { account = v; connection = x } in t) same ∙ ap (λ (l : Option (List ℕ)). let t : TerminalValue = record { account = b; connection = l } in t) connection

-- the present link by what it came to
adds_by : (setting : Setting) (met : List Met) (bytes : List ℕ) (cut : Bool)
    → met_served setting (Chunk bytes ∷ met) ≡ joined (met_served setting met) (λ account. heard account ((decode_apdus (link_bytes met)).rest ++ bytes))
    → (has_cut setting met ≡ false → (decode_apdus (link_bytes met ++ bytes)).rest ≡ (decode_apdus ((decode_apdus (link_bytes met)).rest ++ bytes)).rest)
    → has_cut setting met ≡ cut → Adds setting met bytes
adds_by setting met bytes true all rest is =
    let cut_connection : (terminal_after setting met).connection ≡ None = ap (λ (c : Bool). cond c None (Some (decode_apdus (link_bytes met)).rest)) is in
    let all_is : met_served setting (Chunk bytes ∷ met) ≡ met_served setting met = all ∙ ap (λ (c : Bool). cond c (met_served setting met) (after_bytes (sent_on_link setting met) (heard (terminal_account setting (all_handled setting met)) ((decode_apdus (link_bytes met)).rest ++ bytes)))) is in
    let still : has_cut setting (Chunk bytes ∷ met) ≡ true = ap (λ (s : Served). s.cut) all_is ∙ is in
    let account_is : (heard_by_terminal (terminal_after setting met) (terminal_after setting met).connection bytes).account ≡ terminal_account setting (all_handled setting (Chunk bytes ∷ met)) =
    ap (λ (l : Option (List ℕ)). (heard_by_terminal (terminal_after setting met) l bytes).account) cut_connection ∙ ap (λ (s : Served). s.account) (sym all_is) in
    let connection_is : connection_after (terminal_after setting met) (terminal_after setting met).connection bytes ≡ (terminal_after setting (Chunk bytes ∷ met)).connection =
    ap (λ (l : Option (List ℕ)). connection_after (terminal_after setting met) l bytes) cut_connection
    ∙ ap (λ (c : Bool). cond c None (Some (decode_apdus (link_bytes met ++ bytes)).rest)) (sym still) in
    record {
      terminal = same_terminal account_is connection_is;
      sent_bytes = ap (λ (s : Served). s.bytes) all_is ∙ sym (append-nil (sent_on_link setting met)) ∙ ap (λ (l : Option (List ℕ)). sent_on_link setting met ++ (heard_by_terminal (terminal_after setting met) l bytes).bytes) (sym cut_connection);
      cut = still ∙ ap (λ (c : Bool). c || (heard_by_terminal (terminal_after setting met) (terminal_after setting met).connection bytes).cut) (sym is);
    }
adds_by setting met bytes false all rest is =
    let waiting = (decode_apdus (link_bytes met)).rest in
    let account = terminal_account setting (all_handled setting met) in
    let here = heard account (waiting ++ bytes) in
    let open_connection : (terminal_after setting met).connection ≡ Some waiting = ap (λ (c : Bool). cond c None (Some waiting)) is in
    let all_is : met_served setting (Chunk bytes ∷ met) ≡ after_bytes (sent_on_link setting met) here = all ∙ ap (λ (c : Bool). cond c (met_served setting met) (after_bytes (sent_on_link setting met) here)) is in
    let account_is : (heard_by_terminal (terminal_after setting met) (terminal_after setting met).connection bytes).account ≡ terminal_account setting (all_handled setting (Chunk bytes ∷ met)) =
    ap (λ (l : Option (List ℕ)). (heard_by_terminal (terminal_after setting met) l bytes).account) open_connection ∙ ap (λ (s : Served). s.account) (sym all_is) in
    let connection_is : connection_after (terminal_after setting met) (terminal_after setting met).connection bytes ≡ (terminal_after setting (Chunk bytes ∷ met)).connection =
    ap (λ (l : Option (List ℕ)). connection_after (terminal_after setting met) l bytes) open_connection
    ∙ ap (λ (r : List ℕ). cond here.cut None (Some r)) (sym (rest is))
    ∙ ap (λ (c : Bool). cond c None (Some (decode_apdus (link_bytes met ++ bytes)).rest)) (ap (λ (s : Served). s.cut) (sym all_is)) in
    record {
      terminal = same_terminal account_is connection_is;
      sent_bytes = ap (λ (s : Served). s.bytes) all_is ∙ ap (λ (l : Option (List ℕ)). sent_on_link setting met ++ (heard_by_terminal (terminal_after setting met) l bytes).bytes) (sym open_connection);
      cut = ap (λ (s : Served). s.cut) all_is
          ∙ ap (λ (l : Option (List ℕ)). (heard_by_terminal (terminal_after setting met) l bytes).cut) (sym open_connection)
          ∙ ap (λ (c : Bool). c || (heard_by_terminal (terminal_after setting met) (terminal_after setting met).connection bytes).cut) (sym is);
    }

-- bytes on the connection do to a terminal what its history says
pub adds : Laws → (setting : Setting) (met : List Met) (bytes : List ℕ) → Adds setting met bytes
adds laws setting met bytes =
    let before = terminal_account setting (earlier setting met) in
    let join = joins laws before (link_bytes met) bytes in
    let here = met_is setting met in
    adds_by setting met bytes (has_cut setting met)
    (sym (met_is setting (Chunk bytes ∷ met)) ∙ join.heard_all ∙ ap (λ (s : Served). joined s (λ account. heard account ((decode_apdus (link_bytes met)).rest ++ bytes))) here)
    (λ no. join.rest (ap (λ (s : Served). s.cut) here ∙ no))
    refl
