-- How far a terminal has come with bytes on its connection.
use Rattle.std.proofs.Common.{◌≡◌, ℕ, Bool, true, false, cond, Err, List, [], ◌++◌, refl, sym, ap, ◌∙◌, append_assoc, append-nil}
use Rattle.zvt_apdu.specs.declared.fault.ApduFault.{ApduFault}
use Rattle.zvt_apdu.specs.declared.fault.ApduFault.TheVariants.{TooLong}
use Rattle.zvt_apdu.specs.Results.{ReturnsApdu}
use Rattle.zvt_apdu.specs.Grammar.{ApduValue}
use Rattle.zvt_apdu.specs.Decode.{DecodedApdu, decode_apdu}
use Rattle.zvt_apdu.specs.DecodeStream.{DecodedApdus, decode_apdus}
use Rattle.pt_core.specs.Table.{bytes_of, cuts}
use Rattle.pt_core.specs.Serving.{AccountValue, Served, account_after, after_bytes, heard, reaction_by}
use Rattle.pt_core.proofs.SplitLemmas.{Laws, heard_whole, heard_incomplete, heard_bad, joined, joins}

-- from these bytes before: these bytes were sent since, and the others are still to be heard
pub record Progress (start : AccountValue) (bytes written : List ℕ) (account : AccountValue) (left out : List ℕ) : Type 0 where
  pub added : List ℕ
  pub all : heard start bytes ≡ after_bytes added (heard account left)
  pub rest : (decode_apdus bytes).rest ≡ (decode_apdus left).rest
  pub out_is : out ≡ written ++ added

pub begun : (account : AccountValue) (bytes out : List ℕ) → Progress account bytes out account bytes out
begun account bytes out = record { added = []; all = refl; rest = refl; out_is = sym (append-nil out) }

-- what comes when more was sent
regroup : (added here : List ℕ) (more : Served) → after_bytes added (after_bytes here more) ≡ after_bytes (added ++ here) more
regroup added here more = ap (λ (b : List ℕ). let s : Served = record { bytes = b; account = more.account; cut = more.cut } in s) (sym (append_assoc added here more.bytes))

longer_out : (written added out here now : List ℕ) → out ≡ written ++ added → now ≡ out ++ here → now ≡ written ++ (added ++ here)
longer_out written added out here now before is = is ∙ ap (λ (b : List ℕ). b ++ here) before ∙ append_assoc written added here

choose : (cut is : Bool) (bytes : List ℕ) (account : AccountValue) (more : Served) → cut ≡ is
    → cond cut (let s : Served = record { bytes = bytes; account = account; cut = true } in s) (after_bytes bytes more)
    ≡ cond is (record { bytes = bytes; account = account; cut = true }) (after_bytes bytes more)
choose cut is bytes account more e = ap (λ (c : Bool). cond c (let s : Served = record { bytes = bytes; account = account; cut = true } in s) (after_bytes bytes more)) e

-- one request more
pub one_more : Laws → (start : AccountValue) (bytes written : List ℕ) (account : AccountValue) (left out : List ℕ) (apdu : ApduValue) (rest now : List ℕ) {later : AccountValue}
    → Progress start bytes written account left out → decode_apdu left ≡ DecodedApdu.Whole apdu rest → cuts (reaction_by account apdu) ≡ false
    → now ≡ out ++ bytes_of (reaction_by account apdu) → later ≡ account_after account apdu → Progress start bytes written later rest now
one_more laws start bytes written account left out apdu rest now {later} so_far prefix stays is same =
    let reaction = reaction_by account apdu in
    record {
      added = so_far.added ++ bytes_of reaction;
      all = so_far.all ∙ ap (after_bytes so_far.added) (heard_whole laws account left apdu rest prefix ∙ choose (cuts reaction) false (bytes_of reaction) (account_after account apdu) (heard (account_after account apdu) rest) stays)
          ∙ regroup so_far.added (bytes_of reaction) (heard (account_after account apdu) rest)
          ∙ ap (λ (a : AccountValue). after_bytes (so_far.added ++ bytes_of reaction) (heard a rest)) (sym same);
      rest = so_far.rest ∙ ap (λ (s : DecodedApdus). s.rest) (laws.whole left apdu rest prefix);
      out_is = longer_out written so_far.added out (bytes_of reaction) now so_far.out_is is;
    }

-- how it ends
pub record Comes (start : AccountValue) (bytes written : List ℕ) (account : AccountValue) (out : List ℕ) (cut : Bool) : Type 0 where
  pub account_is : account ≡ (heard start bytes).account
  pub out_is : out ≡ written ++ (heard start bytes).bytes
  pub cut_is : cut ≡ (heard start bytes).cut

comes_with : (start : AccountValue) (bytes written : List ℕ) (account : AccountValue) (out : List ℕ) (cut : Bool) (added : List ℕ)
    → heard start bytes ≡ record { bytes = added; account = account; cut = cut } → out ≡ written ++ added → Comes start bytes written account out cut
comes_with start bytes written account out cut added all is = record {
  account_is = ap (λ (s : Served). s.account) (sym all);
  out_is = is ∙ ap (λ (s : Served). written ++ s.bytes) (sym all);
  cut_is = ap (λ (s : Served). s.cut) (sym all);
}

-- at a request at which the connection is cut
pub cut_at : Laws → (start : AccountValue) (bytes written : List ℕ) (account : AccountValue) (left out : List ℕ) (apdu : ApduValue) (rest now : List ℕ)
    → Progress start bytes written account left out → decode_apdu left ≡ DecodedApdu.Whole apdu rest → cuts (reaction_by account apdu) ≡ true
    → now ≡ out ++ bytes_of (reaction_by account apdu) → Comes start bytes written (account_after account apdu) now true
cut_at laws start bytes written account left out apdu rest now so_far prefix here is =
    let reaction = reaction_by account apdu in
    let all = so_far.all ∙ ap (after_bytes so_far.added) (heard_whole laws account left apdu rest prefix ∙ choose (cuts reaction) true (bytes_of reaction) (account_after account apdu) (heard (account_after account apdu) rest) here) in
    comes_with start bytes written (account_after account apdu) now true (so_far.added ++ bytes_of reaction) all (longer_out written so_far.added out (bytes_of reaction) now so_far.out_is is)

nil_added : (added : List ℕ) (account : AccountValue) (cut : Bool) → after_bytes added (record { bytes = []; account = account; cut = cut }) ≡ record { bytes = added; account = account; cut = cut }
nil_added added account cut = ap (λ (b : List ℕ). let s : Served = record { bytes = b; account = account; cut = cut } in s) (append-nil added)

-- where less than a request is left
pub waits_at : Laws → (start : AccountValue) (bytes written : List ℕ) (account : AccountValue) (left out : List ℕ)
    → Progress start bytes written account left out → decode_apdu left ≡ DecodedApdu.Incomplete → Comes start bytes written account out false
waits_at laws start bytes written account left out so_far prefix =
    comes_with start bytes written account out false so_far.added (so_far.all ∙ ap (after_bytes so_far.added) (heard_incomplete laws account left prefix) ∙ nil_added so_far.added account false) so_far.out_is

pub waits_rest : Laws → (start : AccountValue) (bytes written : List ℕ) (account : AccountValue) (left out : List ℕ)
    → Progress start bytes written account left out → decode_apdu left ≡ DecodedApdu.Incomplete → left ≡ (decode_apdus bytes).rest
waits_rest laws start bytes written account left out so_far prefix = sym (so_far.rest ∙ ap (λ (s : DecodedApdus). s.rest) (laws.incomplete left prefix))

-- where no request can follow
pub bad_at : Laws → (start : AccountValue) (bytes written : List ℕ) (account : AccountValue) (left out : List ℕ) (n : ℕ)
    → Progress start bytes written account left out → decode_apdu left ≡ DecodedApdu.TooLong n → Comes start bytes written account out true
bad_at laws start bytes written account left out n so_far prefix =
    comes_with start bytes written account out true so_far.added (so_far.all ∙ ap (after_bytes so_far.added) (heard_bad laws account left n prefix) ∙ nil_added so_far.added account true) so_far.out_is

-- where the reader says that no request can follow
pub bad_by : Laws → (start : AccountValue) (bytes written : List ℕ) (account : AccountValue) (left out : List ℕ) (fault : ApduFault)
    → Progress start bytes written account left out → ReturnsApdu (Err fault) (decode_apdu left) → Comes start bytes written account out true
bad_by laws start bytes written account left out (TooLong n) so_far reports = bad_at laws start bytes written account left out n so_far reports

-- ---- chunks

join_choice : (is : Bool) (first : Served) (more : AccountValue → Served) → first.cut ≡ is → joined first more ≡ cond is first (after_bytes first.bytes (more first.account))
join_choice is first more e = ap (λ (c : Bool). cond c first (after_bytes first.bytes (more first.account))) e

-- one chunk more
pub next_chunk : Laws → (start : AccountValue) (bytes written : List ℕ) (account : AccountValue) (waiting chunk more out : List ℕ) (later : AccountValue) (now : List ℕ)
    → Progress start bytes written account (waiting ++ (chunk ++ more)) out
    → Comes account (waiting ++ chunk) out later now false
    → Progress start bytes written later ((decode_apdus (waiting ++ chunk)).rest ++ more) now
next_chunk laws start bytes written account waiting chunk more out later now so_far comes =
    let first = waiting ++ chunk in
    let join = joins laws account first more in
    let group : waiting ++ (chunk ++ more) ≡ first ++ more = sym (append_assoc waiting chunk more) in
    let open_connection : (heard account first).cut ≡ false = sym comes.cut_is in
    record {
      added = so_far.added ++ (heard account first).bytes;
      all = so_far.all ∙ ap (λ (b : List ℕ). after_bytes so_far.added (heard account b)) group
          ∙ ap (after_bytes so_far.added) (join.heard_all ∙ join_choice false (heard account first) (λ last. heard last ((decode_apdus first).rest ++ more)) open_connection)
          ∙ regroup so_far.added (heard account first).bytes (heard (heard account first).account ((decode_apdus first).rest ++ more))
          ∙ ap (λ (a : AccountValue). after_bytes (so_far.added ++ (heard account first).bytes) (heard a ((decode_apdus first).rest ++ more))) (sym comes.account_is);
      rest = so_far.rest ∙ ap (λ (b : List ℕ). (decode_apdus b).rest) group ∙ join.rest open_connection;
      out_is = longer_out written so_far.added out (heard account first).bytes now so_far.out_is comes.out_is;
    }

-- the connection is cut in a chunk
pub cut_chunk : Laws → (start : AccountValue) (bytes written : List ℕ) (account : AccountValue) (waiting chunk more out : List ℕ) (later : AccountValue) (now : List ℕ)
    → Progress start bytes written account (waiting ++ (chunk ++ more)) out
    → Comes account (waiting ++ chunk) out later now true → Comes start bytes written later now true
cut_chunk laws start bytes written account waiting chunk more out later now so_far comes =
    let first = waiting ++ chunk in
    let join = joins laws account first more in
    let group : waiting ++ (chunk ++ more) ≡ first ++ more = sym (append_assoc waiting chunk more) in
    let all : heard start bytes ≡ after_bytes so_far.added (heard account first) = so_far.all ∙ ap (λ (b : List ℕ). after_bytes so_far.added (heard account b)) group
    ∙ ap (after_bytes so_far.added) (join.heard_all ∙ join_choice true (heard account first) (λ last. heard last ((decode_apdus first).rest ++ more)) (sym comes.cut_is)) in
    record {
      account_is = comes.account_is ∙ ap (λ (s : Served). s.account) (sym all);
      out_is = longer_out written so_far.added out (heard account first).bytes now so_far.out_is comes.out_is ∙ ap (λ (s : Served). written ++ s.bytes) (sym all);
      cut_is = comes.cut_is ∙ ap (λ (s : Served). s.cut) (sym all);
    }
