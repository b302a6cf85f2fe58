-- What bytes on a connection come to, where they come in parts.
use Rattle.std.proofs.Common.{◌≡◌, ℕ, zero, suc, ◌<◌, ◌≤◌, Bool, true, false, cond, List, [], ◌++◌, length, refl, sym, ap, ◌∙◌, append_assoc, arith}
use Rattle.zvt_apdu.specs.Grammar.{ApduValue}
use Rattle.zvt_apdu.specs.Decode.{DecodedApdu, decode_apdu}
use Rattle.zvt_apdu.specs.DecodeStream.{DecodedApdus, with_first_apdu, decode_apdus}
use Rattle.pt_core.specs.Table.{bytes_of, cuts}
use Rattle.pt_core.specs.Serving.{AccountValue, Served, account_after, after_bytes, heard, is_bad, reaction_by, served, with_rest}
use Rattle.pt_core.proofs.PrefixLemmas.{prefix_stays, prefix_bad, prefix_within}

-- what `law_decode_apdus` says of the first APDU
pub record Laws : Type 0 where
  pub whole : (bytes : List ℕ) (apdu : ApduValue) (rest : List ℕ) → decode_apdu bytes ≡ DecodedApdu.Whole apdu rest → decode_apdus bytes ≡ with_first_apdu apdu (decode_apdus rest)
  pub incomplete : (bytes : List ℕ) → decode_apdu bytes ≡ DecodedApdu.Incomplete → decode_apdus bytes ≡ record { apdus = []; rest = bytes }
  pub too_long : (bytes : List ℕ) (n : ℕ) → decode_apdu bytes ≡ DecodedApdu.TooLong n → decode_apdus bytes ≡ record { apdus = []; rest = bytes }

-- ---- one request

-- a request, and what more comes to
abbrev pub first_heard : AccountValue → ApduValue → Served → Served
first_heard account apdu more =
    cond (cuts (reaction_by account apdu))
    (record { bytes = bytes_of (reaction_by account apdu); account = account_after account apdu; cut = true })
    (after_bytes (bytes_of (reaction_by account apdu)) more)

rest_after : (cut is : Bool) (bytes more : List ℕ) (account : AccountValue) (prefix : DecodedApdu)
    → cond cut (record { bytes = bytes ++ more; account = account; cut = cut }) (record { bytes = bytes ++ more; account = account; cut = is_bad prefix })
    ≡ after_bytes bytes (cond cut (record { bytes = more; account = account; cut = cut }) (record { bytes = more; account = account; cut = is_bad prefix }))
rest_after true is bytes more account prefix = refl
rest_after false is bytes more account prefix = refl

first_rest : (cut : Bool) (bytes rest : List ℕ) (account : AccountValue) (more : Served)
    → with_rest (cond cut (record { bytes = bytes; account = account; cut = true }) (after_bytes bytes more)) rest
    ≡ cond cut (record { bytes = bytes; account = account; cut = true }) (after_bytes bytes (with_rest more rest))
first_rest true bytes rest account more = refl
first_rest false bytes rest account more = rest_after more.cut true bytes more.bytes more.account (decode_apdu rest)

pub heard_whole : Laws → (account : AccountValue) (bytes : List ℕ) (apdu : ApduValue) (rest : List ℕ) → decode_apdu bytes ≡ DecodedApdu.Whole apdu rest → heard account bytes ≡ first_heard account apdu (heard (account_after account apdu) rest)
heard_whole laws account bytes apdu rest e =
    ap (λ (s : DecodedApdus). with_rest (served account s.apdus) s.rest) (laws.whole bytes apdu rest e)
    ∙ first_rest (cuts (reaction_by account apdu)) (bytes_of (reaction_by account apdu)) (decode_apdus rest).rest (account_after account apdu) (served (account_after account apdu) (decode_apdus rest).apdus)

pub heard_incomplete : Laws → (account : AccountValue) (bytes : List ℕ) → decode_apdu bytes ≡ DecodedApdu.Incomplete → heard account bytes ≡ record { bytes = []; account = account; cut = false }
heard_incomplete laws account bytes e =
    ap (λ (s : DecodedApdus). with_rest (served account s.apdus) s.rest) (laws.incomplete bytes e)
    ∙ ap (λ (f : DecodedApdu). let s : Served = record { bytes = []; account = account; cut = is_bad f } in s) e

pub heard_bad : Laws → (account : AccountValue) (bytes : List ℕ) (n : ℕ) → decode_apdu bytes ≡ DecodedApdu.TooLong n → heard account bytes ≡ record { bytes = []; account = account; cut = true }
heard_bad laws account bytes n e =
    ap (λ (s : DecodedApdus). with_rest (served account s.apdus) s.rest) (laws.too_long bytes n e)
    ∙ ap (λ (f : DecodedApdu). let s : Served = record { bytes = []; account = account; cut = is_bad f } in s) e

-- ---- more bytes after others

-- what the bytes came to, and what more of them add where the connection is not cut
abbrev pub joined : Served → (AccountValue → Served) → Served
joined first more = cond first.cut first (after_bytes first.bytes (more first.account))

joined_first : (cut : Bool) (bytes : List ℕ) (account : AccountValue) (first : Served) (more : AccountValue → Served)
    → cond cut (record { bytes = bytes; account = account; cut = true }) (after_bytes bytes (joined first more))
    ≡ joined (cond cut (record { bytes = bytes; account = account; cut = true }) (after_bytes bytes first)) more
joined_first true bytes account first more = refl
joined_first false bytes account first more = joined_rest first.cut bytes first.bytes first.account (more first.account) where
  joined_rest : (cut : Bool) (bytes middle : List ℕ) (account : AccountValue) (more : Served)
      → after_bytes bytes (cond cut (record { bytes = middle; account = account; cut = cut }) (after_bytes middle more))
      ≡ cond cut (record { bytes = bytes ++ middle; account = account; cut = cut }) (after_bytes (bytes ++ middle) more)
  joined_rest true bytes middle account more = refl
  joined_rest false bytes middle account more = ap (λ (b : List ℕ). let s : Served = record { bytes = b; account = more.account; cut = more.cut } in s) (sym (append_assoc bytes middle more.bytes))

-- all that is said of more bytes
pub record Joins (account : AccountValue) (bytes more : List ℕ) : Type 0 where
  pub heard_all : heard account (bytes ++ more) ≡ joined (heard account bytes) (λ later. heard later ((decode_apdus bytes).rest ++ more))
  pub rest : (heard account bytes).cut ≡ false → (decode_apdus (bytes ++ more)).rest ≡ (decode_apdus ((decode_apdus bytes).rest ++ more)).rest
  pub waits : (heard account bytes).cut ≡ false → decode_apdu (decode_apdus bytes).rest ≡ DecodedApdu.Incomplete

cut_first : (cut : Bool) (bytes : List ℕ) (account : AccountValue) (more : Served) → (cond cut (record { bytes = bytes; account = account; cut = true }) (after_bytes bytes more)).cut ≡ false → more.cut ≡ false
cut_first true bytes account more e = absurd cc
cut_first false bytes account more e = e

joins_by : Laws → (account : AccountValue) (bytes more : List ℕ) (prefix : DecodedApdu)
    → ((rest : List ℕ) (later : AccountValue) → length rest < length bytes → Joins later rest more)
    → decode_apdu bytes ≡ prefix → Joins account bytes more
joins_by laws account bytes more (DecodedApdu.Whole apdu rest) others e =
    let stays = prefix_stays bytes more apdu rest e in
    let reaction = reaction_by account apdu in
    let later = account_after account apdu in
    let further = others rest later stays.1 in
    let split_is : decode_apdus bytes ≡ with_first_apdu apdu (decode_apdus rest) = laws.whole bytes apdu rest e in
    let longer_is : decode_apdus (bytes ++ more) ≡ with_first_apdu apdu (decode_apdus (rest ++ more)) = laws.whole (bytes ++ more) apdu (rest ++ more) stays.0 in
    let here : heard account bytes ≡ first_heard account apdu (heard later rest) = heard_whole laws account bytes apdu rest e in
    let goes_on : (heard account bytes).cut ≡ false → (heard later rest).cut ≡ false = λ no. cut_first (cuts reaction) (bytes_of reaction) later (heard later rest) (ap (λ (s : Served). s.cut) (sym here) ∙ no) in
    record {
      heard_all = heard_whole laws account (bytes ++ more) apdu (rest ++ more) stays.0
          ∙ ap (first_heard account apdu) further.heard_all
          ∙ joined_first (cuts reaction) (bytes_of reaction) later (heard later rest) (λ last. heard last ((decode_apdus rest).rest ++ more))
          ∙ ap (λ (s : DecodedApdus). joined (first_heard account apdu (heard later rest)) (λ last. heard last (s.rest ++ more))) (sym split_is)
          ∙ ap (λ (s : Served). joined s (λ last. heard last ((decode_apdus bytes).rest ++ more))) (sym here);
      rest = λ no. ap (λ (s : DecodedApdus). s.rest) longer_is ∙ further.rest (goes_on no) ∙ ap (λ (s : DecodedApdus). (decode_apdus (s.rest ++ more)).rest) (sym split_is);
      waits = λ no. ap (λ (s : DecodedApdus). decode_apdu s.rest) split_is ∙ further.waits (goes_on no);
    }
joins_by laws account bytes more DecodedApdu.Incomplete others e =
    let split_is : decode_apdus bytes ≡ record { apdus = []; rest = bytes } = laws.incomplete bytes e in
    let here = heard_incomplete laws account bytes e in
    record {
      heard_all = ap (λ (s : DecodedApdus). heard account (s.rest ++ more)) (sym split_is)
          ∙ ap (λ (s : Served). joined s (λ last. heard last ((decode_apdus bytes).rest ++ more))) (sym here);
      rest = λ no. ap (λ (s : DecodedApdus). (decode_apdus (s.rest ++ more)).rest) (sym split_is);
      waits = λ no. ap (λ (s : DecodedApdus). decode_apdu s.rest) split_is ∙ e;
    }
joins_by laws account bytes more (DecodedApdu.TooLong n) others e =
    let here = heard_bad laws account bytes n e in
    let never : (heard account bytes).cut ≡ false → ⊥ = λ no. let same : true ≡ false = ap (λ (s : Served). s.cut) (sym here) ∙ no in cc in
    record {
      heard_all = heard_bad laws account (bytes ++ more) n (prefix_bad bytes more n e)
          ∙ ap (λ (s : Served). joined s (λ last. heard last ((decode_apdus bytes).rest ++ more))) (sym here);
      rest = λ no. absurd (never no);
      waits = λ no. absurd (never no);
    }

joins_within : Laws → (n : ℕ) (account : AccountValue) (bytes more : List ℕ) → length bytes ≤ n → Joins account bytes more
joins_within laws zero account bytes more few = joins_by laws account bytes more (decode_apdu bytes) (λ rest later shorter. absurd (omega arith)) refl
joins_within laws (suc n) account bytes more few = joins_by laws account bytes more (decode_apdu bytes) (λ rest later shorter. joins_within laws n later rest more (omega arith)) refl

pub joins : Laws → (account : AccountValue) (bytes more : List ℕ) → Joins account bytes more
joins laws account bytes more = joins_within laws (length bytes) account bytes more (omega arith)

-- ---- how many requests bytes complete

abbrev pub count_of : List ℕ → ℕ
count_of bytes = length (decode_apdus bytes).apdus

count_by : Laws → (bytes more : List ℕ) (prefix : DecodedApdu)
    → ((rest : List ℕ) → length rest < length more → count_of rest ≤ length rest)
    → decode_apdu bytes ≡ DecodedApdu.Incomplete → decode_apdu (bytes ++ more) ≡ prefix → count_of (bytes ++ more) ≤ length more
count_by laws bytes more (DecodedApdu.Whole apdu rest) others cut e =
    let shorter = prefix_within bytes more apdu rest cut e in
    omega (arith, ap (λ (s : DecodedApdus). length s.apdus) (laws.whole (bytes ++ more) apdu rest e), others rest shorter, shorter)
count_by laws bytes more DecodedApdu.Incomplete others cut e = omega (arith, ap (λ (s : DecodedApdus). length s.apdus) (laws.incomplete (bytes ++ more) e))
count_by laws bytes more (DecodedApdu.TooLong n) others cut e = omega (arith, ap (λ (s : DecodedApdus). length s.apdus) (laws.too_long (bytes ++ more) n e))

count_within : Laws → (n : ℕ) (bytes more : List ℕ) → length more ≤ n → decode_apdu bytes ≡ DecodedApdu.Incomplete → count_of (bytes ++ more) ≤ length more
count_within laws zero bytes more few cut = count_by laws bytes more (decode_apdu (bytes ++ more)) (λ rest shorter. absurd (omega arith)) cut refl
count_within laws (suc n) bytes more few cut = count_by laws bytes more (decode_apdu (bytes ++ more)) (λ rest shorter. count_within laws n [] rest (omega arith) refl) cut refl

-- bytes complete at most as many requests as they are
pub few_requests : Laws → (bytes more : List ℕ) → decode_apdu bytes ≡ DecodedApdu.Incomplete → count_of (bytes ++ more) ≤ length more
few_requests laws bytes more cut = count_within laws (length more) bytes more (omega arith) cut
