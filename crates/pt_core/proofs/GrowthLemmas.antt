-- How requests, what is sent and the book grow with what a terminal meets.
use Rattle.std.proofs.Common.{◌≡◌, ℕ, zero, suc, ◌+◌, ◌<◌, ◌≤◌, Bool, true, false, cond, List, [], ◌∷◌, ◌++◌, length, drop, refl, sym, ap, subst, ◌∙◌, append_assoc, append-nil, arith}
use Rattle.std.proofs.lemmas.List.{length-append}
use Rattle.std.specs.List.{AllByRecursion}
use Rattle.gw_bytes.specs.Bytes.{IsPrefix}
use Rattle.zvt_apdu.specs.Grammar.{ApduValue}
use Rattle.zvt_apdu.specs.Decode.{DecodedApdu, decode_apdu}
use Rattle.zvt_apdu.specs.DecodeStream.{DecodedApdus, decode_apdus}
use Rattle.zvt_msg.specs.declared.command.Command.{Command}
use Rattle.zvt_msg.specs.CommandDecode.{decode_command}
use Rattle.pt_core.specs.declared.book.BookEntry.{BookEntry}
use Rattle.pt_core.specs.Table.{bytes_of, cuts, entries_of}
use Rattle.pt_core.specs.History.{Setting, Met, Chunk, all_handled, sent_for, book_of, earlier, handled, is_cut_by, link_bytes, play_left, reaction_after, requests}
use Rattle.pt_core.specs.Honest.{Books}
use Rattle.pt_core.proofs.PrefixLemmas.{prefix_stays}
use Rattle.pt_core.proofs.SplitLemmas.{Laws}
use Rattle.pt_core.proofs.HonestLemmas.{booked}

-- ---- requests

abbrev Grows : List ℕ → List ℕ → Type 0
Grows bytes more = IsPrefix (decode_apdus bytes).apdus (decode_apdus (bytes ++ more)).apdus

nothing_before : (bytes more : List ℕ) → decode_apdus bytes ≡ record { apdus = []; rest = bytes } → Grows bytes more
nothing_before bytes more none =
    ((decode_apdus (bytes ++ more)).apdus, ap (λ (s : DecodedApdus). s.apdus ++ (decode_apdus (bytes ++ more)).apdus) (sym none))

apdus_by : Laws → (bytes more : List ℕ) (prefix : DecodedApdu) → ((rest : List ℕ) → length rest < length bytes → Grows rest more)
    → decode_apdu bytes ≡ prefix → Grows bytes more
apdus_by laws bytes more (DecodedApdu.Whole apdu rest) others e =
    let stays = prefix_stays bytes more apdu rest e in
    let further = others rest stays.1 in (
      further.0,
      ap (λ (s : DecodedApdus). s.apdus) (laws.whole (bytes ++ more) apdu (rest ++ more) stays.0)
          ∙ ap (λ (a : List ApduValue). apdu ∷ a) further.1
          ∙ ap (λ (s : DecodedApdus). s.apdus ++ further.0) (sym (laws.whole bytes apdu rest e)),
    )
apdus_by laws bytes more DecodedApdu.Incomplete others e = nothing_before bytes more (laws.incomplete bytes e)
apdus_by laws bytes more (DecodedApdu.TooLong n) others e = nothing_before bytes more (laws.too_long bytes n e)

apdus_within : Laws → (n : ℕ) (bytes more : List ℕ) → length bytes ≤ n → Grows bytes more
apdus_within laws zero bytes more few = apdus_by laws bytes more (decode_apdu bytes) (λ rest shorter. absurd (omega arith)) refl
apdus_within laws (suc n) bytes more few = apdus_by laws bytes more (decode_apdu bytes) (λ rest shorter. apdus_within laws n rest more (omega arith)) refl

-- more bytes complete more APDUs, and those before stay
pub apdus_grow : Laws → (bytes more : List ℕ) → IsPrefix (decode_apdus bytes).apdus (decode_apdus (bytes ++ more)).apdus
apdus_grow laws bytes more = apdus_within laws (length bytes) bytes more (omega arith)

-- ---- the requests of a link, in two parts

handled_choice : (cut is : Bool) (here all last : List ApduValue) (more : List ApduValue → List ApduValue) → all ≡ cond is last (more last)
    → cond cut here all ≡ cond (cond cut true is) (cond cut here last) (more (cond cut here last))
handled_choice true is here all last more e = refl
handled_choice false is here all last more e = e

pub handled_append : (setting : Setting) (before xs ys : List ApduValue)
    → handled setting before (xs ++ ys) ≡ cond (is_cut_by setting before xs) (handled setting before xs) (handled setting (handled setting before xs) ys)
handled_append setting before [] ys = refl
handled_append setting before (apdu ∷ xs) ys =
    handled_choice (cuts (reaction_after setting before apdu)) (is_cut_by setting (apdu ∷ before) xs) (apdu ∷ before) (handled setting (apdu ∷ before) (xs ++ ys)) (handled setting (apdu ∷ before) xs)
    (λ (l : List ApduValue). handled setting l ys) (handled_append setting (apdu ∷ before) xs ys)

sent_join : (is : Bool) (bytes first more : List ℕ) → bytes ++ cond is first (first ++ more) ≡ cond is (bytes ++ first) ((bytes ++ first) ++ more)
sent_join true bytes first more = refl
sent_join false bytes first more = sym (append_assoc bytes first more)

sent_choice : (cut is : Bool) (bytes all first : List ℕ) (here last : List ApduValue) (more : List ApduValue → List ℕ) → all ≡ cond is first (first ++ more last)
    → cond cut bytes (bytes ++ all) ≡ cond (cond cut true is) (cond cut bytes (bytes ++ first)) (cond cut bytes (bytes ++ first) ++ more (cond cut here last))
sent_choice true is bytes all first here last more e = refl
sent_choice false is bytes all first here last more e = ap (λ (a : List ℕ). bytes ++ a) e ∙ sent_join is bytes first (more last)

pub sent_append : (setting : Setting) (before xs ys : List ApduValue)
    → sent_for setting before (xs ++ ys) ≡ cond (is_cut_by setting before xs) (sent_for setting before xs) (sent_for setting before xs ++ sent_for setting (handled setting before xs) ys)
sent_append setting before [] ys = refl
sent_append setting before (apdu ∷ xs) ys =
    sent_choice (cuts (reaction_after setting before apdu)) (is_cut_by setting (apdu ∷ before) xs) (bytes_of (reaction_after setting before apdu)) (sent_for setting (apdu ∷ before) (xs ++ ys)) (sent_for setting (apdu ∷ before) xs)
    (apdu ∷ before) (handled setting (apdu ∷ before) xs) (λ (l : List ApduValue). sent_for setting l ys) (sent_append setting (apdu ∷ before) xs ys)

-- these requests are handled after those
abbrev pub Follows : List ApduValue → List ApduValue → Type 0
Follows all before = (more : List ApduValue) × (all ≡ more ++ before)

follows_choice : (cut : Bool) (apdu : ApduValue) (before last : List ApduValue) → Follows last (apdu ∷ before) → Follows (cond cut (apdu ∷ before) last) before
follows_choice true apdu before last follows = (apdu ∷ [], refl)
follows_choice false apdu before last follows = (follows.0 ++ apdu ∷ [], follows.1 ∙ sym (append_assoc follows.0 (apdu ∷ []) before))

pub handled_follows : (setting : Setting) (before apdus : List ApduValue) → Follows (handled setting before apdus) before
handled_follows setting before [] = ([], refl)
handled_follows setting before (apdu ∷ apdus) =
    follows_choice (cuts (reaction_after setting before apdu)) apdu before (handled setting (apdu ∷ before) apdus) (handled_follows setting (apdu ∷ before) apdus)

two_follow : (is : Bool) (here last : List ApduValue) → Follows last here → Follows (cond is here last) here
two_follow true here last follows = ([], refl)
two_follow false here last follows = follows

-- more bytes on the link are handled after what was handled
pub chunk_follows : Laws → (setting : Setting) (met : List Met) (bytes : List ℕ) → Follows (all_handled setting (Chunk bytes ∷ met)) (all_handled setting met)
chunk_follows laws setting met bytes =
    let before = earlier setting met in
    let grows = apdus_grow laws (link_bytes met) bytes in
    let here = all_handled setting met in
    let all : all_handled setting (Chunk bytes ∷ met) ≡ cond (is_cut_by setting before (requests met)) here (handled setting here grows.0) =
    ap (handled setting before) grows.1 ∙ handled_append setting before (requests met) grows.0 in
    let P : List ApduValue → Type 0 = λ l. Follows l here in
    subst P (sym all) (two_follow (is_cut_by setting before (requests met)) here (handled setting here grows.0) (handled_follows setting here grows.0))

-- ---- the book

-- what requests add to the book
abbrev pub added : Setting → List ApduValue → List ApduValue → List BookEntry
added setting [] before = []
added setting (apdu ∷ more) before = added setting more before ++ entries_of (reaction_after setting (more ++ before) apdu)

pub book_added : (setting : Setting) (more before : List ApduValue) → book_of setting (more ++ before) ≡ book_of setting before ++ added setting more before
book_added setting [] before = sym (append-nil (book_of setting before))
book_added setting (apdu ∷ more) before =
    ap (λ (b : List BookEntry). b ++ entries_of (reaction_after setting (more ++ before) apdu)) (book_added setting more before)
    ∙ append_assoc (book_of setting before) (added setting more before) (entries_of (reaction_after setting (more ++ before) apdu))

-- an entry that one of the requests adds
pub record IsAdded (setting : Setting) (more before : List ApduValue) (entry : BookEntry) : Type 0 where
  pub first : List ApduValue
  pub apdu : ApduValue
  pub later : List ApduValue
  pub parts : more ++ before ≡ later ++ apdu ∷ first
  pub not_before : length before ≤ length first
  pub booked : entries_of (reaction_after setting first apdu) ≡ entry ∷ []

one_added : (setting : Setting) (apdu : ApduValue) (more before : List ApduValue) (entries : List BookEntry)
    → entries_of (reaction_after setting (more ++ before) apdu) ≡ entries → Books (book_of setting (more ++ before)) (decode_command apdu) entries
    → AllByRecursion (IsAdded setting (apdu ∷ more) before) entries
one_added setting apdu more before [] is books = tt
one_added setting apdu more before (entry ∷ []) is books =
    (record { first = more ++ before; apdu = apdu; later = []; parts = refl; not_before = omega (arith, length-append more before); booked = is }, tt)
one_added setting apdu more before (entry ∷ other ∷ entries) is books = absurd books

still_added : (setting : Setting) (apdu : ApduValue) (more before : List ApduValue) (entry : BookEntry) → IsAdded setting more before entry → IsAdded setting (apdu ∷ more) before entry
still_added setting apdu more before entry added_ = record {
  first = added_.first;
  apdu = added_.apdu;
  later = apdu ∷ added_.later;
  parts = ap (λ (l : List ApduValue). apdu ∷ l) added_.parts;
  not_before = added_.not_before;
  booked = added_.booked;
}

pub each : {X : Type 0} (P Q : X → Type 0) → ((x : X) → P x → Q x) → (xs : List X) → AllByRecursion P xs → AllByRecursion Q xs
each P Q step [] all = tt
each P Q step (x ∷ xs) all = (step x all.0, each P Q step xs all.1)

pub each_append : {X : Type 0} (P : X → Type 0) (xs ys : List X) → AllByRecursion P xs → AllByRecursion P ys → AllByRecursion P (xs ++ ys)
each_append P [] ys first second = second
each_append P (x ∷ xs) ys first second = (first.0, each_append P xs ys first.1 second)

pub all_added : (setting : Setting) (more before : List ApduValue) → AllByRecursion (IsAdded setting more before) (added setting more before)
all_added setting [] before = tt
all_added setting (apdu ∷ more) before =
    each_append (IsAdded setting (apdu ∷ more) before) (added setting more before) (entries_of (reaction_after setting (more ++ before) apdu))
    (each (IsAdded setting more before) (IsAdded setting (apdu ∷ more) before) (still_added setting apdu more before) (added setting more before) (all_added setting more before))
    (one_added setting apdu more before (entries_of (reaction_after setting (more ++ before) apdu)) refl
    (booked setting.none (play_left setting.plays (more ++ before)) (book_of setting (more ++ before)) apdu.class (decode_command apdu)))
