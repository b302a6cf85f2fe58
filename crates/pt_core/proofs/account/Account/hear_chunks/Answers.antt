-- `hear_chunks` serves what all the bytes come to, chunk after chunk.
use Rattle.std.proofs.Common.{◌≡◌, ℕ, true, false, List, ◌++◌, take, drop, sym, ap, subst, ◌∙◌, arith, take-append-drop}
use Rattle.zvt_apdu.specs.DecodeStream.{decode_apdus}
use Rattle.pt_core.specs.Serving.{AccountValue}
use Rattle.pt_core.specs.inner.Results.{account_value}
use Rattle.pt_core.proofs.SplitLemmas.{Laws, count_of, few_requests}
use Rattle.pt_core.proofs.ProgressLemmas.{Progress, Comes, cut_chunk, next_chunk}
use Rattle.pt_core.proofs.account.Account.hear_chunks.Goals as goal

pub serve_all-requires-clause-sent_room : goal.serve_all-requires-clause-sent_room
serve_all-requires-clause-sent_room c =
    let laws : Laws = record { whole = c.law_decode_apdus.ensures.whole; incomplete = c.law_decode_apdus.ensures.incomplete; too_long = c.law_decode_apdus.ensures.too_long } in
    let few = few_requests laws c.chunks.reader c.split_at.result.0.now c.chunks.invariant.1 in
    omega (arith, few, ap count_of c.feed.ensures, c.split_at.ensures.front_len, c.split_at.ensures.back_len, c.chunks.invariant.2)

pub serve_all-requires-clause-book_room : goal.serve_all-requires-clause-book_room
serve_all-requires-clause-book_room c =
    let laws : Laws = record { whole = c.law_decode_apdus.ensures.whole; incomplete = c.law_decode_apdus.ensures.incomplete; too_long = c.law_decode_apdus.ensures.too_long } in
    let few = few_requests laws c.chunks.reader c.split_at.result.0.now c.chunks.invariant.1 in
    omega (arith, few, ap count_of c.feed.ensures, c.split_at.ensures.front_len, c.split_at.ensures.back_len, c.chunks.invariant.3)

-- a rest is its first bytes and what follows them
parts : (n : ℕ) (rest chunk more : List ℕ) → chunk ≡ take n rest → more ≡ drop n rest → rest ≡ chunk ++ more
parts n rest chunk more first last = sym (take-append-drop n rest) ∙ ap (λ (a : List ℕ). a ++ drop n rest) (sym first) ∙ ap (λ (b : List ℕ). chunk ++ b) (sym last)

-- the connection is cut in the chunk
cut_here : Laws → (start account later : AccountValue) (bytes written waiting chunk more rest fed out now : List ℕ) (n : ℕ)
    → Progress start bytes written account (waiting ++ rest) out → chunk ≡ take n rest → more ≡ drop n rest → fed ≡ waiting ++ chunk
    → Comes account fed out later now true → Comes start bytes written later now true
cut_here laws start account later bytes written waiting chunk more rest fed out now n so_far first last is comes =
    let P : List ℕ → Type 0 = λ r. Progress start bytes written account (waiting ++ r) out in
    let Q : List ℕ → Type 0 = λ b. Comes account b out later now true in
    cut_chunk laws start bytes written account waiting chunk more out later now (subst P (parts n rest chunk more first last) so_far) (subst Q is comes)

pub returns-then-serve_all-clause-account : goal.returns-then-serve_all-clause-account
returns-then-serve_all-clause-account c =
    let laws : Laws = record { whole = c.law_decode_apdus.ensures.whole; incomplete = c.law_decode_apdus.ensures.incomplete; too_long = c.law_decode_apdus.ensures.too_long } in
    let comes : Comes (account_value c.chunks.self) c.feed.new.self c.chunks.out.items (account_value c.serve_all.new.self) c.serve_all.new.out.items true = record { account_is = c.serve_all.ensures.account; out_is = c.serve_all.ensures.bytes; cut_is = sym c.if-serve_all.true ∙ c.serve_all.ensures.cut } in
    (cut_here laws _ _ _ _ _ c.chunks.reader c.split_at.result.0.now c.split_at.result.1.now c.chunks.rest.now c.feed.new.self _ _ c.min.result c.chunks.invariant.0 c.split_at.ensures.front c.split_at.ensures.back c.feed.ensures comes).account_is

pub returns-then-serve_all-clause-bytes : goal.returns-then-serve_all-clause-bytes
returns-then-serve_all-clause-bytes c =
    let laws : Laws = record { whole = c.law_decode_apdus.ensures.whole; incomplete = c.law_decode_apdus.ensures.incomplete; too_long = c.law_decode_apdus.ensures.too_long } in
    let comes : Comes (account_value c.chunks.self) c.feed.new.self c.chunks.out.items (account_value c.serve_all.new.self) c.serve_all.new.out.items true = record { account_is = c.serve_all.ensures.account; out_is = c.serve_all.ensures.bytes; cut_is = sym c.if-serve_all.true ∙ c.serve_all.ensures.cut } in
    (cut_here laws _ _ _ _ _ c.chunks.reader c.split_at.result.0.now c.split_at.result.1.now c.chunks.rest.now c.feed.new.self _ _ c.min.result c.chunks.invariant.0 c.split_at.ensures.front c.split_at.ensures.back c.feed.ensures comes).out_is

pub returns-then-serve_all-clause-cut : goal.returns-then-serve_all-clause-cut
returns-then-serve_all-clause-cut c =
    let laws : Laws = record { whole = c.law_decode_apdus.ensures.whole; incomplete = c.law_decode_apdus.ensures.incomplete; too_long = c.law_decode_apdus.ensures.too_long } in
    let comes : Comes (account_value c.chunks.self) c.feed.new.self c.chunks.out.items (account_value c.serve_all.new.self) c.serve_all.new.out.items true = record { account_is = c.serve_all.ensures.account; out_is = c.serve_all.ensures.bytes; cut_is = sym c.if-serve_all.true ∙ c.serve_all.ensures.cut } in
    (cut_here laws _ _ _ _ _ c.chunks.reader c.split_at.result.0.now c.split_at.result.1.now c.chunks.rest.now c.feed.new.self _ _ c.min.result c.chunks.invariant.0 c.split_at.ensures.front c.split_at.ensures.back c.feed.ensures comes).cut_is

-- the connection is not, and the next chunk follows
goes_on : Laws → (start account later : AccountValue) (bytes written waiting chunk more rest fed left out now : List ℕ) (n : ℕ)
    → Progress start bytes written account (waiting ++ rest) out → chunk ≡ take n rest → more ≡ drop n rest → fed ≡ waiting ++ chunk
    → Comes account fed out later now false → left ≡ (decode_apdus fed).rest → Progress start bytes written later (left ++ more) now
goes_on laws start account later bytes written waiting chunk more rest fed left out now n so_far first last is comes rest_is =
    let P : List ℕ → Type 0 = λ r. Progress start bytes written account (waiting ++ r) out in
    let Q : List ℕ → Type 0 = λ b. Comes account b out later now false in
    let R : List ℕ → Type 0 = λ r. Progress start bytes written later (r ++ more) now in
    subst R (ap (λ (b : List ℕ). (decode_apdus b).rest) (sym is) ∙ sym rest_is)
    (next_chunk laws start bytes written account waiting chunk more out later now (subst P (parts n rest chunk more first last) so_far) (subst Q is comes))

pub chunks-preserved : goal.chunks-preserved
chunks-preserved c =
    let laws : Laws = record { whole = c.law_decode_apdus.ensures.whole; incomplete = c.law_decode_apdus.ensures.incomplete; too_long = c.law_decode_apdus.ensures.too_long } in
    let few = few_requests laws c.chunks.reader c.split_at.result.0.now c.chunks.invariant.1 in
    let comes : Comes (account_value c.chunks.self) c.feed.new.self c.chunks.out.items (account_value c.serve_all.new.self) c.serve_all.new.out.items false = record { account_is = c.serve_all.ensures.account; out_is = c.serve_all.ensures.bytes; cut_is = sym c.if-serve_all.false ∙ c.serve_all.ensures.cut } in (
      goes_on laws _ _ _ _ _ c.chunks.reader c.split_at.result.0.now c.split_at.result.1.now c.chunks.rest.now c.feed.new.self c.serve_all.new.reader _ _ c.min.result c.chunks.invariant.0 c.split_at.ensures.front c.split_at.ensures.back c.feed.ensures comes c.if-serve_all.ensures.rest,
      c.if-serve_all.ensures.waits,
      omega (arith, few, ap count_of c.feed.ensures, c.split_at.ensures.front_len, c.split_at.ensures.back_len, c.chunks.invariant.2, c.serve_all.ensures.sent_len, c.serve_all.ensures.sent_capacity),
      omega (arith, few, ap count_of c.feed.ensures, c.split_at.ensures.front_len, c.split_at.ensures.back_len, c.chunks.invariant.3, c.serve_all.ensures.book_len, c.serve_all.ensures.book_capacity),
      c.serve_all.ensures.none ∙ c.chunks.invariant.4,
      c.serve_all.ensures.plays ∙ c.chunks.invariant.5,
    )
