-- A tree is one reply at most, has one fault at most, and not both.
use Rattle.std.proofs.Common.{◌≡◌, ℕ, List, Option, Some, None, refl, sym, ap, subst, ◌∙◌, Result, Ok, Err, MatchResult, IfOk, IsOkAnd, IsSome, true≢false, ◌↔◌, codes}
use Rattle.std.specs.Option.{option_and_then}
use Rattle.gw_base.specs.Condition.{name_of}
use Rattle.gw_base.specs.declared.condition.Condition.{Condition}
use Rattle.gw_base.specs.declared.condition.Condition.TheVariants as conditions
use Rattle.json_text.specs.Tree.{Tree, string_of}
use Rattle.sale_values.specs.declared.header.Header.{Header}
use Rattle.sale_values.specs.declared.fault.SaleFault.{SaleFault}
use Rattle.sale_values.specs.declared.fault.SaleFault.TheVariants as faults
use Rattle.sale_values.specs.Money.{money_text}
use Rattle.sale_msg.specs.Grammar.{IsHeaded}
use Rattle.sale_msg.specs.Path.{text_at, tree_at}
use Rattle.sale_msg.specs.declared.table.Envelope.{Envelope}
use Rattle.sale_msg.proofs.UniqueLemmas.{header_path_unique, no_header_one, no_header_headed}
use Rattle.sale_reply.specs.Names.{result_name}
use Rattle.sale_reply.specs.declared.reply.ReplyResult.{ReplyResult}
use Rattle.sale_reply.specs.declared.reply.ReplyResult.TheVariants as results
use Rattle.sale_seen.specs.Fault.{HasOtherResult, IsReplyFault, LacksResult, result_in, result_path}
use Rattle.sale_seen.specs.ReplyMembers.{amount_text_in, condition_in, outcome_in, response_of, transaction_in}
use Rattle.sale_seen.specs.Grammar.{FindsMember, ReadsReply, ReadsReplyIn, ReadReply, NamesCondition, IsAmountMember, NamesResult, IsTransactionText, read_reply_value}
use Rattle.sale_seen.specs.declared.reply.ReplySeen.{ReplySeen}
use Rattle.sale_seen.proofs.NameLemmas.{differ}
use Rattle.sale_seen.proofs.MoneyLemmas.{money_one}

some_one : {A : Type 0} (o : Option A) (x y : A) → o ≡ Some x → o ≡ Some y → x ≡ y
some_one o x y e f = let g : Some x ≡ Some y = sym e ∙ f in cc

none_some : {A : Type 0} (o : Option A) (x : A) → o ≡ None → o ≡ Some x → ⊥
none_some {A} o x e f = let nothing : Option A = None in let g : nothing ≡ Some x = sym e ∙ f in absurd cc

finds_one : {A : Type 0} (Holds : A → Type 0) → ((x y : A) → Holds x → Holds y → x ≡ y) → (a b : Option A) → FindsMember Holds a → FindsMember Holds b → a ≡ b
finds_one Holds one None None h k = refl
finds_one Holds one None (Some y) h k = absurd (h y k)
finds_one Holds one (Some x) None h k = absurd (k x h)
finds_one Holds one (Some x) (Some y) h k = ap (λ v. Some v) (one x y h k)

-- ---- names

result_one : (a b : ReplyResult) → result_name a ≡ result_name b → a ≡ b
result_one results.Success results.Success e = refl
result_one results.Partial results.Partial e = refl
result_one results.Failure results.Failure e = refl
result_one a b e = absurd (differ (result_name a) (result_name b) refl e)

condition_one : (a b : Condition) → name_of a ≡ name_of b → a ≡ b
condition_one conditions.Aborted conditions.Aborted e = refl
condition_one conditions.Busy conditions.Busy e = refl
condition_one conditions.Cancel conditions.Cancel e = refl
condition_one conditions.InProgress conditions.InProgress e = refl
condition_one conditions.InsertedCard conditions.InsertedCard e = refl
condition_one conditions.InvalidCard conditions.InvalidCard e = refl
condition_one conditions.LoggedOut conditions.LoggedOut e = refl
condition_one conditions.MessageFormat conditions.MessageFormat e = refl
condition_one conditions.NotAllowed conditions.NotAllowed e = refl
condition_one conditions.NotFound conditions.NotFound e = refl
condition_one conditions.Refusal conditions.Refusal e = refl
condition_one conditions.UnavailableDevice conditions.UnavailableDevice e = refl
condition_one conditions.UnavailableService conditions.UnavailableService e = refl
condition_one a b e = absurd (differ (name_of a) (name_of b) refl e)

-- ---- the reply

result_named_one : (message : Tree) (envelope : Envelope) (holder : Tree) (header : Header) (body : Tree) (s t : ReadReply)
    → ReadsReplyIn message envelope holder header body s → (e : Envelope) → ReadsReplyIn message e holder header body t → s ≡ t
result_named_one message envelope holder header body s t h e k =
    let outcome = outcome_in header.category body in
    let condition_text = condition_in s.result body in
    let transaction_text = option_and_then transaction_in outcome in
    let numeral = option_and_then amount_text_in outcome in
    let category : s.category ≡ t.category = h.category ∙ sym k.category in
    let result = result_one s.result t.result (some_one (text_at (codes "Response.Result") body) (result_name s.result) (result_name t.result) h.result k.result) in
    let HasCondition : ReplyResult → Type 0 = λ outcome. FindsMember (NamesCondition (condition_in outcome body)) t.condition in
    let condition = finds_one (NamesCondition condition_text)
    (λ a b p q. condition_one a b (some_one condition_text (name_of a) (name_of b) p q)) s.condition t.condition h.condition
    (subst HasCondition (sym result) k.condition) in
    let transaction = finds_one (IsTransactionText transaction_text)
    (λ a b p q. some_one transaction_text a b p.0 q.0) s.transaction t.transaction h.transaction k.transaction in
    let units = finds_one (IsAmountMember numeral)
    (λ a b p q. money_one a b p.1 q.1 (some_one numeral (money_text a) (money_text b) p.0 q.0)) s.minor t.minor h.minor k.minor in
    λ i. record { category = category i; result = result i; condition = condition i; transaction = transaction i; minor = units i }

reply_in_one : (message : Tree) (e d : Envelope) (o p : Tree) (g h : Header) (b c : Tree) (s t : ReadReply)
    → ReadsReplyIn message e o g b s → ReadsReplyIn message d p h c t → s ≡ t
reply_in_one message e d o p g h b c s t x y =
    let headed = header_path_unique message e d o p g h x.headed y.headed in
    let P : Tree → Type 0 = λ tree. ReadsReplyIn message e tree g b s in
    let Q : Header → Type 0 = λ header. ReadsReplyIn message e p header b s in
    let R : Tree → Type 0 = λ body. ReadsReplyIn message e p h body s in
    let there = subst Q headed.1 (subst P headed.0 x) in
    let same = some_one (response_of h.category p) b c there.body_is y.body_is in
    result_named_one message e p h c s t (subst R same there) d y

pub reply_one : (message : Tree) (s t : ReadReply) → ReadsReply message s → ReadsReply message t → s ≡ t
reply_one message s t x y = reply_in_one message x.0 y.0 x.1 y.1 x.2 y.2 x.3 y.3 s t x.4 y.4

-- ---- faults

-- the result is that of the body
result_there : (found : Option Tree) (body : Tree) → found ≡ Some body
    → option_and_then (tree_at (codes "Response.Result")) found ≡ tree_at (codes "Response.Result") body
result_there found body e = ap (option_and_then (tree_at (codes "Response.Result"))) e

-- a result that is read is there, and is one of the three
record HasResult (category : List ℕ) (holder : Tree) (outcome : ReplyResult) : Type 0 where
  named : NamesResult (option_and_then string_of (result_in category holder)) outcome

has_result : (message : Tree) (e : Envelope) (holder : Tree) (header : Header) (body : Tree) (s : ReadReply)
    → ReadsReplyIn message e holder header body s → HasResult header.category holder s.result
has_result message e holder header body s h =
    let there = result_there (response_of header.category holder) body h.body_is in
    record { named = ap (option_and_then string_of) there ∙ h.result }

no_result_named : (found : Option Tree) (outcome : ReplyResult) → found ≡ None → NamesResult (option_and_then string_of found) outcome → ⊥
no_result_named found outcome e named = none_some (option_and_then string_of found) (result_name outcome) (ap (option_and_then string_of) e) named

-- a header and its holder are the only ones of a message
record SameMember (o p : Tree) (g h : Header) : Type 0 where
  holder : o ≡ p
  header : g ≡ h

same_member : (message : Tree) (e d : Envelope) (o p : Tree) (g h : Header) → IsHeaded message e o g → IsHeaded message d p h → SameMember o p g h
same_member message e d o p g h x y = let both = header_path_unique message e d o p g h x y in record { holder = both.0; header = both.1 }

moved : (o p : Tree) (g h : Header) (outcome : ReplyResult) → SameMember o p g h → HasResult g.category o outcome → HasResult h.category p outcome
moved o p g h outcome same x =
    let P : Tree → Type 0 = λ tree. HasResult g.category tree outcome in
    let Q : Header → Type 0 = λ header. HasResult header.category p outcome in
    subst Q same.header (subst P same.holder x)

pub not_both : (message : Tree) (s : ReadReply) (f : SaleFault) → ReadsReply message s → IsReplyFault message f → ⊥
not_both message s (faults.NoHeader path) x h = no_header_headed message path x.0 x.1 x.2 h x.4.headed.0 x.4.headed.1
not_both message s (faults.Missing header path) x h =
    let same = same_member message x.0 h.0 x.1 h.1 x.2 header x.4.headed h.2.headed in
    let there = moved x.1 h.1 x.2 header s.result same (has_result message x.0 x.1 x.2 x.3 s x.4) in
    no_result_named (result_in header.category h.1) s.result h.2.absent there.named
not_both message s (faults.Wrong header path) x h =
    let same = same_member message x.0 h.0 x.1 h.1 x.2 header x.4.headed h.2.headed in
    let there = moved x.1 h.1 x.2 header s.result same (has_result message x.0 x.1 x.2 x.3 s x.4) in
    h.2.other s.result there.named
not_both message s (faults.Unserved header) x h = h

-- the header determines the path
same_path : (g h : Header) (p q : List ℕ) → g ≡ h → p ≡ result_path g.category → q ≡ result_path h.category → p ≡ q
same_path g h p q e x y = x ∙ ap (λ header. result_path header.category) e ∙ sym y

-- what is absent isn't present
absent_present : (message : Tree) (g h : Header) (p q : List ℕ) → LacksResult message g p → HasOtherResult message h q → ⊥
absent_present message g h p q x y =
    let same = same_member message x.0 y.0 x.1 y.1 g h x.2.headed y.2.headed in
    let P : Tree → Type 0 = λ tree. result_in g.category tree ≡ None in
    let Q : Header → Type 0 = λ header. result_in header.category y.1 ≡ None in
    let absent = subst Q same.header (subst P same.holder x.2.absent) in
    let R : Option Tree → Type 0 = λ found. IsSome found in
    let nowhere : IsSome {T = Tree} None = subst R absent y.2.present in
    true≢false (sym nowhere)

pub reply_fault_one : (message : Tree) (f g : SaleFault) → IsReplyFault message f → IsReplyFault message g → f ≡ g
reply_fault_one message (faults.NoHeader p) (faults.NoHeader q) x y = ap (λ (path : List ℕ). faults.NoHeader path) (no_header_one message p q x y)
reply_fault_one message (faults.NoHeader p) (faults.Missing h q) x y = absurd (no_header_headed message p y.0 y.1 h x y.2.headed.0 y.2.headed.1)
reply_fault_one message (faults.NoHeader p) (faults.Wrong h q) x y = absurd (no_header_headed message p y.0 y.1 h x y.2.headed.0 y.2.headed.1)
reply_fault_one message (faults.NoHeader p) (faults.Unserved h) x y = absurd y
reply_fault_one message (faults.Missing g p) (faults.NoHeader q) x y = absurd (no_header_headed message q x.0 x.1 g y x.2.headed.0 x.2.headed.1)
reply_fault_one message (faults.Missing g p) (faults.Missing h q) x y =
    let same = same_member message x.0 y.0 x.1 y.1 g h x.2.headed y.2.headed in
    let path = same_path g h p q same.header x.2.path_is y.2.path_is in
    let header = same.header in
    λ i. faults.Missing (header i) (path i)
reply_fault_one message (faults.Missing g p) (faults.Wrong h q) x y = absurd (absent_present message g h p q x y)
reply_fault_one message (faults.Missing g p) (faults.Unserved h) x y = absurd y
reply_fault_one message (faults.Wrong g p) (faults.NoHeader q) x y = absurd (no_header_headed message q x.0 x.1 g y x.2.headed.0 x.2.headed.1)
reply_fault_one message (faults.Wrong g p) (faults.Missing h q) x y = absurd (absent_present message h g q p y x)
reply_fault_one message (faults.Wrong g p) (faults.Wrong h q) x y =
    let same = same_member message x.0 y.0 x.1 y.1 g h x.2.headed y.2.headed in
    let path = same_path g h p q same.header x.2.path_is y.2.path_is in
    let header = same.header in
    λ i. faults.Wrong (header i) (path i)
reply_fault_one message (faults.Wrong g p) (faults.Unserved h) x y = absurd y
reply_fault_one message (faults.Unserved g) g' x y = absurd x

-- ---- a result that is right is the only one

abbrev pub IsReaderResult : Tree → Result ReplySeen SaleFault → Type 0
IsReaderResult message result = MatchResult result (λ seen. ReadsReply message (read_reply_value seen)) (IsReplyFault message)

pub result_ok : (message : Tree) (result : Result ReplySeen SaleFault) → IsReaderResult message result → IfOk result (λ seen. ReadsReply message (read_reply_value seen))
result_ok message (Ok own) h = h
result_ok message (Err fault) h = tt

pub result_every : (message : Tree) (result : Result ReplySeen SaleFault) → IsReaderResult message result
    → (seen : ReadReply) → ReadsReply message seen → IsOkAnd result (λ own. read_reply_value own ≡ seen)
result_every message (Ok own) h = λ seen k. reply_one message (read_reply_value own) seen h k
result_every message (Err fault) h = λ seen k. absurd (not_both message seen fault k h)

only_fault : (message : Tree) (result : Result ReplySeen SaleFault) → IsReaderResult message result
    → (fault : SaleFault) → IsReplyFault message fault → result ≡ Err fault
only_fault message (Ok own) h fault k = absurd (not_both message (read_reply_value own) fault h k)
only_fault message (Err own) h fault k = ap (λ (f : SaleFault). Err f) (reply_fault_one message own fault h k)

pub result_fault : (message : Tree) (result : Result ReplySeen SaleFault) → IsReaderResult message result
    → (fault : SaleFault) → (result ≡ Err fault) ↔ IsReplyFault message fault
result_fault message result h fault = (λ e. subst (IsReaderResult message) e h, only_fault message result h fault)
