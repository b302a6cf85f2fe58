-- What a till reads in the reply of a resolved entry.
use Rattle.std.proofs.Common.{◌≡◌, ◌≢◌, ◌∙◌, ℕ, ◌^◌, ◌<◌, ◌≤◌, Bool, true, false, List, [], Option, Some, None, refl, ap, subst, arith, codes, lit≤, inl, inr}
use Rattle.std.specs.Prelude.{All, option_map, option_and_then}
use Rattle.std.proofs.lemmas.List.Elements.{All-nil, All-cons, All-weaker}
use Rattle.gw_base.specs.declared.condition.Condition.{Condition}
use Rattle.gw_base.specs.Ident.{IsIdent, IsPrintable}
use Rattle.gw_base.specs.Limits.{IsAmount}
use Rattle.jrn_record.specs.Limits.{HasReason, HasTillText, IsIntent, IsOutcome, IsPresentAs}
use Rattle.jrn_record.specs.declared.records.Deal.{Deal}
use Rattle.jrn_record.specs.declared.records.Deal.TheVariants.{Payment, Reversal}
use Rattle.jrn_record.specs.declared.records.Intent.{Intent as TheIntent}
use Rattle.jrn_record.specs.declared.records.Outcome.{Outcome as TheOutcome}
use Rattle.gw_ledger.specs.declared.entry.Entry.{Entry as TheEntry}
use Rattle.gw_ledger.specs.declared.entry.Found.TheVariants.{Entry}
use Rattle.sale_msg.specs.Form.{IsLetter}
use Rattle.sale_reply.specs.Limits.{IsHeaderWithinLimits, IsMarkWithinLimits, IsToldWithinLimits, IsWithinLimits}
use Rattle.sale_reply.specs.Reply.{tree_of}
use Rattle.sale_reply.specs.declared.reply.SaleReply.{SaleReply}
use Rattle.sale_reply.specs.declared.reply.SaleReply.TheVariants as reply
use Rattle.sale_reply.specs.declared.reply.Told.{Told}
use Rattle.sale_reply.specs.declared.reply.Told.TheVariants.{PaymentApproved, PaymentDeclined, ReversalApproved, ReversalDeclined}
use Rattle.sale_seen.specs.Expected.{IsReadable, Suits, expected_reply}
use Rattle.sale_seen.specs.Grammar.{ReadReply, ReadsReply}
use Rattle.xlate.specs.Finished.{HasOutcome}
use Rattle.xlate.specs.Reply.{deal_category, header_of, transaction_mark, money_of, outcome_body, reply_for, reply_header}
use Rattle.xlate.proofs.LimitLemmas.{numbers_limited}
use Rattle.entry_seen.specs.ReplyRead.{RepliesSayRecords, entry_reply_read}

-- what a till is expected to read of a reply within the limits is read
abbrev pub ExpectedIsRead : Type 0
ExpectedIsRead = (r : SaleReply) (value : ReadReply) → IsWithinLimits r → Suits r → expected_reply r ≡ Some value → ReadsReply (tree_of r) value

-- ---- the categories

capital : (byte : ℕ) → 0x41 ≤ byte → byte ≤ 0x5A → IsLetter byte
capital byte low high = inl (low, high)

small : (byte : ℕ) → 0x61 ≤ byte → byte ≤ 0x7A → IsLetter byte
small byte low high = inr (low, high)

letters_payment : All IsLetter (codes "Payment")
letters_payment =
    All-cons IsLetter 0x50 (codes "ayment") (capital 0x50 (lit≤ tt) (lit≤ tt))
    (All-cons IsLetter 0x61 (codes "yment") (small 0x61 (lit≤ tt) (lit≤ tt))
    (All-cons IsLetter 0x79 (codes "ment") (small 0x79 (lit≤ tt) (lit≤ tt))
    (All-cons IsLetter 0x6D (codes "ent") (small 0x6D (lit≤ tt) (lit≤ tt))
    (All-cons IsLetter 0x65 (codes "nt") (small 0x65 (lit≤ tt) (lit≤ tt))
    (All-cons IsLetter 0x6E (codes "t") (small 0x6E (lit≤ tt) (lit≤ tt))
    (All-cons IsLetter 0x74 [] (small 0x74 (lit≤ tt) (lit≤ tt)) (All-nil IsLetter)))))))

letters_reversal : All IsLetter (codes "Reversal")
letters_reversal =
    All-cons IsLetter 0x52 (codes "eversal") (capital 0x52 (lit≤ tt) (lit≤ tt))
    (All-cons IsLetter 0x65 (codes "versal") (small 0x65 (lit≤ tt) (lit≤ tt))
    (All-cons IsLetter 0x76 (codes "ersal") (small 0x76 (lit≤ tt) (lit≤ tt))
    (All-cons IsLetter 0x65 (codes "rsal") (small 0x65 (lit≤ tt) (lit≤ tt))
    (All-cons IsLetter 0x72 (codes "sal") (small 0x72 (lit≤ tt) (lit≤ tt))
    (All-cons IsLetter 0x73 (codes "al") (small 0x73 (lit≤ tt) (lit≤ tt))
    (All-cons IsLetter 0x61 (codes "l") (small 0x61 (lit≤ tt) (lit≤ tt))
    (All-cons IsLetter 0x6C [] (small 0x6C (lit≤ tt) (lit≤ tt)) (All-nil IsLetter))))))))

letters : (what : Deal) → All IsLetter (deal_category what)
letters Payment = letters_payment
letters Reversal = letters_reversal

not_status : (what : Deal) → deal_category what ≢ codes "TransactionStatus"
not_status Payment = λ e. cc
not_status Reversal = λ e. cc

printable : (byte : ℕ) → IsLetter byte → IsPrintable byte
printable byte (inl h) = (omega (arith, h.0), omega (arith, h.1))
printable byte (inr h) = (omega (arith, h.0), omega (arith, h.1))

category_ident : (what : Deal) → IsIdent 40 (deal_category what)
category_ident Payment = (lit≤ tt, lit≤ tt, All-weaker IsLetter IsPrintable printable (codes "Payment") letters_payment)
category_ident Reversal = (lit≤ tt, lit≤ tt, All-weaker IsLetter IsPrintable printable (codes "Reversal") letters_reversal)

-- ---- the reply

header_within : (intent : TheIntent) → IsIntent intent → IsHeaderWithinLimits (reply_header (deal_category intent.what) intent.sale intent.poi intent.service)
header_within intent is = record { category = category_ident intent.what; service = is.service; device = tt; sale = is.sale; poi = is.poi }

readable : (what : Deal) (sale poi service : List ℕ) → IsReadable (reply_header (deal_category what) sale poi service)
readable what sale poi service = record {
  category = letters what;
  service = λ none. let nothing : Some service ≡ None = none in absurd cc;
}

-- ---- what the limits of the records say

-- a payment has each text of its till
till_text : (what : Deal) (most : ℕ) (text : Option (List ℕ)) → what ≡ Payment → HasTillText what most text → (t : List ℕ) × (text ≡ Some t) × IsIdent most t
till_text Payment most None w h = absurd h
till_text Payment most (Some t) w h = (t, refl, h)
till_text Reversal most text w h = let other : Reversal ≡ Payment = w in absurd cc

reason : (approved : Bool) (condition : Option Condition) → approved ≡ false → HasReason approved condition → (c : Condition) × (condition ≡ Some c)
reason true condition a h = let other : true ≡ false = a in absurd cc
reason false None a h = absurd h
reason false (Some c) a h = (c, refl)

no_reason : (approved : Bool) (condition : Option Condition) → approved ≡ true → HasReason approved condition → condition ≡ None
no_reason true None a h = refl
no_reason true (Some c) a h = absurd h
no_reason false condition a h = let other : false ≡ true = a in absurd cc

zero_where : (present : Bool) (IsLimited : ℕ → Type 0) (n : ℕ) → present ≡ false → IsPresentAs present IsLimited n → n ≡ 0
zero_where true IsLimited n a h = let other : true ≡ false = a in absurd cc
zero_where false IsLimited n a h = h

amount_fits : (present : Bool) (n : ℕ) → IsPresentAs present IsAmount n → n < 2 ^ 64
amount_fits true n h = omega (arith, h)
amount_fits false n h = omega (arith, h)

module _ (read : ExpectedIsRead) (entry : TheEntry) (outcome : TheOutcome) (small_slot : entry.slot < 2 ^ 32) (result : entry.result ≡ Some outcome)
    (is : IsIntent entry.intent) (was : IsOutcome outcome) where
  abbrev Said : Type 0
  Said = (only : SaleReply) × (reply_for (Entry entry) ≡ Some only) × ReadsReply (tree_of only) (entry_reply_read entry outcome)

  mark_within : IsMarkWithinLimits (transaction_mark entry.slot outcome)
  mark_within = numbers_limited outcome entry.slot was small_slot

  said : (body : Told) → outcome_body entry outcome ≡ Some body → IsToldWithinLimits body
      → expected_reply (reply.Told (header_of (Entry entry)) body) ≡ Some (entry_reply_read entry outcome) → Said
  said body is_body within expected = (
    reply.Told (header_of (Entry entry)) body,
    ap (option_map (reply.Told (header_of (Entry entry)))) (ap (option_and_then (outcome_body entry)) result ∙ is_body),
    read (reply.Told (header_of (Entry entry)) body) (entry_reply_read entry outcome) (header_within entry.intent is, within)
        (readable entry.intent.what entry.intent.sale entry.intent.poi entry.intent.service, not_status entry.intent.what) expected,
  )

  paid : (t s : List ℕ) → entry.intent.transaction ≡ Some t → IsIdent 80 t → entry.intent.stamp ≡ Some s → IsIdent 35 s
      → entry.intent.what ≡ Payment → outcome.approved ≡ true → outcome.condition ≡ None → Said
  paid t s te ti se si w a c =
      said (PaymentApproved t s (transaction_mark entry.slot outcome) entry.intent.amount (money_of entry.intent outcome))
      (rw (w, a, te, se) refl) (ti, si, mark_within, amount_fits outcome.approved outcome.amount was.amount) (rw (w, a, c) refl)

  unpaid : (t s : List ℕ) → entry.intent.transaction ≡ Some t → IsIdent 80 t → entry.intent.stamp ≡ Some s → IsIdent 35 s
      → (c : Condition) → entry.intent.what ≡ Payment → outcome.approved ≡ false → outcome.condition ≡ Some c → outcome.number ≡ 0 → outcome.receipt ≡ 0 → Said
  unpaid t s te ti se si c w a ce number receipt =
      said (PaymentDeclined t s (transaction_mark entry.slot outcome) c)
      (rw (w, a, ce, te, se) refl) (ti, si, mark_within) (rw (w, a, ce, number, receipt) refl)

  undone : entry.intent.what ≡ Reversal → outcome.approved ≡ true → outcome.condition ≡ None → Said
  undone w a c =
      said (ReversalApproved (transaction_mark entry.slot outcome) (money_of entry.intent outcome))
      (rw (w, a) refl) (mark_within, amount_fits outcome.approved outcome.amount was.amount) (rw (w, a, c) refl)

  kept : (c : Condition) → entry.intent.what ≡ Reversal → outcome.approved ≡ false → outcome.condition ≡ Some c → outcome.number ≡ 0 → outcome.receipt ≡ 0 → Said
  kept c w a ce number receipt =
      said (ReversalDeclined (transaction_mark entry.slot outcome) c) (rw (w, a, ce) refl) mark_within (rw (w, a, ce, number, receipt) refl)

  by_deal : (what : Deal) → entry.intent.what ≡ what → (approved : Bool) → outcome.approved ≡ approved → Said
  by_deal Payment w true a =
      let t = till_text entry.intent.what 80 entry.intent.transaction w is.transaction in
      let s = till_text entry.intent.what 35 entry.intent.stamp w is.stamp in
      paid t.0 s.0 t.1 t.2 s.1 s.2 w a (no_reason outcome.approved outcome.condition a was.condition)
  by_deal Payment w false a =
      let t = till_text entry.intent.what 80 entry.intent.transaction w is.transaction in
      let s = till_text entry.intent.what 35 entry.intent.stamp w is.stamp in
      let c = reason outcome.approved outcome.condition a was.condition in
      unpaid t.0 s.0 t.1 t.2 s.1 s.2 c.0 w a c.1
      (zero_where outcome.approved _ outcome.number a was.number) (zero_where outcome.approved _ outcome.receipt a was.receipt)
  by_deal Reversal w true a = undone w a (no_reason outcome.approved outcome.condition a was.condition)
  by_deal Reversal w false a =
      let c = reason outcome.approved outcome.condition a was.condition in
      kept c.0 w a c.1
      (zero_where outcome.approved _ outcome.number a was.number) (zero_where outcome.approved _ outcome.receipt a was.receipt)

pub replies_say_records : ExpectedIsRead → RepliesSayRecords
replies_say_records read entry outcome small_slot result resolved =
    let both : HasOutcome entry.intent (Some outcome) = subst (HasOutcome entry.intent) result resolved in
    by_deal read entry outcome small_slot result both.0 both.1 entry.intent.what refl outcome.approved refl
