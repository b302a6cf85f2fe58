-- A line is read as what its text spells, and as nothing else.
use Rattle.std.proofs.Common.{◌≡◌, ℕ, List, [], ◌∷◌, ◌++◌, refl, sym, ◌∙◌, ap, subst, arith, inl, inr, true, false}
use Rattle.std.proofs.lemmas.Bool.Decides.{eqb_tells}
use Rattle.std.proofs.lemmas.Str.{IsUtf8-from_is_utf8, is_utf8-from_IsUtf8}
use Rattle.std.specs.Fmt.{decimal}
use Rattle.std.specs.List.{AllByRecursion}
use Rattle.std.specs.Prelude.{◌≤◌, pos, Option, Some, None, option_map, option_and_then, Ok, codes, bytes_eq}
use Rattle.std.specs.Str.{is_utf8}
use Rattle.std.specs.Result.{result_ok}
use Rattle.hex.specs.Hex.{decode_of}
use Rattle.gw_base.specs.Currency.{currency_letters}
use Rattle.gw_base.specs.Moment.{last_moment}
use Rattle.gw_base.specs.declared.currency.Currency.{Currency}
use Rattle.gw_base.specs.declared.setup.Pt.{Pt}
use Rattle.gw_site.specs.Steps.{ImageKind, Old, New, Junk}
use Rattle.gw_script.specs.Decode.{WordAndRest, is_blank, number, split_at_space}
use Rattle.gw_script.specs.site.ScriptLine.{SetupLine, Name, Queue, Wait, Slots, Terminal, Event, Open, Close, FromTill, FromPt, Lose, Tick, Failing, FailOpen, FailLink, FailSendTill, FailSendPt, FailWrite, FailSync, FailLength, FailRead, PlayedLine, At, Poll, Fail, Power, ForgetPower, Entry, Blank, Setting, Playing}
use Rattle.gw_script.specs.site.Decode.{Form, after_word, byte_number, chunk, currency_word, entry_of, failing_of, failing_on, failing_parts, formed, formed_parts, forms, image_of, junk_of, link_number, name_word, number_within, password_word, polling, power_of, pt_bytes, said, setting, single, spelled, terminal, terminal_codes, terminal_currency, terminal_password, terminal_words, till_bytes, till_said}
use Rattle.gw_script.specs.site.Grammar.{IsEntry, SpellsChunk, SpellsEvent, SpellsFailing, SpellsImage, SpellsLine, SpellsPlayed, SpellsSetting, SpellsTerminal}
use Rattle.gw_script.proofs.NumberLemmas.{number_decimal}
use Rattle.gw_script.proofs.site.ExactLemmas.{AfterWord, Exact, MadeOf, after-exact, chosen, made-exact, mapped, none_some, some_is, split_is, through}
use Rattle.gw_script.proofs.site.WordLemmas.{ByteIs, CurrencyIs, LinkIs, NameIs, NumberIs, PasswordIs, SaidIs, byte-exact, byte_word, chunk-exact, currency-exact, currency_is_word, framed-exact, hex_ok, is_word, link-exact, link_word, name-exact, name_is_word, number-exact, number_word, password-exact, password_is_word, within-exact}

-- ---- a terminal

abbrev CodesAre : List ℕ → Currency → List ℕ → SetupLine → List ℕ → Type 0
CodesAre poi currency password line text = AfterWord ByteIs (λ config. MadeOf ByteIs (λ none. Terminal (terminal poi currency password config none))) line text

codes-exact : (poi : List ℕ) (currency : Currency) (password : List ℕ) → Exact (CodesAre poi currency password) (terminal_codes poi currency password)
codes-exact poi currency password = after-exact ByteIs (λ config. MadeOf ByteIs (λ none. Terminal (terminal poi currency password config none))) byte_number (λ config rest. option_map (λ none. Terminal (terminal poi currency password config none)) (byte_number rest))
    byte-exact byte_word (λ config. made-exact ByteIs (λ none. Terminal (terminal poi currency password config none)) byte_number byte-exact)

abbrev PasswordIsNext : List ℕ → Currency → SetupLine → List ℕ → Type 0
PasswordIsNext poi currency line text = AfterWord PasswordIs (λ password. CodesAre poi currency password) line text

password_next-exact : (poi : List ℕ) (currency : Currency) → Exact (PasswordIsNext poi currency) (terminal_password poi currency)
password_next-exact poi currency = after-exact PasswordIs (λ password. CodesAre poi currency password) password_word (λ password rest. terminal_codes poi currency password rest) password-exact password_is_word (λ password. codes-exact poi currency password)

abbrev CurrencyIsNext : List ℕ → SetupLine → List ℕ → Type 0
CurrencyIsNext poi line text = AfterWord CurrencyIs (λ currency. PasswordIsNext poi currency) line text

currency_next-exact : (poi : List ℕ) → Exact (CurrencyIsNext poi) (terminal_currency poi)
currency_next-exact poi = after-exact CurrencyIs (λ currency. PasswordIsNext poi currency) currency_word (λ currency rest. terminal_password poi currency rest) currency-exact currency_is_word (λ currency. password_next-exact poi currency)

abbrev TerminalIs : SetupLine → List ℕ → Type 0
TerminalIs line text = AfterWord NameIs (λ poi. CurrencyIsNext poi) line text

terminal-exact : Exact TerminalIs terminal_words
terminal-exact = after-exact NameIs (λ poi. CurrencyIsNext poi) name_word (λ poi rest. terminal_currency poi rest) name-exact name_is_word (λ poi. currency_next-exact poi)

terminal_spells : (text : List ℕ) (line : SetupLine) → TerminalIs line text → SpellsSetting line (codes "terminal " ++ text)
terminal_spells text line t =
    let c = t.next in
    let p = c.next in
    let k = p.next in
    let (none, none_is, made) = k.next in
    subst (λ line. SpellsSetting line (codes "terminal " ++ text)) made (record {
      password = p.word;
      poi = t.first.1;
      password_is = p.first;
      config = k.first.1;
      none = none_is.1;
      defaults = (refl, refl, refl);
      text_is = ap (λ text. codes "terminal " ++ text) (
          t.text_is
          ∙ ap (λ word. word ++ 32 ∷ t.rest) (sym t.first.0)
          ∙ ap (λ rest. t.value ++ 32 ∷ rest) (
          c.text_is
          ∙ ap (λ word. word ++ 32 ∷ c.rest) c.first
          ∙ ap (λ rest. currency_letters c.value ++ 32 ∷ rest) (
          p.text_is
          ∙ ap (λ rest. p.word ++ 32 ∷ rest) (
          k.text_is
          ∙ ap (λ word. word ++ 32 ∷ k.rest) k.first.2
          ∙ ap (λ rest. decimal k.value ++ 32 ∷ rest) none_is.2))));
    })

with_defaults : (pt : Pt) → pt.address ≡ [] → pt.answer ≡ 5 → pt.command ≡ 180 → terminal pt.poi pt.currency pt.password pt.config pt.none ≡ pt
with_defaults pt address answer command =
    ap (λ (a : List ℕ). record pt { address = a; answer = 5; command = 180 }) (sym address)
    ∙ ap (λ (n : ℕ). record pt { answer = n; command = 180 }) (sym answer)
    ∙ ap (λ (n : ℕ). record pt { command = n }) (sym command)

zero_least : (n : ℕ) → 0 ≤ n
zero_least n = omega arith

-- what follows `terminal `
abbrev terminal_rest : Pt → List ℕ → List ℕ
terminal_rest pt password = pt.poi ++ 32 ∷ (currency_letters pt.currency ++ 32 ∷ (password ++ 32 ∷ (decimal pt.config ++ 32 ∷ decimal pt.none)))

terminal_is : (pt : Pt) (text : List ℕ) (s : SpellsTerminal pt text) → TerminalIs (Terminal pt) (terminal_rest pt s.password)
terminal_is pt text s = record {
  value = pt.poi;
  word = pt.poi;
  rest = currency_letters pt.currency ++ 32 ∷ (s.password ++ 32 ∷ (decimal pt.config ++ 32 ∷ decimal pt.none));
  first = (refl, s.poi);
  next = record {
    value = pt.currency;
    word = currency_letters pt.currency;
    rest = s.password ++ 32 ∷ (decimal pt.config ++ 32 ∷ decimal pt.none);
    first = refl;
    next = record {
      value = pt.password;
      word = s.password;
      rest = decimal pt.config ++ 32 ∷ decimal pt.none;
      first = s.password_is;
      next = record {
        value = pt.config;
        word = decimal pt.config;
        rest = decimal pt.none;
        first = (zero_least pt.config, s.config, refl);
        next = (pt.none, (zero_least pt.none, s.none, refl), ap Terminal (with_defaults pt s.defaults.0 s.defaults.1 s.defaults.2));
        text_is = refl;
      };
      text_is = refl;
    };
    text_is = refl;
  };
  text_is = refl;
}

terminal_read : (pt : Pt) (text : List ℕ) → SpellsTerminal pt text → spelled text ≡ Some (Setting (Terminal pt))
terminal_read pt text s = ap spelled s.text_is ∙ ap setting (terminal-exact.complete (terminal_rest pt s.password) (Terminal pt) (terminal_is pt text s))

-- ---- connections with what follows

-- a number of a till, and a value made of what follows
abbrev OfTill : {A B : Type 0} → (A → List ℕ → Type 0) → (ℕ → A → B) → B → List ℕ → Type 0
OfTill Next make = AfterWord NumberIs (λ till. MadeOf Next (make till))

till-exact : {A B : Type 0} (Next : A → List ℕ → Type 0) (make : ℕ → A → B) (next : List ℕ → Option A) → Exact Next next → Exact (OfTill Next make) (λ text. after_word number (λ till rest. option_map (make till) (next rest)) (split_at_space text))
till-exact Next make next x = after-exact NumberIs (λ till. MadeOf Next (make till)) number (λ till rest. option_map (make till) (next rest)) number-exact number_word (λ till. made-exact Next (make till) next x)

-- a number of a terminal, and a value made of what follows
abbrev OfLink : {A B : Type 0} → (A → List ℕ → Type 0) → (ℕ → A → B) → B → List ℕ → Type 0
OfLink Next make = AfterWord LinkIs (λ pt. MadeOf Next (make pt))

pt-exact : {A B : Type 0} (Next : A → List ℕ → Type 0) (make : ℕ → A → B) (next : List ℕ → Option A) → Exact Next next → Exact (OfLink Next make) (λ text. after_word link_number (λ pt rest. option_map (make pt) (next rest)) (split_at_space text))
pt-exact Next make next x = after-exact LinkIs (λ pt. MadeOf Next (make pt)) link_number (λ pt rest. option_map (make pt) (next rest)) link-exact link_word (λ pt. made-exact Next (make pt) next x)

of_till : {A B : Type 0} (Next : A → List ℕ → Type 0) (make : ℕ → A → B) (till : ℕ) (a : A) (rest : List ℕ) → NumberIs till (decimal till) → Next a rest → OfTill Next make (make till a) (decimal till ++ 32 ∷ rest)
of_till Next make till a rest number next = record { value = till; word = decimal till; rest = rest; first = number; next = (a, next, refl); text_is = refl }

of_link : {A B : Type 0} (Next : A → List ℕ → Type 0) (make : ℕ → A → B) (pt : ℕ) (a : A) (rest : List ℕ) → LinkIs pt (decimal pt) → Next a rest → OfLink Next make (make pt a) (decimal pt ++ 32 ∷ rest)
of_link Next make pt a rest number next = record { value = pt; word = decimal pt; rest = rest; first = number; next = (a, next, refl); text_is = refl }

-- a text with a number and what follows
after_is : (word n rest text : List ℕ) → text ≡ word ++ 32 ∷ rest → word ≡ n → text ≡ n ++ 32 ∷ rest
after_is word n rest text is word_is = is ∙ ap (λ w. w ++ 32 ∷ rest) word_is

till_bytes-exact : Exact (OfTill SpellsChunk FromTill) till_bytes
till_bytes-exact = till-exact SpellsChunk FromTill chunk chunk-exact

till_said-exact : Exact (OfTill SaidIs FromTill) till_said
till_said-exact = till-exact SaidIs FromTill said framed-exact

pt_bytes-exact : Exact (OfLink SpellsChunk FromPt) pt_bytes
pt_bytes-exact = pt-exact SpellsChunk FromPt chunk chunk-exact

send_till-exact : Exact (OfTill NumberIs FailSendTill) (λ text. after_word number (λ till rest. option_map (FailSendTill till) (number rest)) (split_at_space text))
send_till-exact = till-exact NumberIs FailSendTill number number-exact

send_pt-exact : Exact (OfLink NumberIs FailSendPt) (λ text. after_word link_number (λ pt rest. option_map (FailSendPt pt) (number rest)) (split_at_space text))
send_pt-exact = pt-exact NumberIs FailSendPt number number-exact

-- ---- the lines of events

till_bytes_spell : (rest : List ℕ) (event : Event) → till_bytes rest ≡ Some event → SpellsEvent event (codes "till " ++ rest)
till_bytes_spell rest event e =
    let a = till_bytes-exact.sound rest event e in
    let (bytes, chunk_is, made) = a.next in
    subst (λ event. SpellsEvent event (codes "till " ++ rest)) made
    (a.first.0, inl (a.rest, chunk_is, ap (λ text. codes "till " ++ text) (after_is a.word (decimal a.value) a.rest rest a.text_is a.first.1)))

till_said_spells : (rest : List ℕ) (event : Event) → till_said rest ≡ Some event → SpellsEvent event (codes "say " ++ rest)
till_said_spells rest event e =
    let a = till_said-exact.sound rest event e in
    let (bytes, said_is, made) = a.next in
    subst (λ event. SpellsEvent event (codes "say " ++ rest)) made
    (a.first.0, inr (a.rest, said_is.0, said_is.1, said_is.2, ap (λ text. codes "say " ++ text) (after_is a.word (decimal a.value) a.rest rest a.text_is a.first.1)))

pt_bytes_spell : (rest : List ℕ) (event : Event) → pt_bytes rest ≡ Some event → SpellsEvent event (codes "pt " ++ rest)
pt_bytes_spell rest event e =
    let a = pt_bytes-exact.sound rest event e in
    let (bytes, chunk_is, made) = a.next in
    subst (λ event. SpellsEvent event (codes "pt " ++ rest)) made
    (a.first.0, a.rest, chunk_is, ap (λ text. codes "pt " ++ text) (after_is a.word (decimal a.value) a.rest rest a.text_is a.first.1))

open_spells : (rest : List ℕ) (event : Event) → option_map Open (number rest) ≡ Some event → SpellsEvent event (codes "open " ++ rest)
open_spells rest event e =
    let m = mapped (number rest) Open event e in
    let n = number-exact.sound rest m.middle m.first_is in
    subst (λ event. SpellsEvent event (codes "open " ++ rest)) m.made_is (n.0, ap (λ text. codes "open " ++ text) n.1)

close_spells : (rest : List ℕ) (event : Event) → option_map Close (number rest) ≡ Some event → SpellsEvent event (codes "close " ++ rest)
close_spells rest event e =
    let m = mapped (number rest) Close event e in
    let n = number-exact.sound rest m.middle m.first_is in
    subst (λ event. SpellsEvent event (codes "close " ++ rest)) m.made_is (n.0, ap (λ text. codes "close " ++ text) n.1)

lost_spells : (rest : List ℕ) (event : Event) → option_map Lose (link_number rest) ≡ Some event → SpellsEvent event (codes "lost " ++ rest)
lost_spells rest event e =
    let m = mapped (link_number rest) Lose event e in
    let n = link-exact.sound rest m.middle m.first_is in
    subst (λ event. SpellsEvent event (codes "lost " ++ rest)) m.made_is (n.0, ap (λ text. codes "lost " ++ text) n.1)

event_read : (event : Event) (text : List ℕ) → SpellsEvent event text → spelled text ≡ Some (Playing (Poll event))
event_read (Open till) text (small, is) = ap spelled is ∙ ap (λ n. polling (option_map Open n)) (number_decimal till small)
event_read (Close till) text (small, is) = ap spelled is ∙ ap (λ n. polling (option_map Close n)) (number_decimal till small)
event_read (FromTill till bytes) text (small, inl (hex, chunk_is, is)) =
    ap spelled is ∙ ap polling (till_bytes-exact.complete (decimal till ++ 32 ∷ hex) (FromTill till bytes) (of_till SpellsChunk FromTill till bytes hex (small, refl) chunk_is))
event_read (FromTill till bytes) text (small, inr (said_text, framed, some, few, is)) =
    ap spelled is ∙ ap polling (till_said-exact.complete (decimal till ++ 32 ∷ said_text) (FromTill till bytes) (of_till SaidIs FromTill till bytes said_text (small, refl) (framed, some, few)))
event_read (FromPt pt bytes) text (small, hex, chunk_is, is) =
    ap spelled is ∙ ap polling (pt_bytes-exact.complete (decimal pt ++ 32 ∷ hex) (FromPt pt bytes) (of_link SpellsChunk FromPt pt bytes hex (small, refl) chunk_is))
event_read (Lose pt) text (small, is) = ap spelled is ∙ ap (λ n. polling (option_map Lose n)) (link-exact.complete (decimal pt) pt (small, refl))
event_read Tick text is = ap spelled is

-- ---- the lines of failing calls

fixed : (text other : List ℕ) (made failing : Failing) → bytes_eq text other ≡ true → Some made ≡ Some failing → (codes "fail " ++ text ≡ codes "fail " ++ other → SpellsFailing made (codes "fail " ++ text)) → SpellsFailing failing (codes "fail " ++ text)
fixed text other made failing same is spells = subst (λ failing. SpellsFailing failing (codes "fail " ++ text)) (some_is made failing is) (spells (ap (λ text. codes "fail " ++ text) (is_word text other same)))

failing_on_spells : (word rest : List ℕ) (failing : Failing) → failing_on word rest ≡ Some failing → SpellsFailing failing (codes "fail " ++ (word ++ 32 ∷ rest))
failing_on_spells word rest failing e = elim (chosen (bytes_eq word (codes "link")) _ _ failing e) [
  | inl x ↦ (
      let m = mapped (link_number rest) FailLink failing x.1 in
      let n = link-exact.sound rest m.middle m.first_is in
      subst (λ failing. SpellsFailing failing (codes "fail " ++ (word ++ 32 ∷ rest))) m.made_is
      (n.0, ap (λ word. codes "fail " ++ (word ++ 32 ∷ rest)) (is_word word (codes "link") x.0) ∙ ap (λ text. codes "fail link " ++ text) n.1))
  | inr not_link ↦ elim (chosen (bytes_eq word (codes "send-till")) _ _ failing not_link.1) [
    | inl x ↦ (
        let a = send_till-exact.sound rest failing x.1 in
        let (most, most_is, made) = a.next in
        subst (λ failing. SpellsFailing failing (codes "fail " ++ (word ++ 32 ∷ rest))) made (
          a.first.0,
          most_is.0,
          ap (λ word. codes "fail " ++ (word ++ 32 ∷ rest)) (is_word word (codes "send-till") x.0)
              ∙ ap (λ text. codes "fail send-till " ++ text) (after_is a.word (decimal a.value) a.rest rest a.text_is a.first.1 ∙ ap (λ text. decimal a.value ++ 32 ∷ text) most_is.1),
        ))
    | inr not_till ↦ elim (chosen (bytes_eq word (codes "send-pt")) _ _ failing not_till.1) [
      | inl x ↦ (
          let a = send_pt-exact.sound rest failing x.1 in
          let (most, most_is, made) = a.next in
          subst (λ failing. SpellsFailing failing (codes "fail " ++ (word ++ 32 ∷ rest))) made (
            a.first.0,
            most_is.0,
            ap (λ word. codes "fail " ++ (word ++ 32 ∷ rest)) (is_word word (codes "send-pt") x.0)
                ∙ ap (λ text. codes "fail send-pt " ++ text) (after_is a.word (decimal a.value) a.rest rest a.text_is a.first.1 ∙ ap (λ text. decimal a.value ++ 32 ∷ text) most_is.1),
          ))
      | inr none ↦ none_some failing none.1
    ]
  ]
]

failing_parts_spell : (text : List ℕ) (split : Option WordAndRest) (failing : Failing) → split_at_space text ≡ split → failing_parts split ≡ Some failing → SpellsFailing failing (codes "fail " ++ text)
failing_parts_spell text None failing parts e = none_some failing e
failing_parts_spell text (Some split) failing parts e = subst (λ text. SpellsFailing failing (codes "fail " ++ text)) (sym (split_is text split parts)) (failing_on_spells split.word split.rest failing e)

failing_spells : (text : List ℕ) (failing : Failing) → failing_of text ≡ Some failing → SpellsFailing failing (codes "fail " ++ text)
failing_spells text failing e = elim (chosen (bytes_eq text (codes "open")) _ _ failing e) [
  | inl x ↦ fixed text (codes "open") FailOpen failing x.0 x.1 (λ e. e)
  | inr not_open ↦ elim (chosen (bytes_eq text (codes "write")) _ _ failing not_open.1) [
    | inl x ↦ fixed text (codes "write") FailWrite failing x.0 x.1 (λ e. e)
    | inr not_write ↦ elim (chosen (bytes_eq text (codes "sync")) _ _ failing not_write.1) [
      | inl x ↦ fixed text (codes "sync") FailSync failing x.0 x.1 (λ e. e)
      | inr not_sync ↦ elim (chosen (bytes_eq text (codes "length")) _ _ failing not_sync.1) [
        | inl x ↦ fixed text (codes "length") FailLength failing x.0 x.1 (λ e. e)
        | inr not_length ↦ elim (chosen (bytes_eq text (codes "read")) _ _ failing not_length.1) [
          | inl x ↦ fixed text (codes "read") FailRead failing x.0 x.1 (λ e. e)
          | inr other ↦ failing_parts_spell text (split_at_space text) failing refl other.1
        ]
      ]
    ]
  ]
]

abbrev failing_line : Option Failing → Option Entry
failing_line failing = option_map (λ failing. Playing (Fail failing)) failing

failing_read : (failing : Failing) (text : List ℕ) → SpellsFailing failing text → spelled text ≡ Some (Playing (Fail failing))
failing_read FailOpen text is = ap spelled is
failing_read (FailLink pt) text (small, is) = ap spelled is ∙ ap (λ n. failing_line (option_map FailLink n)) (link-exact.complete (decimal pt) pt (small, refl))
failing_read (FailSendTill till most) text (small, most_small, is) =
    ap spelled is ∙ ap failing_line (send_till-exact.complete (decimal till ++ 32 ∷ decimal most) (FailSendTill till most) (of_till NumberIs FailSendTill till most (decimal most) (small, refl) (most_small, refl)))
failing_read (FailSendPt pt most) text (small, most_small, is) =
    ap spelled is ∙ ap failing_line (send_pt-exact.complete (decimal pt ++ 32 ∷ decimal most) (FailSendPt pt most) (of_link NumberIs FailSendPt pt most (decimal most) (small, refl) (most_small, refl)))
failing_read FailWrite text is = ap spelled is
failing_read FailSync text is = ap spelled is
failing_read FailLength text is = ap spelled is
failing_read FailRead text is = ap spelled is

-- ---- the line of a power failure

single_is : (bytes : List ℕ) (byte : ℕ) → single bytes ≡ Some byte → bytes ≡ byte ∷ []
single_is [] byte e = none_some byte e
single_is (first ∷ []) byte e = ap (λ b. b ∷ []) (some_is first byte e)
single_is (first ∷ next ∷ bytes) byte e = none_some byte e

junk_spells : (text : List ℕ) (split : Option WordAndRest) (kind : ImageKind) → split_at_space text ≡ split → junk_of split ≡ Some kind → SpellsImage kind text
junk_spells text None kind parts e = none_some kind e
junk_spells text (Some split) kind parts e = elim (chosen (bytes_eq split.word (codes "junk")) _ _ kind e) [
  | inl x ↦ (
      let m = mapped (option_and_then single (result_ok (decode_of split.rest))) Junk kind x.1 in
      let y = through (result_ok (decode_of split.rest)) single m.middle m.first_is in
      subst (λ kind. SpellsImage kind text) m.made_is
      (split.rest, hex_ok (decode_of split.rest) y.middle y.first_is ∙ ap Ok (single_is y.middle m.middle y.next_is), split_is text split parts ∙ ap (λ word. word ++ 32 ∷ split.rest) (is_word split.word (codes "junk") x.0)))
  | inr x ↦ none_some kind x.1
]

image_spells : (text : List ℕ) (kind : ImageKind) → image_of text ≡ Some kind → SpellsImage kind text
image_spells text kind e = elim (chosen (bytes_eq text (codes "old")) _ _ kind e) [
  | inl x ↦ subst (λ kind. SpellsImage kind text) (some_is Old kind x.1) (is_word text (codes "old") x.0)
  | inr not_old ↦ elim (chosen (bytes_eq text (codes "new")) _ _ kind not_old.1) [
    | inl x ↦ subst (λ kind. SpellsImage kind text) (some_is New kind x.1) (is_word text (codes "new") x.0)
    | inr junk ↦ junk_spells text (split_at_space text) kind refl junk.1
  ]
]

image_read : (kind : ImageKind) (text : List ℕ) → SpellsImage kind text → image_of text ≡ Some kind
image_read Old text is = ap image_of is
image_read New text is = ap image_of is
image_read (Junk byte) text (hex, decoded, is) = ap image_of is ∙ ap (λ read. option_map Junk (option_and_then single (result_ok read))) decoded

image-exact : Exact SpellsImage image_of
image-exact = record { sound = λ text kind e. image_spells text kind e; complete = λ text kind s. image_read kind text s }

power-exact : Exact (OfTill SpellsImage Power) power_of
power-exact = till-exact SpellsImage Power image_of image-exact

power_spells : (rest : List ℕ) (line : PlayedLine) → power_of rest ≡ Some line → SpellsPlayed line (codes "power " ++ rest)
power_spells rest line e =
    let a = power-exact.sound rest line e in
    let (kind, image_is, made) = a.next in
    subst (λ line. SpellsPlayed line (codes "power " ++ rest)) made
    (a.first.0, a.rest, image_is, ap (λ text. codes "power " ++ text) (after_is a.word (decimal a.value) a.rest rest a.text_is a.first.1))

-- ---- all lines

-- the form gives what its text spells
abbrev FormSpells : Form → Type 0
FormSpells form = (rest : List ℕ) (entry : Entry) → form.decodes rest ≡ Some entry → SpellsLine entry (form.word ++ 32 ∷ rest)

row : {A : Type 0} (make : A → Entry) (decode : List ℕ → Option A) (word : List ℕ) → ((rest : List ℕ) (a : A) → decode rest ≡ Some a → SpellsLine (make a) (word ++ 32 ∷ rest)) → (rest : List ℕ) (entry : Entry) → option_map make (decode rest) ≡ Some entry → SpellsLine entry (word ++ 32 ∷ rest)
row make decode word spells rest entry e =
    let m = mapped (decode rest) make entry e in
    subst (λ entry. SpellsLine entry (word ++ 32 ∷ rest)) m.made_is (spells rest m.middle m.first_is)

name_spells : (rest : List ℕ) (line : SetupLine) → option_map Name (name_word rest) ≡ Some line → SpellsSetting line (codes "name " ++ rest)
name_spells rest line e =
    let m = mapped (name_word rest) Name line e in
    let n = name-exact.sound rest m.middle m.first_is in
    subst (λ line. SpellsSetting line (codes "name " ++ rest)) m.made_is (n.1, ap (λ text. codes "name " ++ text) (sym n.0))

waiting_spells : (rest : List ℕ) (line : SetupLine) → option_map Queue (number_within 0 8 rest) ≡ Some line → SpellsSetting line (codes "line " ++ rest)
waiting_spells rest line e =
    let m = mapped (number_within 0 8 rest) Queue line e in
    let n = (within-exact 0 8 (omega arith)).sound rest m.middle m.first_is in
    subst (λ line. SpellsSetting line (codes "line " ++ rest)) m.made_is (n.1, ap (λ text. codes "line " ++ text) n.2)

wait_spells : (rest : List ℕ) (line : SetupLine) → option_map Wait (number_within 1 3600 rest) ≡ Some line → SpellsSetting line (codes "wait " ++ rest)
wait_spells rest line e =
    let m = mapped (number_within 1 3600 rest) Wait line e in
    let n = (within-exact 1 3600 (omega arith)).sound rest m.middle m.first_is in
    subst (λ line. SpellsSetting line (codes "wait " ++ rest)) m.made_is (n.0, n.1, ap (λ text. codes "wait " ++ text) n.2)

slots_spell : (rest : List ℕ) (line : SetupLine) → option_map Slots (number_within 2 1000000 rest) ≡ Some line → SpellsSetting line (codes "slots " ++ rest)
slots_spell rest line e =
    let m = mapped (number_within 2 1000000 rest) Slots line e in
    let n = (within-exact 2 1000000 (omega arith)).sound rest m.middle m.first_is in
    subst (λ line. SpellsSetting line (codes "slots " ++ rest)) m.made_is (n.0, n.1, ap (λ text. codes "slots " ++ text) n.2)

at_spells : (rest : List ℕ) (n : ℕ) → number_within 0 last_moment rest ≡ Some n → SpellsPlayed (At (pos n)) (codes "at " ++ rest)
at_spells rest n e =
    let w = (within-exact 0 last_moment (omega arith)).sound rest n e in
    (n, refl, w.1, ap (λ text. codes "at " ++ text) w.2)

forms_spell : AllByRecursion FormSpells forms
forms_spell = (
  row Setting (λ rest. option_map Name (name_word rest)) (codes "name") name_spells,
  (
    row Setting (λ rest. option_map Queue (number_within 0 8 rest)) (codes "line") waiting_spells,
    (
      row Setting (λ rest. option_map Wait (number_within 1 3600 rest)) (codes "wait") wait_spells,
      (
        row Setting (λ rest. option_map Slots (number_within 2 1000000 rest)) (codes "slots") slots_spell,
        (
          row Setting terminal_words (codes "terminal") (λ rest line e. terminal_spells rest line (terminal-exact.sound rest line e)),
          (
            row (λ n. Playing (At (pos n))) (number_within 0 last_moment) (codes "at") at_spells,
            (
              row (λ event. Playing (Poll event)) (λ rest. option_map Open (number rest)) (codes "open") open_spells,
              (
                row (λ event. Playing (Poll event)) (λ rest. option_map Close (number rest)) (codes "close") close_spells,
                (
                  row (λ event. Playing (Poll event)) till_bytes (codes "till") till_bytes_spell,
                  (
                    row (λ event. Playing (Poll event)) till_said (codes "say") till_said_spells,
                    (
                      row (λ event. Playing (Poll event)) pt_bytes (codes "pt") pt_bytes_spell,
                      (
                        row (λ event. Playing (Poll event)) (λ rest. option_map Lose (link_number rest)) (codes "lost") lost_spells,
                        (
                          row (λ failing. Playing (Fail failing)) failing_of (codes "fail") failing_spells,
                          (
                            row Playing power_of (codes "power") power_spells,
                            tt,
                          ),
                        ),
                      ),
                    ),
                  ),
                ),
              ),
            ),
          ),
        ),
      ),
    ),
  ),
)

formed_spells : (forms : List Form) → AllByRecursion FormSpells forms → (word rest : List ℕ) (entry : Entry) → formed forms word rest ≡ Some entry → SpellsLine entry (word ++ 32 ∷ rest)
formed_spells [] all word rest entry e = none_some entry e
formed_spells (form ∷ forms) all word rest entry e = elim (chosen (bytes_eq word form.word) (form.decodes rest) (formed forms word rest) entry e) [
  | inl x ↦ subst (λ w. SpellsLine entry (w ++ 32 ∷ rest)) (sym (is_word word form.word x.0)) (all.0 rest entry x.1)
  | inr x ↦ formed_spells forms all.1 word rest entry x.1
]

parts_spell : (text : List ℕ) (split : Option WordAndRest) (entry : Entry) → split_at_space text ≡ split → formed_parts split ≡ Some entry → SpellsLine entry text
parts_spell text None entry parts e = none_some entry e
parts_spell text (Some split) entry parts e = subst (SpellsLine entry) (sym (split_is text split parts)) (formed_spells forms forms_spell split.word split.rest entry e)

blank_spells : (text : List ℕ) → is_blank text ≡ true → SpellsLine Blank text
blank_spells [] e = inl refl
blank_spells (byte ∷ text) e = elim (eqb_tells byte 35) [ inl x ↦ inr (text, ap (λ b. b ∷ text) x.1) | inr x ↦ absurd (let h : false ≡ true = sym x.0 ∙ e in cc) ]

spelled_spells : (text : List ℕ) (entry : Entry) → spelled text ≡ Some entry → SpellsLine entry text
spelled_spells text entry e = elim (chosen (is_blank text) _ _ entry e) [
  | inl x ↦ subst (λ entry. SpellsLine entry text) (some_is Blank entry x.1) (blank_spells text x.0)
  | inr other ↦ elim (chosen (bytes_eq text (codes "tick")) _ _ entry other.1) [
    | inl x ↦ subst (λ entry. SpellsLine entry text) (some_is (Playing (Poll Tick)) entry x.1) (is_word text (codes "tick") x.0)
    | inr words ↦ parts_spell text (split_at_space text) entry refl words.1
  ]
]

-- what is read is spelled
pub entry_spelled : (text : List ℕ) (entry : Entry) → entry_of text ≡ Some entry → IsEntry entry text
entry_spelled text entry e = elim (chosen (is_utf8 text) (spelled text) None entry e) [
  | inl x ↦ (IsUtf8-from_is_utf8 text x.0, spelled_spells text entry x.1)
  | inr x ↦ none_some entry x.1
]

setting_read : (line : SetupLine) (text : List ℕ) → SpellsSetting line text → spelled text ≡ Some (Setting line)
setting_read (Name name) text (is_name, is) = ap spelled is ∙ ap (λ n. setting (option_map Name n)) (name-exact.complete name name (refl, is_name))
setting_read (Queue n) text (most, is) = ap spelled is ∙ ap (λ n. setting (option_map Queue n)) ((within-exact 0 8 (omega arith)).complete (decimal n) n (zero_least n, most, refl))
setting_read (Wait n) text (least, most, is) = ap spelled is ∙ ap (λ n. setting (option_map Wait n)) ((within-exact 1 3600 (omega arith)).complete (decimal n) n (least, most, refl))
setting_read (Slots n) text (least, most, is) = ap spelled is ∙ ap (λ n. setting (option_map Slots n)) ((within-exact 2 1000000 (omega arith)).complete (decimal n) n (least, most, refl))
setting_read (Terminal pt) text s = terminal_read pt text s

played_read : (line : PlayedLine) (text : List ℕ) → SpellsPlayed line text → spelled text ≡ Some (Playing line)
played_read (At moment) text (n, at, most, is) =
    ap spelled is ∙ ap (λ n. option_map (λ n. Playing (At (pos n))) n) ((within-exact 0 last_moment (omega arith)).complete (decimal n) n (zero_least n, most, refl)) ∙ ap (λ m. Some (Playing (At m))) (sym at)
played_read (Poll event) text spells = event_read event text spells
played_read (Fail failing) text spells = failing_read failing text spells
played_read (Power calls kind) text (small, image, image_is, is) =
    ap spelled is ∙ ap (λ line. option_map Playing line) (power-exact.complete (decimal calls ++ 32 ∷ image) (Power calls kind) (of_till SpellsImage Power calls kind image (small, refl) image_is))
played_read ForgetPower text spells = absurd spells

spelled_read : (entry : Entry) (text : List ℕ) → SpellsLine entry text → spelled text ≡ Some entry
spelled_read Blank text (inl none) = ap spelled none
spelled_read Blank text (inr (comment, is)) = ap spelled is
spelled_read (Setting line) text spells = setting_read line text spells
spelled_read (Playing line) text spells = played_read line text spells

-- what is spelled is read
pub entry_read : (entry : Entry) (text : List ℕ) → IsEntry entry text → entry_of text ≡ Some entry
entry_read entry text (utf8, spells) = rw (is_utf8-from_IsUtf8 text utf8) (spelled_read entry text spells)
