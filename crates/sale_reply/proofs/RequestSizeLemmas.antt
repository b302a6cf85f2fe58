-- How long a print request, a display request and an event are at most.
use Rattle.std.proofs.Common.{◌≡◌, ℕ, ◌+◌, ◌*◌, ◌/◌, ◌%◌, ◌≤◌, List, [], ◌∷◌, ◌++◌, length, refl, arith, length-append, lit≤, codes, nat_eq, Bool, true, false, ℤ}
use Rattle.std.specs.Prelude.{flat_map, map, sum_by, nat_lt, ◌||◌, if◌then◌else◌}
use Rattle.std.specs.Char.{encode_utf8, digit_char}
use Rattle.std.specs.Borrow.{Bor}
use Rattle.std.proofs.lemmas.Bool.Decides.{nat_tests}
use Rattle.std.proofs.lemmas.Str.{encode_ascii}
use Rattle.std.proofs.lemmas.List.Sums.{sum_by-cons}
use Rattle.json_text.specs.Canonical.{canonical, canonical_string, canonical_byte}
use Rattle.gw_base.specs.Text437.{is_printable, letters, scalar_in}
use Rattle.gw_base.specs.Moment.{stamp_of}
use Rattle.sale_reply.specs.declared.reply.Detail.{Detail}
use Rattle.sale_reply.specs.declared.reply.Detail.TheVariants.{Json, Header, Body, Abort}
use Rattle.json_text.specs.FaultText.{kind_text}
use Rattle.sale_reply.specs.Texts.{line_text, intermediate_text, detail_text}
use Rattle.sale_reply.specs.Limits.{IsDetailWithinLimits}
use Rattle.sale_reply.specs.inner.CanonicalMembers.{content_prefix, more_lines, canonical_lines}
use Rattle.sale_reply.specs.inner.ShownByte.{shown_byte}
use Rattle.sale_reply.specs.Reply.{text_tree, display_request_body, print_request_body, event_body}
use Rattle.sale_reply.proofs.PartLemmas.{line_is}
use Rattle.sale_reply.proofs.CanonicalLemmas.{text_parts, show_parts, paper_parts, content_prefix_parts, event_body_parts}
use Rattle.sale_reply.proofs.SizeLemmas.{IsAtMost, within, same_size, sized, both, known, first_name_size, next_name_size, first_text_size, next_text_size, decimal_size}
use Rattle.sale_reply.proofs.BodySizeLemmas.{StampSizes, ident_size, fault_size}

-- what is written of the character has at most two bytes
pub record HasTwo (c : ℕ) : Type 0 where
  pub holds : length (flat_map canonical_byte (encode_utf8 c)) ≤ 2

two_either : (b : Bool) {x y : ℕ} → HasTwo x → HasTwo y → HasTwo (if b then x else y)
two_either true p q = p
two_either false p q = q

two_letter : (byte : ℕ) → HasTwo (scalar_in letters byte)
unfolding encode_utf8
two_letter byte =
    two_either (nat_eq 0x84 byte) (record { holds = lit≤ tt }) (two_either (nat_eq 0x94 byte) (record { holds = lit≤ tt })
    (two_either (nat_eq 0x81 byte) (record { holds = lit≤ tt }) (two_either (nat_eq 0x8E byte) (record { holds = lit≤ tt })
    (two_either (nat_eq 0x99 byte) (record { holds = lit≤ tt }) (two_either (nat_eq 0x9A byte) (record { holds = lit≤ tt })
    (two_either (nat_eq 0xE1 byte) (record { holds = lit≤ tt }) (record { holds = lit≤ tt })))))))

-- without a control character, an escape has two bytes
two_escaped : (c x y : ℕ) (a b e : Bool) → e ≡ false →
    length (if a || b then 92 ∷ c ∷ [] else (if e then 92 ∷ 117 ∷ 48 ∷ 48 ∷ x ∷ y ∷ [] else c ∷ [])) ≤ 2
two_escaped c x y true b e is = lit≤ tt
two_escaped c x y false true e is = lit≤ tt
two_escaped c x y false false true is = absurd (cc)
two_escaped c x y false false false is = lit≤ tt

two_printable : (c : ℕ) → is_printable c ≡ true → HasTwo c
two_printable c is =
    let low : 32 ≤ c = grind (arith, nat_tests) in
    let high : c ≤ 126 = grind (arith, nat_tests) in
    let no_control : nat_lt c 32 ≡ false = grind (arith, nat_tests) in
    let ascii : encode_utf8 c ≡ c ∷ [] = encode_ascii c (omega arith) in
    let one : length (canonical_byte c) ≤ 2 = two_escaped c (digit_char (c / 16)) (digit_char (c % 16)) (nat_eq c 34) (nat_eq c 92) (nat_lt c 32) no_control in
    record { holds = rw ascii (omega (arith, length-append (canonical_byte c) [], one)) }

two_by_test : (byte : ℕ) (test : Bool) → is_printable byte ≡ test → HasTwo (if test then byte else scalar_in letters byte)
two_by_test byte true is = two_printable byte is
two_by_test byte false is = two_letter byte

shown_size : (byte : ℕ) → length (shown_byte byte) ≤ 2
shown_size byte = (two_by_test byte (is_printable byte) refl).holds

shown_bytes_size : (line : List ℕ) → length (flat_map shown_byte line) ≤ 2 * length line
shown_bytes_size [] = lit≤ tt
shown_bytes_size (byte ∷ line) =
    omega (arith, length-append (shown_byte byte) (flat_map shown_byte line), shown_size byte, shown_bytes_size line)

line_size : (line : List ℕ) → length (canonical (text_tree (line_text line))) ≤ 2 * length line + 31
line_size line =
    let text : IsAtMost (canonical_string (line_text line)) (2 * length line + 2) =
    same_size (line_is line) (sized (34 ∷ (flat_map shown_byte line ++ 34 ∷ [])) (2 * length line + 2)
    (omega (arith, length-append (flat_map shown_byte line) (34 ∷ []), shown_bytes_size line))) in
    let parts = same_size (text_parts (line_text line)) (both (known (123 ∷ [])) (both (first_name_size (known (codes "Text"))) (both text (known (125 ∷ []))))) in
    omega (arith, parts.holds)

abbrev bytes_of : List (Bor (List ℕ)) → ℕ
bytes_of lines = sum_by (λ line. length line.now) lines

more_lines_size : (lines : List (Bor (List ℕ))) → length (more_lines lines) ≤ 2 * bytes_of lines + 32 * length lines
unfolding more_lines
more_lines_size [] = lit≤ tt
more_lines_size (line ∷ lines) =
    omega (
      arith,
      line_size line.now,
      more_lines_size lines,
      sum_by-cons (λ (l : Bor (List ℕ)). length l.now) line lines,
      length-append (44 ∷ canonical (text_tree (line_text line.now))) (more_lines lines),
    )

lines_size : (lines : List (Bor (List ℕ))) → length lines ≤ 400 → bytes_of lines ≤ 12000 → IsAtMost (canonical_lines lines) 37000
unfolding canonical_lines
lines_size [] few fits = record { holds = lit≤ tt }
lines_size (line ∷ lines) few fits = record {
  holds = omega (
    arith,
    few,
    fits,
    line_size line.now,
    more_lines_size lines,
    sum_by-cons (λ (l : Bor (List ℕ)). length l.now) line lines,
    length-append (canonical (text_tree (line_text line.now))) (more_lines lines),
  );
}

content_prefix_size : IsAtMost content_prefix 300
content_prefix_size = within 300 (same_size content_prefix_parts
    (both (known (123 ∷ [])) (both (first_text_size (known (codes "OutputFormat")) (known (codes "Text")))
    (both (next_name_size (known (codes "OutputText"))) (known (91 ∷ [])))))) (lit≤ tt)

pub paper_size : (lines : List (Bor (List ℕ))) → length lines ≤ 400 → bytes_of lines ≤ 12000 → IsAtMost (canonical (print_request_body (map (λ line. line.now) lines))) 39000
paper_size lines few fits = within 39000 (same_size (paper_parts lines)
    (both (known (123 ∷ [])) (both (first_name_size (known (codes "PrintOutput"))) (both (known (123 ∷ []))
    (both (first_text_size (known (codes "DocumentQualifier")) (known (codes "Document")))
    (both (next_text_size (known (codes "ResponseMode")) (known (codes "NotRequired")))
    (both (next_name_size (known (codes "OutputContent"))) (both content_prefix_size
    (both (lines_size lines few fits) (known (93 ∷ 125 ∷ 125 ∷ 125 ∷ []))))))))))) (lit≤ tt)

status_text_size : (code : ℕ) → length (intermediate_text code) ≤ 13
unfolding intermediate_text
status_text_size code = lit≤ tt

pub show_size : (code : ℕ) → IsAtMost (canonical (display_request_body code)) 2000
show_size code = within 2000 (same_size (show_parts code)
    (both (known (123 ∷ [])) (both (first_name_size (known (codes "DisplayOutput"))) (both (known (91 ∷ 123 ∷ []))
    (both (first_name_size (known (codes "ResponseRequiredFlag"))) (both (known (codes "false"))
    (both (next_text_size (known (codes "Device")) (known (codes "CashierDisplay")))
    (both (next_text_size (known (codes "InfoQualify")) (known (codes "Status")))
    (both (next_name_size (known (codes "OutputContent"))) (both content_prefix_size (both (known (123 ∷ []))
    (both (first_text_size (known (codes "Text")) (sized (intermediate_text code) 13 (status_text_size code)))
    (both (known (125 ∷ [])) (known (codes "]}}]}"))))))))))))))) (lit≤ tt)

detail_size : (detail : Detail) → IsDetailWithinLimits detail → IsAtMost (detail_text detail) 110
unfolding detail_text
detail_size (Json fault) is = within 110 (both (known (codes "json ")) (both (sized (kind_text fault.kind) 10 (fault_size fault.kind))
    (both (known (codes " ")) (decimal_size fault.at is)))) (lit≤ tt)
detail_size (Header path) is = within 110 (both (known (codes "header ")) (ident_size path is)) (lit≤ tt)
detail_size (Body path) is = within 110 (both (known (codes "body ")) (ident_size path is)) (lit≤ tt)
detail_size Abort is = within 110 (known (codes "abort")) (lit≤ tt)

pub event_body_size : StampSizes → (moment : ℤ) (detail : Detail) → IsDetailWithinLimits detail → IsAtMost (canonical (event_body moment detail)) 2000
event_body_size stamps moment detail is = within 2000 (same_size (event_body_parts moment detail)
    (both (known (123 ∷ [])) (both (first_text_size (known (codes "TimeStamp")) (sized (stamp_of moment) 20 (omega (arith, stamps moment))))
    (both (next_text_size (known (codes "EventToNotify")) (known (codes "Reject")))
    (both (next_text_size (known (codes "EventDetails")) (detail_size detail is)) (known (125 ∷ []))))))) (lit≤ tt)
