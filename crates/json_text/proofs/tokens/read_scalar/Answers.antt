-- Proof of the contract of `read_scalar`.
use Rattle.std.proofs.Common.{◌+◌, List, drop, sym, subst, arith}
use Rattle.json_text.specs.inner.ReaderStates.{Level, literal, literal_text, literal_tree, value}
use Rattle.json_text.specs.inner.ReaderProgress.{ReadTo}
use Rattle.json_text.specs.declared.literal.Literal.{Literal}
use Rattle.json_text.specs.declared.fault.FaultKind.TheVariants as kinds
use Rattle.json_text.proofs.ProgressLemmas.{refused_at, ok_as, err_as}
use Rattle.json_text.proofs.TokenLemmas.{null_first, true_first, false_first}
use Rattle.json_text.proofs.NestingLemmas.{no_value}
use Rattle.json_text.proofs.tokens.read_scalar.Goals.{in-110, in-116, in-102}
use Rattle.json_text.proofs.tokens.read_scalar.Goals as goal

pub returns-in_default-byte-clause-refused : goal.returns-in_default-byte-clause-refused
returns-in_default-byte-clause-refused c = record {
  refuses = λ st h. refused_at c.args.bytes.now _ c.args.offset.now kinds.NotJson c.not_json.ensures
      (no_value c.args.bytes.now c.args.offset.now c.args.byte st c.requires.token.there c.requires.token.byte c.requires.not_space c.requires.other c.in_default.ensures (omega (arith, c.in_default-byte)) (omega (arith, c.in_default-byte)) (omega (arith, c.in_default-byte)) h);
}

pub returns-clause-read : goal.returns-clause-read
returns-clause-read c =
    let b = c.args.bytes.now in
    let offset = c.args.offset.now in
    let begun : (st : List Level) → ReadTo b offset value st → ReadTo b (offset + 1) (literal (drop 1 (literal_text c.match-byte.wanted)) (literal_tree c.match-byte.wanted)) st = λ st h.
    elim c.match-byte.branch [
      | in-110 w ↦ subst (λ (l : Literal). ReadTo b (offset + 1) (literal (drop 1 (literal_text l)) (literal_tree l)) st) (sym w.wanted-is) (null_first b offset c.args.byte st c.requires.token.there c.requires.token.byte w.in-110.is h)
      | in-116 w ↦ subst (λ (l : Literal). ReadTo b (offset + 1) (literal (drop 1 (literal_text l)) (literal_tree l)) st) (sym w.wanted-is) (true_first b offset c.args.byte st c.requires.token.there c.requires.token.byte w.in-116.is h)
      | in-102 w ↦ subst (λ (l : Literal). ReadTo b (offset + 1) (literal (drop 1 (literal_text l)) (literal_tree l)) st) (sym w.wanted-is) (false_first b offset c.args.byte st c.requires.token.there c.requires.token.byte w.in-102.is h)
    ] in
    ok_as c.read_literal.result c.read_literal.ensures.read (λ json g. record { comes = λ st h. g.comes st (begun st h) })

pub returns-clause-refused : goal.returns-clause-refused
returns-clause-refused c =
    let b = c.args.bytes.now in
    let offset = c.args.offset.now in
    let begun : (st : List Level) → ReadTo b offset value st → ReadTo b (offset + 1) (literal (drop 1 (literal_text c.match-byte.wanted)) (literal_tree c.match-byte.wanted)) st = λ st h.
    elim c.match-byte.branch [
      | in-110 w ↦ subst (λ (l : Literal). ReadTo b (offset + 1) (literal (drop 1 (literal_text l)) (literal_tree l)) st) (sym w.wanted-is) (null_first b offset c.args.byte st c.requires.token.there c.requires.token.byte w.in-110.is h)
      | in-116 w ↦ subst (λ (l : Literal). ReadTo b (offset + 1) (literal (drop 1 (literal_text l)) (literal_tree l)) st) (sym w.wanted-is) (true_first b offset c.args.byte st c.requires.token.there c.requires.token.byte w.in-116.is h)
      | in-102 w ↦ subst (λ (l : Literal). ReadTo b (offset + 1) (literal (drop 1 (literal_text l)) (literal_tree l)) st) (sym w.wanted-is) (false_first b offset c.args.byte st c.requires.token.there c.requires.token.byte w.in-102.is h)
    ] in
    err_as c.read_literal.result c.read_literal.ensures.refused (λ error g. record { refuses = λ st h. g.refuses st (begun st h) })
