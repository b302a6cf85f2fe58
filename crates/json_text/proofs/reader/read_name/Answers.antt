-- Proof of the contract of `read_name`.
use Rattle.std.proofs.Common.{List, ℕ, refl, sym, ap, subst, ◌∙◌}
use Rattle.json_text.specs.MemberNames.{has_name, pair_names}
use Rattle.json_text.specs.inner.MemberOrder.{IsGap}
use Rattle.json_text.specs.inner.ReaderStates.{as_name, pairs}
use Rattle.json_text.specs.declared.fault.FaultKind.TheVariants as kinds
use Rattle.json_text.proofs.ProgressLemmas.{refused_at, handed_on}
use Rattle.json_text.proofs.GapLemmas.{gap_distinct}
use Rattle.json_text.proofs.NestingLemmas.{name_closes, name_repeats, pairs_distinct}
use Rattle.json_text.proofs.reader.read_name.Goals as goal

pub returns-in_err-text-clause-refused : goal.returns-in_err-text-clause-refused
returns-in_err-text-clause-refused c =
    let ms = c.args.opened.now.members.items in
    handed_on _ c.from_residual.result _ c.from_residual.ensures.1 (record { refuses = λ st h. c.in_err-text.ensures.refused.refuses (as_name (pairs ms)) st (pairs_distinct ms c.args.opened.now.distinct) h })

pub returns-in-None-clause-refused : goal.returns-in-None-clause-refused
returns-in-None-clause-refused c =
    let ms = c.args.opened.now.members.items in
    let q = c.in_ok-text.ensures.quote in
    record {
      refuses = λ st h. refused_at c.args.bytes.now _ c.read_string.new.offset kinds.Repeated c.fault.ensures
          (name_repeats c.args.bytes.now c.read_string.new.offset 34 ms c.in_ok-text.text st q.there q.byte refl (ap (λ (k : List ℕ). has_name k (pair_names ms)) (sym c.as_bytes.ensures) ∙ c.in-None.ensures)
          (c.in_ok-text.ensures.read.comes (as_name (pairs ms)) st (pairs_distinct ms c.args.opened.now.distinct) h));
    }

pub returns-in-Some-clause-read : goal.returns-in-Some-clause-read
returns-in-Some-clause-read c =
    let o = c.args.opened.now in
    let ms = o.members.items in
    let q = c.in_ok-text.ensures.quote in
    record {
      comes = λ st h. name_closes c.args.bytes.now c.read_string.new.offset 34 (pairs ms) c.in_ok-text.text st q.there q.byte refl
          (gap_distinct o c.in_ok-text.text c.in-Some.gap (subst (λ (k : List ℕ). IsGap o k c.in-Some.gap) c.as_bytes.ensures c.in-Some.ensures))
          (c.in_ok-text.ensures.read.comes (as_name (pairs ms)) st (pairs_distinct ms o.distinct) h);
    }
