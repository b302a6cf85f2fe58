-- Proof of the contract of `rest_of_character`.
use Rattle.std.proofs.Common.{refl, arith}
use Rattle.json_text.specs.inner.ReaderStates.{character_in}
use Rattle.json_text.specs.declared.fault.FaultKind.TheVariants as kinds
use Rattle.json_text.proofs.ProgressLemmas.{refused_at, refuse_end}
use Rattle.json_text.proofs.TokenLemmas.{still_sound, character_goes, character_ends, wrong_character, character_open}
use Rattle.json_text.proofs.tokens.rest_of_character.Goals as goal

pub returns-in-Whole-clause-read : goal.returns-in-Whole-clause-read
returns-in-Whole-clause-read c = record {
  comes = λ role text st r h. character_ends c.args.bytes.now c.loop-here.here _ _ c.loop-here.within role text st c.loop-here-test.true refl c.loop-here.invariant.sound c.in-Whole.ensures r (c.loop-here.invariant.comes role text st r h);
}

pub loop-here-preserved : goal.loop-here-preserved
loop-here-preserved c = record {
  sound = still_sound _ c.loop-here.within _ c.loop-here.invariant.sound c.in-Next.ensures;
  forward = omega (arith, c.loop-here.invariant.forward);
  fits = omega (arith, c.loop-here-test.true);
  comes = λ role text st r h. character_goes c.args.bytes.now c.loop-here.here _ c.loop-here.within _ role text st c.loop-here-test.true refl c.loop-here.invariant.sound c.in-Next.ensures r (c.loop-here.invariant.comes role text st r h);
}

pub returns-in-Wrong-clause-refused : goal.returns-in-Wrong-clause-refused
returns-in-Wrong-clause-refused c = record {
  refuses = λ role text st r h. refused_at c.args.bytes.now _ c.loop-here.here _ c.fault.ensures
      (wrong_character c.args.bytes.now c.loop-here.here _ c.loop-here.within _ role text st c.loop-here-test.true refl c.loop-here.invariant.sound c.in-Wrong.ensures c.fault_inside.ensures (c.loop-here.invariant.comes role text st r h));
}

pub returns-clause-refused : goal.returns-clause-refused
returns-clause-refused c = record {
  refuses = λ role text st r h. refused_at c.args.bytes.now _ c.loop-here.here kinds.NotJson c.not_json.ensures
      (refuse_end c.args.bytes.now c.loop-here.here (character_in role text c.loop-here.within) st (omega (arith, c.loop-here-test.false)) (c.loop-here.invariant.comes role text st r h) (character_open role text c.loop-here.within st c.loop-here.invariant.sound));
}
