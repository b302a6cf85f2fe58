-- Proof of the contract of `law_site_forms`.
use Rattle.std.proofs.Common.{refl}
use Rattle.std.specs.Str.{is_utf8, chars}
use lib.Utf8.{encode}
use Rattle.hex.specs.Hex.{decode_pairs}
use Rattle.gw_script.proofs.law_site_forms.Goals as goal

pub returns-clause-all_forms : goal.returns-clause-all_forms
unfolding is_utf8 chars encode decode_pairs
returns-clause-all_forms c = refl

pub returns-clause-defaults : goal.returns-clause-defaults
returns-clause-defaults c = refl

pub returns-clause-wrong : goal.returns-clause-wrong
unfolding is_utf8 chars encode decode_pairs
returns-clause-wrong c = (refl, (refl, (refl, (refl, (refl, (refl, (refl, (refl, (refl, (refl, (refl, (refl, (refl, (refl, (refl, (refl, (refl, (refl, (refl, (refl, (refl, (refl, (refl, (refl, (refl, (refl, (refl, (refl, (refl, (refl, (refl, (refl, (refl, (refl, (refl, (refl, (refl, (refl, (refl, (refl, (refl, tt)))))))))))))))))))))))))))))))))))))))))

pub returns-clause-misplaced : goal.returns-clause-misplaced
unfolding is_utf8 chars encode decode_pairs
returns-clause-misplaced c = (refl, (refl, (refl, tt)))

pub returns-clause-twice : goal.returns-clause-twice
unfolding is_utf8 chars encode decode_pairs
returns-clause-twice c = (refl, (refl, (refl, (refl, (refl, tt)))))
