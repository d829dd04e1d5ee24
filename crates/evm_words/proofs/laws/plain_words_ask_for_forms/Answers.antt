use Rattle.std.proofs.Common.{refl}
use Rattle.evm_words.proofs.Plain.{plain_words}
use Rattle.evm_words.proofs.laws.plain_words_ask_for_forms.Goals as goal

pub returns : goal.returns
returns c = record { scripts = plain_words; run = λ program. refl }
