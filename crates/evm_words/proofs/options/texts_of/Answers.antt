use Rattle.std.proofs.Common.{map, string_bytes}
use Rattle.clap.specs.Matches.{found_of}
use Rattle.evm_words.proofs.Stating.{answers_found, answers_refusal}
use Rattle.evm_words.proofs.options.texts_of.Goals as goal

pub returns-in-Ok : goal.returns-in-Ok
returns-in-Ok c =
    answers_found (map string_bytes c.args.words.now) (found_of c.in-Ok.matches) c.both_texts.result c.requires c.in-Ok.ensures.0 c.in-Ok.ensures.1 c.both_texts.ensures

pub returns-in-Err : goal.returns-in-Err
returns-in-Err c = answers_refusal (map string_bytes c.args.words.now) c.in-Err.error c.requires c.in-Err.ensures
