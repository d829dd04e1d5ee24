-- What reading the words of the command line answers.
use Rattle.std.specs.Prelude.{◌≡◌, List, [], codes, Option, None, Some, Result, Ok, Err}
use Rattle.std.specs.Borrow.{Bor}
use Rattle.evm_words.specs.Words.{Text, texts_of, form_of_options}
use Rattle.clap.specs.Faults.{fault_of}
use Rattle.clap.specs.Matches.{first_value, found_of}
use Rattle.clap.specs.Simple.{matches_of}
use Rattle.clap.specs.Values.{kind_of}
use Rattle.clap.specs.Walk.{rows_of}
use Rattle.clap.specs.declared.error.Error.{Error}
use Rattle.clap.specs.declared.error.kind.ErrorKind.TheVariants.{OutOfMemory}
use Rattle.clap.specs.declared.parser.matches.ArgMatches.{ArgMatches}
use Rattle.clap.specs.declared.parser.matches.Found.{Found}
use Rattle.evm_words.specs.Command.{gen_app}
use Rattle.evm_words.specs.declared.form.WordsError.{WordsError}
use Rattle.evm_words.specs.declared.form.WordsError.TheVariants.{NoForm, NoMemory}

-- the form is the one that is asked for, and none is answered only where none is; nothing is said where memory was missing
abbrev pub Answers : {A : Type 0} → Option A → Result A WordsError → Type 0
Answers asked (Ok form) = asked ≡ Some form
Answers asked (Err NoForm) = asked ≡ None
Answers asked (Err NoMemory) = Unit {0}

-- the same of the two texts: where none are answered the words ask for no form
abbrev pub AnswersTexts : List Text → Result (Bor Text × Bor Text) WordsError → Type 0
AnswersTexts words (Ok texts) = texts_of words ≡ Some (texts.0.now, texts.1.now)
AnswersTexts words (Err NoForm) = form_of_options words ≡ None
AnswersTexts words (Err NoMemory) = Unit {0}

-- the values of the two options, where both are found
abbrev pub both : Option Text → Option Text → Option (Text × Text)
both None edits = None
both (Some seed) None = None
both (Some seed) (Some edits) = Some (seed, edits)

abbrev pub both_values : Found → Option (Text × Text)
both_values found = both (first_value found (codes "seed")) (first_value found (codes "edits"))

-- both texts, or that one is not found
abbrev pub IsBoth : Option (Text × Text) → Result (Bor Text × Bor Text) WordsError → Type 0
IsBoth found (Ok texts) = found ≡ Some (texts.0.now, texts.1.now)
IsBoth found (Err NoForm) = found ≡ None
IsBoth found (Err NoMemory) = ⊥

-- want of memory is told from all other refusals
abbrev pub IsRefusalOf : Error → WordsError → Type 0
IsRefusalOf error NoForm = kind_of error ≡ OutOfMemory → ⊥
IsRefusalOf error NoMemory = Unit {0}

-- the matches of words that have no fault, or a fault
abbrev pub Parses : List Text → Result ArgMatches WordsError → Type 0
Parses words (Ok matches) = (fault_of gen_app words ≡ []) × (rows_of (found_of matches) ≡ matches_of gen_app words)
Parses words (Err NoForm) = fault_of gen_app words ≡ [] → ⊥
Parses words (Err NoMemory) = Unit {0}
