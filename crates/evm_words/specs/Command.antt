-- The command that `clap` reads behind `gen`.
use Rattle.std.specs.Prelude.{true, codes, Some}
use Rattle.clap.specs.Walk.{Rule, Text}
use Rattle.clap.specs.Simple.{App, new_app, new_rule, on_top, with_rule}

-- a required option with one text
abbrev pub option_rule : Text → Rule
option_rule name = record (new_rule name) { long = Some name; required = true }

abbrev pub gen_app : App
gen_app =
    with_rule
    (with_rule (on_top (λ s. record s { disable_help_flag = true }) (new_app (codes "gen"))) (option_rule (codes "seed")))
    (option_rule (codes "edits"))
