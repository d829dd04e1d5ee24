-- What a report says, by the formula and the solid of a name.
use Rattle.std.specs.Prelude.{ℕ, ℤ, List, [], get_or, Option, None, Some, codes}
use Rattle.evm_report.specs.Report.{Facts}
use Rattle.evm_rows.specs.Rows.{Vertices}
use Rattle.evm_script.specs.Printed.{formula_words}
use Rattle.evm_script.specs.declared.formula.Formula.{Formula}
use Rattle.evm_model.specs.Formulas.{operands}
use Rattle.evm_model.specs.Reports.{lesser, greater, facts_by}
use Rattle.evm_formulas.specs.Stated.{figure_of}
use Rattle.evm_session.specs.declared.reports.End.{End}
use Rattle.evm_session.specs.declared.reports.End.TheVariants.{Low, High}

-- which of two numbers is nearer to an end
abbrev pub pick_of : End → ℤ → ℤ → ℤ
pick_of Low x y = lesser x y
pick_of High x y = greater x y

-- the word of a formula's operator, or `input` without one
abbrev pub kind_by : Option Formula → List ℕ
kind_by None = codes "input"
kind_by (Some formula) = get_or (formula_words formula) 0 []

-- the operands of a formula, none without one
abbrev pub operands_by : Option Formula → List (List ℕ)
operands_by None = []
operands_by (Some formula) = operands formula

-- what is said of a solid under a name
abbrev pub facts_with : List ℕ → Option Formula → Vertices → Facts
facts_with name formula v = facts_by name (kind_by formula) (operands_by formula) (figure_of v)
