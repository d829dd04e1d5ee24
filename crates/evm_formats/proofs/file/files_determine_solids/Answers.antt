use Rattle.std.proofs.Common.{refl}
use Rattle.evm_formats.specs.FirstFile.{first_file_bytes, first_file_of_cells}
use Rattle.evm_formats.specs.File.{file_bytes, file_of_cells}
use Rattle.evm_formats.proofs.FileLaws.{told_apart, first_apart, solids, cell_sets, file_of_vertices, versions, statement, file_of_six, first_file_of_six}
use Rattle.evm_formats.proofs.FileRefusals.{file_unique, file_denies}
use Rattle.evm_formats.proofs.file.files_determine_solids.Goals as goal

pub returns-clause-solids : goal.returns-clause-solids
returns-clause-solids c = solids file_bytes told_apart

pub returns-clause-cells : goal.returns-clause-cells
returns-clause-cells c = cell_sets file_bytes file_of_cells told_apart file_of_vertices

pub returns-clause-first_solids : goal.returns-clause-first_solids
returns-clause-first_solids c = solids first_file_bytes first_apart

pub returns-clause-first_cells : goal.returns-clause-first_cells
returns-clause-first_cells c = cell_sets first_file_bytes first_file_of_cells first_apart (λ n S s. refl)

pub returns-clause-versions : goal.returns-clause-versions
returns-clause-versions c = versions

pub returns-clause-statement : goal.returns-clause-statement
returns-clause-statement c = statement

pub returns-clause-one_refusal : goal.returns-clause-one_refusal
returns-clause-one_refusal c = file_unique

pub returns-clause-not_refused : goal.returns-clause-not_refused
returns-clause-not_refused c = file_denies

pub returns-clause-worked : goal.returns-clause-worked
returns-clause-worked c = file_of_six

pub returns-clause-first_worked : goal.returns-clause-first_worked
returns-clause-first_worked c = first_file_of_six
