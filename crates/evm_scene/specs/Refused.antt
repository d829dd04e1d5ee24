-- Changes that cannot be made, as refusals.
use Rattle.evm_delta.specs.declared.shapes.DeltaError.{DeltaError}
use Rattle.evm_delta.specs.declared.shapes.DeltaError.TheVariants as errors
use Rattle.evm_scene.specs.declared.edit.Refusal.{Refusal}
use Rattle.evm_scene.specs.declared.edit.Refusal.TheVariants.{Range, NoMemory}

-- the refusal where a shape moves a cell out of the limits, or there is no memory
abbrev pub of_delta_error : DeltaError → Refusal
of_delta_error errors.Range = Range
of_delta_error errors.NoMemory = NoMemory
