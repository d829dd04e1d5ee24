use Rattle.std.proofs.Common.{◌≡◌, ◌++◌, take}
use Rattle.evm_mesh.specs.Sheets.{corner_words}
use Rattle.evm_mesh.proofs.mesh.put_corners.Given as goal

abbrev pub invariant-loop-corner : goal.invariant-loop-corner
invariant-loop-corner l = l.text.items ≡ l.fn.text.items ++ corner_words l.vertices (take l.corner-index l.corners)
