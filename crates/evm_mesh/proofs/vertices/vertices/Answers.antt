use Rattle.std.proofs.Common.{◌≡◌, ◌++◌, List, ℤ, ap, ◌∙◌}
use Rattle.std.specs.List.{flat_map, list_all}
use Rattle.std.proofs.lemmas.List.Filters.{dedup_is}
use Rattle.evm_cells.specs.Places.{has}
use Rattle.evm_cells.specs.Limits.{is_point, points_where}
use Rattle.evm_formats.specs.ObjText.{face_corners}
use Rattle.evm_mesh.specs.Sheets.{faces_in}
use Rattle.evm_mesh.proofs.CornerLists.{corners_are_points}
use Rattle.evm_mesh.proofs.VertexNumbers.{vertices_are, vertices_ascend}
use Rattle.evm_mesh.proofs.vertices.vertices.Goals as goal

pub returns-clause-vertices : goal.returns-clause-vertices
returns-clause-vertices c =
    let sheets = c.args.sheets.now in
    let L : List (List ℤ) = c.append_corners.new.corners.items in
    let e : L ≡ flat_map face_corners (faces_in sheets) = c.in_ok-append_corners.ensures ∙ ap (λ (t : List (List ℤ)). t ++ flat_map face_corners (faces_in sheets)) c.new-corners.ensures.items in
    vertices_are 3 L _ _ (ap (list_all (is_point 3)) e ∙ corners_are_points sheets c.requires) c.sort_unstable.ensures.permutation c.sort_unstable.ensures.sorted (dedup_is _ _ _ c.dedup.ensures.filtered)
    ∙ ap (λ (X : List (List ℤ)). points_where 3 (has X)) e

pub returns-clause-ascends : goal.returns-clause-ascends
returns-clause-ascends c = vertices_ascend _ _ c.sort_unstable.ensures.sorted (dedup_is _ _ _ c.dedup.ensures.filtered)
