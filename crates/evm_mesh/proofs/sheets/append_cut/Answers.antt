use Rattle.std.proofs.Common.{◌≡◌, ◌+◌, ◌-◌, ℕ, ℤ, true, refl, ap, ◌∙◌, arith, rules, w32, to_z, of_z}
use mir.Val.{SFits}
use Rattle.evm_cells.specs.Limits.{is_point_coord}
use Rattle.evm_cells.specs.Booleans.{sub_cells}
use Rattle.evm_rows.specs.Rows.{Vertices, cells_of}
use Rattle.evm_rows.proofs.BoxTests.{same32}
use Rattle.evm_formats.specs.FaceText as texts
use Rattle.evm_partition.specs.BoxLists.{partition_of}
use Rattle.evm_mesh.specs.declared.sheets.Side.TheVariants.{Falling, Rising}
use Rattle.evm_mesh.specs.declared.sheets.Sheet.{Sheet}
use Rattle.evm_mesh.specs.Sheets.{labelled}
use Rattle.evm_mesh.proofs.SheetSteps.{both_sheets, cut_added, has_room, sheet_is}
use Rattle.evm_mesh.proofs.CutSections.{difference_is}
use Rattle.evm_mesh.proofs.sheets.append_cut.Goals as goal

pub returns-clause-sheets : goal.returns-clause-sheets
returns-clause-sheets c =
    let n : ℕ = c.args.below.now.dim in
    let fits : SFits w32 c.args.place.at = search rules in
    let height : is_point_coord (n + 1) (to_z w32 (of_z w32 c.args.place.at)) ≡ true = ap (is_point_coord (n + 1)) (same32 c.args.place.at fits) ∙ c.requires.height in
    let less : n ≡ n + 1 - 1 = omega arith in
    both_sheets (n + 1) c.args.sheets.now.items _ _ _ _ c.in_ok-push.ensures.items c.in_ok-push-2.ensures.items c.requires.sheets
    (record { axis = c.requires.within; height = height; boxes = has_room c.in_ok-falls.falls (n + 1 - 1) _ (c.in_ok-falls.ensures.dim ∙ ap (λ (v : Vertices). v.dim) c.rows.ensures ∙ less) (c.in_ok-boxes.ensures.boxes ∙ ap partition_of c.rows-3.ensures) })
    (record { axis = c.requires.within; height = height; boxes = has_room c.in_ok-rises.rises (n + 1 - 1) _ (c.in_ok-rises.ensures.dim ∙ ap (λ (v : Vertices). v.dim) c.rows-4.ensures ∙ c.requires.same ∙ less) (c.in_ok-boxes-2.ensures.boxes ∙ ap partition_of c.rows-6.ensures) })

pub returns-clause-faces : goal.returns-clause-faces
returns-clause-faces c =
    let b : Vertices = c.args.below.now in
    let a : Vertices = c.args.above.now in
    let n : ℕ = b.dim in
    let i : ℕ = c.args.place.axis in
    let h : ℤ = c.args.place.at in
    let fits : SFits w32 h = search rules in
    let at = same32 h fits in
    let falls : Sheet = record { axis = i; at = to_z w32 (of_z w32 h); side = Falling; boxes = c.in_ok-boxes.boxes } in
    let rises : Sheet = record { axis = i; at = to_z w32 (of_z w32 h); side = Rising; boxes = c.in_ok-boxes-2.boxes } in
    let fall_dim = c.in_ok-falls.ensures.dim ∙ ap (λ (v : Vertices). v.dim) c.rows.ensures in
    let rise_dim = c.in_ok-rises.ensures.dim ∙ ap (λ (v : Vertices). v.dim) c.rows-4.ensures ∙ c.requires.same in
    cut_added c.args.sheets.now.items _ _ falls rises (labelled n i h texts.Falling (sub_cells n (cells_of b) (cells_of a))) (labelled n i h texts.Rising (sub_cells n (cells_of a) (cells_of b)))
    c.in_ok-push.ensures.items c.in_ok-push-2.ensures.items
    (sheet_is falls n i h texts.Falling (sub_cells n (cells_of b) (cells_of a)) c.in_ok-falls.falls refl at refl (c.in_ok-boxes.ensures.boxes ∙ ap partition_of c.rows-3.ensures) fall_dim
    (difference_is n c.in_ok-falls.falls b a _ _ fall_dim c.rows.ensures c.rows-2.ensures refl c.requires.same c.in_ok-falls.ensures.cells))
    (sheet_is rises n i h texts.Rising (sub_cells n (cells_of a) (cells_of b)) c.in_ok-rises.rises refl at refl (c.in_ok-boxes-2.ensures.boxes ∙ ap partition_of c.rows-6.ensures) rise_dim
    (difference_is n c.in_ok-rises.rises a b _ _ rise_dim c.rows-4.ensures c.rows-5.ensures c.requires.same refl c.in_ok-rises.ensures.cells))
