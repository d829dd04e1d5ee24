use Rattle.std.proofs.Common.{◌≡◌, ◌-◌, ◌+◌, ◌++◌, ℕ, suc, ℤ, List, All, ap, ap₂, subst, sym, ◌∙◌, arith, rules, w32}
use mir.Val.{SFits}
use Rattle.evm_cells.specs.Limits.{is_point_coord}
use Rattle.evm_cells.specs.Vertices.{cells}
use Rattle.evm_rows.specs.Rows.{Vertices, cells_of, rows_of, xor_rows}
use Rattle.evm_rows.specs.View.{vertices_of}
use Rattle.evm_rows.proofs.BoxTests.{same32}
use Rattle.evm_mesh.specs.Sheets.{IsSheet, faces_between, faces_in, first_faces}
use Rattle.evm_mesh.proofs.CutSections.{walked_start, walked_next, walked_end, next_height}
use Rattle.evm_mesh.proofs.sheets.append_axis.Goals as goal

pub loop-at-init : goal.loop-at-init
loop-at-init c =
    let a = c.args.a in
    let m : ℕ = a.width - a.skip in
    let one : m - 1 + 1 ≡ m = omega (arith, c.requires.deep) in
    record {
      walk_dim = c.of-walk.ensures.dim;
      below_dim = ap (λ (k : ℕ). k + 1) (c.empty-below.ensures.dim ∙ ap (λ (k : ℕ). k - 1) c.dim.ensures) ∙ one;
      sheets = c.requires.sheets;
      walked = walked_start m (m - 1) c.args.axis (rows_of a.flat.now a.width a.skip) c.empty-below.result.rows c.of-walk.result.left (faces_in c.args.sheets.now.items) one a.vertices c.empty-below.ensures.rows c.of-walk.ensures.left;
    }

pub xor-requires : goal.xor-requires
xor-requires c = omega (arith, ap (λ (v : Vertices). v.dim) c.rows.ensures, c.in-Some.ensures.same, c.loop-at.invariant.below_dim, c.loop-at.invariant.walk_dim)

pub append_cut-requires-clause-within : goal.append_cut-requires-clause-within
append_cut-requires-clause-within c = omega (arith, c.requires.within, c.loop-at.invariant.below_dim)

pub append_cut-requires-clause-height : goal.append_cut-requires-clause-height
append_cut-requires-clause-height c =
    let m : ℕ = c.args.a.width - c.args.a.skip in
    let x : ℤ = c.in-Some.at in
    let fits : SFits w32 x = search rules in
    let same : c.loop-at.below.dim + 1 ≡ suc (m - 1) = omega (arith, c.requires.deep, c.loop-at.invariant.below_dim) in
    ap (is_point_coord (c.loop-at.below.dim + 1)) (same32 x fits) ∙ ap (λ (j : ℕ). is_point_coord j x) same
    ∙ next_height (m - 1) c.args.axis (cells_of (vertices_of c.args.a)) c.loop-at.below.rows x (vertices_of c.in-Some.couplet).rows c.loop-at.walk.left c.next_couplet.new.self.left _ _ c.loop-at.invariant.walked c.in-Some.ensures.some

pub append_cut-requires-clause-sheets : goal.append_cut-requires-clause-sheets
append_cut-requires-clause-sheets c = subst (λ (j : ℕ). All (IsSheet j) c.loop-at.sheets.items) (sym c.loop-at.invariant.below_dim) c.loop-at.invariant.sheets

pub loop-at-preserved : goal.loop-at-preserved
loop-at-preserved c =
    let m : ℕ = c.args.a.width - c.args.a.skip in
    let i : ℕ = c.args.axis in
    let x : ℤ = c.in-Some.at in
    let fits : SFits w32 x = search rules in
    let S : List (List ℤ) = cells_of (vertices_of c.args.a) in
    let b : Vertices = c.loop-at.below in
    let a : Vertices = c.in_ok-above.above in
    let C : List (List ℤ) = (vertices_of c.in-Some.couplet).rows in
    let done = faces_in c.loop-at.sheets.items in
    let same : a.dim ≡ b.dim = c.in_ok-above.ensures.dim ∙ ap (λ (v : Vertices). v.dim) c.rows.ensures in
    let below : b.dim ≡ m - 1 = omega (arith, c.loop-at.invariant.below_dim) in
    let above : a.dim ≡ m - 1 = same ∙ below in
    record {
      walk_dim = ap (λ (k : ℕ). k + 1) c.in-Some.ensures.dim ∙ c.loop-at.invariant.walk_dim;
      below_dim = ap (λ (k : ℕ). k + 1) same ∙ c.loop-at.invariant.below_dim;
      sheets = subst (λ (j : ℕ). All (IsSheet j) c.append_cut.new.sheets.items) c.loop-at.invariant.below_dim c.in_ok-append_cut.ensures.sheets;
      walked = walked_next (m - 1) i S b.rows a.rows x C c.loop-at.walk.left c.next_couplet.new.self.left done (faces_in c.append_cut.new.sheets.items)
          (faces_in c.args.sheets.now.items ++ first_faces (m - 1) S i) c.loop-at.invariant.walked c.in-Some.ensures.some
          (c.in_ok-above.ensures.rows ∙ ap (λ (v : Vertices). xor_rows v.dim v.rows C) c.rows.ensures ∙ ap (λ (j : ℕ). xor_rows j b.rows C) below)
          (c.in_ok-append_cut.ensures.faces ∙ ap₂ (λ (j : ℕ) (h : ℤ). done ++ faces_between j i h (cells b.dim b.rows) (cells a.dim a.rows)) below (same32 x fits)
          ∙ ap₂ (λ (j k : ℕ). done ++ faces_between (m - 1) i x (cells j b.rows) (cells k a.rows)) below above);
    }

pub returns-clause-sheets : goal.returns-clause-sheets
returns-clause-sheets c = c.loop-at.invariant.sheets

pub returns-clause-faces : goal.returns-clause-faces
returns-clause-faces c = walked_end (c.args.a.width - c.args.a.skip - 1) c.args.axis (cells_of (vertices_of c.args.a)) c.loop-at.below.rows c.loop-at.walk.left _ _ c.loop-at.invariant.walked c.in_default.ensures.none
