use Rattle.std.proofs.Common.{◌≡◌, [], ap, sym, refl, ◌∙◌}
use Rattle.evm_rows.specs.Rows.{Vertices, cells_of}
use Rattle.evm_tiles.proofs.Showing.{shown_cells, xor_shown_cells, xor_shown_rows, same_cells_none, same_rows_none, shown_rows, no_rows}
use Rattle.evm_tiles.proofs.tiles.Tiles.xor_solid.Goals as goal

pub returns-then-len-eq0-clause-rows : goal.returns-then-len-eq0-clause-rows
returns-then-len-eq0-clause-rows c =
    let e : c.args.d.now.rows ≡ [] = no_rows c.args.d.now.rows (sym c.len.ensures ∙ c.if-len-eq0.true) in
    ap (λ (v : Vertices). v.rows) c.in_ok-made.ensures ∙ same_rows_none c.args.self.now c.args.d.now e c.requires (shown_rows c.self.inside.dim c.self.inside.root.value c.args.self.now c.self.view_is)

pub returns-then-len-eq0-clause-cells : goal.returns-then-len-eq0-clause-cells
returns-then-len-eq0-clause-cells c =
    let e : c.args.d.now.rows ≡ [] = no_rows c.args.d.now.rows (sym c.len.ensures ∙ c.if-len-eq0.true) in
    ap cells_of c.in_ok-made.ensures ∙ same_cells_none c.args.self.now c.args.d.now e

pub returns-clause-rows : goal.returns-clause-rows
returns-clause-rows c =
    let k : c.args.d.now.dim ≡ c.self.inside.dim = c.requires ∙ sym (ap (λ (v : Vertices). v.dim) c.self.view_is) in
    xor_shown_rows c.self.inside.dim c.self.inside.root.value c.in_ok-root.root.value c.args.self.now c.args.d.now c.self.view_is c.requires
    (xor_shown_cells c.self.inside.dim c.args.d.now.dim c.self.inside.root.value c.self.inside.root.value c.in_ok-root.root.value c.args.self.now c.args.d.now k refl refl c.self.view_is c.in_ok-root.ensures.cells)

pub returns-clause-cells : goal.returns-clause-cells
returns-clause-cells c =
    let k : c.args.d.now.dim ≡ c.self.inside.dim = c.requires ∙ sym (ap (λ (v : Vertices). v.dim) c.self.view_is) in
    shown_cells c.self.inside.dim c.in_ok-root.root.value
    ∙ xor_shown_cells c.self.inside.dim c.args.d.now.dim c.self.inside.root.value c.self.inside.root.value c.in_ok-root.root.value c.args.self.now c.args.d.now k refl refl c.self.view_is c.in_ok-root.ensures.cells
