use Rattle.std.proofs.Common.{◌≡◌, ◌+◌, ◌-◌, ◌<◌, ℕ, ℤ, List, length, ap, ap₂, ◌∙◌, arith}
use Rattle.evm_cells.specs.Shapes.{proj}
use Rattle.evm_cells.specs.Vertices.{evm, cells}
use Rattle.evm_cells.proofs.Lifts.{cell_set-proj}
use Rattle.evm_rows.specs.Rows.{Vertices, rows_of}
use Rattle.evm_rows.specs.View.{vertices_of}
use Rattle.evm_sections.specs.Couplets.{couplets_of, slabs_in}
use Rattle.evm_shapes.proofs.Shaped.{cells_of}
use Rattle.evm_shapes.proofs.United.{slabs_of, shadow_is, no_shadow}
use Rattle.evm_shapes.proofs.projections.project.Goals as goal

pub returns-then-couplets-lt2 : goal.returns-then-couplets-lt2
returns-then-couplets-lt2 c =
    let a = c.args.a in
    let m : ℕ = a.width - a.skip in
    let n : ℕ = a.width - a.skip - 1 in
    let i : ℕ = c.args.axis - 1 in
    let V : List (List ℤ) = rows_of a.flat.now a.width a.skip in
    let one : n + 1 ≡ m = omega (arith, c.requires.deep) in
    let within : i < m = omega (arith, c.requires.low, c.requires.high) in
    let W : List (List ℤ) = c.in_ok-turned.turned.rows in
    let k : c.count_couplets-couplets.result ≡ length (couplets_of W) = c.count_couplets-couplets.ensures ∙ ap (λ (p : Vertices). length (couplets_of p.rows)) c.rows.ensures in
    let e : c.empty.result.rows ≡ evm n (proj n i (cells m V)) = c.empty.ensures.rows ∙ no_shadow m n c.count_couplets-couplets.result i V W one within a.vertices c.in_ok-turned.ensures.rows k c.if-couplets-lt2.true in
    let d : c.empty.result.dim ≡ n = c.empty.ensures.dim ∙ ap (λ (j : ℕ). j - 1) c.dim.ensures in
    record { dim = d; rows = e; cells = cells_of c.empty.result.dim n _ _ d (cell_set-proj n i (cells m V)) e }

pub unite-requires-clause-within : goal.unite-requires-clause-within
unite-requires-clause-within c =
    let a = c.args.a in
    let m : ℕ = a.width - a.skip in
    let n : ℕ = a.width - a.skip - 1 in
    let i : ℕ = c.args.axis - 1 in
    let V : List (List ℤ) = rows_of a.flat.now a.width a.skip in
    let one : n + 1 ≡ m = omega (arith, c.requires.deep) in
    let within : i < m = omega (arith, c.requires.low, c.requires.high) in
    let W : List (List ℤ) = c.in_ok-turned.turned.rows in
    let k : c.count_couplets-couplets.result ≡ length (couplets_of W) = c.count_couplets-couplets.ensures ∙ ap (λ (p : Vertices). length (couplets_of p.rows)) c.rows.ensures in
    let same : (vertices_of c.rows-2.result).dim ≡ m = ap (λ (p : Vertices). p.dim) c.rows-2.ensures ∙ c.in_ok-turned.ensures.dim in
    let f : c.start-sweep.result.dim ≡ n = omega (arith, c.start-sweep.ensures.dim, same) in
    let slabs : c.start-sweep.result.left ≡ slabs_in c.start-sweep.result.dim (cells m W) =
    c.start-sweep.ensures.slabs ∙ ap₂ (λ (j : ℕ) (X : List (List ℤ)). slabs_in c.start-sweep.result.dim (cells j X)) same (ap (λ (p : Vertices). p.rows) c.rows-2.ensures) in
    let l : length c.start-sweep.result.left ≡ c.count_couplets-couplets.result - 1 = slabs_of m n c.start-sweep.result.dim c.count_couplets-couplets.result i V W c.start-sweep.result.left one c.in_ok-turned.ensures.rows f k slabs in
    omega arith

pub returns : goal.returns
returns c =
    let a = c.args.a in
    let m : ℕ = a.width - a.skip in
    let n : ℕ = a.width - a.skip - 1 in
    let i : ℕ = c.args.axis - 1 in
    let V : List (List ℤ) = rows_of a.flat.now a.width a.skip in
    let one : n + 1 ≡ m = omega (arith, c.requires.deep) in
    let within : i < m = omega (arith, c.requires.low, c.requires.high) in
    let W : List (List ℤ) = c.in_ok-turned.turned.rows in
    let k : c.count_couplets-couplets.result ≡ length (couplets_of W) = c.count_couplets-couplets.ensures ∙ ap (λ (p : Vertices). length (couplets_of p.rows)) c.rows.ensures in
    let same : (vertices_of c.rows-2.result).dim ≡ m = ap (λ (p : Vertices). p.dim) c.rows-2.ensures ∙ c.in_ok-turned.ensures.dim in
    let f : c.start-sweep.result.dim ≡ n = omega (arith, c.start-sweep.ensures.dim, same) in
    let slabs : c.start-sweep.result.left ≡ slabs_in c.start-sweep.result.dim (cells m W) =
    c.start-sweep.ensures.slabs ∙ ap₂ (λ (j : ℕ) (X : List (List ℤ)). slabs_in c.start-sweep.result.dim (cells j X)) same (ap (λ (p : Vertices). p.rows) c.rows-2.ensures) in
    let e : c.in_ok-shadow.shadow.rows ≡ evm n (proj n i (cells m V)) =
    shadow_is m n c.start-sweep.result.dim c.count_couplets-couplets.result i V W c.in_ok-shadow.shadow.rows c.start-sweep.result.left one within a.vertices c.in_ok-turned.ensures.rows f k slabs c.in_ok-shadow.ensures.rows in
    let d : c.in_ok-shadow.shadow.dim ≡ n = c.in_ok-shadow.ensures.dim ∙ f in
    record { dim = d; rows = e; cells = cells_of c.in_ok-shadow.shadow.dim n _ _ d (cell_set-proj n i (cells m V)) e }
