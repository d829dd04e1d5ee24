use Rattle.std.proofs.Common.{◌≡◌, ◌-◌, ◌+◌, ◌≤◌, ◌≤ℤ◌, ◌<ℤ◌, ◌∙◌, ℕ, ℤ, List, Bool, true, false, pos, neg_ℤ, ap, sym, refl, arith}
use Rattle.std.specs.List.{list_all}
use Rattle.std.proofs.lemmas.Bool.{true≢false}
use Rattle.evm_cells.specs.Limits.{limit, is_point_coord}
use Rattle.evm_cells.specs.Shapes.{lift_fits}
use Rattle.evm_cells.specs.Vertices.{cells, IsVertexList}
use Rattle.evm_rows.specs.Rows.{rows_of}
use Rattle.evm_sections.proofs.Bits.{same32}
use Rattle.evm_shapes.proofs.Sliced.{lift_by_rows}
use Rattle.evm_shapes.proofs.prisms.lift.Goals as goal

-- what the look at all coordinates tells
told : (n d i : ℕ) (lo hi : ℤ) (V : List (List ℤ)) (b : Bool) → i ≤ n → neg_ℤ (pos (limit (n + 1))) ≤ℤ lo → lo <ℤ hi → hi ≤ℤ pos (limit (n + 1)) → IsVertexList n V
    → d ≡ n → b ≡ list_all (list_all (is_point_coord (d + 1))) V → lift_fits (n + 1) i lo hi (cells n V) ≡ b
told n d i lo hi V b l m s t v e h =
    lift_by_rows n i lo hi V l m s t v ∙ sym (h ∙ ap (λ (j : ℕ). list_all (list_all (is_point_coord (j + 1))) V) e)

pub returns-then-not-all_within-clause-range : goal.returns-then-not-all_within-clause-range
returns-then-not-all_within-clause-range c =
    let a = c.args.a in
    let fits : lift_fits (a.width - a.skip + 1) (c.args.axis - 1) c.args.lo c.args.hi (cells (a.width - a.skip) (rows_of a.flat.now a.width a.skip)) ≡ false =
    told _ _ _ _ _ _ _ (omega (arith, c.requires.low, c.requires.high)) c.requires.begins c.requires.some c.requires.ends a.vertices c.dim.ensures c.if-not-all_within.ensures in
    (λ h. fits, λ h. refl)

pub prism-requires-clause-fits : goal.prism-requires-clause-fits
prism-requires-clause-fits c =
    let a = c.args.a in
    let fits : lift_fits (a.width - a.skip + 1) (c.args.axis - 1) c.args.lo c.args.hi (cells (a.width - a.skip) (rows_of a.flat.now a.width a.skip)) ≡ true =
    told _ _ _ _ _ _ _ (omega (arith, c.requires.low, c.requires.high)) c.requires.begins c.requires.some c.requires.ends a.vertices c.dim.ensures c.if-not-all_within.ensures in
    rw (same32 c.args.lo c.ranges.lo, same32 c.args.hi c.ranges.hi) fits

pub returns-in-Ok-clause-range : goal.returns-in-Ok-clause-range
returns-in-Ok-clause-range c =
    let a = c.args.a in
    let fits = told _ _ _ _ _ _ _ (omega (arith, c.requires.low, c.requires.high)) c.requires.begins c.requires.some c.requires.ends a.vertices c.dim.ensures c.if-not-all_within.ensures in
    (λ h. cc, λ h. absurd (true≢false (sym fits ∙ h)))

pub returns-in-Err-clause-range : goal.returns-in-Err-clause-range
returns-in-Err-clause-range c =
    let a = c.args.a in
    let fits = told _ _ _ _ _ _ _ (omega (arith, c.requires.low, c.requires.high)) c.requires.begins c.requires.some c.requires.ends a.vertices c.dim.ensures c.if-not-all_within.ensures in
    (λ h. cc, λ h. absurd (true≢false (sym fits ∙ h)))
