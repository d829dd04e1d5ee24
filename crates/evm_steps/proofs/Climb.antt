-- A Boolean that grows by one height
use Rattle.std.proofs.Common.{◌≡◌, ℕ, ℤ, Bool, Some, List, ◌+◌, ◌<◌, ◌++◌, length, sym, ap, ◌∙◌, arith}
use Rattle.evm_cells.specs.Booleans.{combine}
use Rattle.evm_cells.specs.Vertices.{cells}
use Rattle.evm_rows.specs.Rows.{Vertices, flat_of, xor_rows, combined_rows, raised}
use Rattle.evm_sections.specs.Couplets.{first_height}
use Rattle.evm_boolean.specs.Tower.{lower, after, section_at}
use Rattle.evm_boolean.proofs.Answer.{cells_are}
use Rattle.evm_boolean.proofs.Cuts.{cuts-fall}
use Rattle.evm_boolean.proofs.TowerSteps.{tower, cuts_of, tower_more}

-- what is left of the answer, where a and b are the sections below the height h, ta and tb those above it, `below` and `above` the answer's, and va, vb, vbelow and vabove views of them
pub climbed : (op : Bool → Bool → Bool) (n : ℕ) (h k : ℤ) (la lb ma mb : List (ℤ × List (List ℤ))) (a b below ta tb above va vb vbelow vabove : Vertices) (out grown all : List ℤ)
    → k ≡ h → a.dim ≡ n → b.dim ≡ n → below.dim ≡ n → ta.dim ≡ a.dim
    → Some h ≡ lower (first_height la) (first_height lb)
    → ma ≡ after k la → mb ≡ after k lb
    → ta.rows ≡ section_at a.dim k a.rows la → tb.rows ≡ section_at b.dim k b.rows lb
    → va ≡ ta → vb ≡ tb → above.rows ≡ combined_rows op va.dim va.rows vb.rows
    → vbelow ≡ below → vabove ≡ above → grown ≡ out ++ flat_of (raised (Some k) (xor_rows vbelow.dim vbelow.rows vabove.rows))
    → out ++ flat_of (tower n (combined_rows op n) (cuts_of la lb) a.rows b.rows below.rows la lb) ≡ all
    → grown ++ flat_of (tower n (combined_rows op n) (cuts_of ma mb) ta.rows tb.rows above.rows ma mb) ≡ all
climbed op n h k la lb ma mb a b below ta tb above va vb vbelow vabove out grown all same dim_a dim_b dim_below dim_ta low left right rows_a rows_b view_a view_b combined view_below view_above appended so_far =
    tower_more n (combined_rows op n) h la lb ma mb a.rows b.rows ta.rows tb.rows below.rows above.rows out grown all low
    (left ∙ ap (λ j. after j la) same) (right ∙ ap (λ j. after j lb) same)
    (rows_a ∙ ap (λ m. section_at m k a.rows la) dim_a ∙ ap (λ j. section_at n j a.rows la) same)
    (rows_b ∙ ap (λ m. section_at m k b.rows lb) dim_b ∙ ap (λ j. section_at n j b.rows lb) same)
    (combined
    ∙ ap (λ (p : Vertices). combined_rows op p.dim p.rows vb.rows) view_a
    ∙ ap (λ (p : Vertices). combined_rows op ta.dim ta.rows p.rows) view_b
    ∙ ap (λ m. combined_rows op m ta.rows tb.rows) (dim_ta ∙ dim_a))
    (appended
    ∙ ap (λ j. out ++ flat_of (raised (Some j) (xor_rows vbelow.dim vbelow.rows vabove.rows))) same
    ∙ ap (λ (p : Vertices). out ++ flat_of (raised (Some h) (xor_rows p.dim p.rows vabove.rows))) view_below
    ∙ ap (λ (p : Vertices). out ++ flat_of (raised (Some h) (xor_rows below.dim below.rows p.rows))) view_above
    ∙ ap (λ m. out ++ flat_of (raised (Some h) (xor_rows m below.rows above.rows))) dim_below)
    so_far

-- a height takes a couplet at least
pub turn-falls : (h k : ℤ) (la lb ma mb : List (ℤ × List (List ℤ))) → k ≡ h → Some h ≡ lower (first_height la) (first_height lb) → ma ≡ after k la → mb ≡ after k lb → length ma + length mb < length la + length lb
turn-falls h k la lb ma mb same low left right =
    let left_h : ma ≡ after h la = left ∙ ap (λ j. after j la) same in
    let right_h : mb ≡ after h lb = right ∙ ap (λ j. after j lb) same in
    omega (arith, cuts-fall h la lb low, ap length left_h, ap length right_h)

-- the cells of an answer s
pub cells_given : (op : Bool → Bool → Bool) (a b s : Vertices) → s.dim ≡ a.dim → s.rows ≡ combined_rows op a.dim a.rows b.rows → cells s.dim s.rows ≡ combine op s.dim (cells s.dim a.rows) (cells s.dim b.rows)
cells_given op a b s d r = cells_are op s.dim a.rows b.rows s.rows (r ∙ ap (λ n. combined_rows op n a.rows b.rows) (sym d))
