-- The loop over the heights at which boxes come or go, where each couplet is written by itself.
use Rattle.std.proofs.Common.{◌≡◌, ℕ, suc, ◌+◌, ◌-◌, ◌<◌, ◌≤◌, List, [], ◌∷◌, ◌++◌, length, map, drop, get_or, Some, ℤ, pos, sym, ap, ap₂, ◌∙◌, subst, arith}
use Rattle.std.specs.List.{All}
use Rattle.std.proofs.lemmas.List.{drop_all}
use Rattle.std.proofs.Math.Seq.{drop-cons}
use Rattle.evm_cells.specs.Limits.{IsCellSet}
use Rattle.evm_cells.specs.Sections.{couplet}
use Rattle.evm_cells.specs.Unions.{union_of}
use Rattle.evm_cells.specs.Vertices.{evm}
use Rattle.evm_cells.proofs.Unions.{cell_set-union}
use Rattle.evm_rows.specs.Rows.{flat_of, raised}
use Rattle.evm_boxes.specs.BoxRows.{ends_of, IsBoxRow}
use Rattle.evm_boxes.specs.Fills.{AreEvents}
use Rattle.evm_boxes.specs.declared.BoxRow.{BoxRow}
use Rattle.evm_boxes.proofs.Written.{Written, written_more, written_all, bottom}
use Rattle.evm_boxes.proofs.EventLists.{events_start}

-- the rows of the union up to some level are written; n is the dimension of its sections
pub record Rising (n : ℕ) (rows : List BoxRow) (out left : List ℤ) : Type 0 where
  pub level : ℤ
  pub written : Written n (union_of (suc n) (map ends_of rows)) level out left

pub rising_start : (m n : ℕ) (rows : List BoxRow) (out heights : List ℤ) → m ≡ suc n → All (IsBoxRow m) rows → AreEvents rows heights → out ≡ [] → Rising n rows out heights
rising_start m n rows out heights q a e o = record { level = bottom n; written = events_start n rows out heights (subst (λ k. All (IsBoxRow k) rows) q a) e o }

pub rising_more : (n : ℕ) (rows : List BoxRow) (h : ℤ) (i : ℕ) (out grown heights : List ℤ) → i < length heights → h ≡ get_or heights i (pos 0)
    → grown ≡ out ++ flat_of (raised (Some h) (evm n (couplet n 0 h (union_of (suc n) (map ends_of rows))))) → Rising n rows out (drop i heights) → Rising n rows grown (drop (i + 1) heights)
rising_more n rows h i out grown heights l e g r =
    let S = union_of (suc n) (map ends_of rows) in
    let next : suc i ≡ i + 1 = omega arith in
    let left : drop i heights ≡ h ∷ drop (i + 1) heights = drop-cons heights i (pos 0) l ∙ ap₂ (λ (x : ℤ) (j : ℕ). x ∷ drop j heights) (sym e) next in
    record { level = h; written = written_more n S r.level h out grown (drop (i + 1) heights) (cell_set-union (suc n) (map ends_of rows)) (subst (Written n S r.level out) left r.written) g }

pub rising_all : (m n : ℕ) (rows : List BoxRow) (i : ℕ) (out heights : List ℤ) → m ≡ suc n → length heights ≤ i → Rising n rows out (drop i heights) → out ≡ flat_of (evm m (union_of m (map ends_of rows)))
rising_all m n rows i out heights q l r =
    written_all n (union_of (suc n) (map ends_of rows)) r.level out (cell_set-union (suc n) (map ends_of rows)) (subst (Written n (union_of (suc n) (map ends_of rows)) r.level out) (drop_all i heights l) r.written)
    ∙ ap (λ k. flat_of (evm k (union_of k (map ends_of rows)))) (sym q)
