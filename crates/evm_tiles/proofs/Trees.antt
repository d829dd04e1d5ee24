-- Trees of tiles, taken apart.
use Rattle.evm_cells.specs.Windows.{is_under, is_over}
use Rattle.std.proofs.Common.{◌≡◌, ℕ, suc, ◌+◌, ◌<◌, Bool, true, ◌&&◌, nat_lt, ℤ, pos, neg_ℤ, int_lt, Global, refl, sym, ap, ◌∙◌, arith, eqb-true, eq-eqb, lt-ltb, ltb-true}
use Rattle.std.specs.List.{list_all}
use Rattle.std.specs.declared.rc.Rc.{Rc}
use Rattle.evm_cells.specs.Booleans.{xor_cells}
use Rattle.evm_cells.specs.Limits.{limit, IsCellSet}
use Rattle.evm_cells.specs.Vertices.{cells}
use Rattle.evm_cells.proofs.Xor.{and_first, and_second, and_both}
use Rattle.evm_cells.proofs.Coords.{lt_yes, lt_is}
use Rattle.evm_cells.proofs.Universe.{cell_set-cells}
use Rattle.evm_cells.proofs.Combine.{cell_set-xor}
use Rattle.evm_rows.specs.Rows.{Vertices, cells_of}
use Rattle.evm_tiles.specs.declared.node.Node.{Node}
use Rattle.evm_tiles.specs.declared.node.Node.TheVariants.{Leaf, Cut, Cut'}
use Rattle.evm_cutting.specs.Cuts.{IsBetween}
use Rattle.evm_tiles.specs.Trees.{node_cells, is_well, node_count}

pub cell_set-node : (n : ℕ) (x : Node) → IsCellSet n (node_cells n x)
unfolding node_cells
cell_set-node n (Leaf s most) = cell_set-cells n s.rows
cell_set-node n (Cut' axis at p low q high) = cell_set-xor n (node_cells n low) (node_cells n high)

-- a leaf
pub leaf_dim : (n : ℕ) (x : Node) (s : Vertices) (most : ℕ) → x ≡ Leaf s most → is_well n x ≡ true → s.dim ≡ n
unfolding is_well
leaf_dim n x s most e h = eqb-true s.dim n (ap (is_well n) (sym e) ∙ h)

pub leaf_cells : (n : ℕ) (x : Node) (s : Vertices) (most : ℕ) → x ≡ Leaf s most → is_well n x ≡ true → node_cells n x ≡ cells_of s
unfolding node_cells
leaf_cells n x s most e h = ap (node_cells n) e ∙ ap (λ (m : ℕ). cells m s.rows) (sym (leaf_dim n x s most e h))

-- a cut
pub record Halves (n : ℕ) (axis : ℕ) (at : ℤ) (low high : Node) : Type 0 where
  pub fits : nat_lt axis n ≡ true
  pub above_least : int_lt (neg_ℤ (pos (limit n))) at ≡ true
  pub below_most : int_lt at (pos (limit n)) ≡ true
  pub under : list_all (is_under axis at) (node_cells n low) ≡ true
  pub over : list_all (is_over axis at) (node_cells n high) ≡ true
  pub first : is_well n low ≡ true
  pub second : is_well n high ≡ true

pub halves : (n : ℕ) (x : Node) (axis : ℕ) (at : ℤ) (low high : Rc Node Global) → x ≡ Cut axis at low high → is_well n x ≡ true → Halves n axis at low.value high.value
unfolding is_well
halves n x axis at low high e h =
    let P : Bool = nat_lt axis n in
    let Q : Bool = int_lt (neg_ℤ (pos (limit n))) at in
    let R : Bool = int_lt at (pos (limit n)) in
    let S : Bool = list_all (is_under axis at) (node_cells n low.value) in
    let T : Bool = list_all (is_over axis at) (node_cells n high.value) in
    let U : Bool = is_well n low.value in
    let V : Bool = is_well n high.value in
    let g : ((P && (Q && R)) && ((S && T) && (U && V))) ≡ true = ap (is_well n) (sym e) ∙ h in
    let a : (P && (Q && R)) ≡ true = and_first (P && (Q && R)) ((S && T) && (U && V)) g in
    let b : ((S && T) && (U && V)) ≡ true = and_second (P && (Q && R)) ((S && T) && (U && V)) g in
    let c : (Q && R) ≡ true = and_second P (Q && R) a in
    let d : (S && T) ≡ true = and_first (S && T) (U && V) b in
    let f : (U && V) ≡ true = and_second (S && T) (U && V) b in
    record {
      fits = and_first P (Q && R) a;
      above_least = and_first Q R c;
      below_most = and_second Q R c;
      under = and_first S T d;
      over = and_second S T d;
      first = and_first U V f;
      second = and_second U V f;
    }

pub whole_halves : (n axis : ℕ) (at : ℤ) (low high : Rc Node Global) → Halves n axis at low.value high.value → is_well n (Cut axis at low high) ≡ true
unfolding is_well
whole_halves n axis at low high h =
    let P : Bool = nat_lt axis n in
    let Q : Bool = int_lt (neg_ℤ (pos (limit n))) at in
    let R : Bool = int_lt at (pos (limit n)) in
    let S : Bool = list_all (is_under axis at) (node_cells n low.value) in
    let T : Bool = list_all (is_over axis at) (node_cells n high.value) in
    let U : Bool = is_well n low.value in
    let V : Bool = is_well n high.value in
    and_both (P && (Q && R)) ((S && T) && (U && V)) (and_both P (Q && R) h.fits (and_both Q R h.above_least h.below_most)) (and_both (S && T) (U && V) (and_both S T h.under h.over) (and_both U V h.first h.second))

pub cut_cells : (n : ℕ) (x : Node) (axis : ℕ) (at : ℤ) (low high : Rc Node Global) → x ≡ Cut axis at low high → node_cells n x ≡ xor_cells n (node_cells n low.value) (node_cells n high.value)
unfolding node_cells
cut_cells n x axis at low high e = ap (node_cells n) e

pub low_smaller : (x y : Node) (axis : ℕ) (at : ℤ) (low high : Rc Node Global) → x ≡ Cut axis at low high → y ≡ low.value → node_count y < node_count x
unfolding node_count
low_smaller x y axis at low high e f =
    let a : node_count x ≡ suc (node_count low.value + node_count high.value) = ap node_count e in
    let b : node_count y ≡ node_count low.value = ap node_count f in
    omega arith

pub high_smaller : (x y : Node) (axis : ℕ) (at : ℤ) (low high : Rc Node Global) → x ≡ Cut axis at low high → y ≡ high.value → node_count y < node_count x
unfolding node_count
high_smaller x y axis at low high e f =
    let a : node_count x ≡ suc (node_count low.value + node_count high.value) = ap node_count e in
    let b : node_count y ≡ node_count high.value = ap node_count f in
    omega arith

pub leaf_well : (s : Vertices) (most : ℕ) (x : Node) → x ≡ Leaf s most → is_well s.dim x ≡ true
unfolding is_well
leaf_well s most x e = ap (is_well s.dim) e ∙ eq-eqb s.dim s.dim refl

pub leaf_shows : (s : Vertices) (most : ℕ) (x : Node) → x ≡ Leaf s most → node_cells s.dim x ≡ cells_of s
unfolding node_cells
leaf_shows s most x e = ap (node_cells s.dim) e

pub cut_well : (n axis : ℕ) (at : ℤ) (low high : Rc Node Global) (x : Node) → x ≡ Cut axis at low high → IsBetween n axis at → list_all (is_under axis at) (node_cells n low.value) ≡ true → list_all (is_over axis at) (node_cells n high.value) ≡ true
    → is_well n low.value ≡ true → is_well n high.value ≡ true → is_well n x ≡ true
cut_well n axis at low high x e b u o l h =
    ap (is_well n) e ∙ whole_halves n axis at low high (record {
      fits = lt-ltb axis n b.axis;
      above_least = lt_yes (neg_ℤ (pos (limit n))) at b.low;
      below_most = lt_yes at (pos (limit n)) b.high;
      under = u;
      over = o;
      first = l;
      second = h;
    })

pub between_of : (n axis : ℕ) (at : ℤ) (low high : Node) → Halves n axis at low high → IsBetween n axis at
between_of n axis at low high h = record {
  axis = ltb-true axis n h.fits;
  low = lt_is (neg_ℤ (pos (limit n))) at h.above_least;
  high = lt_is at (pos (limit n)) h.below_most;
}

pub leaf_count : (s : Vertices) (most : ℕ) (x : Node) → x ≡ Leaf s most → node_count x ≡ 1
unfolding node_count
leaf_count s most x e = ap node_count e

pub cut_count : (axis : ℕ) (at : ℤ) (low high : Rc Node Global) (x : Node) → x ≡ Cut axis at low high → node_count x ≡ suc (node_count low.value + node_count high.value)
unfolding node_count
cut_count axis at low high x e = ap node_count e
