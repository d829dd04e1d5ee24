-- The steps of one name, from those of what its formula does.
use Rattle.std.proofs.Common.{◌≡◌, ℕ, ◌+◌, ◌*◌, ◌≤◌, ◌==◌, Bool, true, false, not, if◌then◌else◌, List, [], ◌∷◌, Option, None, Some, ℤ, pos, negsuc, refl, sym, ap, subst, ◌∙◌, nat_abs, arith}
use Rattle.std.specs.List.{list_any}
use Rattle.std.specs.Ordering.{int_eq}
use Rattle.std.proofs.lemmas.Bool.{false≢true}
use Rattle.std.proofs.lemmas.Bool.Decides.{Decides-eqb}
use Rattle.std.proofs.lemmas.Int.{ints as int_facts}
use Rattle.evm_cells.specs.Places.{is_empty}
use Rattle.evm_cells.specs.Limits.{IsCellSet}
use Rattle.evm_cells.specs.Vertices.{cells}
use Rattle.evm_cells.specs.Heights.{cut_count, spanned_cut_count}
use Rattle.evm_cells.specs.Booleans.{xor_cells}
use Rattle.evm_cells.proofs.Coords.{eq_is, eq_yes}
use Rattle.evm_cells.proofs.Order.{same_tests, refuted}
use Rattle.evm_boolean.specs.declared.boolean.Op2.{Op2}
use Rattle.evm_delta.specs.declared.shapes.Op1.{Op1}
use Rattle.evm_script.specs.declared.formula.Formula.{Formula}
use Rattle.evm_script.specs.declared.formula.Formula.TheVariants.{Or, And, Sub, Xor, Box, Shift, Mirror, Swap, Clip, Slice, Proj, Lift}
use Rattle.evm_model.specs.Figures.{Figure, nothing, xor_of, same_figure}
use Rattle.evm_model.specs.Orders.{is_among}
use Rattle.evm_model.specs.Scene.{Made, operands, is_axis}
use Rattle.evm_model.specs.Work.{change_between, sets_of, changes_of, dim_of_first, operand_cuts, joins_sections, is_moved}
use Rattle.evm_model.proofs.Names.{among_here, among_later, any_among, or_none}
use Rattle.evm_model.proofs.FigureLaws.{same_itself}
use Rattle.evm_formulas.specs.declared.operations.Operation.{Operation}
use Rattle.evm_formulas.specs.declared.operations.Operation.TheVariants as does
use Rattle.evm_formulas.specs.declared.changes.Change.{Change}
use Rattle.evm_formulas.specs.Stated.{figure_of, FormulaStated}
use Rattle.evm_formulas.specs.Operations.{operation_of}
use Rattle.evm_formulas.specs.Changes.{after_of, IsChange, Moves}
use Rattle.evm_formulas.specs.Steps.{pair_cuts, shape_cuts}
use Rattle.evm_formulas.proofs.Figures.{figure_set, xor_back, xor_stays, xor_moves}
use Rattle.evm_scene.specs.declared.node.Node.{Node}
use Rattle.evm_scene.specs.Tables.{Table, node_at, made_reads, node_reads, kept, dim_at, FormulaSized, MadeSized, NodeSized}
use Rattle.evm_scene.specs.Changes.{Pending, change_at, moved, AllChange}
use Rattle.evm_scene.specs.Works.{IsMoving, MovesCells, AllMove, made_cost, node_cost}
use Rattle.evm_scene.proofs.FormulaLaws.{axis_low}

-- ---- the steps of a formula depend on the values of its operands alone

module _ (old g h : List ℕ → Figure) where
  sets_same : (names : List (List ℕ)) → ((o : List ℕ) → is_among o names ≡ true → g o ≡ h o) → sets_of names old g ≡ sets_of names old h
  sets_same [] same = refl
  sets_same (x ∷ xs) same =
      ap (λ (f : Figure). (old x).cells ∷ f.cells ∷ sets_of xs old g) (same x (among_here x xs))
      ∙ ap (λ (l : List (List (List ℤ))). (old x).cells ∷ (h x).cells ∷ l) (sets_same xs (λ o m. same o (among_later o x xs m)))

  changes_same : (names : List (List ℕ)) → ((o : List ℕ) → is_among o names ≡ true → g o ≡ h o) → changes_of names old g ≡ changes_of names old h
  changes_same [] same = refl
  changes_same (x ∷ xs) same =
      ap (λ (f : Figure). change_between (old x) f ∷ changes_of xs old g) (same x (among_here x xs))
      ∙ ap (λ (l : List (List (List ℤ))). change_between (old x) (h x) ∷ l) (changes_same xs (λ o m. same o (among_later o x xs m)))

  first_same : (names : List (List ℕ)) → ((o : List ℕ) → is_among o names ≡ true → g o ≡ h o) → dim_of_first names g ≡ dim_of_first names h
  first_same [] same = refl
  first_same (x ∷ xs) same = ap (λ (f : Figure). f.dim) (same x (among_here x xs))

  cuts_same : (f : Formula) → ((o : List ℕ) → is_among o (operands f) ≡ true → g o ≡ h o) → operand_cuts f old g ≡ operand_cuts f old h
  cuts_same f same =
      let d = first_same (operands f) same in
      let s = sets_same (operands f) same in
      let c = changes_same (operands f) same in
      λ i. if joins_sections f then cut_count (d i) (s i) else spanned_cut_count (d i) (s i) (c i)

  moved_same : (f : Formula) → ((o : List ℕ) → is_among o (operands f) ≡ true → g o ≡ h o) → is_moved (Made f) old g ≡ is_moved (Made f) old h
  moved_same f same =
      any_among (λ o. not (is_empty (change_between (old o) (g o)))) (λ o. not (is_empty (change_between (old o) (h o)))) (operands f)
      (λ o m. ap (λ (x : Figure). not (is_empty (change_between (old o) x))) (same o m))

  made_cost_same : (m : Option Formula) → ((o : List ℕ) → is_among o (made_reads m) ≡ true → g o ≡ h o) → made_cost m old g ≡ made_cost m old h
  made_cost_same None same = refl
  made_cost_same (Some f) same =
      let m = moved_same f same in let c = cuts_same f same in λ i. if m i then 6 * (1 + c i) else 0

  pub node_cost_same : (n : Option Node) → ((o : List ℕ) → is_among o (node_reads n) ≡ true → g o ≡ h o) → node_cost n old g ≡ node_cost n old h
  node_cost_same None same = refl
  node_cost_same (Some n) same = made_cost_same n.formula same

-- ---- the steps of what a formula does

abbrev pub moves_at : (List ℕ → Figure) → (List ℕ → Figure) → List ℕ → Bool
moves_at old new o = not (is_empty (change_between (old o) (new o)))

abbrev pub op_cost : Operation → (List ℕ → Figure) → (List ℕ → Figure) → ℕ
op_cost (does.Both op a b) old new =
    if list_any (moves_at old new) (a ∷ b ∷ []) then 6 * (1 + pair_cuts (old a) (new a) (old b) (new b)) else 0
op_cost (does.Shape op a) old new = if list_any (moves_at old new) (a ∷ []) then 6 * (1 + shape_cuts op (old a) (new a)) else 0
op_cost (does.Block nums) old new = 0

-- the projection along the first axis, by its number
first_axis : (n : ℕ) (axis : ℤ) → is_axis n axis ≡ true → (nat_abs axis == 1) ≡ int_eq axis (pos 1)
first_axis n (pos k) h =
    same_tests (k == 1) (int_eq (pos k) (pos 1))
    (λ e. eq_yes (pos k) (pos 1) (ap (λ (m : ℕ). pos m) ((Decides-eqb k 1).0 e)))
    (λ e. (Decides-eqb k 1).1 (ap nat_abs (eq_is (pos k) (pos 1) e)))
first_axis n (negsuc k) h = let low = axis_low n (negsuc k) h in absurd (omega (arith, int_facts, low))

module _ (old new : List ℕ → Figure) (dims : (o : List ℕ) → (new o).dim ≡ (old o).dim) where
  pair_is : (m : Bool) (a b : List ℕ) → (if m then 6 * (1 + pair_cuts (old a) (new a) (old b) (new b)) else 0)
      ≡ (if m then 6 * (1 + spanned_cut_count (new a).dim (sets_of (a ∷ b ∷ []) old new) (changes_of (a ∷ b ∷ []) old new)) else 0)
  pair_is m a b = ap (λ (n : ℕ). if m then 6 * (1 + spanned_cut_count n (sets_of (a ∷ b ∷ []) old new) (changes_of (a ∷ b ∷ []) old new)) else 0) (sym (dims a))

  one_is : (m j k : Bool) (a : List ℕ) → j ≡ k
      → (if m then 6 * (1 + (if j then cut_count (old a).dim (sets_of (a ∷ []) old new) else spanned_cut_count (old a).dim (sets_of (a ∷ []) old new) (changes_of (a ∷ []) old new))) else 0)
      ≡ (if m then 6 * (1 + (if k then cut_count (new a).dim (sets_of (a ∷ []) old new) else spanned_cut_count (new a).dim (sets_of (a ∷ []) old new) (changes_of (a ∷ []) old new))) else 0)
  one_is m j k a e =
      let d = sym (dims a) in
      λ i. if m then 6 * (1 + (if e i then cut_count (d i) (sets_of (a ∷ []) old new) else spanned_cut_count (d i) (sets_of (a ∷ []) old new) (changes_of (a ∷ []) old new))) else 0

  op_cost_is : (n : ℕ) (f : Formula) → FormulaStated n f → op_cost (operation_of f) old new ≡ made_cost (Some f) old new
  op_cost_is n (Or a b) h = pair_is (list_any (moves_at old new) (a ∷ b ∷ [])) a b
  op_cost_is n (And a b) h = pair_is (list_any (moves_at old new) (a ∷ b ∷ [])) a b
  op_cost_is n (Sub a b) h = pair_is (list_any (moves_at old new) (a ∷ b ∷ [])) a b
  op_cost_is n (Xor a b) h = pair_is (list_any (moves_at old new) (a ∷ b ∷ [])) a b
  op_cost_is n (Box dim nums) h = refl
  op_cost_is n (Shift a nums) h = one_is (list_any (moves_at old new) (a ∷ [])) false false a refl
  op_cost_is n (Mirror a axis) h = one_is (list_any (moves_at old new) (a ∷ [])) false false a refl
  op_cost_is n (Swap a i j) h = one_is (list_any (moves_at old new) (a ∷ [])) false false a refl
  op_cost_is n (Clip a nums) h = one_is (list_any (moves_at old new) (a ∷ [])) false false a refl
  op_cost_is n (Slice a axis at) h = one_is (list_any (moves_at old new) (a ∷ [])) false false a refl
  op_cost_is n (Proj a axis) h = one_is (list_any (moves_at old new) (a ∷ [])) (nat_abs axis == 1) (int_eq axis (pos 1)) a (first_axis (n + 1) axis h)
  op_cost_is n (Lift a axis lo hi) h = one_is (list_any (moves_at old new) (a ∷ [])) false false a refl

-- ---- changes that are noted

no_cell : (S : List (List ℤ)) → is_empty S ≡ true → S ≡ []
unfolding is_empty
no_cell [] e = refl
no_cell (x ∷ xs) e = absurd (false≢true e)

xor_alone : (a b : Figure) → xor_cells a.dim a.cells b.cells ≡ [] → xor_of a b ≡ nothing a.dim
unfolding xor_of nothing
xor_alone a b e = λ i. record { dim = a.dim; cells = e i }

-- a change of a figure to another has cells
pub moves_cells : (c : Option Change) (own : Figure) → IsCellSet own.dim own.cells → IsChange c own → Moves c own → MovesCells c own
moves_cells None own set h k = tt
moves_cells (Some c) own set h k =
    refuted (is_empty (change_between own (figure_of c.after))) (λ e. false≢true (sym k ∙ ap (λ (f : Figure). same_figure own f) (sym (same e)) ∙ same_itself own))
  where
    same : is_empty (change_between own (figure_of c.after)) ≡ true → own ≡ figure_of c.after
    same e =
        sym (xor_stays own set)
        ∙ sym (ap (xor_of own) (xor_alone own (figure_of c.after) (ap (λ (n : ℕ). xor_cells n own.cells (figure_of c.after).cells) (sym h.1) ∙ no_cell (change_between own (figure_of c.after)) e)))
        ∙ xor_back own (figure_of c.after) h.1 set (figure_set c.after)

-- a change with cells moves each figure that it can be one of
pub moving_change : (c : Change) → (cells c.delta.dim c.delta.rows ≡ [] → ⊥) → IsMoving (Some c)
moving_change c some own set h =
    ap (λ (f : Figure). same_figure own f) h.2 ∙ xor_moves own (figure_of c.delta) h.0 set (figure_set c.delta) some

-- where a name's change has no cells, it is not noted
pub unnoted : (t : Table) (p : Pending) → AllMove t p → (x : List ℕ) → moves_at (kept t) (moved t p) x ≡ false → change_at p x ≡ None
unnoted t p move x = by (change_at p x) (move x)
  where
    by : (o : Option Change) → MovesCells o (kept t x) → not (is_empty (change_between (kept t x) (after_of o (kept t x)))) ≡ false → o ≡ None
    by None h k = refl
    by (Some c) h k = absurd (false≢true (sym k ∙ ap not h))

few_by : (m : Bool) (c s r : ℕ) → r ≤ s + c → (m ≡ false → r ≡ s) → r ≤ s + (if m then c else 0)
few_by true c s r h k = h
few_by false c s r h k = omega (arith, k refl)

module _ (t : Table) (p : Pending) (move : AllMove t p) (s r : ℕ) where
  pub both_few : (op : Op2) (a b : List ℕ) → r ≤ s + 6 * (1 + pair_cuts (kept t a) (moved t p a) (kept t b) (moved t p b))
      → (change_at p a ≡ None → change_at p b ≡ None → r ≡ s) → r ≤ s + op_cost (does.Both op a b) (kept t) (moved t p)
  both_few op a b h k =
      few_by (list_any (moves_at (kept t) (moved t p)) (a ∷ b ∷ [])) (6 * (1 + pair_cuts (kept t a) (moved t p a) (kept t b) (moved t p b))) s r h
      (λ d. let first = or_none (moves_at (kept t) (moved t p) a) (list_any (moves_at (kept t) (moved t p)) (b ∷ [])) d in
      let second = or_none (moves_at (kept t) (moved t p) b) false first.1 in
      k (unnoted t p move a first.0) (unnoted t p move b second.0))

  pub one_few : (op : Op1) (a : List ℕ) → r ≤ s + 6 * (1 + shape_cuts op (kept t a) (moved t p a))
      → (change_at p a ≡ None → r ≡ s) → r ≤ s + op_cost (does.Shape op a) (kept t) (moved t p)
  one_few op a h k =
      few_by (list_any (moves_at (kept t) (moved t p)) (a ∷ [])) (6 * (1 + shape_cuts op (kept t a) (moved t p a))) s r h
      (λ d. k (unnoted t p move a (or_none (moves_at (kept t) (moved t p) a) false d).0))

-- a change keeps the dimension
moved_dim : (t : Table) (p : Pending) → AllChange t p → (x : List ℕ) → (moved t p x).dim ≡ (kept t x).dim
moved_dim t p change x = by (change_at p x) (change x)
  where
    by : (o : Option Change) → IsChange o (kept t x) → (after_of o (kept t x)).dim ≡ (kept t x).dim
    by None h = refl
    by (Some c) h = h.1

-- the steps of a name, by those of what its formula does
pub node_few : (t : Table) (p : Pending) → ((x : List ℕ) → NodeSized (node_at t x) (dim_at t)) → AllChange t p
    → (x : List ℕ) (n : Node) (f : Formula) → node_at t x ≡ Some n → n.formula ≡ Some f → (op : Operation) → op ≡ operation_of f
    → (s r : ℕ) → r ≤ s + op_cost op (kept t) (moved t p) → r ≤ s + node_cost (node_at t x) (kept t) (moved t p)
node_few t p sized change x n f at formula op e s r h =
    subst (λ (k : ℕ). r ≤ s + k)
    (ap (λ (o : Operation). op_cost o (kept t) (moved t p)) e
    ∙ op_cost_is (kept t) (moved t p) (moved_dim t p change) n.dim f made.1
    ∙ ap (λ (m : Option Formula). made_cost m (kept t) (moved t p)) (sym formula)
    ∙ ap (λ (o : Option Node). node_cost o (kept t) (moved t p)) (sym at))
    h
  where
    made : FormulaSized n.dim f (dim_at t)
    made = subst (λ (m : Option Formula). MadeSized n.dim m (dim_at t)) formula (subst (λ (o : Option Node). NodeSized o (dim_at t)) at (sized x)).2
