-- The steps of a definition.
use Rattle.std.proofs.Common.{◌≡◌, ℕ, ◌+◌, ◌*◌, ◌≤◌, Bool, true, false, not, cond, ◌||◌, if◌then◌else◌, List, [], ◌∷◌, ◌++◌, drop, length, Option, None, Some, refl, sym, ap, subst, ◌∙◌, is_some, sum_by, bytes_eq, arith}
use Rattle.std.specs.List.{IsDistinct}
use Rattle.std.specs.Map.{keys_of}
use Rattle.std.proofs.lemmas.List.Sums.{sum_by-cons}
use Rattle.evm_script.specs.declared.formula.Formula.{Formula}
use Rattle.evm_model.specs.Figures.{Figure}
use Rattle.evm_model.specs.Orders.{is_among, Ordered}
use Rattle.evm_model.specs.Scene.{Scene, Entry, Made, entry_of, entry_operands, operands_of, entry_value, stands, is_input, operands, formula_dim, formula_fits, formula_in_range, formula_value, reaches, value, made_entry, with_entry, with_new, with_formula, IsWell, IsOrderOf}
use Rattle.evm_model.specs.Edits as model
use Rattle.evm_model.specs.Edits.{Code, first_cause, def_causes, lacks_operand, closes_cycle, misses_dim}
use Rattle.evm_model.specs.Work.{made_cuts, own_cuts, work, entry_work, work_at, is_moved, what_cuts}
use Rattle.evm_model.proofs.Names.{by_name, by_test, name_itself, or_none, or_right, passes_none, among_here, among_later}
use Rattle.evm_model.proofs.Lookups.{with_own, length-with, push_own}
use Rattle.evm_model.proofs.Levels.{formula_same}
use Rattle.evm_model.proofs.Stays.{at_formula, value_stays}
use Rattle.evm_formulas.specs.Stated.{operand_dim}
use Rattle.evm_scene.specs.Tables.{Table, node_at, reads_at, kept, is_made, entries_of, scene_of}
use Rattle.evm_scene.specs.Orders.{IsKept, Parted}
use Rattle.evm_scene.specs.Works.{IsOutcome, cost, entry_cost, follow_cost, figure_cuts, formula_cuts}
use Rattle.evm_scene.proofs.Views.{stands_at, operands_at, order_kept, kept_is_value}
use Rattle.evm_scene.proofs.Halted.{kept_wide}
use Rattle.evm_scene.proofs.FormulaLaws.{formula_sized}
use Rattle.evm_scene.proofs.Planned.{full_unless}
use Rattle.evm_scene.proofs.Parts.{new_order, new_whole, new_size, seen_all, meets_none}
use Rattle.evm_scene.proofs.Installed.{cycle_is}
use Rattle.evm_scene.proofs.Stuck.{left_is}
use Rattle.evm_scene.proofs.Causes.{operand_present, no_input, no_cycle, dim_missed}
use Rattle.evm_scene.proofs.Wells.{well_kept}
use Rattle.evm_scene.proofs.Reformed.{made_stands, made_no_input, operands_present}
use Rattle.evm_scene.proofs.Sums.{sum_own}
use Rattle.evm_scene.proofs.Followed.{entry_less, later_sum, outcome}
use Rattle.evm_scene.proofs.CutCounts.{formula_fewer}

module _ (t : Table) (order : List (List ℕ)) (name : List ℕ) (f : Formula) (k : IsKept t order) (well : IsWell (scene_of t))
    (present : (o : List ℕ) → is_among o (operands f) ≡ true → is_some (node_at t o) ≡ true)
    (full : lacks_operand (scene_of t) name f ≡ false) (formula : is_input (scene_of t) name ≡ false) (open_end : closes_cycle (scene_of t) name f ≡ false)
    (hit : misses_dim (scene_of t) name f ≡ false) (fits : formula_fits (scene_of t) f ≡ true) where
  abbrev left : Scene
  left = with_formula (scene_of t) name f

  abbrev edit : model.Edit
  edit = model.Def name f

  others : (x : List ℕ) → bytes_eq x name ≡ false → entry_of left.entries x ≡ entry_of (entries_of t) x
  others = (at_formula (scene_of t) name f).0

  own_entry : entry_of left.entries name ≡ Some (made_entry (scene_of t) name f)
  own_entry = by (stands (scene_of t) name) refl
    where
      by : (b : Bool) → stands (scene_of t) name ≡ b
          → entry_of (cond b (record { entries = with_entry (entries_of t) name (made_entry (scene_of t) name f); slots = [] }) (with_new (scene_of t) name (formula_dim (scene_of t) f) (Made f))).entries name
          ≡ Some (made_entry (scene_of t) name f)
      by true h = with_own (entries_of t) name (made_entry (scene_of t) name f) refl h
      by false h = push_own (entries_of t) (made_entry (scene_of t) name f) h

  -- operands keep their values
  same_value : (o : List ℕ) → is_among o (operands f) ≡ true → kept t o ≡ value left o
  same_value o m =
      let parts = or_none (bytes_eq o name) (reaches (scene_of t) o name) (passes_none (λ z. bytes_eq z name || reaches (scene_of t) z name) (operands f) open_end o m) in
      kept_is_value t order k o ∙ sym (value_stays (scene_of t) well name left (at_formula (scene_of t) name f) o parts.0 parts.1)

  module _ (range : formula_in_range (scene_of t) f ≡ true) where
    operand_dims : (o : List ℕ) → is_among o (operands f) ≡ true → (value left o).dim ≡ operand_dim (formula_dim (scene_of t) f) f
    operand_dims o m =
        ap (λ (a : Figure). a.dim) (sym (same_value o m)) ∙ kept_wide t o (k.sized o) (present o m) ∙ (formula_sized t f fits range).0 o m

    cuts_kept : formula_cuts f (kept t) ≡ formula_cuts f (value left)
    cuts_kept = sums_same (operands f) same_value
      where
        sums_same : (names : List (List ℕ)) → ((o : List ℕ) → is_among o names ≡ true → kept t o ≡ value left o)
            → sum_by (λ o. figure_cuts (kept t o)) names ≡ sum_by (λ o. figure_cuts (value left o)) names
        sums_same [] same = refl
        sums_same (x ∷ xs) same = omega (
          arith,
          sum_by-cons (λ (o : List ℕ). figure_cuts (kept t o)) x xs,
          sum_by-cons (λ (o : List ℕ). figure_cuts (value left o)) x xs,
          ap (λ (a : Figure). figure_cuts a) (same x (among_here x xs)),
          sums_same xs (λ o m. same o (among_later o x xs m)),
        )

    -- the steps of the formula are in the work on its name
    own_work : formula_cuts f (kept t) ≤ entry_work edit (value (scene_of t)) (value left) (made_entry (scene_of t) name f)
    own_work =
        let cuts = formula_fewer f (value (scene_of t) name) (value left name) (value left) (operand_dim (formula_dim (scene_of t) f) f) operand_dims in
        let here : entry_work edit (value (scene_of t)) (value left) (made_entry (scene_of t) name f)
        ≡ 8 * (1 + made_cuts f (value (scene_of t) name) (value left name) (value left) + own_cuts (value (scene_of t) name) (value left name)) =
        ap (λ (b : Bool). if b then work_at (made_cuts f (value (scene_of t) name) (value left name) (value left)) (own_cuts (value (scene_of t) name) (value left name))
        else (if is_moved (Made f) (value (scene_of t)) (value left) then work_at (what_cuts (Made f) (value (scene_of t)) (value left)) (own_cuts (value (scene_of t) name) (value left name)) else 0)) (name_itself name) in
        omega (arith, cuts, cuts_kept, here)

    no_cause : first_cause (def_causes (scene_of t) name f) ≡ None
    no_cause = λ i. first_cause ((full i, model.Name) ∷ (formula i, model.Kind) ∷ (open_end i, model.Cycle) ∷ (hit i, model.Dim) ∷ (not (range i), model.Range) ∷ [])

    own_none : entry_cost name (value (scene_of t)) (value left) (made_entry (scene_of t) name f) ≡ 0
    own_none = ap (λ (b : Bool). if b then 0 else (if is_moved (Made f) (value (scene_of t)) (value left) then 6 * (1 + what_cuts (Made f) (value (scene_of t)) (value left)) else 0)) (name_itself name)

    pub def_few : (s r : ℕ) → r ≤ s + (formula_cuts f (kept t) + follow_cost name (scene_of t) left) → r ≤ s + work (scene_of t) edit
    def_few s r h =
        omega (
          arith,
          h,
          full_unless (def_causes (scene_of t) name f) (scene_of t) edit no_cause,
          sum_own (entry_cost name (value (scene_of t)) (value left)) (entry_work edit (value (scene_of t)) (value left)) left.entries name (made_entry (scene_of t) name f) (formula_cuts f (kept t))
              own_entry own_none own_work (entry_less edit name refl (value (scene_of t)) (value left)),
        )

  -- where only the formula was evaluated, or a number that it states is out of its limits
  pub made_few : (s r : ℕ) → r ≤ s + formula_cuts f (kept t) → (formula_in_range (scene_of t) f ≡ false → r ≡ s) → r ≤ s + work (scene_of t) edit
  made_few s r h early =
      by_test (formula_in_range (scene_of t) f)
      (λ range. def_few range s r (omega (arith, h)))
      (λ out. omega (arith, early out))

  -- another formula of a name that stands: its values are an outcome
  module _ (standing : is_some (node_at t name) ≡ true) (front reach : List (List ℕ)) (parted : Parted (reads_at t) order name front reach []) where
    own_reads : operands_of left.entries name ≡ operands f
    own_reads = ap (λ (e : Option Entry). entry_operands e) own_entry

    same_reads : (x : List ℕ) → bytes_eq x name ≡ false → reads_at t x ≡ operands_of left.entries x
    same_reads x d = sym (operands_at t x) ∙ ap (λ (e : Option Entry). entry_operands e) (sym (others x d))

    reads_stand : (o : List ℕ) → is_among o (operands_of left.entries name) ≡ true → is_among o order ≡ true
    reads_stand o m = k.whole o ∙ present o (subst (λ (l : List (List ℕ)). is_among o l ≡ true) own_reads m)

    reads_free : (o : List ℕ) → is_among o (operands_of left.entries name) ≡ true → is_among o reach ≡ false
    reads_free o m = meets_none reach (operands f) (cycle_is t order front reach name f k parted present ∙ open_end) o (subst (λ (l : List (List ℕ)). is_among o l ≡ true) own_reads m)

    there : stands (scene_of t) name ≡ true
    there = stands_at t name ∙ standing

    left_stands : (x : List ℕ) → is_some (node_at t x) ≡ stands left x
    left_stands x =
        by_name x name
        (λ e. ap (λ (z : List ℕ). is_some (node_at t z)) e ∙ standing ∙ sym (ap (λ (o : Option Entry). is_some o) own_entry) ∙ ap (λ (z : List ℕ). stands left z) (sym e))
        (λ d. sym (stands_at t x) ∙ ap (λ (o : Option Entry). is_some o) (sym (others x d)))

    left_order : IsOrderOf left (front ++ reach)
    left_order = record {
      ordered = new_order (reads_at t) (operands_of left.entries) order name front reach parted same_reads reads_stand reads_free;
      whole = λ x. new_whole (reads_at t) (operands_of left.entries) order name front reach parted same_reads reads_stand reads_free x ∙ k.whole x ∙ left_stands x;
      size = new_size (reads_at t) (operands_of left.entries) order name front reach parted same_reads reads_stand reads_free
          ∙ (order_kept t order k).size ∙ sym (ap (λ (s : Scene). length s.entries) (left_is t order name f k well standing present open_end) ∙ length-with (entries_of t) name (made_entry (scene_of t) name f));
    }

    own_value : entry_value (entry_of left.entries name) (value left) ≡ formula_value f (kept t)
    own_value = ap (λ (e : Option Entry). entry_value e (value left)) own_entry ∙ sym (formula_same f (kept t) (value left) same_value)

    reach_stand : (x : List ℕ) → is_among x parted.tail ≡ true → is_some (node_at t x) ≡ true
    reach_stand x m =
        sym (k.whole x) ∙ seen_all (reads_at t) (operands_of left.entries) order name front reach parted same_reads reads_stand reads_free x
        ∙ or_right (is_among x front) (is_among x reach) (ap (λ (l : List (List ℕ)). is_among x l) parted.starts ∙ among_later x name parted.tail m)

    -- the steps of carrying it
    pub redefined_few : (figure : Figure) → figure ≡ formula_value f (kept t) → formula_in_range (scene_of t) f ≡ true → (s m r : ℕ) → m ≤ s + formula_cuts f (kept t)
        → ((V : List ℕ → Figure) → IsOutcome t name figure V → r ≤ m + sum_by (cost t V) (drop 1 reach)) → r ≤ s + work (scene_of t) edit
    redefined_few figure is range s m r before few =
        let total = later_sum t order k name left others front parted.tail (reads_at t) (subst (λ (l : List (List ℕ)). Ordered (reads_at t) front l) parted.starts parted.after) reach_stand in
        let here = few (value left) (outcome t order k name left others figure (front ++ reach) left_order (own_value ∙ sym is)) in
        let tail : sum_by (cost t (value left)) (drop 1 reach) ≡ sum_by (cost t (value left)) parted.tail = ap (λ (l : List (List ℕ)). sum_by (cost t (value left)) (drop 1 l)) parted.starts in
        def_few range s r (omega (arith, total, here, tail, before))

-- a new name
pub fresh_few : (t : Table) (order : List (List ℕ)) (name : List ℕ) (f : Formula) → IsKept t order → IsWell (scene_of t) → is_some (node_at t name) ≡ false → lacks_operand (scene_of t) name f ≡ false
    → is_among name (operands f) ≡ false → formula_fits (scene_of t) f ≡ true → (s r : ℕ) → r ≤ s + formula_cuts f (kept t) → (formula_in_range (scene_of t) f ≡ false → r ≡ s) → r ≤ s + work (scene_of t) (model.Def name f)
fresh_few t order name f k well fresh full itself fits s r h early =
    made_few t order name f k well (operand_present t name f well fresh full itself) full (no_input t name f well fresh full) (no_cycle t name f well fresh full itself)
    (dim_missed t name f well fresh full ∙ ap not fits) fits s r h early

-- another formula of a name that stands
module _ (t : Table) (order : List (List ℕ)) (name : List ℕ) (f : Formula) (k : IsKept t order) (names : IsDistinct bytes_eq (keys_of t)) (made : is_made (node_at t name) ≡ true)
    (full : lacks_operand (scene_of t) name f ≡ false) (open_end : closes_cycle (scene_of t) name f ≡ false) (hit : misses_dim (scene_of t) name f ≡ false) (fits : formula_fits (scene_of t) f ≡ true) where
  pub standing_few : (s r : ℕ) → r ≤ s + formula_cuts f (kept t) → (formula_in_range (scene_of t) f ≡ false → r ≡ s) → r ≤ s + work (scene_of t) (model.Def name f)
  standing_few =
      made_few t order name f k (well_kept t order k names) (operands_present t name f (made_stands t name made) full) full (made_no_input t name made) open_end hit fits

  pub reformed_few : (o2 front reach : List (List ℕ)) → o2 ≡ order → Parted (reads_at t) o2 name front reach [] → (figure : Figure) → figure ≡ formula_value f (kept t) → formula_in_range (scene_of t) f ≡ true → (s m r : ℕ)
      → m ≤ s + formula_cuts f (kept t) → ((V : List ℕ → Figure) → IsOutcome t name figure V → r ≤ m + sum_by (cost t V) (drop 1 reach)) → r ≤ s + work (scene_of t) (model.Def name f)
  reformed_few o2 front reach eo parted =
      redefined_few t order name f k (well_kept t order k names) (operands_present t name f (made_stands t name made) full) full (made_no_input t name made) open_end hit fits
      (made_stands t name made) front reach (subst (λ (l : List (List ℕ)). Parted (reads_at t) l name front reach []) eo parted)
