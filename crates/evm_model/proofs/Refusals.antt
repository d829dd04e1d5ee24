-- What holds where nothing refuses an edit.
use Rattle.std.proofs.Common.{◌≡◌, ℕ, ◌+◌, ◌-◌, ◌*◌, ◌==◌, Bool, true, false, not, cond, ◌&&◌, ◌||◌, List, [], ◌∷◌, ◌++◌, length, Some, None, ℤ, pos, negsuc, refl, sym, ap, ◌∙◌, bytes_eq, arith}
use Rattle.std.specs.Prelude.{nat_abs}
use Rattle.std.proofs.lemmas.Bool.{false≢true, eqb-false}
use Rattle.std.proofs.lemmas.Bool.Decides.{Decides-eqb}
use Rattle.evm_cells.proofs.Xor.{and_first}
use Rattle.evm_script.specs.declared.formula.Formula.{Formula}
use Rattle.evm_model.specs.Formulas.{Shape, Slice, Proj, Lift, shape_dim, shape_fits, Parts, Both, Block, Shaped, parts_of, parts_operands, parts_dim, parts_fit}
use Rattle.evm_model.specs.Figures.{Figure, box_fits, low_of, high_of}
use Rattle.evm_model.specs.Orders.{is_among}
use Rattle.evm_model.specs.Scene.{Scene, stands, dim_of, is_input, is_read, is_watched, reaches, operands, is_dim, is_axis, with_figure, with_formula, formula_dim, formula_fits, formula_in_range, all_stay, IsWell}
use Rattle.evm_model.specs.Edits.{Input, Replace, Def, Drop, Code, first_cause, box_causes, edit_causes, value_causes, with_box, refusal}
use Rattle.evm_model.proofs.Names.{or_none, among_here, passes_none, not_true, not_false}
use Rattle.evm_model.proofs.Stays.{is_before, before_both}
use Rattle.evm_model.proofs.WellScenes.{solid_dim, dim_solid}
use Rattle.evm_model.proofs.WellEdits.{standing_dim}

-- where no cause holds, the first does not
pub none_first : (c : Bool × Code) (cs : List (Bool × Code)) → first_cause (c ∷ cs) ≡ None → c.0 ≡ false
none_first c cs e = elim c.0 as (λ b. cond b (Some c.1) (first_cause cs) ≡ None → b ≡ false) [ true ↦ λ k. absurd (no_some k) | false ↦ λ k. refl ] e
  where
    no_some : Some c.1 ≡ None → ⊥
    no_some q = cc

-- and none of the others
pub none_later : (c : Bool × Code) (cs : List (Bool × Code)) → first_cause (c ∷ cs) ≡ None → first_cause cs ≡ None
none_later c cs e = elim c.0 as (λ b. cond b (Some c.1) (first_cause cs) ≡ None → first_cause cs ≡ None) [ true ↦ λ k. absurd (no_some k) | false ↦ λ k. k ] e
  where
    no_some : Some c.1 ≡ None → ⊥
    no_some q = cc

-- no cause of a list holds
abbrev pub NoneHolds : List (Bool × Code) → Type 0
NoneHolds [] = Unit {0}
NoneHolds (c ∷ cs) = (c.0 ≡ false) × NoneHolds cs

pub none_holds : (causes : List (Bool × Code)) → first_cause causes ≡ None → NoneHolds causes
none_holds [] e = tt
none_holds (c ∷ cs) e = (none_first c cs e, none_holds cs (none_later c cs e))

-- a new input that is not refused
pub record IsNewInput (scene : Scene) (name : List ℕ) (dim : ℤ) : Type 0 where
  pub fresh : stands scene name ≡ false
  pub fits : is_dim dim ≡ true

pub new_input : (scene : Scene) (name : List ℕ) (dim : ℤ) → refusal scene (Input name dim) ≡ None → IsNewInput scene name dim
new_input scene name dim r = let h = none_holds (edit_causes scene (Input name dim)) r in record { fresh = h.0; fits = not_false (is_dim dim) h.1.0 }

-- a box for an input that is not refused, and is put together with the input's figure in this way
pub record IsBoxFor (op : Figure → Figure → Figure) (scene : Scene) (name : List ℕ) (nums : List ℤ) : Type 0 where
  pub standing : stands scene name ≡ true
  pub input : is_input scene name ≡ true
  pub numbers : length nums ≡ 2 * dim_of scene name
  pub fits : box_fits (low_of (dim_of scene name) nums) (high_of (dim_of scene name) nums) ≡ true
  pub stay : all_stay (with_box op scene name nums) ≡ true

pub box_for : (op : Figure → Figure → Figure) (scene : Scene) (name : List ℕ) (nums : List ℤ)
    → first_cause (box_causes scene name nums ++ value_causes (with_box op scene name nums)) ≡ None → IsBoxFor op scene name nums
box_for op scene name nums r =
    let h = none_holds (box_causes scene name nums ++ value_causes (with_box op scene name nums)) r in
    record {
      standing = not_false (stands scene name) h.0;
      input = not_false (is_input scene name) h.1.0;
      numbers = (Decides-eqb (length nums) (2 * dim_of scene name)).0 (not_false (length nums == 2 * dim_of scene name) h.1.1.0);
      fits = not_false (box_fits (low_of (dim_of scene name) nums) (high_of (dim_of scene name) nums)) h.1.1.1.0;
      stay = not_false (all_stay (with_box op scene name nums)) h.1.1.1.1.0;
    }

-- another figure for an input that is not refused
pub record IsReplacement (scene : Scene) (name : List ℕ) (figure : Figure) : Type 0 where
  pub standing : stands scene name ≡ true
  pub input : is_input scene name ≡ true
  pub dim : figure.dim ≡ dim_of scene name
  pub stay : all_stay (with_figure scene name figure) ≡ true

pub replacement : (scene : Scene) (name : List ℕ) (figure : Figure) → refusal scene (Replace name figure) ≡ None → IsReplacement scene name figure
replacement scene name figure r =
    let h = none_holds (edit_causes scene (Replace name figure)) r in
    record {
      standing = not_false (stands scene name) h.0;
      input = not_false (is_input scene name) h.1.0;
      dim = (Decides-eqb figure.dim (dim_of scene name)).0 (not_false (figure.dim == dim_of scene name) h.1.1.0);
      stay = not_false (all_stay (with_figure scene name figure)) h.1.1.1.0;
    }

-- a definition that is not refused
pub record IsDefinition (scene : Scene) (name : List ℕ) (formula : Formula) : Type 0 where
  pub stand : (o : List ℕ) → is_among o (operands formula) ≡ true → stands scene o ≡ true
  pub formula_kind : is_input scene name ≡ false
  pub free : (o : List ℕ) → is_among o (operands formula) ≡ true → is_before scene name o ≡ true
  pub fits : formula_fits scene formula ≡ true
  pub dim : stands scene name ≡ true → formula_dim scene formula ≡ dim_of scene name
  pub range : formula_in_range scene formula ≡ true
  pub stay : all_stay (with_formula scene name formula) ≡ true

pub definition : (scene : Scene) (name : List ℕ) (formula : Formula) → refusal scene (Def name formula) ≡ None → IsDefinition scene name formula
definition scene name formula r = record {
  stand = λ o m. stand_at o (apart_at o m).0 (passes_none (λ z. not (bytes_eq z name) && not (stands scene z)) (operands formula) h.0 o m);
  formula_kind = h.1.0;
  free = λ o m. before_both scene name o (apart_at o m).0 (apart_at o m).1;
  fits = not_false (formula_fits scene formula) dims.0;
  dim = λ k. (Decides-eqb (formula_dim scene formula) (dim_of scene name)).0
      (same_dims (stands scene name) (formula_dim scene formula == dim_of scene name) k dims.1);
  range = not_false (formula_in_range scene formula) h.1.1.1.1.0;
  stay = not_false (all_stay (with_formula scene name formula)) h.1.1.1.1.1.0;
}
  where
    h : NoneHolds (edit_causes scene (Def name formula))
    h = none_holds (edit_causes scene (Def name formula)) r

    apart_at : (o : List ℕ) → is_among o (operands formula) ≡ true → (bytes_eq o name ≡ false) × (reaches scene o name ≡ false)
    apart_at o m = or_none (bytes_eq o name) (reaches scene o name) (passes_none (λ z. bytes_eq z name || reaches scene z name) (operands formula) h.1.1.0 o m)

    dims : (not (formula_fits scene formula) ≡ false) × ((stands scene name && not (formula_dim scene formula == dim_of scene name)) ≡ false)
    dims = or_none (not (formula_fits scene formula)) (stands scene name && not (formula_dim scene formula == dim_of scene name)) h.1.1.1.0

    stand_at : (o : List ℕ) → bytes_eq o name ≡ false → (not (bytes_eq o name) && not (stands scene o)) ≡ false → stands scene o ≡ true
    stand_at o d k = not_false (stands scene o) (sym (ap (λ (b : Bool). not b && not (stands scene o)) d) ∙ k)

    same_dims : (a b : Bool) → a ≡ true → (a && not b) ≡ false → b ≡ true
    same_dims true b k l = not_false b l
    same_dims false b k l = absurd (false≢true k)

-- a drop that is not refused
pub record IsDrop (scene : Scene) (name : List ℕ) : Type 0 where
  pub standing : stands scene name ≡ true
  pub unread : is_read scene name ≡ false
  pub unwatched : is_watched scene name ≡ false

pub drops : (scene : Scene) (name : List ℕ) → refusal scene (Drop name) ≡ None → IsDrop scene name
drops scene name r =
    let h = none_holds (edit_causes scene (Drop name)) r in
    let free = or_none (is_read scene name) (is_watched scene name) h.1.0 in
    record { standing = not_false (stands scene name) h.0; unread = free.0; unwatched = free.1 }

-- the dimension that a command states
pub dim_stated : (dim : ℤ) → is_dim dim ≡ true → is_dim (pos (nat_abs dim)) ≡ true
dim_stated (pos d) h = h
dim_stated (negsuc d) h = absurd (false≢true h)

-- one axis less, or one more
dim_less : (d : ℕ) → is_dim (pos d) ≡ true → not (d == 2) ≡ true → is_dim (pos (d - 1)) ≡ true
dim_less d h k = let b = solid_dim d h in let two = eqb-false d 2 (not_true (d == 2) k) in dim_solid (d - 1) (omega (arith, b.0, two)) (omega (arith, b.1))

dim_more : (d : ℕ) → is_dim (pos d) ≡ true → not (d == 6) ≡ true → is_dim (pos (d + 1)) ≡ true
dim_more d h k = let b = solid_dim d h in let six = eqb-false d 6 (not_true (d == 6) k) in dim_solid (d + 1) (omega (arith, b.0)) (omega (arith, b.1, six))

shape_dim_fits : (shape : Shape) (d : ℕ) → is_dim (pos d) ≡ true → shape_fits shape d ≡ true → is_dim (pos (shape_dim shape d)) ≡ true
shape_dim_fits (Slice axis at) d h fits = dim_less d h (and_first (not (d == 2)) (is_axis d axis) fits)
shape_dim_fits (Proj axis) d h fits = dim_less d h (and_first (not (d == 2)) (is_axis d axis) fits)
shape_dim_fits (Lift axis lo hi) d h fits = dim_more d h (and_first (not (d == 6)) (is_axis (d + 1) axis) fits)
shape_dim_fits _ d h fits = h

-- the dimension of a formula whose operands stand
pub formula_dim_fits : (scene : Scene) → IsWell scene → (f : Formula) → ((o : List ℕ) → is_among o (operands f) ≡ true → stands scene o ≡ true) → formula_fits scene f ≡ true → is_dim (pos (formula_dim scene f)) ≡ true
formula_dim_fits scene well f stand fits = by (parts_of f) stand fits
  where
    by : (p : Parts) → ((o : List ℕ) → is_among o (parts_operands p) ≡ true → stands scene o ≡ true) → parts_fit p (dim_of scene) ≡ true → is_dim (pos (parts_dim p (dim_of scene))) ≡ true
    by (Both op a b) k h = standing_dim scene well a (k a (among_here a (b ∷ [])))
    by (Block dim nums) k h = dim_stated dim (and_first (is_dim dim) (length nums == 2 * nat_abs dim) h)
    by (Shaped shape a) k h = shape_dim_fits shape (dim_of scene a) (standing_dim scene well a (k a (among_here a []))) h
