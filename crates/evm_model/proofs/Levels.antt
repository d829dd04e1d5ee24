-- Values and reaching in a scene whose names stand in an order, operands before those that read them.
use Rattle.std.proofs.Common.{◌≡◌, ℕ, zero, suc, ◌+◌, ◌≤◌, Bool, true, false, ◌||◌, List, [], ◌∷◌, length, Option, None, Some, refl, sym, ap, ◌∙◌, subst, bytes_eq, arith}
use Rattle.std.specs.List.{list_any}
use Rattle.evm_script.specs.declared.formula.Formula.{Formula}
use Rattle.evm_model.specs.Figures.{Figure, nothing}
use Rattle.evm_model.specs.Formulas.{Parts, Both, Block, Shaped, boolean_of, shape_of, shape_stays, parts_of, parts_operands, parts_value, parts_stay}
use Rattle.evm_model.specs.Orders.{is_among, AllSeen, Ordered}
use Rattle.evm_model.specs.Scene.{What, Given, Made, Entry, Scene, entry_of, stands, operands, what_operands, entry_operands, operands_of, formula_value, formula_stays, what_value, what_stays, entry_value, value_within, value, reaches_within, reaches}
use Rattle.evm_model.proofs.Lookups.{none_stands}
use Rattle.evm_model.proofs.Names.{by_test, by_among, or_left, or_right, among_here, among_later, among_none, apart_back, any_among, none_passes}

-- two functions of names, each by levels of operands, agree on an ordered list at as many levels as names were passed
module _ {V : Type 0} (reads : List ℕ → List (List ℕ)) (step : List ℕ → (List ℕ → V) → V) (w v : ℕ → List ℕ → V)
    (local : (x : List ℕ) (g h : List ℕ → V) → ((o : List ℕ) → is_among o (reads x) ≡ true → g o ≡ h o) → step x g ≡ step x h) where
  pub levels_agree : (seen xs : List (List ℕ)) → Ordered reads seen xs
      → ((x : List ℕ) → is_among x xs ≡ true → (n : ℕ) → w (suc n) x ≡ step x (w n))
      → ((x : List ℕ) → is_among x xs ≡ true → (n : ℕ) → v (suc n) x ≡ step x (v n))
      → (m : ℕ) → ((x : List ℕ) → is_among x seen ≡ true → (n k : ℕ) → m ≤ n → m ≤ k → w n x ≡ v k x)
      → (x : List ℕ) → is_among x xs ≡ true → (n k : ℕ) → m + length xs ≤ n → m + length xs ≤ k → w n x ≡ v k x
  levels_agree seen [] h p q m done x there n k deep deeper = among_none x there
  levels_agree seen (y ∷ ys) h p q m done x there n k deep deeper =
      by_among x y ys there
      (λ e. subst (λ (z : List ℕ). w n z ≡ v k z) (sym e) (here n k (omega arith) (omega arith)))
      (λ d late. levels_agree (y ∷ seen) ys h.2 (λ z l. p z (among_later z y ys l)) (λ z l. q z (among_later z y ys l)) (m + 1) more x late n k (omega arith) (omega arith))
    where
      here : (i j : ℕ) → m + 1 ≤ i → m + 1 ≤ j → w i y ≡ v j y
      here zero j a b = absurd (omega arith)
      here (suc i) zero a b = absurd (omega arith)
      here (suc i) (suc j) a b =
          p y (among_here y ys) i ∙ local y (w i) (v j) (λ o r. done o (h.1 o r) i j (omega arith) (omega arith)) ∙ sym (q y (among_here y ys) j)

      more : (z : List ℕ) → is_among z (y ∷ seen) ≡ true → (i j : ℕ) → m + 1 ≤ i → m + 1 ≤ j → w i z ≡ v j z
      more z l i j a b = by_among z y seen l (λ e. subst (λ (u : List ℕ). w i u ≡ v j u) (sym e) (here i j a b)) (λ d old. done z old i j (omega arith) (omega arith))

-- two fixed points agree
pub fixed_agree : {V : Type 0} (reads : List ℕ → List (List ℕ)) (step : List ℕ → (List ℕ → V) → V) (f g : List ℕ → V)
    → ((x : List ℕ) (g h : List ℕ → V) → ((o : List ℕ) → is_among o (reads x) ≡ true → g o ≡ h o) → step x g ≡ step x h)
    → (order : List (List ℕ)) → Ordered reads [] order
    → ((x : List ℕ) → is_among x order ≡ true → f x ≡ step x f) → ((x : List ℕ) → is_among x order ≡ true → g x ≡ step x g)
    → (x : List ℕ) → is_among x order ≡ true → f x ≡ g x
fixed_agree {V} reads step f g local order ordered p q x there =
    levels_agree reads step (λ k. f) (λ k. g) local [] order ordered (λ z l k. p z l) (λ z l k. q z l) 0 (λ z l i j a b. among_none z l) x there (length order) (length order) (omega arith) (omega arith)

-- what is shown of a name from the names that it reads holds of each name of an ordered list
pub along : (reads : List ℕ → List (List ℕ)) (P : List ℕ → Type 0) → ((x : List ℕ) → ((o : List ℕ) → is_among o (reads x) ≡ true → P o) → P x)
    → (seen xs : List (List ℕ)) → Ordered reads seen xs → ((x : List ℕ) → is_among x seen ≡ true → P x) → (x : List ℕ) → is_among x xs ≡ true → P x
along reads P step seen [] h done x there = among_none x there
along reads P step seen (y ∷ ys) h done x there =
    by_among x y ys there (λ e. subst P (sym e) here) (λ d late. along reads P step (y ∷ seen) ys h.2 more x late)
  where
    here : P y
    here = step y (λ o r. done o (h.1 o r))

    more : (z : List ℕ) → is_among z (y ∷ seen) ≡ true → P z
    more z m = by_among z y seen m (λ e. subst P (sym e) here) (λ d old. done z old)

-- a formula reads nothing but its operands
both_same : (op : Figure → Figure → Figure) (a b : List ℕ) (g h : List ℕ → Figure) → ((o : List ℕ) → is_among o (a ∷ b ∷ []) ≡ true → g o ≡ h o) → op (g a) (g b) ≡ op (h a) (h b)
both_same op a b g h same = ap (λ (x : Figure). op x (g b)) (same a (among_here a (b ∷ []))) ∙ ap (λ (y : Figure). op (h a) y) (same b (among_later b a (b ∷ []) (among_here b [])))

parts_same : (p : Parts) (g h : List ℕ → Figure) → ((o : List ℕ) → is_among o (parts_operands p) ≡ true → g o ≡ h o) → parts_value p g ≡ parts_value p h
parts_same (Both op a b) g h same = both_same (boolean_of op) a b g h same
parts_same (Block dim nums) g h same = refl
parts_same (Shaped shape a) g h same = ap (shape_of shape) (same a (among_here a []))

pub formula_same : (f : Formula) (g h : List ℕ → Figure) → ((o : List ℕ) → is_among o (operands f) ≡ true → g o ≡ h o) → formula_value f g ≡ formula_value f h
formula_same f g h same = parts_same (parts_of f) g h same

-- nor does the test of the places that it makes
parts_stay_same : (p : Parts) (g h : List ℕ → Figure) → ((o : List ℕ) → is_among o (parts_operands p) ≡ true → g o ≡ h o) → parts_stay p g ≡ parts_stay p h
parts_stay_same (Both op a b) g h same = refl
parts_stay_same (Block dim nums) g h same = refl
parts_stay_same (Shaped shape a) g h same = ap (shape_stays shape) (same a (among_here a []))

pub formula_stays_same : (f : Formula) (g h : List ℕ → Figure) → ((o : List ℕ) → is_among o (operands f) ≡ true → g o ≡ h o) → formula_stays f g ≡ formula_stays f h
formula_stays_same f g h same = parts_stay_same (parts_of f) g h same

pub what_stays_same : (what : What) (g h : List ℕ → Figure) → ((o : List ℕ) → is_among o (what_operands what) ≡ true → g o ≡ h o) → what_stays what g ≡ what_stays what h
what_stays_same (Given cells) g h same = refl
what_stays_same (Made f) g h same = formula_stays_same f g h same

pub what_same : (dim : ℕ) (what : What) (g h : List ℕ → Figure) → ((o : List ℕ) → is_among o (what_operands what) ≡ true → g o ≡ h o) → what_value dim what g ≡ what_value dim what h
what_same dim (Given cells) g h same = refl
what_same dim (Made f) g h same = formula_same f g h same

pub entry_same : (e : Option Entry) (g h : List ℕ → Figure) → ((o : List ℕ) → is_among o (entry_operands e) ≡ true → g o ≡ h o) → entry_value e g ≡ entry_value e h
entry_same None g h same = refl
entry_same (Some e) g h same = what_same e.dim e.what g h same

-- in an ordered list the operands of a name stand in the list or before it
pub ordered_reads : (reads : List ℕ → List (List ℕ)) (seen xs : List (List ℕ)) → Ordered reads seen xs
    → (x : List ℕ) → is_among x xs ≡ true → (o : List ℕ) → is_among o (reads x) ≡ true → (is_among o seen || is_among o xs) ≡ true
ordered_reads reads seen [] h x there o r = among_none x there
ordered_reads reads seen (y ∷ ys) h x there o r =
    by_among x y ys there
    (λ e. or_left (is_among o seen) (is_among o (y ∷ ys)) (h.1 o (subst (λ (z : List ℕ). is_among o (reads z) ≡ true) e r)))
    (λ d late. flip (bytes_eq o y) (is_among o seen) (is_among o ys) (ordered_reads reads (y ∷ seen) ys h.2 x late o r))
  where
    flip : (a b c : Bool) → ((a || b) || c) ≡ true → (b || (a || c)) ≡ true
    flip true b c e = or_right b true refl
    flip false b c e = e

-- a value of a name that does not stand
pub none_value : (es : List Entry) (x : List ℕ) → entry_of es x ≡ None → (n : ℕ) → value_within n es x ≡ nothing 0
none_value es x q zero = ap (λ (e : Option Entry). entry_value e (λ o. nothing 0)) q
none_value es x q (suc n) = ap (λ (e : Option Entry). entry_value e (λ o. value_within n es o)) q

-- a scene whose names stand in an order
module _ (scene : Scene) (order : List (List ℕ)) (ordered : Ordered (operands_of scene.entries) [] order)
    (whole : (x : List ℕ) → is_among x order ≡ stands scene x) (size : length order ≡ length scene.entries) where
  -- a name that does not stand has no entry
  no_entry : (x : List ℕ) → is_among x order ≡ false → entry_of scene.entries x ≡ None
  no_entry x out = none_stands scene.entries x (sym (whole x) ∙ out)

  pub operands_stand : (x o : List ℕ) → is_among o (operands_of scene.entries x) ≡ true → stands scene o ≡ true
  operands_stand x o r =
      by_test (is_among x order)
      (λ l. sym (whole o) ∙ ordered_reads (operands_of scene.entries) [] order ordered x l o r)
      (λ out. among_none o (subst (λ (e : Option Entry). is_among o (entry_operands e) ≡ true) (no_entry x out) r))

  -- more levels change no value
  pub value_levels : (x : List ℕ) (n : ℕ) → length order ≤ n → value_within n scene.entries x ≡ value scene x
  value_levels x n deep =
      by_test (is_among x order)
      (λ l. levels_agree (operands_of scene.entries) (λ y g. entry_value (entry_of scene.entries y) g) (λ k y. value_within k scene.entries y) (λ k y. value_within k scene.entries y)
      (λ y g h same. entry_same (entry_of scene.entries y) g h same) [] order ordered (λ y m k. refl) (λ y m k. refl) 0 (λ y m i j a b. among_none y m) x l n (length scene.entries) (omega arith) (omega arith))
      (λ out. none_value scene.entries x (no_entry x out) n ∙ sym (none_value scene.entries x (no_entry x out) (length scene.entries)))

  -- the value of a name follows its formula
  pub value_step : (x : List ℕ) → value scene x ≡ entry_value (entry_of scene.entries x) (value scene)
  value_step x = sym (value_levels x (suc (length scene.entries)) (omega arith))

  -- whatever follows the formulas is the value
  pub value_unique : (f : List ℕ → Figure) → ((x : List ℕ) → f x ≡ entry_value (entry_of scene.entries x) f) → (x : List ℕ) → f x ≡ value scene x
  value_unique f fixed x =
      by_test (is_among x order)
      (λ l. fixed_agree (operands_of scene.entries) (λ y g. entry_value (entry_of scene.entries y) g) f (value scene)
      (λ y g h same. entry_same (entry_of scene.entries y) g h same) order ordered (λ y m. fixed y) (λ y m. value_step y) x l)
      (λ out. fixed x ∙ ap (λ (e : Option Entry). entry_value e f) (no_entry x out) ∙ sym (none_value scene.entries x (no_entry x out) (length scene.entries)))

  -- more levels reach nothing more
  reaches_none : (x y : List ℕ) → entry_of scene.entries x ≡ None → (n : ℕ) → reaches_within n scene.entries x y ≡ false
  reaches_none x y q zero = refl
  reaches_none x y q (suc n) = ap (λ (e : Option Entry). list_any (λ o. bytes_eq o y || reaches_within n scene.entries o y) (entry_operands e)) q

  pub reaches_levels : (x y : List ℕ) (n : ℕ) → length order ≤ n → reaches_within n scene.entries x y ≡ reaches scene x y
  reaches_levels x y n deep =
      by_test (is_among x order)
      (λ l. levels_agree (operands_of scene.entries) (λ z g. list_any (λ o. bytes_eq o y || g o) (operands_of scene.entries z)) (λ k z. reaches_within k scene.entries z y) (λ k z. reaches_within k scene.entries z y)
      (λ z g h same. any_among (λ o. bytes_eq o y || g o) (λ o. bytes_eq o y || h o) (operands_of scene.entries z) (λ o m. ap (λ (b : Bool). bytes_eq o y || b) (same o m)))
      [] order ordered (λ z m k. refl) (λ z m k. refl) 0 (λ z m i j a b. among_none z m) x l n (length scene.entries) (omega arith) (omega arith))
      (λ out. reaches_none x y (no_entry x out) n ∙ sym (reaches_none x y (no_entry x out) (length scene.entries)))

  -- a name reaches its operands and what they reach
  pub reaches_step : (x y : List ℕ) → reaches scene x y ≡ list_any (λ o. bytes_eq o y || reaches scene o y) (operands_of scene.entries x)
  reaches_step x y = sym (reaches_levels x y (suc (length scene.entries)) (omega arith))

  -- a name that does not stand reaches none
  pub reaches_from_none : (x y : List ℕ) → stands scene x ≡ false → reaches scene x y ≡ false
  reaches_from_none x y out = reaches_none x y (no_entry x (whole x ∙ out)) (length scene.entries)

  -- what a search for the names that reach one found
  pub reach_found : (name : List ℕ) (reach : List (List ℕ))
      → ((x : List ℕ) → stands scene x ≡ true → is_among x reach ≡ (bytes_eq x name || list_any (λ o. is_among o reach) (operands_of scene.entries x)))
      → (o : List ℕ) → stands scene o ≡ true → is_among o reach ≡ (bytes_eq o name || reaches scene o name)
  reach_found name reach exact o there =
      fixed_agree (operands_of scene.entries) (λ x g. bytes_eq x name || list_any g (operands_of scene.entries x)) (λ x. is_among x reach) (λ x. bytes_eq x name || reaches scene x name)
      (λ x g h same. ap (λ (b : Bool). bytes_eq x name || b) (any_among g h (operands_of scene.entries x) same))
      order ordered (λ x m. exact x (sym (whole x) ∙ m)) (λ x m. ap (λ (b : Bool). bytes_eq x name || b) (reaches_step x name)) o (whole o ∙ there)

  -- from names whose operands are among them no other is reached
  not_reached : (seen : List (List ℕ)) → ((x : List ℕ) → is_among x seen ≡ true → AllSeen seen (operands_of scene.entries x))
      → (z : List ℕ) → is_among z seen ≡ false → (n : ℕ) (x : List ℕ) → is_among x seen ≡ true → reaches_within n scene.entries x z ≡ false
  not_reached seen closed z out zero x m = refl
  not_reached seen closed z out (suc n) x m =
      none_passes (λ o. bytes_eq o z || reaches_within n scene.entries o z) (operands_of scene.entries x)
      (λ o r. ap (λ (b : Bool). b || reaches_within n scene.entries o z) (apart_back z o seen out (closed x m o r)) ∙ not_reached seen closed z out n o (closed x m o r))

  not_again : (seen xs : List (List ℕ)) → Ordered (operands_of scene.entries) seen xs → ((x : List ℕ) → is_among x seen ≡ true → AllSeen seen (operands_of scene.entries x))
      → (x : List ℕ) → is_among x xs ≡ true → (n : ℕ) → reaches_within n scene.entries x x ≡ false
  not_again seen [] h closed x there n = among_none x there
  not_again seen (y ∷ ys) h closed x there n =
      by_among x y ys there
      (λ e. subst (λ (z : List ℕ). reaches_within n scene.entries z z ≡ false) (sym e) (here n))
      (λ d late. not_again (y ∷ seen) ys h.2 more x late n)
    where
      here : (n : ℕ) → reaches_within n scene.entries y y ≡ false
      here zero = refl
      here (suc n) =
          none_passes (λ o. bytes_eq o y || reaches_within n scene.entries o y) (operands_of scene.entries y)
          (λ o r. ap (λ (b : Bool). b || reaches_within n scene.entries o y) (apart_back y o seen h.0 (h.1 o r)) ∙ not_reached seen closed y h.0 n o (h.1 o r))

      more : (z : List ℕ) → is_among z (y ∷ seen) ≡ true → AllSeen (y ∷ seen) (operands_of scene.entries z)
      more z m o r =
          by_among z y seen m
          (λ e. among_later o y seen (h.1 o (subst (λ (u : List ℕ). is_among o (operands_of scene.entries u) ≡ true) e r)))
          (λ d old. among_later o y seen (closed z old o r))

  -- no name reaches itself
  pub never_itself : (x : List ℕ) → reaches scene x x ≡ false
  never_itself x =
      by_test (is_among x order)
      (λ l. not_again [] order ordered (λ z m. among_none z m) x l (length scene.entries))
      (λ out. reaches_none x x (no_entry x out) (length scene.entries))
