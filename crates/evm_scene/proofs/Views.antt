-- What the entries of a table say of its nodes, and how they change with it.
use Rattle.std.proofs.Common.{◌≡◌, ℕ, zero, suc, Bool, true, false, cond, not, ◌||◌, List, [], ◌∷◌, ◌++◌, Option, None, Some, refl, sym, ap, subst, ◌∙◌, true≢false, is_some, length, map, slice_get, bytes_eq, arith}
use Rattle.std.specs.Prelude.{option_map}
use Rattle.std.proofs.lemmas.Option.{same_Some, none-some}
use Rattle.evm_cells.specs.Vertices.{cells}
use Rattle.evm_rows.specs.Rows.{Vertices}
use Rattle.evm_script.specs.declared.formula.Formula.{Formula}
use Rattle.evm_model.specs.Figures.{Figure}
use Rattle.evm_model.specs.Orders.{is_among, Ordered}
use Rattle.evm_model.specs.Scene.{Entry, What, Given, Made, entry_of, stands, dim_of, dim_of_entry, is_input, entry_is_given, what_is_given, entry_operands, what_operands, operands_of, entry_value, what_value, value, reaches, with_entry, IsOrderOf}
use Rattle.evm_model.proofs.Names.{same_name, name_itself}
use Rattle.evm_model.proofs.Levels.{value_unique, reach_found, operands_stand, formula_same, formula_stays_same}
use Rattle.evm_scene.specs.declared.node.Node.{Node}
use Rattle.evm_formulas.specs.Stated.{figure_of}
use Rattle.evm_scene.specs.Tables.{Table, node_at, made_reads, node_reads, reads_at, made_value, node_value, made_stays, node_stays, kept, node_dim, dim_at, is_made, NodeSized, put_solid, with_solid, put_made, with_made, what_of, entry_view, entries_of, scene_of}
use Rattle.evm_scene.specs.Changes.{Pending, change_at, put_all}
use Rattle.evm_scene.specs.Orders.{IsKept, meets}
use Rattle.evm_scene.specs.Shown.{name_of_entry, what_formula, entry_formula}

-- a node that does not stand is none
pub no_node : (n : Option Node) → is_some n ≡ false → n ≡ None
no_node None h = refl
no_node (Some n) h = absurd (true≢false h)

-- a node that stands is one
pub some_node : {C : Type 0} (n : Option Node) → is_some n ≡ true → ((m : Node) → n ≡ Some m → C) → C
some_node None h use_it = absurd (true≢false (sym h))
some_node (Some n) h use_it = use_it n refl

-- the entry of a name is that of its node
pub entry_at : (t : Table) (x : List ℕ) → entry_of (entries_of t) x ≡ option_map (λ n. entry_view (x, n)) (node_at t x)
entry_at [] x = refl
entry_at (p ∷ ps) x = by (bytes_eq x p.0) refl (entry_at ps x)
  where
    by : (b : Bool) → bytes_eq x p.0 ≡ b → entry_of (entries_of ps) x ≡ option_map (λ n. entry_view (x, n)) (node_at ps x) → entry_of (entries_of (p ∷ ps)) x ≡ option_map (λ n. entry_view (x, n)) (node_at (p ∷ ps) x)
    by true d more = rw d (ap (λ (k : List ℕ). Some (entry_view (k, p.1))) (sym (same_name x p.0 d)))
    by false d more = rw d more

pub stands_at : (t : Table) (x : List ℕ) → stands (scene_of t) x ≡ is_some (node_at t x)
stands_at t x = ap (λ (o : Option Entry). is_some o) (entry_at t x) ∙ by (node_at t x)
  where
    by : (o : Option Node) → is_some (option_map (λ n. entry_view (x, n)) o) ≡ is_some o
    by None = refl
    by (Some n) = refl

pub dim_is : (t : Table) (x : List ℕ) → dim_of (scene_of t) x ≡ dim_at t x
dim_is t x = ap dim_of_entry (entry_at t x) ∙ by (node_at t x)
  where
    by : (o : Option Node) → dim_of_entry (option_map (λ n. entry_view (x, n)) o) ≡ node_dim o
    by None = refl
    by (Some n) = refl

-- whether a node is there and is an input
abbrev pub is_given : Option Node → Bool
is_given None = false
is_given (Some n) = not (is_some n.formula)

pub input_at : (t : Table) (x : List ℕ) → is_input (scene_of t) x ≡ is_given (node_at t x)
input_at t x = ap entry_is_given (entry_at t x) ∙ by (node_at t x)
  where
    shown : (s : Vertices) (m : Option Formula) → what_is_given (what_of s m) ≡ not (is_some m)
    shown s None = refl
    shown s (Some f) = refl

    by : (o : Option Node) → entry_is_given (option_map (λ n. entry_view (x, n)) o) ≡ is_given o
    by None = refl
    by (Some n) = shown n.solid n.formula

-- the formula of a node
abbrev pub node_formula : Option Node → Option Formula
node_formula None = None
node_formula (Some n) = n.formula

pub formula_at : (t : Table) (x : List ℕ) → entry_formula (entry_of (entries_of t) x) ≡ node_formula (node_at t x)
formula_at t x = ap entry_formula (entry_at t x) ∙ by (node_at t x)
  where
    shown : (s : Vertices) (m : Option Formula) → what_formula (what_of s m) ≡ m
    shown s None = refl
    shown s (Some f) = refl

    by : (o : Option Node) → entry_formula (option_map (λ n. entry_view (x, n)) o) ≡ node_formula o
    by None = refl
    by (Some n) = shown n.solid n.formula

-- the operands of what an entry shows
pub what_reads : (s : Vertices) (m : Option Formula) (n : Node) → n.formula ≡ m → what_operands (what_of s m) ≡ node_reads (Some n)
what_reads s None n e = rw e refl
what_reads s (Some f) n e = rw e refl

pub operands_at : (t : Table) (x : List ℕ) → operands_of (entries_of t) x ≡ reads_at t x
operands_at t x = ap entry_operands (entry_at t x) ∙ by (node_at t x)
  where
    by : (o : Option Node) → entry_operands (option_map (λ n. entry_view (x, n)) o) ≡ node_reads o
    by None = refl
    by (Some n) = ap (λ (m : Option Formula). what_operands (what_of n.solid m)) refl ∙ what_reads n.solid n.formula n refl

-- the value of an entry is that of its node, where dimensions agree
pub value_at : (t : Table) (x : List ℕ) (f : List ℕ → Figure) → NodeSized (node_at t x) (dim_at t) → entry_value (entry_of (entries_of t) x) f ≡ node_value (node_at t x) f
value_at t x f sized = ap (λ (e : Option Entry). entry_value e f) (entry_at t x) ∙ by (node_at t x) sized
  where
    shown : (n : Node) (m : Option Formula) → n.formula ≡ m → n.solid.dim ≡ n.dim → what_value n.dim (what_of n.solid m) f ≡ node_value (Some n) f
    shown n None e d = rw e (ap (λ (k : ℕ). record { dim = k; cells = cells n.solid.dim n.solid.rows }) (sym d))
    shown n (Some g) e d = rw e refl

    by : (o : Option Node) → NodeSized o (dim_at t) → entry_value (option_map (λ n. entry_view (x, n)) o) f ≡ node_value o f
    by None h = refl
    by (Some n) h = shown n n.formula refl h.1

pub length-entries : (t : Table) → length (entries_of t) ≡ length t
length-entries [] = refl
length-entries (p ∷ ps) = omega (arith, length-entries ps)

-- an order for other reads that are the same
pub ordered_same : (r q : List ℕ → List (List ℕ)) → ((x : List ℕ) → r x ≡ q x) → (seen xs : List (List ℕ)) → Ordered r seen xs → Ordered q seen xs
ordered_same r q e seen [] h = tt
ordered_same r q e seen (x ∷ xs) h = (h.0, λ o m. h.1 o (subst (λ (l : List (List ℕ)). is_among o l ≡ true) (sym (e x)) m), ordered_same r q e (x ∷ seen) xs h.2)

-- what is kept in an order
module _ (t : Table) (order : List (List ℕ)) (k : IsKept t order) where
  pub entries_ordered : Ordered (operands_of (entries_of t)) [] order
  entries_ordered = ordered_same (reads_at t) (operands_of (entries_of t)) (λ x. sym (operands_at t x)) [] order k.ordered

  pub entries_whole : (x : List ℕ) → is_among x order ≡ stands (scene_of t) x
  entries_whole x = k.whole x ∙ sym (stands_at t x)

  pub entries_size : length order ≡ length (entries_of t)
  entries_size = k.size ∙ sym (length-entries t)

  -- the order of the table is one of the scene that it shows
  pub order_kept : IsOrderOf (scene_of t) order
  order_kept = record { ordered = entries_ordered; whole = entries_whole; size = entries_size }

  -- the kept solid of a name is its value, evaluated from the inputs
  pub kept_is_value : (x : List ℕ) → kept t x ≡ value (scene_of t) x
  kept_is_value x =
      value_unique (scene_of t) order entries_ordered entries_whole entries_size (kept t)
      (λ y. k.fixed y ∙ sym (value_at t y (kept t) (k.sized y))) x

  -- the names that were found to reach one are those that reach it
  pub reached : (name : List ℕ) (reach : List (List ℕ))
      → ((x : List ℕ) → is_among x order ≡ true → is_among x reach ≡ (bytes_eq x name || meets reach (reads_at t x)))
      → (o : List ℕ) → is_some (node_at t o) ≡ true → is_among o reach ≡ (bytes_eq o name || reaches (scene_of t) o name)
  reached name reach exact o there =
      reach_found (scene_of t) order entries_ordered entries_whole entries_size name reach
      (λ x s. exact x (entries_whole x ∙ s) ∙ ap (λ (l : List (List ℕ)). bytes_eq x name || meets reach l) (sym (operands_at t x)))
      o (stands_at t o ∙ there)

  -- each operand stands
  pub operand_stands : (x o : List ℕ) → is_among o (reads_at t x) ≡ true → is_some (node_at t o) ≡ true
  operand_stands x o r =
      sym (stands_at t o)
      ∙ operands_stand (scene_of t) order entries_ordered entries_whole entries_size x o (subst (λ (l : List (List ℕ)). is_among o l ≡ true) (sym (operands_at t x)) r)

-- the value of a node depends on those of its operands alone
pub value_same : (n : Option Node) (g h : List ℕ → Figure) → ((o : List ℕ) → is_among o (node_reads n) ≡ true → g o ≡ h o) → node_value n g ≡ node_value n h
value_same None g h same = refl
value_same (Some n) g h same = by n.formula same
  where
    by : (m : Option Formula) → ((o : List ℕ) → is_among o (made_reads m) ≡ true → g o ≡ h o) → made_value (figure_of n.solid) m g ≡ made_value (figure_of n.solid) m h
    by None k = refl
    by (Some f) k = formula_same f g h k

-- and so does whether it moves a cell out of the limits
pub stays_same : (n : Option Node) (g h : List ℕ → Figure) → ((o : List ℕ) → is_among o (node_reads n) ≡ true → g o ≡ h o) → node_stays n g ≡ node_stays n h
stays_same None g h same = refl
stays_same (Some n) g h same = by n.formula same
  where
    by : (m : Option Formula) → ((o : List ℕ) → is_among o (made_reads m) ≡ true → g o ≡ h o) → made_stays m g ≡ made_stays m h
    by None k = refl
    by (Some f) k = formula_stays_same f g h k

shown_made : (m : Option Formula) (s r : Vertices) → is_some m ≡ true → what_of s m ≡ what_of r m
shown_made None s r h = absurd (true≢false (sym h))
shown_made (Some f) s r h = refl

-- the solid of a formula does not show
pub view_put_made : (t : Table) (y : List ℕ) (s : Vertices) → is_made (node_at t y) ≡ true → entries_of (put_solid t y s) ≡ entries_of t
view_put_made [] y s h = refl
view_put_made (e ∷ es) y s h = by (bytes_eq y e.0) refl (λ d. view_put_made es y s (sym (ap (λ b. is_made (cond b (Some e.1) (node_at es y))) d) ∙ h))
  where
    by : (b : Bool) → bytes_eq y e.0 ≡ b → (bytes_eq y e.0 ≡ false → entries_of (put_solid es y s) ≡ entries_of es) → entries_of (put_solid (e ∷ es) y s) ≡ entries_of (e ∷ es)
    by true d more =
        ap (λ b. entries_of (cond b ((e.0, with_solid e.1 s) ∷ es) (e ∷ put_solid es y s))) d
        ∙ ap (λ (w : What). record { name = e.0; dim = e.1.dim; what = w } ∷ entries_of es)
        (shown_made e.1.formula s e.1.solid (sym (ap (λ b. is_made (cond b (Some e.1) (node_at es y))) d) ∙ h))
    by false d more =
        ap (λ b. entries_of (cond b ((e.0, with_solid e.1 s) ∷ es) (e ∷ put_solid es y s))) d
        ∙ ap (λ r. entry_view e ∷ r) (more d)

-- the cells of an input do
pub view_put_given : (t : Table) (y : List ℕ) (s : Vertices) (n : Node) → node_at t y ≡ Some n → n.formula ≡ None
    → entries_of (put_solid t y s) ≡ with_entry (entries_of t) y (record { name = y; dim = n.dim; what = Given (cells s.dim s.rows) })
view_put_given [] y s n at h = refl
view_put_given (e ∷ es) y s n at h = by (bytes_eq y e.0) refl (λ d. view_put_given es y s n (sym (ap (λ b. cond b (Some e.1) (node_at es y)) d) ∙ at) h)
  where
    by : (b : Bool) → bytes_eq y e.0 ≡ b → (bytes_eq y e.0 ≡ false → entries_of (put_solid es y s) ≡ with_entry (entries_of es) y (record { name = y; dim = n.dim; what = Given (cells s.dim s.rows) }))
        → entries_of (put_solid (e ∷ es) y s) ≡ with_entry (entries_of (e ∷ es)) y (record { name = y; dim = n.dim; what = Given (cells s.dim s.rows) })
    by true d more =
        let m : e.1 ≡ n = same_Some e.1 n (sym (ap (λ b. cond b (Some e.1) (node_at es y)) d) ∙ at) in
        ap (λ b. entries_of (cond b ((e.0, with_solid e.1 s) ∷ es) (e ∷ put_solid es y s))) d
        ∙ ap (λ (v : List ℕ). record { name = v; dim = e.1.dim; what = what_of s e.1.formula } ∷ entries_of es) (sym (same_name y e.0 d))
        ∙ ap (λ (k : Node). record { name = y; dim = k.dim; what = what_of s k.formula } ∷ entries_of es) m
        ∙ ap (λ (f : Option Formula). record { name = y; dim = n.dim; what = what_of s f } ∷ entries_of es) h
        ∙ sym (ap (λ b. cond b (record { name = y; dim = n.dim; what = Given (cells s.dim s.rows) } ∷ entries_of es) (entry_view e ∷ with_entry (entries_of es) y (record { name = y; dim = n.dim; what = Given (cells s.dim s.rows) }))) d)
    by false d more = rw d (ap (λ r. entry_view e ∷ r) (more d))

-- another formula of a name is its entry
pub view_put_formula : (t : Table) (y : List ℕ) (f : Formula) (s : Vertices) (n : Node) → node_at t y ≡ Some n
    → entries_of (put_made t y f s) ≡ with_entry (entries_of t) y (record { name = y; dim = n.dim; what = Made f })
view_put_formula [] y f s n at = refl
view_put_formula (e ∷ es) y f s n at = by (bytes_eq y e.0) refl (λ d. view_put_formula es y f s n (sym (ap (λ b. cond b (Some e.1) (node_at es y)) d) ∙ at))
  where
    by : (b : Bool) → bytes_eq y e.0 ≡ b → (bytes_eq y e.0 ≡ false → entries_of (put_made es y f s) ≡ with_entry (entries_of es) y (record { name = y; dim = n.dim; what = Made f }))
        → entries_of (put_made (e ∷ es) y f s) ≡ with_entry (entries_of (e ∷ es)) y (record { name = y; dim = n.dim; what = Made f })
    by true d more =
        let m : e.1 ≡ n = same_Some e.1 n (sym (ap (λ b. cond b (Some e.1) (node_at es y)) d) ∙ at) in
        ap (λ b. entries_of (cond b ((e.0, with_made e.1 f s) ∷ es) (e ∷ put_made es y f s))) d
        ∙ ap (λ (v : List ℕ). record { name = v; dim = e.1.dim; what = Made f } ∷ entries_of es) (sym (same_name y e.0 d))
        ∙ ap (λ (k : Node). record { name = y; dim = k.dim; what = Made f } ∷ entries_of es) m
        ∙ sym (ap (λ b. cond b (record { name = y; dim = n.dim; what = Made f } ∷ entries_of es) (entry_view e ∷ with_entry (entries_of es) y (record { name = y; dim = n.dim; what = Made f }))) d)
    by false d more = rw d (ap (λ r. entry_view e ∷ r) (more d))

-- a solid that is put in place leaves what is a formula
pub made_put : (t : Table) (y : List ℕ) (s : Vertices) (x : List ℕ) → is_made (node_at (put_solid t y s) x) ≡ is_made (node_at t x)
made_put [] y s x = refl
made_put (e ∷ es) y s x = by (bytes_eq y e.0) (made_put es y s x)
  where
    inner : (b : Bool) (n m : Option Node) → is_made n ≡ is_made m → is_made (cond b (Some e.1) n) ≡ is_made (cond b (Some e.1) m)
    inner true n m h = refl
    inner false n m h = h

    changed : (b : Bool) → is_made (cond b (Some (with_solid e.1 s)) (node_at es x)) ≡ is_made (cond b (Some e.1) (node_at es x))
    changed true = refl
    changed false = refl

    by : (b : Bool) → is_made (node_at (put_solid es y s) x) ≡ is_made (node_at es x) → is_made (node_at (cond b ((e.0, with_solid e.1 s) ∷ es) (e ∷ put_solid es y s)) x) ≡ is_made (node_at (e ∷ es) x)
    by true h = changed (bytes_eq x e.0)
    by false h = inner (bytes_eq x e.0) (node_at (put_solid es y s) x) (node_at es x) h

pub made_put_all : (t : Table) (p : Pending) (x : List ℕ) → is_made (node_at (put_all t p) x) ≡ is_made (node_at t x)
made_put_all t [] x = refl
made_put_all t (e ∷ es) x = made_put (put_all t es) e.0 e.1.after x ∙ made_put_all t es x

-- changes of formulas do not show
pub view_put_all : (t : Table) (p : Pending) → ((x : List ℕ) → is_some (change_at p x) ≡ true → is_made (node_at t x) ≡ true) → entries_of (put_all t p) ≡ entries_of t
view_put_all t [] h = refl
view_put_all t (e ∷ es) h =
    view_put_made (put_all t es) e.0 e.1.after
    (made_put_all t es e.0 ∙ h e.0 (ap (λ b. is_some (cond b (Some e.1) (change_at es e.0))) (name_itself e.0)))
    ∙ view_put_all t es (λ x g. h x (later x g))
  where
    later : (x : List ℕ) → is_some (change_at es x) ≡ true → is_some (change_at (e ∷ es) x) ≡ true
    later x g = by (bytes_eq x e.0)
      where
        by : (b : Bool) → is_some (cond b (Some e.1) (change_at es x)) ≡ true
        by true = refl
        by false = g

-- a new name shows last
pub view_push : (t : Table) (name : List ℕ) (node : Node) → entries_of (t ++ (name, node) ∷ []) ≡ entries_of t ++ entry_view (name, node) ∷ []
view_push [] name node = refl
view_push (p ∷ ps) name node = ap (λ l. entry_view p ∷ l) (view_push ps name node)

-- the name of the entry at a place
pub name_shown : (t : Table) (k : ℕ) (p : List ℕ × Node) → slice_get t k ≡ Some p → slice_get (map name_of_entry (entries_of t)) k ≡ Some p.0
name_shown [] k p h = absurd (none-some p h)
name_shown (e ∷ es) zero p h = ap (λ (q : List ℕ × Node). Some q.0) (same_Some e p h)
name_shown (e ∷ es) (suc k) p h = name_shown es k p h
