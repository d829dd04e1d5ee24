-- A measure moves by what it moves in the parts round a change.
use Rattle.std.proofs.Common.{◌≡◌, ℕ, zero, suc, ◌+◌, ◌-◌, ◌<◌, Bool, true, false, ◌&&◌, ◌||◌, not, if◌then◌else◌, bytes_eq, List, [], ◌∷◌, map, set, length, get_or, Option, Some, None, ℤ, pos, ◌+ℤ◌, int_le, int_lt, refl, sym, ap, ap₂, ◌∙◌, arith, subst}
use Rattle.std.specs.List.{list_any}
use Rattle.std.proofs.lemmas.Int.{ints as int_facts}
use Rattle.std.proofs.lemmas.Bool.{false≢true}
use Rattle.evm_cells.specs.Places.{each, has}
use Rattle.evm_cells.specs.Limits.{is_cell, IsCellSet}
use Rattle.evm_cells.specs.Booleans.{xor, combine, xor_cells, and_cells, sub_cells}
use Rattle.evm_cells.specs.Shapes.{clip}
use Rattle.evm_cells.specs.Vertices.{cells}
use Rattle.evm_cells.specs.Localities.{Measure, measure, close, near, HoldsChange}
use Rattle.evm_cells.proofs.Xor.{and_both, and-false}
use Rattle.evm_cells.proofs.Coords.{le_yes}
use Rattle.evm_cells.proofs.Universe.{same_sets, cell_set-cells, cell_parts, member_passes}
use Rattle.evm_cells.proofs.Combine.{has-combine, has-xor_cells, cell_set-combine, cell_set-xor}
use Rattle.evm_cells.proofs.Insides.{has-clip_of, cell_set-clip}
use Rattle.evm_cells.proofs.Localities.{measures_are_local}
use Rattle.evm_cells.proofs.Layers.{cells-empty, no_places}
use Rattle.evm_rows.specs.Rows.{Vertices, cells_of}
use Rattle.evm_meter.specs.Meters.{measured, IsNearChange, moved_by}
use Rattle.evm_watch.specs.Slots.{Seen, Free, Watches, Gone, seen_watches, SeenReads, seen_prepared, seen_moved, CanMove, IsMoved, seen_abandoned}
use Rattle.evm_watch.specs.Parts.{HoldsNear, IsRound, AreParts}
use Rattle.evm_watch.proofs.Lists.{first_done, seen_set, map_twice}

near_self : (c : List ℤ) → near c c ≡ true
unfolding near each close
near_self [] = refl
near_self (x ∷ c) = and_both (close x x) (each close c c) (and_both (int_le x (x +ℤ pos 1)) (int_le x (x +ℤ pos 1)) (le_yes x (x +ℤ pos 1) (omega (arith, int_facts))) (le_yes x (x +ℤ pos 1) (omega (arith, int_facts)))) (near_self c)

cut : (s d i : Bool) → (d ≡ true → i ≡ true) → xor (s && i) d ≡ (xor s d && i)
unfolding xor
cut true true i h = ap (λ b. xor (true && b) true) (h refl)
cut true false i h = xor_none i
  where
    xor_none : (i : Bool) → xor i false ≡ i
    xor_none true = refl
    xor_none false = refl
cut false true i h = sym (h refl)
cut false false i h = refl

-- the part of a solid changed is the part, changed
pub changed_part : (n : ℕ) (lo hi : List ℤ) (S D : List (List ℤ)) → IsCellSet n S → IsCellSet n D → HoldsNear n lo hi D → xor_cells n (clip n lo hi S) D ≡ clip n lo hi (xor_cells n S D)
changed_part n lo hi S D s d h =
    let p : IsCellSet n (clip n lo hi S) = cell_set-clip n lo hi S in
    let x : IsCellSet n (xor_cells n S D) = cell_set-xor n S D in
    let y : IsCellSet n (xor_cells n (clip n lo hi S) D) = cell_set-xor n (clip n lo hi S) D in
    let z : IsCellSet n (clip n lo hi (xor_cells n S D)) = cell_set-clip n lo hi (xor_cells n S D) in
    same_sets (xor_cells n (clip n lo hi S) D) (clip n lo hi (xor_cells n S D)) y.ascends z.ascends
    (λ c. has-xor_cells n (clip n lo hi S) D c p d
    ∙ ap (λ b. xor b (has D c)) (has-clip_of n lo hi S c s)
    ∙ cut (has S c) (has D c) (is_cell n c && (each int_le lo c && each int_lt c hi))
    (λ m. let q : is_cell n c ≡ true = member_passes (is_cell n) D c d.cells m in
    and_both (is_cell n c) (each int_le lo c && each int_lt c hi) q (h c c m (near_self c) q))
    ∙ ap (λ b. b && (is_cell n c && (each int_le lo c && each int_lt c hi))) (sym (has-xor_cells n S D c s d))
    ∙ sym (has-clip_of n lo hi (xor_cells n S D) c x))

again : (s d : Bool) → xor s (xor s d) ≡ d
unfolding xor
again true true = refl
again true false = refl
again false d = refl

-- a box round the change holds where the solid differs from what it becomes
holds_change : (n : ℕ) (lo hi : List ℤ) (S D : List (List ℤ)) → IsCellSet n S → IsCellSet n D → HoldsNear n lo hi D → HoldsChange n lo hi S (xor_cells n S D)
holds_change n lo hi S D s d h c e m =
    h c e (sym (again (has S c) (has D c)) ∙ ap (xor (has S c)) (sym (has-xor_cells n S D c s d)) ∙ sym (has-xor_cells n S (xor_cells n S D) c s (cell_set-xor n S D)) ∙ m)

-- of the part and the change, what both have goes, and what the change has beside it comes
goes : (a b : Bool) → (a && b) ≡ (a && not (xor a b))
unfolding xor
goes true true = refl
goes true false = refl
goes false b = refl

lost_part : (n : ℕ) (S D : List (List ℤ)) → IsCellSet n S → IsCellSet n D → and_cells n S D ≡ sub_cells n S (xor_cells n S D)
unfolding and_cells sub_cells
lost_part n S D s d =
    let x : IsCellSet n (and_cells n S D) = cell_set-combine (λ a b. a && b) n S D in
    let y : IsCellSet n (sub_cells n S (xor_cells n S D)) = cell_set-combine (λ a b. a && not b) n S (xor_cells n S D) in
    same_sets (and_cells n S D) (sub_cells n S (xor_cells n S D)) x.ascends y.ascends
    (λ c. has-combine (λ a b. a && b) n S D c
    ∙ ap (λ b. is_cell n c && b) (goes (has S c) (has D c) ∙ ap (λ b. has S c && not b) (sym (has-xor_cells n S D c s d)))
    ∙ sym (has-combine (λ a b. a && not b) n S (xor_cells n S D) c))

comes : (i a b : Bool) → (b ≡ true → i ≡ true) → xor (i && (a && b)) b ≡ (i && (xor a b && not a))
unfolding xor
comes true true true h = refl
comes true true false h = refl
comes true false true h = refl
comes true false false h = refl
comes false a true h = absurd (false≢true (h refl))
comes false a false h = refl

gained_part : (n : ℕ) (S D : List (List ℤ)) → IsCellSet n S → IsCellSet n D → xor_cells n (and_cells n S D) D ≡ sub_cells n (xor_cells n S D) S
unfolding and_cells sub_cells
gained_part n S D s d =
    let l : IsCellSet n (and_cells n S D) = cell_set-combine (λ a b. a && b) n S D in
    let x : IsCellSet n (xor_cells n (and_cells n S D) D) = cell_set-xor n (and_cells n S D) D in
    let y : IsCellSet n (sub_cells n (xor_cells n S D) S) = cell_set-combine (λ a b. a && not b) n (xor_cells n S D) S in
    same_sets (xor_cells n (and_cells n S D) D) (sub_cells n (xor_cells n S D) S) x.ascends y.ascends
    (λ c. has-xor_cells n (and_cells n S D) D c l d
    ∙ ap (λ b. xor b (has D c)) (has-combine (λ a b. a && b) n S D c)
    ∙ comes (is_cell n c) (has S c) (has D c) (λ m. member_passes (is_cell n) D c d.cells m)
    ∙ ap (λ b. is_cell n c && (b && not (has S c))) (sym (has-xor_cells n S D c s d))
    ∙ sym (has-combine (λ a b. a && not b) n (xor_cells n S D) S c))

-- the parts, as they are made
pub parts_are : (whole delta before gained lost after : Vertices) (lo hi : List ℤ) → delta.dim ≡ whole.dim → IsRound lo hi delta → before.dim ≡ whole.dim → cells_of before ≡ clip whole.dim lo hi (cells_of whole)
    → after.dim ≡ before.dim → cells_of after ≡ xor_cells before.dim (cells before.dim before.rows) (cells before.dim delta.rows)
    → lost.dim ≡ before.dim → cells_of lost ≡ and_cells lost.dim (cells lost.dim before.rows) (cells lost.dim delta.rows)
    → gained.dim ≡ lost.dim → cells_of gained ≡ xor_cells lost.dim (cells lost.dim lost.rows) (cells lost.dim delta.rows) → AreParts whole delta before gained lost after
parts_are whole delta before gained lost after lo hi dd r db eb da ea dl el dg eg =
    let n : ℕ = whole.dim in
    let m : ℕ = before.dim in
    let D : List (List ℤ) = cells n delta.rows in
    let S : List (List ℤ) = cells_of before in
    let E : List (List ℤ) = cells m delta.rows in
    let s : IsCellSet m S = cell_set-cells m before.rows in
    let e : IsCellSet m E = cell_set-cells m delta.rows in
    let h : HoldsNear n lo hi D = subst (λ (k : ℕ). HoldsNear k lo hi (cells k delta.rows)) dd r.holds in
    let goes : cells_of lost ≡ and_cells m S E = el ∙ ap (λ (k : ℕ). and_cells k (cells k before.rows) (cells k delta.rows)) dl in
    record {
      lo = lo;
      hi = hi;
      holds = h;
      dim = db;
      dim_changed = da ∙ db;
      part = eb;
      part_changed = ea ∙ ap (λ (k : ℕ). xor_cells k (cells_of before) (cells k delta.rows)) db ∙ ap (λ A. xor_cells n A D) eb
          ∙ changed_part n lo hi (cells_of whole) D (cell_set-cells n whole.rows) (cell_set-cells n delta.rows) h;
      comes = (
        dg ∙ dl ∙ sym da,
        eg ∙ ap (λ A. xor_cells lost.dim A (cells lost.dim delta.rows)) goes
            ∙ ap (λ (k : ℕ). xor_cells k (and_cells m S E) (cells k delta.rows)) dl
            ∙ gained_part m S E s e
            ∙ ap (λ A. sub_cells m A S) (sym ea)
            ∙ ap (λ (k : ℕ). sub_cells k (cells_of after) S) (sym da),
      );
      goes = (dl, goes ∙ lost_part m S E s e ∙ ap (sub_cells m S) (sym ea));
    }

-- ---- no change

has_nothing : (c : List ℤ) → has [] c ≡ false
unfolding has
has_nothing c = refl

no_cell : (n : ℕ) (c : List ℤ) → 0 < n → length c ≡ n → (each int_le [] c && each int_lt c []) ≡ false
unfolding each
no_cell n [] l e = absurd (omega arith)
no_cell n (x ∷ c) l e = refl

none_inside : (n : ℕ) (S : List (List ℤ)) → 0 < n → IsCellSet n S → [] ≡ clip n [] [] S
none_inside n S l s =
    let z : IsCellSet n (clip n [] [] S) = cell_set-clip n [] [] S in
    same_sets [] (clip n [] [] S) no_places z.ascends (λ c. has_nothing c ∙ sym (has-clip_of n [] [] S c s ∙ outside c (has S c) (is_cell n c) refl))
  where
    outside : (c : List ℤ) (a b : Bool) → is_cell n c ≡ b → (a && (b && (each int_le [] c && each int_lt c []))) ≡ false
    outside c false b e = refl
    outside c true false e = refl
    outside c true true e = let (w, _) = cell_parts n c e in no_cell n c l w

none_less : (n : ℕ) → [] ≡ sub_cells n [] []
unfolding sub_cells
none_less n =
    let z : IsCellSet n (combine (λ a b. a && not b) n [] []) = cell_set-combine (λ a b. a && not b) n [] [] in
    same_sets [] (combine (λ a b. a && not b) n [] []) no_places z.ascends (λ c. has_nothing c ∙ sym (has-combine (λ a b. a && not b) n [] [] c ∙ ap (λ t. is_cell n c && (t && not t)) (has_nothing c) ∙ and-false (is_cell n c)))

-- of a change without rows no parts are handed over
pub no_parts : (n : ℕ) (before gained lost after whole delta : Vertices) → 0 < n → before.dim ≡ n → gained.dim ≡ n → lost.dim ≡ n → after.dim ≡ n → cells_of before ≡ [] → cells_of gained ≡ [] → cells_of lost ≡ [] → cells_of after ≡ []
    → whole.dim ≡ n → delta.rows ≡ [] → AreParts whole delta before gained lost after
no_parts n before gained lost after whole delta l db dg dl da eb eg el ea dw r =
    let m : ℕ = whole.dim in
    let k : 0 < m = omega (arith, dw) in
    record {
      lo = [];
      hi = [];
      holds = λ c d h. absurd (false≢true (sym (has_nothing c) ∙ ap (λ T. has T c) (sym (ap (cells m) r ∙ cells-empty m)) ∙ h));
      dim = db ∙ sym dw;
      dim_changed = da ∙ sym dw;
      part = eb ∙ none_inside m (cells_of whole) k (cell_set-cells m whole.rows);
      part_changed = ea ∙ none_inside m (xor_cells m (cells_of whole) (cells m delta.rows)) k (cell_set-xor m (cells_of whole) (cells m delta.rows));
      comes = (dg ∙ sym da, eg ∙ none_less after.dim ∙ ap₂ (sub_cells after.dim) (sym ea) (sym eb));
      goes = (dl ∙ sym db, el ∙ none_less before.dim ∙ ap₂ (sub_cells before.dim) (sym eb) (sym ea));
    }

-- ---- the meter of one slot

pub near_change : (whole delta after part gained lost part_after : Vertices) (kind : Measure) (reading : Option ℕ) → IsMoved whole delta after → AreParts whole delta part gained lost part_after → reading ≡ Some (measured kind whole)
    → IsNearChange kind reading part part_after
near_change whole delta after part gained lost part_after kind reading moved r e =
    let n : ℕ = whole.dim in
    let S : List (List ℤ) = cells_of whole in
    let D : List (List ℤ) = cells n delta.rows in
    let T : List (List ℤ) = xor_cells n S D in
    record {
      whole = S;
      changed = T;
      lo = r.lo;
      hi = r.hi;
      whole_cells = subst (λ (m : ℕ). IsCellSet m S) (sym r.dim) (cell_set-cells n whole.rows);
      changed_cells = subst (λ (m : ℕ). IsCellSet m T) (sym r.dim) (cell_set-xor n S D);
      holds = subst (λ (m : ℕ). HoldsChange m r.lo r.hi S T) (sym r.dim) (holds_change n r.lo r.hi S D (cell_set-cells n whole.rows) (cell_set-cells n delta.rows) r.holds);
      same = r.dim_changed ∙ sym r.dim;
      part = r.part ∙ ap (λ (m : ℕ). clip m r.lo r.hi S) (sym r.dim);
      part_after = r.part_changed ∙ ap (λ (m : ℕ). clip m r.lo r.hi T) (sym r.dim);
      read = e ∙ ap (λ (m : ℕ). Some (measure kind m S)) (sym r.dim);
    }

difference : (x p q a P Q A : ℕ) → p ≡ P → q ≡ Q → a ≡ A → A + P ≡ x + Q → x + q - p ≡ a
difference x p q a P Q A ep eq ea e = omega arith

moved_reading : (whole delta after part gained lost part_after : Vertices) (kind : Measure) (reading : Option ℕ) → IsMoved whole delta after → AreParts whole delta part gained lost part_after → reading ≡ Some (measured kind whole)
    → moved_by kind part part_after reading ≡ Some (measured kind after)
moved_reading whole delta after part gained lost part_after kind reading moved r e =
    let n : ℕ = whole.dim in
    let S : List (List ℤ) = cells_of whole in
    let D : List (List ℤ) = cells n delta.rows in
    let T : List (List ℤ) = xor_cells n S D in
    let s : IsCellSet n S = cell_set-cells n whole.rows in
    let d : IsCellSet n D = cell_set-cells n delta.rows in
    ap (moved_by kind part part_after) e
    ∙ ap Some (difference (measured kind whole) (measured kind part) (measured kind part_after) (measured kind after)
    (measure kind n (clip n r.lo r.hi S)) (measure kind n (clip n r.lo r.hi T)) (measure kind n T)
    (ap (λ (m : ℕ). measure kind m (cells_of part)) r.dim ∙ ap (measure kind n) r.part)
    (ap (λ (m : ℕ). measure kind m (cells_of part_after)) r.dim_changed ∙ ap (measure kind n) r.part_changed)
    (ap (λ (m : ℕ). measure kind m (cells_of after)) moved.after_dim ∙ ap (measure kind n) (moved.cells ∙ ap (λ (m : ℕ). xor_cells n S (cells m delta.rows)) moved.delta_dim))
    (measures_are_local kind n r.lo r.hi S T s (cell_set-xor n S D) (holds_change n r.lo r.hi S D s d r.holds)))

pub can_move : (name : List ℕ) (whole delta after part gained lost part_after : Vertices) (s : Seen) → IsMoved whole delta after → AreParts whole delta part gained lost part_after → SeenReads name whole s → CanMove name part part_after s
can_move name whole delta after part gained lost part_after (Free kind) moved r reads = tt
can_move name whole delta after part gained lost part_after (Watches kind other reading pending) moved r reads =
    λ e. let (read, none) = reads e in (near_change whole delta after part gained lost part_after kind reading moved r read, none)
can_move name whole delta after part gained lost part_after Gone moved r reads = tt

pub moves : (name : List ℕ) (whole delta after part gained lost part_after : Vertices) (s : Seen) → IsMoved whole delta after → AreParts whole delta part gained lost part_after → SeenReads name whole s
    → seen_moved name part part_after s ≡ seen_prepared name after s
moves name whole delta after part gained lost part_after (Free kind) moved r reads = refl
moves name whole delta after part gained lost part_after (Watches kind other reading pending) moved r reads = by_name (bytes_eq name other) reads
  where
    by_name : (b : Bool) → (b ≡ true → (reading ≡ Some (measured kind whole)) × (pending ≡ None))
        → Watches kind other reading (if b then moved_by kind part part_after reading else pending) ≡ Watches kind other reading (if b then Some (measured kind after) else pending)
    by_name true h = ap (λ o. Watches kind other reading o) (moved_reading whole delta after part gained lost part_after kind reading moved r ((h refl).0))
    by_name false h = refl
moves name whole delta after part gained lost part_after Gone moved r reads = refl

-- ---- all slots

not_watched : (name : List ℕ) (a : Vertices) (s : Seen) → seen_watches name s ≡ false → seen_prepared name a s ≡ s
not_watched name a (Free kind) e = refl
not_watched name a (Watches kind other reading pending) e = ap (λ b. Watches kind other reading (if b then Some (measured kind a) else pending)) e
not_watched name a Gone e = refl

or_first : (a b : Bool) → (a || b) ≡ false → a ≡ false
or_first true b e = e
or_first false b e = refl

or_second : (a b : Bool) → (a || b) ≡ false → b ≡ false
or_second true b e = absurd (false≢true (sym e))
or_second false b e = e

-- where no slot watches a name, a change of it prepares nothing
pub none_prepared : (name : List ℕ) (a : Vertices) (v : List Seen) → list_any (seen_watches name) v ≡ false → v ≡ map (seen_prepared name a) v
none_prepared name a [] e = refl
none_prepared name a (s ∷ v) e =
    ap₂ (λ t w. t ∷ w) (sym (not_watched name a s (or_first (seen_watches name s) (list_any (seen_watches name) v) e)))
    (none_prepared name a v (or_second (seen_watches name s) (list_any (seen_watches name) v) e))

prepared_abandoned : (name : List ℕ) (a : Vertices) (s : Seen) → seen_abandoned (seen_prepared name a s) ≡ seen_abandoned s
prepared_abandoned name a (Free kind) = refl
prepared_abandoned name a (Watches kind other reading pending) = refl
prepared_abandoned name a Gone = refl

done_abandoned : (name : List ℕ) (a : Vertices) (i : ℕ) (v : List Seen) → map seen_abandoned (first_done (seen_prepared name a) i v) ≡ map seen_abandoned v
done_abandoned name a zero v = refl
done_abandoned name a (suc i) [] = refl
done_abandoned name a (suc i) (s ∷ v) = ap₂ (λ t w. t ∷ w) (prepared_abandoned name a s) (done_abandoned name a i v)

-- after want of memory at a slot, the readings are as before
pub failed_at : {A : Type 0} (seen : A → Seen) (name : List ℕ) (a : Vertices) (i : ℕ) (xs : List A) (old : List Seen) (x y : A) → i < length xs → map seen xs ≡ first_done (seen_prepared name a) i old → x ≡ get_or xs i x
    → seen_abandoned (seen y) ≡ seen_abandoned (seen x) → map seen_abandoned (map seen (set xs i y)) ≡ map seen_abandoned old
failed_at seen name a i xs old x y l e g s =
    map_twice seen_abandoned seen (set xs i y)
    ∙ seen_set (λ z. seen_abandoned (seen z)) xs i x y l g s
    ∙ sym (map_twice seen_abandoned seen xs)
    ∙ ap (map seen_abandoned) e
    ∙ done_abandoned name a i old
