-- The boxes slab by slab, and what they add to a list of numbers.
use Rattle.std.proofs.Common.{◌≡◌, ℕ, suc, ◌+◌, true, false, List, [], ◌∷◌, ◌++◌, map, Some, None, ℤ, refl, sym, ap, ap₂, ◌∙◌, arith, append_assoc, append-nil}
use Rattle.std.proofs.lemmas.List.{map-append}
use Rattle.evm_cells.specs.Booleans.{xor}
use Rattle.evm_cells.specs.Vertices.{cells, IsVertexList}
use Rattle.evm_cells.specs.Sections.{slice, cuts}
use Rattle.evm_cells.specs.Unions.{Ends}
use Rattle.evm_cells.proofs.Core.{cells-evm}
use Rattle.evm_cells.proofs.Slices.{cell_set-slice}
use Rattle.evm_rows.specs.Rows.{xor_rows}
use Rattle.evm_sections.specs.Couplets.{slabs_from, slabs_over, slabs_in, slabs_above, slabs_left, AreSingle, couplets_of, first_height, rest_of, mark}
use Rattle.evm_sections.proofs.Zero.{cells-mark, xor_rows-mark}
use Rattle.evm_sections.proofs.Sections.{slabs_are_at}
use Rattle.evm_partition.specs.Partition.{raised, boxes_from, boxes_over, partition}
use Rattle.evm_partition.specs.BoxLists.{numbers_of, prefixed}
use Rattle.evm_partition.proofs.Numbers.{numbers-append}

-- the boxes of slabs, each with the extreme vertices of its section
abbrev pub slab_boxes : ℕ → List (ℤ × (ℤ × List (List ℤ))) → List Ends
slab_boxes n [] = []
slab_boxes n ((low, (high, V)) ∷ slabs) = map (raised low high) (partition n (cells n V)) ++ slab_boxes n slabs

boxes_from-slabs : (n : ℕ) (S : List (List ℤ)) (low : ℤ) (hs : List ℤ) → slab_boxes n (slabs_from n S low hs) ≡ boxes_from (λ l. partition n (slice n 0 l S)) low hs
unfolding slabs_from boxes_from
boxes_from-slabs n S low [] = refl
boxes_from-slabs n S low (high ∷ hs) =
    ap₂ (λ T bs. map (raised low high) (partition n T) ++ bs) (cells-evm n (slice n 0 low S) (cell_set-slice n 0 low S)) (boxes_from-slabs n S high hs)

boxes_over-slabs : (n : ℕ) (S : List (List ℤ)) (hs : List ℤ) → slab_boxes n (slabs_over n S hs) ≡ boxes_over (λ l. partition n (slice n 0 l S)) hs
unfolding slabs_over boxes_over
boxes_over-slabs n S [] = refl
boxes_over-slabs n S (low ∷ hs) = boxes_from-slabs n S low hs

-- the partition slab by slab
pub slab_boxes-are : (m n : ℕ) (S : List (List ℤ)) → n + 1 ≡ m → slab_boxes n (slabs_in n S) ≡ partition m S
unfolding slabs_in partition
slab_boxes-are m n S e =
    let q : m ≡ suc n = omega arith in
    boxes_over-slabs n S (cuts n 0 S) ∙ ap (λ k. partition k S) (sym q)

-- ---- ends before

prefixed-raised : (f g : Ends) (low high : ℤ) (bs : List Ends) → g.lo ≡ f.lo ++ low ∷ [] → g.hi ≡ f.hi ++ high ∷ [] → prefixed f (map (raised low high) bs) ≡ prefixed g bs
prefixed-raised f g low high [] d e = refl
prefixed-raised f g low high (b ∷ bs) d e =
    let l : f.lo ++ low ∷ b.lo ≡ g.lo ++ b.lo = sym (append_assoc f.lo (low ∷ []) b.lo) ∙ ap (λ t. t ++ b.lo) (sym d) in
    let r : f.hi ++ high ∷ b.hi ≡ g.hi ++ b.hi = sym (append_assoc f.hi (high ∷ []) b.hi) ∙ ap (λ t. t ++ b.hi) (sym e) in
    ap₂ (λ (y : Ends) (ys : List Ends). y ∷ ys) (λ i. record { lo = l i; hi = r i }) (prefixed-raised f g low high bs d e)

-- one slab more
pub slab_more : (n : ℕ) (f g : Ends) (low high : ℤ) (V : List (List ℤ)) (left later : List (ℤ × (ℤ × List (List ℤ)))) (out new all : List ℤ)
    → left ≡ (low, (high, V)) ∷ later → g.lo ≡ f.lo ++ low ∷ [] → g.hi ≡ f.hi ++ high ∷ []
    → new ≡ out ++ numbers_of (prefixed g (partition n (cells n V)))
    → out ++ numbers_of (prefixed f (slab_boxes n left)) ≡ all → new ++ numbers_of (prefixed f (slab_boxes n later)) ≡ all
slab_more n f g low high V left later out new all e d h w so_far =
    let bs : List Ends = map (raised low high) (partition n (cells n V)) in
    ap (λ t. t ++ numbers_of (prefixed f (slab_boxes n later))) (w ∙ ap (λ t. out ++ numbers_of t) (sym (prefixed-raised f g low high (partition n (cells n V)) d h)))
    ∙ append_assoc out (numbers_of (prefixed f bs)) (numbers_of (prefixed f (slab_boxes n later)))
    ∙ ap (λ t. out ++ t) (sym (numbers-append (prefixed f bs) (prefixed f (slab_boxes n later)))
    ∙ ap numbers_of (sym (map-append (λ (b : Ends). record { lo = f.lo ++ b.lo; hi = f.hi ++ b.hi }) bs (slab_boxes n later)) ∙ ap (λ t. prefixed f (slab_boxes n t)) (sym e)))
    ∙ so_far

-- ---- lines

one_point : partition 0 (cells 0 (mark true)) ≡ record { lo = []; hi = [] } ∷ []
unfolding partition
one_point = ap (partition 0) (cells-mark true)

no_point : partition 0 (cells 0 (mark false)) ≡ []
unfolding partition
no_point = ap (partition 0) (cells-mark false)

after_run : (h : ℤ) (cs : List (ℤ × List (List ℤ))) → slab_boxes 0 (slabs_above 0 [] h cs) ≡ slab_boxes 0 (slabs_left 0 [] cs)
unfolding slabs_above slabs_left
after_run h [] = refl
after_run h ((k, c) ∷ cs) = ap (λ bs. map (raised h k) bs ++ slab_boxes 0 (slabs_above 0 (xor_rows 0 [] c) k cs)) no_point

run_boxes : (low high : ℤ) (cs : List (ℤ × List (List ℤ))) → slab_boxes 0 (slabs_left 0 [] ((low, [] ∷ []) ∷ (high, [] ∷ []) ∷ cs))
    ≡ record { lo = low ∷ []; hi = high ∷ [] } ∷ slab_boxes 0 (slabs_left 0 [] cs)
unfolding slabs_left slabs_above xor
run_boxes low high cs =
    ap (λ V. map (raised low high) (partition 0 (cells 0 V)) ++ slab_boxes 0 (slabs_above 0 (xor_rows 0 V ([] ∷ [])) high cs)) (xor_rows-mark false true)
    ∙ ap₂ (λ bs V. map (raised low high) bs ++ slab_boxes 0 (slabs_above 0 V high cs)) one_point (xor_rows-mark true true)
    ∙ ap (λ bs. record { lo = low ∷ []; hi = high ∷ [] } ∷ bs) (after_run high cs)

-- the runs at the start
pub runs_start : (m : ℕ) (V : List (List ℤ)) (marks : List (ℤ × List (List ℤ))) → m ≡ 1 → IsVertexList m V → marks ≡ couplets_of V → slab_boxes 0 (slabs_left 0 [] marks) ≡ partition m (cells m V)
runs_start m V marks d v e =
    ap (λ cs. slab_boxes 0 (slabs_left 0 [] cs)) e ∙ ap (slab_boxes 0) (slabs_are_at m 0 V (sym d) v) ∙ slab_boxes-are m 0 (cells m V) (sym d)

-- no run is left
pub runs_done : (marks : List (ℤ × List (List ℤ))) → None ≡ first_height marks → slab_boxes 0 (slabs_left 0 [] marks) ≡ []
unfolding slabs_left
runs_done [] e = refl
runs_done ((h, c) ∷ cs) e = cc

-- one cut is left
pub runs_cut : (marks : List (ℤ × List (List ℤ))) → None ≡ first_height (rest_of marks) → slab_boxes 0 (slabs_left 0 [] marks) ≡ []
unfolding slabs_left slabs_above
runs_cut [] e = refl
runs_cut ((h, c) ∷ []) e = refl
runs_cut ((h, c) ∷ (k, d) ∷ cs) e = cc

pub single_rest : (marks : List (ℤ × List (List ℤ))) → AreSingle marks → AreSingle (rest_of marks)
single_rest [] a = tt
single_rest ((h, c) ∷ cs) a = a.1

-- one run more
pub run_more : (f g : Ends) (low high : ℤ) (marks : List (ℤ × List (List ℤ))) (out new all : List ℤ) → AreSingle marks
    → Some low ≡ first_height marks → Some high ≡ first_height (rest_of marks) → g.lo ≡ f.lo ++ low ∷ [] → g.hi ≡ f.hi ++ high ∷ []
    → new ≡ out ++ numbers_of (g ∷ [])
    → out ++ numbers_of (prefixed f (slab_boxes 0 (slabs_left 0 [] marks))) ≡ all
    → new ++ numbers_of (prefixed f (slab_boxes 0 (slabs_left 0 [] (rest_of (rest_of marks))))) ≡ all
run_more f g low high [] out new all s a b d e w so_far = cc
run_more f g low high ((j, c) ∷ []) out new all s a b d e w so_far = cc
run_more f g low high ((j, c) ∷ (k, x) ∷ cs) out new all s a b d e w so_far =
    let p : low ≡ j = cc in
    let q : high ≡ k = cc in
    let rest : List ℤ = numbers_of (prefixed f (slab_boxes 0 (slabs_left 0 [] cs))) in
    let step : slab_boxes 0 (slabs_left 0 [] ((j, c) ∷ (k, x) ∷ cs)) ≡ record { lo = j ∷ []; hi = k ∷ [] } ∷ slab_boxes 0 (slabs_left 0 [] cs) =
    ap₂ (λ V W. slab_boxes 0 (slabs_left 0 [] ((j, V) ∷ (k, W) ∷ cs))) s.0 s.1.0 ∙ run_boxes j k cs in
    ap (λ t. t ++ rest) w ∙ append_assoc out (numbers_of (g ∷ [])) rest
    ∙ ap (λ t. out ++ t) (ap (λ t. t ++ rest) (append-nil (g.lo ++ g.hi))
    ∙ ap₂ (λ y z. y ++ z ++ rest) (d ∙ ap (λ z. f.lo ++ z ∷ []) p) (e ∙ ap (λ z. f.hi ++ z ∷ []) q)
    ∙ ap (λ bs. numbers_of (prefixed f bs)) (sym step))
    ∙ so_far

-- the end of a loop
pub all_done : (f : Ends) (bs : List Ends) (out all : List ℤ) → bs ≡ [] → out ++ numbers_of (prefixed f bs) ≡ all → out ≡ all
all_done f bs out all e so_far = sym (append-nil out) ∙ ap (λ t. out ++ numbers_of (prefixed f t)) (sym e) ∙ so_far

-- the slabs at the start
pub slabs_start : (m n : ℕ) (S : List (List ℤ)) (left : List (ℤ × (ℤ × List (List ℤ)))) → n + 1 ≡ m → left ≡ slabs_in n S → slab_boxes n left ≡ partition m S
slabs_start m n S left e f = ap (slab_boxes n) f ∙ slab_boxes-are m n S e

pub slabs_done : (n : ℕ) (left : List (ℤ × (ℤ × List (List ℤ)))) → left ≡ [] → slab_boxes n left ≡ []
slabs_done n left e = ap (slab_boxes n) e

-- no axis was passed
pub no_front : (f : Ends) (bs : List Ends) → f ≡ record { lo = []; hi = [] } → prefixed f bs ≡ bs
no_front f bs e = ap (λ g. prefixed g bs) e ∙ same bs
  where
    same : (bs : List Ends) → prefixed (record { lo = []; hi = [] }) bs ≡ bs
    same [] = refl
    same (b ∷ bs) = ap (λ ys. b ∷ ys) (same bs)

-- the numbers of all boxes
pub all_numbers : (f : Ends) (bs : List Ends) (start flat : List ℤ) → f ≡ record { lo = []; hi = [] } → start ≡ [] → flat ≡ start ++ numbers_of (prefixed f bs) → flat ≡ numbers_of bs
all_numbers f bs start flat e none h = h ∙ ap₂ (λ t ys. t ++ numbers_of ys) none (no_front f bs e)
