-- What the writer of bodies has put together.
use Rattle.std.proofs.Common.{◌≡◌, ℕ, suc, ◌+◌, ◌-◌, ◌^◌, ◌<◌, ◌≤◌, true, Option, Some, None, List, [], ◌∷◌, ◌++◌, length, ℤ, refl, sym, ap, ap₂, ◌∙◌, subst, arith, append_assoc, append-nil}
use Rattle.std.specs.List.{AllByRecursion}
use Rattle.byteorder.specs.Endian.{big_bytes}
use Rattle.evm_cells.specs.Vertices.{IsVertexList}
use Rattle.evm_rows.specs.Rows.{Vertices, ascends}
use Rattle.evm_rows.proofs.Bridge.{wide-points, ascends_from}
use Rattle.evm_sections.specs.Couplets.{couplets_of, joined, AreSingle, first_height, rest_of}
use Rattle.evm_sections.proofs.Rising.{joined-couplets_of}
use Rattle.evm_sections.proofs.Single.{couplets_of-single}
use Rattle.evm_formats.specs.FirstFile.{field}
use Rattle.evm_formats.specs.RowBodies.{items, row_body}
use Rattle.evm_formats.specs.File.{head_bytes, file_of_cells, file_bytes}
use Rattle.evm_formats.proofs.Bodies.{few_couplets}
use Rattle.evm_formats.proofs.Nesting.{row_body-cells}

-- ---- lines

length-single : (cs : List (ℤ × List (List ℤ))) → AreSingle cs → length (joined cs) ≡ length cs
length-single [] s = refl
length-single ((h, c) ∷ cs) s = let e = s.0 in rw e (ap suc (length-single cs s.1))

line_count : (V : List (List ℤ)) → IsVertexList 1 V → length V ≡ length (couplets_of V)
line_count V v =
    let wide = wide-points 1 V v.points in
    sym (ap length (joined-couplets_of 1 V (omega arith) wide)) ∙ length-single (couplets_of V) (couplets_of-single V wide (ascends_from V v.ascends))

along : (n m : ℕ) (V : List (List ℤ)) → n ≡ m → IsVertexList n V → IsVertexList m V
along n m V e v = subst (λ (k : ℕ). IsVertexList k V) e v

pub few_rows : (n : ℕ) (V : List (List ℤ)) → n ≡ 1 → IsVertexList n V → length V < 256 ^ 4
few_rows n V e v = let w = along n 1 V e v in omega (arith, few_couplets 0 V w, line_count V w)

pub line_start : (n k : ℕ) (V : List (List ℤ)) (marks : List (ℤ × List (List ℤ))) (out new : List ℕ) → n ≡ 1 → IsVertexList n V → marks ≡ couplets_of V → k ≡ length V → new ≡ out ++ big_bytes 4 k
    → new ++ items (row_body 0) marks ≡ out ++ row_body n V
unfolding row_body
line_start n k V marks out new e v m l q =
    ap₂ (λ (xs : List ℕ) (cs : List (ℤ × List (List ℤ))). xs ++ items (row_body 0) cs) (q ∙ ap (λ (j : ℕ). out ++ big_bytes 4 j) (l ∙ line_count V (along n 1 V e v))) m
    ∙ append_assoc out (big_bytes 4 (length (couplets_of V))) (items (row_body 0) (couplets_of V))
    ∙ ap (λ (j : ℕ). out ++ row_body j V) (sym e)

pub line_more : (marks next : List (ℤ × List (List ℤ))) (at : ℤ) (out new whole : List ℕ) → Some at ≡ first_height marks → next ≡ rest_of marks → new ≡ out ++ field at
    → out ++ items (row_body 0) marks ≡ whole → new ++ items (row_body 0) next ≡ whole
unfolding row_body
line_more [] next at out new whole f n q h = let bad : Some at ≡ None = f in cc
line_more ((k, c) ∷ cs) next at out new whole f n q h =
    let same : at ≡ k = some_number at k f in
    ap₂ (λ (xs : List ℕ) (ds : List (ℤ × List (List ℤ))). xs ++ items (row_body 0) ds) (q ∙ ap (λ (z : ℤ). out ++ field z) same) n
    ∙ append_assoc out (field k) (items (row_body 0) cs)
    ∙ ap (λ (xs : List ℕ). out ++ (xs ++ items (row_body 0) cs)) (sym (append-nil (field k))) ∙ h
  where
    some_number : (x y : ℤ) → Some x ≡ Some y → x ≡ y
    some_number x y e = cc

pub single_rest : (marks next : List (ℤ × List (List ℤ))) → AreSingle marks → next ≡ rest_of marks → AreSingle next
single_rest [] next s e = rw e tt
single_rest (p ∷ marks) next s e = rw e s.1

-- ---- bodies

pub few_left : (m n : ℕ) (V : List (List ℤ)) (left : List (ℤ × List (List ℤ))) → n + 1 ≡ m → IsVertexList m V → left ≡ couplets_of V → length left < 256 ^ 4
few_left m n V left e v q = let w = along m (suc n) V (omega (arith, e)) v in omega (arith, few_couplets n V w, ap length q)

pub body_start : (m n k : ℕ) (V : List (List ℤ)) (left : List (ℤ × List (List ℤ))) (out new : List ℕ) → n + 1 ≡ m → left ≡ couplets_of V → k ≡ length left → new ≡ out ++ big_bytes 4 k
    → new ++ items (row_body n) left ≡ out ++ row_body m V
unfolding row_body
body_start m n k V left out new e c l q =
    let more : suc n ≡ m = omega (arith, e) in
    ap₂ (λ (xs : List ℕ) (cs : List (ℤ × List (List ℤ))). xs ++ items (row_body n) cs) (q ∙ ap (λ (j : ℕ). out ++ big_bytes 4 j) (l ∙ ap length c)) c
    ∙ append_assoc out (big_bytes 4 (length (couplets_of V))) (items (row_body n) (couplets_of V))
    ∙ ap (λ (j : ℕ). out ++ row_body j V) more

pub body_more : (n k d : ℕ) (h : ℤ) (V : List (List ℤ)) (left next : List (ℤ × List (List ℤ))) (out mid new whole : List ℕ) → left ≡ (h, V) ∷ next → d ≡ n → k ≡ n
    → mid ≡ out ++ field h → new ≡ mid ++ row_body k V → out ++ items (row_body n) left ≡ whole → new ++ items (row_body d) next ≡ whole
body_more n k d h V left next out mid new whole l e f p q w =
    ap (λ (j : ℕ). new ++ items (row_body j) next) e
    ∙ ap (λ (xs : List ℕ). xs ++ items (row_body n) next) (q ∙ ap₂ (λ (xs : List ℕ) (j : ℕ). xs ++ row_body j V) p f ∙ append_assoc out (field h) (row_body n V))
    ∙ append_assoc out (field h ++ row_body n V) (items (row_body n) next)
    ∙ ap (λ (cs : List (ℤ × List (List ℤ))). out ++ items (row_body n) cs) (sym l) ∙ w

-- a header and the body of the rows
pub written : (v : Vertices) (n m : ℕ) (V : List (List ℤ)) (start middle new : List ℕ) → IsVertexList v.dim v.rows → start ≡ head_bytes n → n ≡ v.dim → middle ≡ start → m ≡ v.dim → V ≡ v.rows
    → new ≡ middle ++ row_body m V → new ≡ file_bytes v
unfolding file_of_cells
written v n m V start middle new s h d q e f r =
    r ∙ ap₂ (λ (xs : List ℕ) (k : ℕ). xs ++ row_body k V) (q ∙ h ∙ ap head_bytes d) e ∙ ap (λ (W : List (List ℤ)). head_bytes v.dim ++ row_body v.dim W) f
    ∙ ap (λ (xs : List ℕ). head_bytes v.dim ++ xs) (row_body-cells v.dim v.rows s)
