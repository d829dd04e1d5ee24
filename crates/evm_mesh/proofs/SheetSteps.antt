-- Lists that grow by a sheet, or by a box of one.
use Rattle.std.proofs.Common.{◌≡◌, ℕ, zero, suc, ◌+◌, ◌<◌, List, [], ◌∷◌, ◌++◌, map, length, take, get_or, ℤ, refl, sym, ap, ap₂, subst, ◌∙◌, arith, append-nil, append_assoc}
use Rattle.std.specs.List.{All, flat_map, range_with_len}
use Rattle.std.proofs.lemmas.List.{take_more, flat_map_more}
use Rattle.std.proofs.lemmas.Grind.{flat_map-append}
use Rattle.std.proofs.lemmas.List.Elements.{All-push, All-same}
use Rattle.evm_text.specs.Lines.{text_of}
use Rattle.evm_cells.specs.Boxes.{IsBox}
use Rattle.evm_cells.specs.Unions.{Ends}
use Rattle.evm_cells.proofs.Universe.{cell_set-cells}
use Rattle.evm_rows.specs.Rows.{Vertices, cells_of}
use Rattle.evm_partition.specs.Partition.{partition}
use Rattle.evm_partition.specs.BoxLists.{partition_of}
use Rattle.evm_partition.proofs.Within.{boxes_have_room}
use Rattle.evm_formats.specs.FaceText.{Face, Side}
use Rattle.evm_mesh.specs.declared.sheets.Sheet.{Sheet}
use Rattle.evm_mesh.specs.Sheets.{IsSheet, labelled, side_of, faces_of_sheet, faces_in}

-- one element more
pub part_more : {A B : Type 0} (f : A → List B) (out : List B) (xs : List A) (i : ℕ) (d : A) → i < length xs → out ++ flat_map f (take (i + 1) xs) ≡ (out ++ flat_map f (take i xs)) ++ f (get_or xs i d)
part_more f out xs i d l = ap (λ t. out ++ flat_map f t) (take_more xs i d l) ∙ sym (flat_map_more f out (take i xs) (get_or xs i d))

-- what is made of the faces of sheets is made sheet by sheet
by_sheets : {B : Type 0} (g : Face → List B) (xs : List Sheet) → flat_map g (faces_in xs) ≡ flat_map (λ s. flat_map g (faces_of_sheet s)) xs
by_sheets g [] = refl
by_sheets g (s ∷ xs) = flat_map-append g (faces_of_sheet s) (faces_in xs) ∙ ap (λ t. flat_map g (faces_of_sheet s) ++ t) (by_sheets g xs)

by_boxes : {B : Type 0} (g : Face → List B) (h : Ends → Face) (bs : List Ends) → flat_map g (map h bs) ≡ flat_map (λ b. g (h b)) bs
by_boxes g h [] = refl
by_boxes g h (b ∷ bs) = ap (λ t. g (h b) ++ t) (by_boxes g h bs)

-- one sheet more
pub sheet_more : {B : Type 0} (g : Face → List B) (out : List B) (xs : List Sheet) (i : ℕ) (d : Sheet) → i < length xs
    → out ++ flat_map g (faces_in (take (i + 1) xs)) ≡ (out ++ flat_map g (faces_in (take i xs))) ++ flat_map g (faces_of_sheet (get_or xs i d))
sheet_more g out xs i d l =
    ap (λ t. out ++ t) (by_sheets g (take (i + 1) xs)) ∙ part_more (λ s. flat_map g (faces_of_sheet s)) out xs i d l
    ∙ ap (λ t. (out ++ t) ++ flat_map g (faces_of_sheet (get_or xs i d))) (sym (by_sheets g (take i xs)))

-- one box more
pub box_more : {B : Type 0} (g : Face → List B) (out : List B) (h : Ends → Face) (bs : List Ends) (i : ℕ) (d : Ends) → i < length bs
    → out ++ flat_map g (map h (take (i + 1) bs)) ≡ (out ++ flat_map g (map h (take i bs))) ++ g (h (get_or bs i d))
box_more g out h bs i d l =
    ap (λ t. out ++ t) (by_boxes g h (take (i + 1) bs)) ∙ part_more (λ b. g (h b)) out bs i d l
    ∙ ap (λ t. (out ++ t) ++ g (h (get_or bs i d))) (sym (by_boxes g h (take i bs)))

-- lines, one for each element
pub lines_of : {A : Type 0} (line : A → List ℕ) (xs : List A) → text_of (map line xs) ≡ flat_map (λ x. line x ++ 10 ∷ []) xs
lines_of line [] = refl
lines_of line (x ∷ xs) = ap (λ t. (line x ++ 10 ∷ []) ++ t) (lines_of line xs)

pub line_more : {A : Type 0} (line : A → List ℕ) (text : List ℕ) (xs : List A) (i : ℕ) (d : A) → i < length xs
    → text ++ text_of (map line (take (i + 1) xs)) ≡ (text ++ text_of (map line (take i xs))) ++ (line (get_or xs i d) ++ 10 ∷ [])
line_more line text xs i d l =
    ap (λ t. text ++ t) (lines_of line (take (i + 1) xs)) ∙ part_more (λ x. line x ++ 10 ∷ []) text xs i d l
    ∙ ap (λ t. (text ++ t) ++ (line (get_or xs i d) ++ 10 ∷ [])) (sym (lines_of line (take i xs)))

pub sheet_lines_more : (line : Face → List ℕ) (text : List ℕ) (xs : List Sheet) (i : ℕ) (d : Sheet) → i < length xs
    → text ++ text_of (map line (faces_in (take (i + 1) xs))) ≡ (text ++ text_of (map line (faces_in (take i xs)))) ++ text_of (map line (faces_of_sheet (get_or xs i d)))
sheet_lines_more line text xs i d l =
    ap (λ t. text ++ t) (lines_of line (faces_in (take (i + 1) xs))) ∙ sheet_more (λ f. line f ++ 10 ∷ []) text xs i d l
    ∙ ap₂ (λ s t. (text ++ s) ++ t) (sym (lines_of line (faces_in (take i xs)))) (sym (lines_of line (faces_of_sheet (get_or xs i d))))

pub box_lines_more : (line : Face → List ℕ) (text : List ℕ) (h : Ends → Face) (bs : List Ends) (i : ℕ) (d : Ends) → i < length bs
    → text ++ text_of (map line (map h (take (i + 1) bs))) ≡ (text ++ text_of (map line (map h (take i bs)))) ++ (line (h (get_or bs i d)) ++ 10 ∷ [])
box_lines_more line text h bs i d l =
    ap (λ t. text ++ t) (lines_of line (map h (take (i + 1) bs))) ∙ box_more (λ f. line f ++ 10 ∷ []) text h bs i d l
    ∙ ap (λ t. (text ++ t) ++ (line (h (get_or bs i d)) ++ 10 ∷ [])) (sym (lines_of line (map h (take i bs))))

-- ---- the faces of a solid

sheet_added : (xs : List Sheet) (s : Sheet) → faces_in (xs ++ s ∷ []) ≡ faces_in xs ++ faces_of_sheet s
sheet_added xs s = flat_map-append faces_of_sheet xs (s ∷ []) ∙ ap (λ t. faces_in xs ++ t) (append-nil (faces_of_sheet s))

-- what falls at a height and then what rises there
pub cut_added : (xs ys zs : List Sheet) (f r : Sheet) (falls rises : List Face) → ys ≡ xs ++ f ∷ [] → zs ≡ ys ++ r ∷ [] → faces_of_sheet f ≡ falls → faces_of_sheet r ≡ rises → faces_in zs ≡ faces_in xs ++ (falls ++ rises)
cut_added xs ys zs f r falls rises a b e g =
    ap faces_in b ∙ sheet_added ys r ∙ ap (λ t. t ++ faces_of_sheet r) (ap faces_in a ∙ sheet_added xs f)
    ∙ append_assoc (faces_in xs) (faces_of_sheet f) (faces_of_sheet r) ∙ ap₂ (λ s t. faces_in xs ++ (s ++ t)) e g

-- and both are sheets
pub both_sheets : (n : ℕ) (xs ys zs : List Sheet) (f r : Sheet) → ys ≡ xs ++ f ∷ [] → zs ≡ ys ++ r ∷ [] → All (IsSheet n) xs → IsSheet n f → IsSheet n r → All (IsSheet n) zs
both_sheets n xs ys zs f r a b all sf sr =
    let first : All (IsSheet n) ys = All-same (IsSheet n) ys (xs ++ f ∷ []) a (All-push (IsSheet n) xs f all sf) in
    All-same (IsSheet n) zs (ys ++ r ∷ []) b (All-push (IsSheet n) ys r first sr)

-- one axis more
axes_on : (f : ℕ → List Face) (a n : ℕ) → flat_map f (range_with_len a (suc n)) ≡ flat_map f (range_with_len a n) ++ f (a + n)
axes_on f a zero = append-nil (f a) ∙ ap f (omega arith)
axes_on f a (suc n) =
    ap (λ t. f a ++ t) (axes_on f (a + 1) n) ∙ sym (append_assoc (f a) (flat_map f (range_with_len (a + 1) n)) (f (a + 1 + n)))
    ∙ ap (λ k. (f a ++ flat_map f (range_with_len (a + 1) n)) ++ f k) (let e : a + 1 + n ≡ a + suc n = omega arith in e)

pub axes_more : (f : ℕ → List Face) (n : ℕ) → flat_map f (range_with_len 0 (n + 1)) ≡ flat_map f (range_with_len 0 n) ++ f n
axes_more f n =
    ap (λ k. flat_map f (range_with_len 0 k)) (let e : n + 1 ≡ suc n = omega arith in e) ∙ axes_on f 0 n ∙ ap (λ k. flat_map f (range_with_len 0 n) ++ f k) (let e : 0 + n ≡ n = omega arith in e)

-- ---- a sheet, from the partition of what falls or rises

-- its boxes have room
pub has_room : (v : Vertices) (n : ℕ) (bs : List Ends) → v.dim ≡ n → bs ≡ partition_of v → All (λ b. IsBox n b.lo b.hi) bs
has_room v n bs e f =
    let all : All (λ b. IsBox v.dim b.lo b.hi) bs = All-same (λ b. IsBox v.dim b.lo b.hi) bs (partition_of v) f (boxes_have_room v.dim (cells_of v) (cell_set-cells v.dim v.rows)) in
    subst (λ (j : ℕ). All (λ b. IsBox j b.lo b.hi) bs) e all

-- and are faces
pub sheet_is : (s : Sheet) (n i : ℕ) (h : ℤ) (side : Side) (T : List (List ℤ)) (v : Vertices) → s.axis ≡ i → s.at ≡ h → side_of s.side ≡ side → s.boxes.boxes ≡ partition_of v → v.dim ≡ n → cells_of v ≡ T
    → faces_of_sheet s ≡ labelled n i h side T
sheet_is s n i h side T v a b c d e f =
    let faces : ℕ → ℤ → Side → List Ends → List Face = λ i h side bs. map (λ b. record { axis = i; at = h; side = side; ends = b }) bs in
    ap₂ (λ i h. faces i h (side_of s.side) s.boxes.boxes) a b ∙ ap₂ (λ side bs. faces i h side bs) c (d ∙ ap₂ partition e f)
