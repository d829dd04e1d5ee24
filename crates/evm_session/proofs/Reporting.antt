-- What a report says of a name.
use Rattle.std.proofs.Common.{◌≡◌, ℕ, zero, suc, ◌+◌, ◌-◌, ◌<◌, ◌≤◌, ◌&&◌, true, is_some, List, [], ◌∷◌, ◌++◌, drop, get_or, length, map, codes, decimal, ℤ, pos, Option, None, Some, slice_index_or, slice_index, refl, sym, ap, ◌∙◌, arith, nat_le}
use Rattle.std.specs.List.{list_all}
use Rattle.std.specs.Str.{IsUtf8, IsAscii}
use Rattle.std.proofs.lemmas.Bool.{and_parts, false≢true}
use Rattle.std.proofs.lemmas.Bool.Decides.{nat_tests}
use Rattle.std.proofs.lemmas.List.{append_assoc, drop_more, length-map}
use Rattle.std.proofs.lemmas.Str.{IsUtf8-from_ascii}
use Rattle.std.proofs.Math.ListN.{drop_of_length-le}
use Rattle.evm_report.specs.Report.{Facts, report_text}
use Rattle.evm_script.specs.Words.{is_name, is_name_byte, is_small_letter, name_max}
use Rattle.evm_script.specs.declared.formula.Formula.{Formula}
use Rattle.evm_cells.specs.Measures.{content, boundary}
use Rattle.evm_cells.specs.Parts.{parts}
use Rattle.evm_cells.specs.Vertices.{evm, cells}
use Rattle.evm_rows.specs.Rows.{Vertices}
use Rattle.evm_parts.specs.PartLists.{parts_of as parts_in}
use Rattle.evm_model.specs.Figures.{Figure, vertices_in, content_of, boundary_of, parts_of}
use Rattle.evm_model.specs.Reports.{axis_end, end_from, ends_of, each_axis, lesser, greater, what_kind, entry_kind, facts_by, reported}
use Rattle.evm_model.specs.Replies.{Reported, line_of, reply_text}
use Rattle.evm_model.specs.Scene.{Scene, Entry, What, Given, Made, entry_of, what_operands, entry_operands, stands, value}
use Rattle.evm_scene.specs.Shown.{formula_of, what_formula, entry_formula}
use Rattle.evm_formulas.specs.Stated.{figure_of}
use Rattle.evm_session.specs.Reported.{kind_by, operands_by, facts_with}

-- ---- names

byte_below : (b : ℕ) → is_name_byte b ≡ true → b < 128
byte_below b h = grind (arith, nat_tests)

bytes_below : (w : List ℕ) → list_all is_name_byte w ≡ true → IsAscii w
bytes_below [] h i = omega arith
bytes_below (b ∷ w) h zero = byte_below b (and_parts (is_name_byte b) _ h).0
bytes_below (b ∷ w) h (suc i) = bytes_below w (and_parts (is_name_byte b) _ h).1 i

-- names are texts
pub name_is_text : (w : List ℕ) → is_name w ≡ true → IsUtf8 w
name_is_text w h =
    IsUtf8-from_ascii w (bytes_below w (and_parts (nat_le 1 (length w) && nat_le (length w) name_max && is_small_letter (slice_index w 0)) _ h).1)

-- ---- ends on an axis

pub first_end : (pick : ℤ → ℤ → ℤ) (axis : ℕ) (rows : List (List ℤ)) (x : ℤ) → 0 < length rows → ((d : ℤ) → slice_index_or (slice_index_or rows 0 []) (axis + 1 - 1) d ≡ x)
    → end_from pick axis x (drop 1 rows) ≡ axis_end pick axis rows
first_end pick axis [] x l h = absurd (omega arith)
first_end pick axis (row ∷ rows) x l h =
    let same : axis + 1 - 1 ≡ axis = omega arith in
    ap (λ (y : ℤ). end_from pick axis y rows) (sym (h (pos 0)) ∙ ap (λ (k : ℕ). get_or row k (pos 0)) same)

pub next_end : (pick : ℤ → ℤ → ℤ) (axis : ℕ) (rows : List (List ℤ)) (i : ℕ) (x y : ℤ) → i < length rows → ((d : ℤ) → slice_index_or (slice_index_or rows i []) (axis + 1 - 1) d ≡ y)
    → end_from pick axis (pick x y) (drop (i + 1) rows) ≡ end_from pick axis x (drop i rows)
next_end pick axis rows i x y l h =
    let same : axis + 1 - 1 ≡ axis = omega arith in
    ap (λ (z : ℤ). end_from pick axis (pick x z) (drop (i + 1) rows)) (sym (h (pos 0)) ∙ ap (λ (k : ℕ). get_or (get_or rows i []) k (pos 0)) same)
    ∙ sym (ap (λ (left : List (List ℤ)). end_from pick axis x left) (drop_more rows i [] l))

pub last_end : (pick : ℤ → ℤ → ℤ) (axis : ℕ) (rows : List (List ℤ)) (i : ℕ) (x z : ℤ) → length rows ≤ i → end_from pick axis x (drop i rows) ≡ z → x ≡ z
last_end pick axis rows i x z l h =
    sym (ap (λ (left : List (List ℤ)). end_from pick axis x left) (drop_of_length-le rows l)) ∙ h

-- ---- ends on each axis

pub no_ends : (pick : ℤ → ℤ → ℤ) (n : ℕ) (rows : List (List ℤ)) → length rows ≡ 0 → [] ≡ ends_of pick n rows
no_ends pick n [] e = refl
no_ends pick n (row ∷ rows) e = absurd (omega arith)

pub some_ends : (pick : ℤ → ℤ → ℤ) (n : ℕ) (rows : List (List ℤ)) → 0 < length rows → ends_of pick n rows ≡ each_axis (λ axis. axis_end pick axis rows) n
some_ends pick n [] l = absurd (omega arith)
some_ends pick n (row ∷ rows) l = refl

pub ends_more : (at : ℕ → ℤ) (k : ℕ) (before now : List ℤ) (x : ℤ) → before ≡ each_axis at k → x ≡ at k → now ≡ before ++ x ∷ [] → now ≡ each_axis at (k + 1)
ends_more at k before now x e f g =
    let further : suc k ≡ k + 1 = omega arith in
    g ∙ ap (λ (t : List ℤ). t ++ x ∷ []) e ∙ ap (λ (y : ℤ). each_axis at k ++ y ∷ []) f ∙ ap (each_axis at) further

-- ---- what a name stands for

pub kind_found : (e : Option Entry) → is_some e ≡ true → kind_by (entry_formula e) ≡ entry_kind e
kind_found None h = absurd (false≢true h)
kind_found (Some e) h = by e.what
  where
    by : (w : What) → kind_by (what_formula w) ≡ what_kind w
    by (Given cells) = refl
    by (Made formula) = refl

pub operands_found : (e : Option Entry) → operands_by (entry_formula e) ≡ entry_operands e
operands_found None = refl
operands_found (Some e) = by e.what
  where
    by : (w : What) → operands_by (what_formula w) ≡ what_operands w
    by (Given cells) = refl
    by (Made formula) = refl

-- ---- the text

-- what is said of a solid by what was measured of it
pub facts_said : (name kind said_name : List ℕ) (reads : List (List ℕ)) (n count : ℕ) (filled faces : List ℕ) (number : ℕ) (low high : List ℤ) (formula : Option Formula) (v : Vertices) → v.rows ≡ evm v.dim (cells v.dim v.rows)
    → said_name ≡ name → kind ≡ kind_by formula → reads ≡ operands_by formula → n ≡ v.dim → count ≡ length v.rows
    → filled ≡ decimal (content (cells v.dim v.rows)) → faces ≡ decimal (boundary v.dim (cells v.dim v.rows)) → number ≡ length (parts_in v)
    → low ≡ ends_of lesser v.dim v.rows → high ≡ ends_of greater v.dim v.rows
    → record { name = said_name; kind = kind; operands = reads; dim = n; vertices = count; content = filled; boundary = faces; parts = number; low = low; high = high } ≡ facts_with name formula v
unfolding facts_by vertices_in content_of boundary_of parts_of
facts_said name kind said_name reads n count filled faces number low high formula v whole en ek eo ed ev ec eb ep el eh =
    let S : List (List ℤ) = cells v.dim v.rows in
    let whole_of : List (List ℤ) → Figure = λ c. record { dim = v.dim; cells = c } in
    let parted : number ≡ length (map whole_of (parts S)) =
    ep ∙ length-map (parts S) (evm v.dim) ∙ sym (length-map (parts S) whole_of) in
    let counted : count ≡ length (evm v.dim S) = ev ∙ ap (length {A = List ℤ}) whole in
    let least : low ≡ ends_of lesser v.dim (evm v.dim S) = el ∙ ap (ends_of lesser v.dim) whole in
    let greatest : high ≡ ends_of greater v.dim (evm v.dim S) = eh ∙ ap (ends_of greater v.dim) whole in
    rw (en, ek, eo, ed, counted, ec, eb, parted, least, greatest) refl

-- the reply
pub report_said : (scene : Scene) (name : List ℕ) (formula : Option Formula) (tree solid : Vertices) (before a b now : List ℕ) → stands scene name ≡ true → formula ≡ formula_of scene name → solid ≡ tree → figure_of tree ≡ value scene name
    → a ≡ before ++ codes "ok " → b ≡ a ++ report_text (facts_with name formula solid) → now ≡ b ++ 10 ∷ [] → now ≡ before ++ reply_text (Reported (reported scene name))
unfolding reply_text
report_said scene name formula tree solid before a b now s f e g ea eb en =
    let entry = entry_of scene.entries name in
    let facts : facts_with name formula solid ≡ reported scene name =
    ap (λ (o : Option Formula). facts_with name o solid) f
    ∙ ap (λ (v : Vertices). facts_with name (formula_of scene name) v) e
    ∙ ap (λ (w : Figure). facts_by name (kind_by (formula_of scene name)) (operands_by (formula_of scene name)) w) g
    ∙ ap (λ (k : List ℕ). facts_by name k (operands_by (formula_of scene name)) (value scene name)) (kind_found entry s)
    ∙ ap (λ (os : List (List ℕ)). facts_by name (entry_kind entry) os (value scene name)) (operands_found entry) in
    en ∙ ap (λ (t : List ℕ). t ++ 10 ∷ []) (eb ∙ ap (λ (t : List ℕ). t ++ report_text (facts_with name formula solid)) ea)
    ∙ grouped before (codes "ok ") (report_text (facts_with name formula solid))
    ∙ ap (λ (w : Facts). before ++ line_of (codes "ok " ++ report_text w)) facts
  where
    grouped : (x y z : List ℕ) → ((x ++ y) ++ z) ++ 10 ∷ [] ≡ x ++ ((y ++ z) ++ 10 ∷ [])
    grouped x y z = simp append_assoc
