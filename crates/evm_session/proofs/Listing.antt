-- The lines of a list, entry by entry.
use Rattle.std.proofs.Common.{◌≡◌, ℕ, zero, suc, ◌+◌, Bool, true, false, not, cond, ◌||◌, List, [], ◌∷◌, ◌++◌, length, take, Option, Some, None, Result, is_some, option_map, bytes_eq, codes, decimal, refl, sym, ap, ◌∙◌, subst, append_assoc}
use Rattle.std.specs.Prelude.{slice_get}
use Rattle.std.specs.List.{join_with_byte, list_any}
use Rattle.std.proofs.lemmas.Bool.{false≢true}
use Rattle.std.proofs.lemmas.List.{take_more}
use Rattle.std.proofs.lemmas.Grind.{flat_map-append}
use Rattle.std.proofs.lemmas.Option.{slice_get_within, get_or_from_slice_get}
use Rattle.evm_cells.proofs.Xor.{and_first, and_second}
use Rattle.evm_rows.specs.declared.solid.NoMemory.{NoMemory}
use Rattle.evm_script.specs.declared.formula.Formula.{Formula}
use Rattle.evm_script.proofs.Spaced.{spaced_formula}
use Rattle.evm_model.specs.Scene.{What, Given, Made, Entry, has_name, entry_of, dim_of_entry, names_differ}
use Rattle.evm_model.specs.Replies.{Listed, line_of, what_words, entry_words, entries_text, reply_text}
use Rattle.evm_model.proofs.Names.{name_itself, by_test, name_sym}
use Rattle.evm_model.proofs.Lookups.{found_name}
use Rattle.evm_scene.specs.Shown.{what_formula, entry_formula}
use Rattle.evm_session.specs.Listed.{entry_line, what_text}
use Rattle.evm_session.specs.Says.{Says}
use Rattle.evm_session.proofs.Rows.{says_after}

-- a word and the words of what a name stands for
what_line : (w : List ℕ) (what : What) → join_with_byte 32 (w ∷ what_words what) ≡ w ++ 32 ∷ what_text (what_formula what)
what_line w (Given cells) = refl
what_line w (Made formula) = spaced_formula w formula

-- the line of an entry, by its name, its dimension and its formula
line_by : (o : Option Entry) (name : List ℕ) (dim : ℕ) (formula : Option Formula) → ((e : Entry) → o ≡ Some e → e.name ≡ name) → is_some o ≡ true → dim ≡ dim_of_entry o → formula ≡ entry_formula o → entry_line o ≡ line_of (name ++ 32 ∷ (decimal dim ++ 32 ∷ what_text formula))
line_by None name dim formula named s d f = absurd (false≢true s)
line_by (Some e) name dim formula named s d f =
    ap (λ (t : List ℕ). line_of (e.name ++ 32 ∷ t)) (what_line (decimal e.dim) e.what)
    ∙ ap (λ (t : List ℕ). line_of (t ++ 32 ∷ (decimal e.dim ++ 32 ∷ what_text (what_formula e.what)))) (named e refl)
    ∙ ap (λ (n : ℕ). line_of (name ++ 32 ∷ (decimal n ++ 32 ∷ what_text (what_formula e.what)))) (sym d)
    ∙ ap (λ (g : Option Formula). line_of (name ++ 32 ∷ (decimal dim ++ 32 ∷ what_text g))) (sym f)

regroup : (before name dim what : List ℕ) → ((((before ++ name) ++ 32 ∷ []) ++ dim) ++ 32 ∷ []) ++ what ≡ before ++ (name ++ 32 ∷ (dim ++ 32 ∷ what))
regroup before name dim what = simp append_assoc

regroup_front : (before name dim : List ℕ) → (((before ++ name) ++ 32 ∷ []) ++ dim) ++ 32 ∷ [] ≡ before ++ (name ++ 32 ∷ (dim ++ 32 ∷ []))
regroup_front before name dim = simp append_assoc

-- a name and its dimension
pub front_said : (name : List ℕ) (dim : ℕ) (before a b c now : List ℕ) → a ≡ before ++ name → b ≡ a ++ 32 ∷ [] → c ≡ b ++ decimal dim → now ≡ c ++ 32 ∷ []
    → now ≡ before ++ (name ++ 32 ∷ (decimal dim ++ 32 ∷ []))
front_said name dim before a b c now ea eb ec en =
    en ∙ ap (λ (t : List ℕ). t ++ 32 ∷ []) (ec ∙ ap (λ (t : List ℕ). t ++ decimal dim) (eb ∙ ap (λ (t : List ℕ). t ++ 32 ∷ []) ea))
    ∙ regroup_front before name (decimal dim)

-- what was appended before the LF
pub entry_said : (name : List ℕ) (dim : ℕ) (formula : Option Formula) (before a b c d now : List ℕ) → a ≡ before ++ name → b ≡ a ++ 32 ∷ [] → c ≡ b ++ decimal dim → d ≡ c ++ 32 ∷ [] → now ≡ d ++ what_text formula
    → now ≡ before ++ (name ++ 32 ∷ (decimal dim ++ 32 ∷ what_text formula))
entry_said name dim formula before a b c d now ea eb ec ed en =
    en ∙ ap (λ (t : List ℕ). t ++ what_text formula) (ed ∙ ap (λ (t : List ℕ). t ++ 32 ∷ []) (ec ∙ ap (λ (t : List ℕ). t ++ decimal dim) (eb ∙ ap (λ (t : List ℕ). t ++ 32 ∷ []) ea)))
    ∙ regroup before name (decimal dim) (what_text formula)

-- and with it
pub line_said : {X : Type 0} (r : Result X NoMemory) (es : List Entry) (name : List ℕ) (dim : ℕ) (formula : Option Formula) (before mid now : List ℕ) → is_some (entry_of es name) ≡ true → dim ≡ dim_of_entry (entry_of es name) → formula ≡ entry_formula (entry_of es name)
    → mid ≡ before ++ (name ++ 32 ∷ (decimal dim ++ 32 ∷ what_text formula)) → Says r mid now (10 ∷ []) → Says r before now (entry_line (entry_of es name))
line_said r es name dim formula before mid now s d f e h =
    subst (λ (t : List ℕ). Says r before now t) (sym (line_by (entry_of es name) name dim formula (λ k q. found_name es name k q) s d f))
    (says_after r before mid now (name ++ 32 ∷ (decimal dim ++ 32 ∷ what_text formula)) (10 ∷ []) e h)

-- an entry stands under its name
in_entries : (es : List Entry) (k : ℕ) (e : Entry) → slice_get es k ≡ Some e → (p : Entry → Bool) → p e ≡ true → list_any p es ≡ true
in_entries [] k e at p h = absurd (let clash : None ≡ Some e = at in cc)
in_entries (x ∷ es) zero e at p h =
    let same : x ≡ e = cc in
    ap (λ (b : Bool). b || list_any p es) (ap p same ∙ h)
in_entries (x ∷ es) (suc k) e at p h =
    ap (λ (b : Bool). p x || b) (in_entries es k e at p h) ∙ or_true (p x)
  where
    or_true : (b : Bool) → (b || true) ≡ true
    or_true true = refl
    or_true false = refl

pub found_at : (es : List Entry) (k : ℕ) (e : Entry) → names_differ es ≡ true → slice_get es k ≡ Some e → entry_of es e.name ≡ Some e
found_at [] k e differ at = absurd (let clash : None ≡ Some e = at in cc)
found_at (x ∷ es) zero e differ at =
    let same : x ≡ e = cc in
    ap (λ (b : Bool). cond b (Some x) (entry_of es e.name)) (ap (λ (y : Entry). bytes_eq e.name y.name) same ∙ name_itself e.name)
    ∙ ap (λ (y : Entry). Some y) same
found_at (x ∷ es) (suc k) e differ at =
    ap (λ (b : Bool). cond b (Some x) (entry_of es e.name)) (name_sym e.name x.name ∙ other)
    ∙ found_at es k e (and_second (not (list_any (has_name x.name) es)) (names_differ es) differ) at
  where
    other : bytes_eq x.name e.name ≡ false
    other =
        by_test (bytes_eq x.name e.name)
        (λ h. absurd (false≢true (ap not (sym (in_entries es k e at (has_name x.name) h)) ∙ and_first (not (list_any (has_name x.name) es)) (names_differ es) differ)))
        (λ h. h)

some_there : {X Y : Type 0} (f : X → Y) (o : Option X) (y : Y) → option_map f o ≡ Some y → (x : X) × (o ≡ Some x) × (f x ≡ y)
some_there f None y e = absurd (let clash : None ≡ Some y = e in cc)
some_there f (Some x) y e = (x, refl, (cc))

append_nil : (xs : List ℕ) → xs ++ [] ≡ xs
append_nil [] = refl
append_nil (x ∷ xs) = ap (λ (ys : List ℕ). x ∷ ys) (append_nil xs)

-- the lines of one entry more
pub entries_more : (es : List Entry) (k : ℕ) (name before mid now : List ℕ) → names_differ es ≡ true → option_map (λ (e : Entry). e.name) (slice_get es k) ≡ Some name
    → mid ≡ before ++ entries_text (take k es) → now ≡ mid ++ entry_line (entry_of es name) → now ≡ before ++ entries_text (take (k + 1) es)
entries_more es k name before mid now differ there m n =
    let found = some_there (λ (e : Entry). e.name) (slice_get es k) name there in
    let e : Entry = found.0 in
    let standing : entry_of es name ≡ Some e = ap (entry_of es) (sym found.2) ∙ found_at es k e differ found.1 in
    let taken : take (k + 1) es ≡ take k es ++ e ∷ [] =
    take_more es k e (slice_get_within es k e found.1) ∙ ap (λ (x : Entry). take k es ++ x ∷ []) (get_or_from_slice_get es k e e found.1) in
    let last : entries_text (take (k + 1) es) ≡ entries_text (take k es) ++ entry_line (Some e) =
    ap entries_text taken
    ∙ flat_map-append (λ (x : Entry). line_of (join_with_byte 32 (entry_words x))) (take k es) (e ∷ [])
    ∙ ap (λ (t : List ℕ). entries_text (take k es) ++ t) (append_nil (entry_line (Some e))) in
    n ∙ ap (λ (t : List ℕ). t ++ entry_line (entry_of es name)) m
    ∙ append_assoc before (entries_text (take k es)) (entry_line (entry_of es name))
    ∙ ap (λ (o : Option Entry). before ++ (entries_text (take k es) ++ entry_line o)) standing
    ∙ ap (λ (t : List ℕ). before ++ t) (sym last)

-- the number of names, and then their lines
pub list_text : (es : List Entry) (n : ℕ) (before header now : List ℕ) → n ≡ length es → header ≡ before ++ line_of (codes "ok " ++ decimal n) → now ≡ header ++ entries_text es → now ≡ before ++ reply_text (Listed es)
unfolding reply_text
list_text es n before header now k h e =
    e ∙ ap (λ (t : List ℕ). t ++ entries_text es) (h ∙ ap (λ (m : ℕ). before ++ line_of (codes "ok " ++ decimal m)) k)
    ∙ append_assoc before (line_of (codes "ok " ++ decimal (length es))) (entries_text es)
