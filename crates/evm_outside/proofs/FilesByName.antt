-- A look-up in the entries of an ordered map is one in the files that they stand for, and so is an insert.
use Rattle.std.proofs.Common.{◌≡◌, ℕ, List, [], ◌∷◌, map, Bool, true, false, cond, Option, Some, refl, sym, ap, ◌∙◌, Vec}
use Rattle.std.specs.declared.cmp.Ordering.{Ordering}
use Rattle.std.specs.declared.cmp.Ordering.TheVariants.{Less, Equal, Greater}
use Rattle.std.specs.Ordering.{nat_cmp, eq_by_cmp, match_ordering}
use Rattle.std.specs.Cmp.{IsTotalOrder}
use Rattle.std.specs.Cmp.Lexicographic.{slice_cmp, nat_list_cmp_total}
use Rattle.std.specs.Option.{option_map}
use Rattle.std.specs.Map.{lookup}
use Rattle.std.specs.BTreeMap.{insert_entry, is_at}
use Rattle.std.specs.FinMap.{IsAntisymmetric, slice_cmp-IsAntisymmetric, nat_cmp-IsAntisymmetric, get, insert, from_entries, find, put, get-insert, get-from_entries, same_map}
use Rattle.std.specs.FinMap.Entries.{by_order, find-put}
use Rattle.evm_outside.specs.Tables.{named_file, files_of}

same_case : {A : Type 0} (r : Ordering) (a b c d : A) → c ≡ d → by_order r a b c ≡ match_ordering r a b d
same_case Less a b c d h = refl
same_case Equal a b c d h = refl
same_case Greater a b c d h = h

put_is : {K X : Type 0} (R : K → K → Ordering) (k : K) (v : X) (es : List (K × X)) → put R k v es ≡ insert_entry R es k v
put_is R k v [] = refl
put_is R k v (e ∷ es) = same_case (R k e.0) _ _ _ _ (ap (λ rest. e ∷ rest) (put_is R k v es))

placed : {K X : Type 0} {R : K → K → Ordering} (o : IsTotalOrder R) → IsAntisymmetric R → (es : List (K × X)) (k : K) (v : X) → from_entries {R = R} (insert_entry R es k v) ≡ insert (from_entries es) k v
placed {R = R} o same es k v = same_map o same _ _ (λ q.
    get-from_entries o (insert_entry R es k v) q ∙ ap (find R q) (sym (put_is R k v es)) ∙ find-put R o q k v es
    ∙ sym (get-insert o (from_entries es) k v q ∙ ap (cond (eq_by_cmp R q k) (Some v)) (get-from_entries o es q)))

pushed_in : {A B : Type 0} (f : A → B) (r : Ordering) (a b c : List A) (d : List B) → map f c ≡ d → map f (match_ordering r a b c) ≡ match_ordering r (map f a) (map f b) d
pushed_in f Less a b c d h = refl
pushed_in f Equal a b c d h = refl
pushed_in f Greater a b c d h = h

named : {A : Type 0} (es : List (Vec ℕ A × Vec ℕ A)) (k v : Vec ℕ A)
    → map named_file (insert_entry (λ x y. slice_cmp nat_cmp x.items y.items) es k v) ≡ insert_entry (slice_cmp nat_cmp) (map named_file es) k.items v.items
named [] k v = refl
named (e ∷ es) k v = pushed_in named_file (slice_cmp nat_cmp k.items e.0.items) _ _ _ _ (ap (λ rest. named_file e ∷ rest) (named es k v))

-- an insert into the entries is one into the files
pub files_of-insert : {A : Type 0} (es : List (Vec ℕ A × Vec ℕ A)) (k v : Vec ℕ A)
    → files_of (insert_entry (λ x y. slice_cmp nat_cmp x.items y.items) es k v) ≡ insert (files_of es) k.items v.items
files_of-insert es k v = ap from_entries (named es k v) ∙ placed nat_list_cmp_total (slice_cmp-IsAntisymmetric nat_cmp-IsAntisymmetric) (map named_file es) k.items v.items

first_or : {X Y : Type 0} (f : X → Y) (b : Bool) (x : X) (o : Option X) → cond b (Some (f x)) (option_map f o) ≡ option_map f (cond b (Some x) o)
first_or f true x o = refl
first_or f false x o = refl

one_found : {A : Type 0} (es : List (Vec ℕ A × Vec ℕ A)) (q : List ℕ)
    → find (slice_cmp nat_cmp) q (map named_file es) ≡ option_map (λ bytes. bytes.items) (lookup (is_at (λ k. slice_cmp nat_cmp q k.items)) es)
one_found [] q = refl
one_found (e ∷ es) q =
    ap (cond (eq_by_cmp (slice_cmp nat_cmp) q e.0.items) (Some e.1.items)) (one_found es q)
    ∙ first_or (λ bytes. bytes.items) (eq_by_cmp (slice_cmp nat_cmp) q e.0.items) e.1 (lookup (is_at (λ k. slice_cmp nat_cmp q k.items)) es)

-- a look-up in the files is one in the entries
pub get-files_of : {A : Type 0} (es : List (Vec ℕ A × Vec ℕ A)) (q : List ℕ)
    → get (files_of es) q ≡ option_map (λ bytes. bytes.items) (lookup (is_at (λ k. slice_cmp nat_cmp q k.items)) es)
get-files_of es q = get-from_entries nat_list_cmp_total (map named_file es) q ∙ one_found es q
