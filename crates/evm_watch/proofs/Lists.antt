-- Lists that are gone through, and what is seen of each item.
use Rattle.std.proofs.Common.{◌≡◌, ℕ, zero, suc, ◌+◌, ◌<◌, ◌≤◌, Bool, true, false, ◌||◌, Option, Some, None, List, [], ◌∷◌, ◌++◌, length, map, set, take, drop, get_or, refl, sym, ap, ◌∙◌, arith}
use Rattle.std.specs.Option.{MatchOption}
use Rattle.std.specs.Result.{OnErr}
use Rattle.std.specs.declared.result.Result.{Result}
use Rattle.std.specs.declared.result.Result.TheVariants.{Ok, Err}
use Rattle.std.specs.List.{list_any, slice_get}
use Rattle.std.proofs.lemmas.List.{map-set}

-- the first i of a list changed by f
abbrev pub first_done : {B : Type 0} → (B → B) → ℕ → List B → List B
first_done f zero xs = xs
first_done f (suc i) [] = []
first_done f (suc i) (x ∷ xs) = f x ∷ first_done f i xs

pub done_all : {A B : Type 0} (seen : A → B) (f : B → B) (i : ℕ) (xs : List A) (old : List B) → length xs ≤ i → map seen xs ≡ first_done f i old → map seen xs ≡ map f old
done_all seen f i [] [] l e = refl
done_all seen f zero [] (b ∷ old) l e = cc
done_all seen f (suc i) [] (b ∷ old) l e = cc
done_all seen f zero (a ∷ xs) old l e = absurd (omega arith)
done_all seen f (suc i) (a ∷ xs) [] l e = cc
done_all seen f (suc i) (a ∷ xs) (b ∷ old) l e =
    let h : map seen xs ≡ first_done f i old = cc in
    let k : seen a ≡ f b = cc in
    let r = done_all seen f i xs old (omega arith) h in
    cc

done_next : {A B : Type 0} (seen : A → B) (f : B → B) (i : ℕ) (xs : List A) (old : List B) (x y : A) → i < length xs → map seen xs ≡ first_done f i old → x ≡ get_or xs i x → seen y ≡ f (seen x) → map seen (set xs i y) ≡ first_done f (suc i) old
done_next seen f i [] old x y l e g s = absurd (omega arith)
done_next seen f zero (a ∷ xs) [] x y l e g s = cc
done_next seen f zero (a ∷ xs) (b ∷ old) x y l e g s =
    let h : map seen xs ≡ old = cc in
    let k : seen a ≡ b = cc in
    let q : x ≡ a = g in
    let m : seen y ≡ f b = s ∙ ap f (ap seen q ∙ k) in
    cc
done_next seen f (suc i) (a ∷ xs) [] x y l e g s = cc
done_next seen f (suc i) (a ∷ xs) (b ∷ old) x y l e g s =
    let h : map seen xs ≡ first_done f i old = cc in
    let k : seen a ≡ f b = cc in
    let r = done_next seen f i xs old x y (omega arith) h g s in
    cc

pub done_more : {A B : Type 0} (seen : A → B) (f : B → B) (i : ℕ) (xs : List A) (old : List B) (x y : A) → i < length xs → map seen xs ≡ first_done f i old → x ≡ get_or xs i x → seen y ≡ f (seen x) → map seen (set xs i y) ≡ first_done f (i + 1) old
done_more seen f i xs old x y l e g s =
    let k : suc i ≡ i + 1 = omega arith in
    done_next seen f i xs old x y l e g s ∙ ap (λ (n : ℕ). first_done f n old) k

-- what is seen at a place, and past the end
pub seen_at : {A B : Type 0} (seen : A → B) (xs : List A) (i : ℕ) (x : A) → i < length xs → x ≡ get_or xs i x → slice_get (map seen xs) i ≡ Some (seen x)
seen_at seen [] i x l g = absurd (omega arith)
seen_at seen (a ∷ xs) zero x l g = ap (λ y. Some (seen y)) (sym g)
seen_at seen (a ∷ xs) (suc i) x l g = seen_at seen xs i x (omega arith) g

pub seen_past : {A B : Type 0} (seen : A → B) (xs : List A) (i : ℕ) → length xs ≤ i → slice_get (map seen xs) i ≡ None
seen_past seen [] i l = refl
seen_past seen (a ∷ xs) zero l = absurd (omega arith)
seen_past seen (a ∷ xs) (suc i) l = seen_past seen xs i (omega arith)

-- an item that is seen as before leaves the list as it is seen
pub seen_set : {A B : Type 0} (seen : A → B) (xs : List A) (i : ℕ) (x y : A) → i < length xs → x ≡ get_or xs i x → seen y ≡ seen x → map seen (set xs i y) ≡ map seen xs
seen_set seen [] i x y l g s = absurd (omega arith)
seen_set seen (a ∷ xs) zero x y l g s = ap (λ b. b ∷ map seen xs) (s ∙ ap seen g)
seen_set seen (a ∷ xs) (suc i) x y l g s = ap (λ bs. seen a ∷ bs) (seen_set seen xs i x y (omega arith) g s)

-- ---- a search

pub any_map : {A B : Type 0} (t : B → Bool) (seen : A → B) (xs : List A) → list_any t (map seen xs) ≡ list_any (λ x. t (seen x)) xs
any_map t seen [] = refl
any_map t seen (a ∷ xs) = ap (λ b. t (seen a) || b) (any_map t seen xs)

any_next : {A : Type 0} (t : A → Bool) (xs : List A) (i : ℕ) (x : A) → i < length xs → x ≡ get_or xs i x → list_any t (drop i xs) ≡ (t x || list_any t (drop (suc i) xs))
any_next t [] i x l g = absurd (omega arith)
any_next t (a ∷ xs) zero x l g = ap (λ y. t y || list_any t xs) (sym g)
any_next t (a ∷ xs) (suc i) x l g = any_next t xs i x (omega arith) g

pub any_hit : {A : Type 0} (t : A → Bool) (xs : List A) (i : ℕ) (x : A) → i < length xs → x ≡ get_or xs i x → t x ≡ true → list_any t (drop i xs) ≡ true
any_hit t xs i x l g h = any_next t xs i x l g ∙ ap (λ b. b || list_any t (drop (suc i) xs)) h

pub any_more : {A : Type 0} (t : A → Bool) (xs : List A) (i : ℕ) (x : A) → i < length xs → x ≡ get_or xs i x → t x ≡ false → list_any t (drop (i + 1) xs) ≡ list_any t (drop i xs)
any_more t xs i x l g h =
    let k : i + 1 ≡ suc i = omega arith in
    ap (λ (n : ℕ). list_any t (drop n xs)) k ∙ sym (any_next t xs i x l g ∙ ap (λ b. b || list_any t (drop (suc i) xs)) h)

pub any_end : {A : Type 0} (t : A → Bool) (xs : List A) (i : ℕ) → length xs ≤ i → list_any t (drop i xs) ≡ false
any_end t [] zero l = refl
any_end t [] (suc i) l = refl
any_end t (a ∷ xs) zero l = absurd (omega arith)
any_end t (a ∷ xs) (suc i) l = any_end t xs i (omega arith)

-- ---- one item changes

-- what an answer says of one item, of the list
pub gone_at : {A B C : Type 0} (seen : A → B) (gone : B) (o : Option C) (xs : List A) (v : List B) (i : ℕ) (x y : A) → map seen xs ≡ v → i < length xs → x ≡ get_or xs i x
    → MatchOption o (seen y ≡ seen x) (λ n. seen y ≡ gone) → MatchOption o (map seen (set xs i y) ≡ v) (λ n. map seen (set xs i y) ≡ set v i gone)
gone_at seen gone None xs v i x y e l g s = seen_set seen xs i x y l g s ∙ e
gone_at seen gone (Some n) xs v i x y e l g s = map-set seen xs i y ∙ ap (set (map seen xs) i) s ∙ ap (λ w. set w i gone) e

pub set_at : {A B : Type 0} (seen : A → B) (next : Option B → B) (xs : List A) (v : List B) (i : ℕ) (x y : A) → map seen xs ≡ v → i < length xs → x ≡ get_or xs i x
    → seen y ≡ next (Some (seen x)) → map seen (set xs i y) ≡ set v i (next (slice_get v i))
set_at seen next xs v i x y e l g s =
    map-set seen xs i y ∙ ap (set (map seen xs) i) (s ∙ ap next (sym (seen_at seen xs i x l g)))
    ∙ ap (λ w. set w i (next (slice_get w i))) e

pub new_at : {A B : Type 0} (seen : A → B) (xs : List A) (i : ℕ) (y : A) → i < length xs → slice_get (map seen (set xs i y)) i ≡ Some (seen y)
new_at seen [] i y l = absurd (omega arith)
new_at seen (a ∷ xs) zero y l = refl
new_at seen (a ∷ xs) (suc i) y l = new_at seen xs i y (omega arith)

-- a list that was written whole
pub take_whole : {A : Type 0} (n : ℕ) (xs zs : List A) → length xs ≡ n → take n (xs ++ zs) ≡ xs
take_whole zero [] zs e = refl
take_whole zero (x ∷ xs) zs e = absurd (omega arith)
take_whole (suc n) [] zs e = absurd (omega arith)
take_whole (suc n) (x ∷ xs) zs e = ap (λ ys. x ∷ ys) (take_whole n xs zs (omega arith))

pub map_twice : {A B C : Type 0} (f : B → C) (g : A → B) (xs : List A) → map f (map g xs) ≡ map (λ x. f (g x)) xs
map_twice f g [] = refl
map_twice f g (x ∷ xs) = ap (λ ys. f (g x) ∷ ys) (map_twice f g xs)

-- what a loop has not reached is as it was
done_same : {B : Type 0} (f : B → B) (i : ℕ) (old : List B) → slice_get (first_done f i old) i ≡ slice_get old i
done_same f zero old = refl
done_same f (suc i) [] = refl
done_same f (suc i) (b ∷ old) = done_same f i old

pub not_reached : {A B : Type 0} (seen : A → B) (f : B → B) (i : ℕ) (xs : List A) (old : List B) (x : A) → i < length xs → map seen xs ≡ first_done f i old → x ≡ get_or xs i x → slice_get old i ≡ Some (seen x)
not_reached seen f i xs old x l e g = sym (done_same f i old) ∙ ap (λ v. slice_get v i) (sym e) ∙ seen_at seen xs i x l g

pub on_err : {T E P : Type 0} (r : Result T E) → P → OnErr r P
on_err (Ok x) p = tt
on_err (Err e) p = p
