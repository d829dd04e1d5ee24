-- How many bytes an image or a frame takes: those of its samples, and more.
use Rattle.std.proofs.Common.{◌≡◌, ℕ, ◌+◌, ◌*◌, ◌≤◌, ◌<◌, ◌==◌, nat_le, nat_lt, Bool, true, false, not, cond, ◌&&◌, ◌||◌, List, [], ◌∷◌, length, take, drop, Option, Some, None, Ok, Err, refl, ap, subst, arith, length-drop}
use Rattle.std.specs.Prelude.{Result, option_and_then, option_map, nat_eq, codes}
use Rattle.std.specs.List.{starts_with}
use Rattle.std.proofs.lemmas.Bool.Decides.{nat_tests}
use Rattle.evm_cells.specs.Limits.{limit}
use Rattle.evm_formats.specs.declared.voxels.VoxelError.{VoxelError}
use Rattle.evm_formats.specs.declared.voxels.VoxelError.TheVariants.{Magic, Header, Shape, Range, Short}
use Rattle.evm_formats.specs.Images.{Taken, bytes_of, map_ok}
use Rattle.evm_text.specs.Numbers.{is_digit, digits_value}
use Rattle.evm_formats.specs.Header.{is_white, is_end, is_blank, begins, after_blank, digits, after_digits, spaced_number, Fields, ended, maxval_and_end, height_on, fields}
use Rattle.evm_formats.specs.Pgm.{Shot, shot, image_at, are_numbers, in_range, is_shape, is_wide, after_white, taken, later_image}
use Rattle.evm_formats.specs.Y4m.{cut_at, after_frame, planes_of, planes_at, frame_at}
use Rattle.evm_formats.proofs.Images.{TakesBytes}

-- ---- a header

length-blank : (inside : Bool) (bs : List ℕ) → length (after_blank inside bs) ≤ length bs
unfolding after_blank
length-blank inside [] = omega arith
length-blank true (b ∷ bs) = let h = length-blank (not (is_end b)) bs in omega arith
length-blank false (b ∷ bs) = at (is_white b) (b == 35) (length-blank false bs) (length-blank true bs)
  where
    at : (w h : Bool) → length (after_blank false bs) ≤ length bs → length (after_blank true bs) ≤ length bs
        → length (cond w (after_blank false bs) (cond h (after_blank true bs) (b ∷ bs))) ≤ length (b ∷ bs)
    at true h p q = omega arith
    at false true p q = omega arith
    at false false p q = omega arith

length-digits : (bs : List ℕ) → length (after_digits bs) ≤ length bs
unfolding after_digits
length-digits [] = omega arith
length-digits (b ∷ bs) = at (is_digit b) (length-digits bs)
  where
    at : (t : Bool) → length (after_digits bs) ≤ length bs → length (cond t (after_digits bs) (b ∷ bs)) ≤ length (b ∷ bs)
    at true p = omega arith
    at false p = omega arith

length-number : (bs : List ℕ) (r : ℕ × List ℕ) → spaced_number bs ≡ Some r → length r.1 ≤ length bs
unfolding spaced_number
length-number bs r e = at (begins is_blank bs && begins is_digit (after_blank false bs)) e
  where
    at : (t : Bool) → cond {A = Option (ℕ × List ℕ)} t (Some (digits_value (digits (after_blank false bs)), after_digits (after_blank false bs))) None ≡ Some r
        → length r.1 ≤ length bs
    at true e =
        let q : after_digits (after_blank false bs) ≡ r.1 = cc e in
        omega (arith, ap (λ (t : List ℕ). length t) q, length-digits (after_blank false bs), length-blank false bs)
    at false e = absurd (cc e)

length-ended : (w h m : ℕ) (bs : List ℕ) (f : Fields) → ended w h m bs ≡ Some f → length f.rest ≤ length bs
unfolding ended
length-ended w h m [] f e = absurd (cc e)
length-ended w h m (b ∷ bs) f e = at (is_white b) e
  where
    at : (t : Bool) → cond {A = Option Fields} t (Some (record { width = w; height = h; maxval = m; rest = bs })) None ≡ Some f → length f.rest ≤ length (b ∷ bs)
    at true e = let q : bs ≡ f.rest = cc e in omega (arith, ap (λ (t : List ℕ). length t) q)
    at false e = absurd (cc e)

-- a step that may fail, and what comes after it
pub then_some : {A B : Type 0} (k : A → Option B) (o : Option A) (b : B) → option_and_then k o ≡ Some b → (a : A) × (o ≡ Some a) × (k a ≡ Some b)
then_some k None b e = absurd (cc e)
then_some k (Some a) b e = (a, refl, e)

length-fields : (bs : List ℕ) (f : Fields) → fields bs ≡ Some f → length f.rest ≤ length bs
unfolding fields
length-fields bs f e =
    let (w, p, e1) = then_some (λ (w : ℕ × List ℕ). height_on w.0 w.1) (spaced_number bs) f e in
    let (h, q, e2) = then_some (λ (h : ℕ × List ℕ). maxval_and_end w.0 h.0 h.1) (spaced_number w.1) f e1 in
    let (m, r, e3) = then_some (λ (m : ℕ × List ℕ). ended w.0 h.0 m.0 m.1) (spaced_number h.1) f e2 in
    omega (arith, length-number bs w p, length-number w.1 h q, length-number h.1 m r, length-ended w.0 h.0 m.0 m.1 f e3)

-- ---- an image

at_least_one : (wide : Bool) (n : ℕ) → n ≤ bytes_of wide n
at_least_one true n = omega arith
at_least_one false n = omega arith

-- how many bytes an image with these fields takes
abbrev pub bytes_shot : Fields → ℕ
bytes_shot f = bytes_of (is_wide f.maxval) (f.height * f.width)

-- the image with these fields, and what follows it
abbrev pub found_shot : Fields → Shot
found_shot f =
    record { width = f.width; height = f.height; picture = record { bytes = take (bytes_shot f) f.rest; wide = is_wide f.maxval }; rest = drop (bytes_shot f) f.rest }

-- what holds of an image that is not refused
pub record IsShot (n z : ℕ) (size : Option (ℕ × ℕ)) (f : Fields) (s : Shot) : Type 0 where
  pub numbers : are_numbers f.width f.height f.maxval ≡ true
  pub range : in_range n z f.width f.height ≡ true
  pub shape : is_shape n size f.width f.height ≡ true
  pub room : bytes_shot f ≤ length f.rest
  pub is : found_shot f ≡ s

pub shot_parts : (n z : ℕ) (size : Option (ℕ × ℕ)) (f : Fields) (s : Shot) → shot n z size (Some f) ≡ Ok s → IsShot n z size f s
unfolding shot
shot_parts n z size f s e = at (are_numbers f.width f.height f.maxval) (in_range n z f.width f.height) (is_shape n size f.width f.height) (nat_le (bytes_shot f) (length f.rest)) refl refl refl refl e
  where
    at : (a b c d : Bool) → are_numbers f.width f.height f.maxval ≡ a → in_range n z f.width f.height ≡ b → is_shape n size f.width f.height ≡ c → nat_le (bytes_shot f) (length f.rest) ≡ d
        → cond {A = Result Shot VoxelError} a (cond {A = Result Shot VoxelError} b (cond {A = Result Shot VoxelError} c (cond {A = Result Shot VoxelError} d (Ok (found_shot f)) (Err Short)) (Err Shape)) (Err Range)) (Err Header) ≡ Ok s
        → IsShot n z size f s
    at false b c d p q r l e = absurd (cc e)
    at true false c d p q r l e = absurd (cc e)
    at true true false d p q r l e = absurd (cc e)
    at true true true false p q r l e = absurd (cc e)
    at true true true true p q r l e = record { numbers = p; range = q; shape = r; room = grind (arith, nat_tests); is = cc e }

-- and such an image is found
pub shot_made : (n z : ℕ) (size : Option (ℕ × ℕ)) (f : Fields) → are_numbers f.width f.height f.maxval ≡ true → in_range n z f.width f.height ≡ true → is_shape n size f.width f.height ≡ true
    → bytes_shot f ≤ length f.rest → shot n z size (Some f) ≡ Ok (found_shot f)
unfolding shot
shot_made n z size f p q r l =
    let fits : nat_le (bytes_shot f) (length f.rest) ≡ true = grind (arith, nat_tests) in
    rw (p, q, r, fits) refl

length-shot : (n z : ℕ) (size : Option (ℕ × ℕ)) (f : Fields) (s : Shot) → shot n z size (Some f) ≡ Ok s → s.height * s.width + length s.rest ≤ length f.rest
length-shot n z size f s e =
    let parts = shot_parts n z size f s e in
    subst (λ (t : Shot). t.height * t.width + length t.rest ≤ length f.rest) parts.is
    (omega (arith, parts.room, at_least_one (is_wide f.maxval) (f.height * f.width), length-drop (bytes_shot f) f.rest))

length-some : (n z : ℕ) (size : Option (ℕ × ℕ)) (bs : List ℕ) (o : Option Fields) (s : Shot) → fields bs ≡ o → shot n z size o ≡ Ok s → s.height * s.width + length s.rest ≤ length bs
unfolding shot
length-some n z size bs None s p e = absurd (cc e)
length-some n z size bs (Some f) s p e = omega (arith, length-fields bs f p, length-shot n z size f s e)

-- an image takes the bytes of its samples, and more
pub image_takes : (n z : ℕ) (size : Option (ℕ × ℕ)) (bs : List ℕ) (s : Shot) → image_at n z size bs ≡ Ok s → s.height * s.width + length s.rest < length bs
unfolding image_at
image_takes n z size [] s e = absurd (cc e)
image_takes n z size (b ∷ []) s e = absurd (cc e)
image_takes n z size (b ∷ c ∷ bs) s e = at ((b == 80) && (c == 53)) e
  where
    at : (t : Bool) → cond {A = Result Shot VoxelError} t (shot n z size (fields bs)) (Err Magic) ≡ Ok s → s.height * s.width + length s.rest < length (b ∷ c ∷ bs)
    at true e = omega (arith, length-some n z size bs (fields bs) s refl e)
    at false e = absurd (cc e)

pub length-white : (bs : List ℕ) → length (after_white bs) ≤ length bs
unfolding after_white
length-white [] = omega arith
length-white (b ∷ bs) = at (is_white b) (length-white bs)
  where
    at : (t : Bool) → length (after_white bs) ≤ length bs → length (cond t (after_white bs) (b ∷ bs)) ≤ length (b ∷ bs)
    at true p = omega arith
    at false p = omega arith

-- a value under an Ok
pub ok_found : {A B E : Type 0} (f : A → B) (r : Result A E) (b : B) → map_ok f r ≡ Ok b → (a : A) × (r ≡ Ok a) × (f a ≡ b)
ok_found f (Ok a) b e = (a, refl, cc e)
ok_found f (Err x) b e = absurd (cc e)

pub later-takes : (n : ℕ) (size : ℕ × ℕ) → TakesBytes (later_image n size)
later-takes n size z bs t e =
    let (s, p, q) = ok_found taken (image_at n z (Some size) bs) t e in
    let l : length (after_white s.rest) ≤ length s.rest = length-white s.rest in
    let r : after_white s.rest ≡ t.rest = ap (λ (u : Taken). u.rest) q in
    omega (arith, image_takes n z (Some size) bs s p, ap (λ (u : List ℕ). length u) r)

-- ---- a frame

length-cut : (stop : ℕ) (bs : List ℕ) (r : List ℕ × List ℕ) → cut_at stop bs ≡ Some r → length r.1 < length bs
unfolding cut_at
length-cut stop [] r e = absurd (cc e)
length-cut stop (b ∷ bs) r e = at (b == stop) (cut_at stop bs) (λ q. length-cut stop bs q) e
  where
    second : Option (List ℕ × List ℕ) → List ℕ
    second None = []
    second (Some p) = p.1

    at : (t : Bool) (o : Option (List ℕ × List ℕ)) → ((q : List ℕ × List ℕ) → o ≡ Some q → length q.1 < length bs)
        → cond {A = Option (List ℕ × List ℕ)} t (Some ([], bs)) (option_map (λ (r : List ℕ × List ℕ). (b ∷ r.0, r.1)) o) ≡ Some r → length r.1 < length (b ∷ bs)
    at true o h e = let q : bs ≡ r.1 = ap second e in omega (arith, ap (λ (t : List ℕ). length t) q)
    at false None h e = absurd (cc e)
    at false (Some p) h e = let q : p.1 ≡ r.1 = ap second e in omega (arith, ap (λ (t : List ℕ). length t) q, h p refl)

length-line : (bs rest : List ℕ) → option_map (λ (r : List ℕ × List ℕ). r.1) (cut_at 10 bs) ≡ Some rest → length rest ≤ length bs
length-line bs rest e = at (cut_at 10 bs) refl e
  where
    at : (o : Option (List ℕ × List ℕ)) → cut_at 10 bs ≡ o → option_map (λ (r : List ℕ × List ℕ). r.1) o ≡ Some rest → length rest ≤ length bs
    at None p e = absurd (cc e)
    at (Some r) p e = let q : r.1 ≡ rest = cc e in omega (arith, ap (λ (t : List ℕ). length t) q, length-cut 10 bs r p)

length-after : (bs rest : List ℕ) → after_frame bs ≡ Some rest → length rest < length bs
length-after [] rest e = absurd (cc e)
length-after (b ∷ bs) rest e = at (b == 10) (b == 32) e
  where
    at : (s t : Bool) → cond s (Some bs) (cond t (option_map (λ (r : List ℕ × List ℕ). r.1) (cut_at 10 bs)) None) ≡ Some rest → length rest < length (b ∷ bs)
    at true t e = let q : bs ≡ rest = cc e in omega (arith, ap (λ (t : List ℕ). length t) q)
    at false true e = omega (arith, length-line bs rest e)
    at false false e = absurd (cc e)

length-planes_at : (n z w h extra : ℕ) (bs : List ℕ) (t : Taken) → planes_at n z w h extra (Some bs) ≡ Ok t → h * w + length t.rest ≤ length bs
unfolding planes_at
length-planes_at n z w h extra bs t e = at (nat_lt z (limit n)) ((n == 3) || (z == 0)) (nat_le (h * w + extra) (length bs)) refl e
  where
    found : Taken
    found = record { picture = record { bytes = take (h * w) bs; wide = false }; rest = drop (h * w + extra) bs }

    at : (a b c : Bool) → nat_le (h * w + extra) (length bs) ≡ c
        → cond {A = Result Taken VoxelError} a (cond {A = Result Taken VoxelError} b (cond {A = Result Taken VoxelError} c (Ok found) (Err Short)) (Err Shape)) (Err Range) ≡ Ok t → h * w + length t.rest ≤ length bs
    at false b c p e = absurd (cc e)
    at true false c p e = absurd (cc e)
    at true true false p e = absurd (cc e)
    at true true true p e =
        let l : h * w + extra ≤ length bs = grind (arith, nat_tests) in
        let same : found ≡ t = cc e in
        subst (λ (u : Taken). h * w + length u.rest ≤ length bs) same (omega (arith, length-drop (h * w + extra) bs))

length-planes : (n z w h extra : ℕ) (bs : List ℕ) (o : Option (List ℕ)) (t : Taken) → ((rest : List ℕ) → o ≡ Some rest → length rest < length bs)
    → planes_at n z w h extra o ≡ Ok t → h * w + length t.rest < length bs
unfolding planes_at
length-planes n z w h extra bs None t p e = absurd (cc e)
length-planes n z w h extra bs (Some rest) t p e = omega (arith, p rest refl, length-planes_at n z w h extra rest t e)

length-word : (bs rest : List ℕ) → planes_of bs ≡ Some rest → length rest < length bs
length-word bs rest e = at (starts_with nat_eq bs (codes "FRAME")) e
  where
    at : (t : Bool) → cond t (after_frame (drop 5 bs)) None ≡ Some rest → length rest < length bs
    at true e = omega (arith, length-after (drop 5 bs) rest e, length-drop 5 bs)
    at false e = absurd (cc e)

-- a frame takes the bytes of its luma, and more
pub frame_takes : (n z w h extra : ℕ) (bs : List ℕ) (t : Taken) → frame_at n z w h extra bs ≡ Ok t → h * w + length t.rest < length bs
unfolding frame_at
frame_takes n z w h extra bs t e = length-planes n z w h extra bs (planes_of bs) t (λ rest p. length-word bs rest p) e

pub frames-take : (n w h extra : ℕ) → TakesBytes (λ z bs. frame_at n z w h extra bs)
frames-take n w h extra z bs t e = omega (arith, frame_takes n z w h extra bs t e)
