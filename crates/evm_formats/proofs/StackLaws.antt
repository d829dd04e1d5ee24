-- Stacks of images of one size, one behind the other.
use Rattle.std.proofs.Common.{◌≡◌, ℕ, ◌+◌, ◌≤◌, ◌<◌, ◌==◌, nat_le, nat_lt, Bool, true, false, cond, ◌&&◌, List, [], ◌∷◌, ◌++◌, length, drop, Option, Some, None, Ok, Err, refl, sym, ap, ap₂, ◌∙◌, arith, length-append}
use Rattle.std.specs.Prelude.{Result}
use Rattle.std.proofs.lemmas.Bool.Decides.{nat_tests}
use Rattle.std.proofs.lemmas.List.{take-append-le, drop-append-le}
use Rattle.evm_cells.specs.Limits.{limit}
use Rattle.evm_cells.proofs.Xor.{and_first, and_both}
use Rattle.evm_formats.specs.declared.voxels.VoxelError.{VoxelError}
use Rattle.evm_formats.specs.declared.voxels.VoxelError.TheVariants.{Magic}
use Rattle.evm_formats.specs.Images.{Picture, Taken, map_ok, then_ok, all_images, cells_of_images}
use Rattle.evm_formats.specs.Header.{is_white, begins, Fields, fields}
use Rattle.evm_formats.specs.Pgm.{Shot, shot, image_at, is_magic, in_range, is_shape, is_wide, after_white, taken, later_image, images_from, shot_cells, pgm_cells}
use Rattle.evm_formats.specs.VoxelLaws.{IsStackOf, StacksJoin, StackCells}
use Rattle.evm_formats.proofs.Images.{all-next}
use Rattle.evm_formats.proofs.Lengths.{ok_found, image_takes, later-takes, bytes_shot, shot_parts, shot_made}
use Rattle.evm_formats.proofs.Joins.{Extends, Renumbers, all-join, all-renumber, fields-append}

-- ---- an image, and what is appended

abbrev longer : Shot → List ℕ → Shot
longer s ys = record s { rest = s.rest ++ ys }

shot-append : (n z : ℕ) (size : Option (ℕ × ℕ)) (f : Fields) (ys : List ℕ) (s : Shot) → shot n z size (Some f) ≡ Ok s → shot n z size (Some (record f { rest = f.rest ++ ys })) ≡ Ok (longer s ys)
shot-append n z size f ys s e =
    let parts = shot_parts n z size f s e in
    let room : bytes_shot f ≤ length f.rest = parts.room in
    shot_made n z size (record f { rest = f.rest ++ ys }) parts.numbers parts.range parts.shape (omega (arith, length-append f.rest ys))
    ∙ ap₂ (λ (u v : List ℕ). Ok (record { width = f.width; height = f.height; picture = record { bytes = u; wide = is_wide f.maxval }; rest = v }))
    (take-append-le (bytes_shot f) f.rest ys room) (drop-append-le (bytes_shot f) f.rest ys room)
    ∙ ap (λ (t : Shot). Ok (longer t ys)) parts.is

no_fields : (n z : ℕ) (size : Option (ℕ × ℕ)) (s : Shot) → shot n z size None ≡ Ok s → ⊥
unfolding shot
no_fields n z size s e = cc e

image-append : (n z : ℕ) (size : Option (ℕ × ℕ)) (bs ys : List ℕ) (s : Shot) → image_at n z size bs ≡ Ok s → image_at n z size (bs ++ ys) ≡ Ok (longer s ys)
unfolding image_at
image-append n z size [] ys s e = absurd (cc e)
image-append n z size (b ∷ []) ys s e = absurd (cc e)
image-append n z size (b ∷ c ∷ bs) ys s e = at ((b == 80) && (c == 53)) (fields bs) refl e
  where
    at : (t : Bool) (o : Option Fields) → fields bs ≡ o → cond {A = Result Shot VoxelError} t (shot n z size o) (Err Magic) ≡ Ok s
        → cond {A = Result Shot VoxelError} t (shot n z size (fields (bs ++ ys))) (Err Magic) ≡ Ok (longer s ys)
    at false o p e = absurd (cc e)
    at true None p e = absurd (no_fields n z size s e)
    at true (Some f) p e = ap (shot n z size) (fields-append bs ys f p) ∙ shot-append n z size f ys s e

white-append : (bs ys : List ℕ) → begins is_white ys ≡ false → after_white (bs ++ ys) ≡ after_white bs ++ ys
unfolding after_white
white-append [] [] e = refl
white-append [] (y ∷ ys) e = ap (λ t. cond t (after_white ys) (y ∷ ys)) e
white-append (b ∷ bs) ys e = at (is_white b) (white-append bs ys e)
  where
    at : (t : Bool) → after_white (bs ++ ys) ≡ after_white bs ++ ys → cond t (after_white (bs ++ ys)) (b ∷ (bs ++ ys)) ≡ cond t (after_white bs) (b ∷ bs) ++ ys
    at true p = p
    at false p = refl

later-extends : (n : ℕ) (size : ℕ × ℕ) (ys : List ℕ) → begins is_white ys ≡ false → Extends (later_image n size) ys
later-extends n size ys dark z xs t e =
    let (s, p, q) = ok_found taken (image_at n z (Some size) xs) t e in
    ap (map_ok taken) (image-append n z (Some size) xs ys s p)
    ∙ ap (λ (r : List ℕ). Ok (record { picture = s.picture; rest = r })) (white-append s.rest ys dark)
    ∙ ap (λ (u : Taken). Ok (record { picture = u.picture; rest = u.rest ++ ys })) q

-- an image is no white space
image_dark : (n z : ℕ) (size : Option (ℕ × ℕ)) (bs : List ℕ) (s : Shot) → image_at n z size bs ≡ Ok s → begins is_white bs ≡ false
unfolding image_at
image_dark n z size [] s e = refl
image_dark n z size (b ∷ []) s e = absurd (cc e)
image_dark n z size (b ∷ c ∷ bs) s e = at ((b == 80) && (c == 53)) refl e
  where
    letter : (b : ℕ) → (b == 80) ≡ true → is_white b ≡ false
    letter b e = grind (arith, nat_tests)

    at : (t : Bool) → ((b == 80) && (c == 53)) ≡ t → cond {A = Result Shot VoxelError} t (shot n z size (fields bs)) (Err Magic) ≡ Ok s → is_white b ≡ false
    at false p e = absurd (cc e)
    at true p e = letter b (and_first (b == 80) (c == 53) p)

-- ---- an image under another number

shot_again : (n z y : ℕ) (size again : Option (ℕ × ℕ)) (o : Option Fields) (s : Shot) → shot n z size o ≡ Ok s
    → ((in_range n z s.width s.height ≡ true) × (is_shape n size s.width s.height ≡ true))
    × (in_range n y s.width s.height ≡ true → is_shape n again s.width s.height ≡ true → shot n y again o ≡ Ok s)
shot_again n z y size again None s e = absurd (no_fields n z size s e)
shot_again n z y size again (Some f) s e =
    let parts = shot_parts n z size f s e in
    let w : f.width ≡ s.width = ap (λ (t : Shot). t.width) parts.is in
    let h : f.height ≡ s.height = ap (λ (t : Shot). t.height) parts.is in (
      (sym (ap₂ (in_range n z) w h) ∙ parts.range, sym (ap₂ (is_shape n size) w h) ∙ parts.shape),
      λ r k. shot_made n y again f parts.numbers (ap₂ (in_range n y) w h ∙ r) (ap₂ (is_shape n again) w h ∙ k) parts.room ∙ ap (λ (t : Shot). Ok t) parts.is,
    )

image_again : (n z y : ℕ) (size again : Option (ℕ × ℕ)) (bs : List ℕ) (s : Shot) → image_at n z size bs ≡ Ok s
    → ((in_range n z s.width s.height ≡ true) × (is_shape n size s.width s.height ≡ true))
    × (in_range n y s.width s.height ≡ true → is_shape n again s.width s.height ≡ true → image_at n y again bs ≡ Ok s)
unfolding image_at
image_again n z y size again bs s e = at (is_magic bs) e
  where
    at : (t : Bool) → cond {A = Result Shot VoxelError} t (shot n z size (fields (drop 2 bs))) (Err Magic) ≡ Ok s
        → ((in_range n z s.width s.height ≡ true) × (is_shape n size s.width s.height ≡ true))
        × (in_range n y s.width s.height ≡ true → is_shape n again s.width s.height ≡ true → cond {A = Result Shot VoxelError} t (shot n y again (fields (drop 2 bs))) (Err Magic) ≡ Ok s)
    at true e = shot_again n z y size again (fields (drop 2 bs)) s e
    at false e = absurd (cc e)

in_range_as : (n z y w h : ℕ) → in_range n z w h ≡ true → y < limit n → in_range n y w h ≡ true
in_range_as n z y w h e l =
    let sizes = and_first (nat_le w (limit n) && nat_le h (limit n)) (nat_lt z (limit n)) e in
    let few : nat_lt y (limit n) ≡ true = grind (arith, nat_tests) in
    and_both (nat_le w (limit n) && nat_le h (limit n)) (nat_lt y (limit n)) sizes few

later-renumbers : (n : ℕ) (size : ℕ × ℕ) (k : ℕ) → Renumbers (later_image n size) k (limit n)
later-renumbers n size k z xs t l e =
    let (s, p, q) = ok_found taken (image_at n z (Some size) xs) t e in
    let (known, again) = image_again n z (z + k) (Some size) (Some size) xs s p in
    ap (map_ok taken) (again (in_range_as n z (z + k) s.width s.height known.0 l) known.1) ∙ ap (λ (u : Taken). Ok u) q

-- ---- the laws

image_some : (n z : ℕ) (size : Option (ℕ × ℕ)) (bs : List ℕ) (s : Shot) → image_at n z size bs ≡ Ok s → 0 < length bs
image_some n z size bs s e = omega (arith, image_takes n z size bs s e)

own_shape : (w h : ℕ) → is_shape 3 (Some (w, h)) w h ≡ true
own_shape w h = let a : (w == w) ≡ true = grind (arith, nat_tests) in let b : (h == h) ≡ true = grind (arith, nat_tests) in ap₂ (λ s t. s && t) a b

-- the second stack as images behind the first
second_behind : (bs : List ℕ) (w h k : ℕ) (qs : List Picture) → IsStackOf bs w h qs → 1 ≤ k → k + length qs ≤ limit 3 → all_images (later_image 3 (w, h)) k bs ≡ Ok qs
unfolding images_from
second_behind bs w h k qs b o l =
    let (others, p, q) = ok_found (λ (ps : List Picture). b.first.picture ∷ ps) (all_images (later_image 3 (b.first.width, b.first.height)) 1 (after_white b.first.rest)) qs b.goes_on in
    let count : 1 + length others ≡ length qs = omega (arith, ap length q) in
    let (known, again) = image_again 3 0 k None (Some (b.first.width, b.first.height)) bs b.first b.begins in
    let here : image_at 3 k (Some (b.first.width, b.first.height)) bs ≡ Ok b.first =
    again (in_range_as 3 0 k b.first.width b.first.height known.0 (omega arith)) (own_shape b.first.width b.first.height) in
    let later : all_images (later_image 3 (b.first.width, b.first.height)) (1 + k) (after_white b.first.rest) ≡ Ok others =
    all-renumber (later_image 3 (b.first.width, b.first.height)) (later-takes 3 (b.first.width, b.first.height)) k (limit 3) (later-renumbers 3 (b.first.width, b.first.height) k) 1 (after_white b.first.rest) others (omega arith) p in
    sym (ap₂ (λ (i j : ℕ). all_images (later_image 3 (i, j)) k bs) b.width b.height)
    ∙ all-next (later_image 3 (b.first.width, b.first.height)) (later-takes 3 (b.first.width, b.first.height)) k bs (taken b.first) (image_some 3 k (Some (b.first.width, b.first.height)) bs b.first here)
    (ap (map_ok taken) here)
    ∙ ap (λ (j : ℕ). map_ok (λ (ps : List Picture). b.first.picture ∷ ps) (all_images (later_image 3 (b.first.width, b.first.height)) j (after_white b.first.rest))) (let c : k + 1 ≡ 1 + k = omega arith in c)
    ∙ ap (map_ok (λ (ps : List Picture). b.first.picture ∷ ps)) later
    ∙ ap (λ (ps : List Picture). Ok ps) q

pub stacks_join : StacksJoin
unfolding images_from
stacks_join front back w h ps qs a b l =
    let dark : begins is_white back ≡ false = image_dark 3 0 None back b.first b.begins in
    let (others, p, q) = ok_found (λ (ps : List Picture). a.first.picture ∷ ps) (all_images (later_image 3 (a.first.width, a.first.height)) 1 (after_white a.first.rest)) ps a.goes_on in
    let count : 1 + length others ≡ length ps = omega (arith, ap length q) in
    let behind : all_images (later_image 3 (a.first.width, a.first.height)) (1 + length others) back ≡ Ok qs =
    ap₂ (λ (i j : ℕ). all_images (later_image 3 (i, j)) (1 + length others) back) a.width a.height ∙ second_behind back w h (1 + length others) qs b (omega arith) (omega arith) in
    record {
      first = longer a.first back;
      begins = image-append 3 0 None front back a.first a.begins;
      goes_on = ap (λ (r : List ℕ). map_ok (λ (ps : List Picture). a.first.picture ∷ ps) (all_images (later_image 3 (a.first.width, a.first.height)) 1 r)) (white-append a.first.rest back dark)
          ∙ ap (map_ok (λ (ps : List Picture). a.first.picture ∷ ps))
          (all-join (later_image 3 (a.first.width, a.first.height)) (later-takes 3 (a.first.width, a.first.height)) back (later-extends 3 (a.first.width, a.first.height) back dark) 1 (after_white a.first.rest) others qs p behind)
          ∙ ap (λ (ps : List Picture). Ok (ps ++ qs)) q;
      width = a.width;
      height = a.height;
    }

pub stack_cells : StackCells
unfolding pgm_cells
stack_cells threshold bs w h ps s =
    ap (λ r. then_ok r (shot_cells 3 threshold)) s.begins ∙ ap (map_ok (cells_of_images 3 threshold s.first.width s.first.height)) s.goes_on
    ∙ ap₂ (λ (i j : ℕ). Ok (cells_of_images 3 threshold i j ps)) s.width s.height
