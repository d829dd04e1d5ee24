-- No PGM file is refused for a sampling.
use Rattle.std.proofs.Common.{◌≡◌, ℕ, zero, suc, ◌+◌, ◌*◌, nat_le, Bool, true, false, cond, List, [], ◌∷◌, length, drop, Option, None, Some, Ok, Err, ap}
use Rattle.std.specs.Prelude.{Result}
use Rattle.evm_formats.specs.declared.voxels.VoxelError.{VoxelError}
use Rattle.evm_formats.specs.declared.voxels.VoxelError.TheVariants.{Magic, Header, Shape, Range, Short, Kind}
use Rattle.evm_formats.specs.Images.{Picture, Taken, Takes, bytes_of, cells_of_images, map_ok, then_ok, images_within, all_images}
use Rattle.evm_formats.specs.Header.{Fields, fields}
use Rattle.evm_formats.specs.Pgm.{Shot, shot, image_at, is_magic, are_numbers, in_range, is_shape, is_wide, taken, later_image, images_from, after_white, shot_cells, pgm_cells}

no_kind_shot : (n z : ℕ) (size : Option (ℕ × ℕ)) (o : Option Fields) → shot n z size o ≡ Err Kind → ⊥
unfolding shot
no_kind_shot n z size None e = cc e
no_kind_shot n z size (Some f) e =
    at (are_numbers f.width f.height f.maxval) (in_range n z f.width f.height) (is_shape n size f.width f.height) (nat_le (bytes_of (is_wide f.maxval) (f.height * f.width)) (length f.rest)) _ e
  where
    at : (a b c d : Bool) (found : Shot) → cond {A = Result Shot VoxelError} a (cond {A = Result Shot VoxelError} b (cond {A = Result Shot VoxelError} c (cond {A = Result Shot VoxelError} d (Ok found) (Err Short)) (Err Shape)) (Err Range)) (Err Header) ≡ Err Kind → ⊥
    at false b c d found e = cc e
    at true false c d found e = cc e
    at true true false d found e = cc e
    at true true true false found e = cc e
    at true true true true found e = cc e

no_kind_image : (n z : ℕ) (size : Option (ℕ × ℕ)) (bs : List ℕ) → image_at n z size bs ≡ Err Kind → ⊥
unfolding image_at
no_kind_image n z size bs e = at (is_magic bs) e
  where
    at : (t : Bool) → cond {A = Result Shot VoxelError} t (shot n z size (fields (drop 2 bs))) (Err Magic) ≡ Err Kind → ⊥
    at true e = no_kind_shot n z size (fields (drop 2 bs)) e
    at false e = cc e

map_kind : {A B : Type 0} (f : A → B) (r : Result A VoxelError) → (r ≡ Err Kind → ⊥) → map_ok f r ≡ Err Kind → ⊥
map_kind f (Ok a) h e = cc e
map_kind f (Err x) h e = h (let q : x ≡ Kind = cc e in ap (λ (y : VoxelError). Err y) q)

then_kind : {A B : Type 0} (r : Result A VoxelError) (f : A → Result B VoxelError) → (r ≡ Err Kind → ⊥) → ((a : A) → f a ≡ Err Kind → ⊥) → then_ok r f ≡ Err Kind → ⊥
then_kind (Ok a) f h k e = k a e
then_kind (Err x) f h k e = h (let q : x ≡ Kind = cc e in ap (λ (y : VoxelError). Err y) q)

within_kind : (take_image : Takes) → ((z : ℕ) (bs : List ℕ) → take_image z bs ≡ Err Kind → ⊥) → (m z : ℕ) (bs : List ℕ) → images_within take_image m z bs ≡ Err Kind → ⊥
unfolding images_within
within_kind take_image h zero z [] e = cc e
within_kind take_image h (suc m) z [] e = cc e
within_kind take_image h zero z (b ∷ bs) e = cc e
within_kind take_image h (suc m) z (b ∷ bs) e =
    then_kind (take_image z (b ∷ bs)) (λ (t : Taken). map_ok (λ (ps : List Picture). t.picture ∷ ps) (images_within take_image m (z + 1) t.rest)) (h z (b ∷ bs))
    (λ t. map_kind (λ (ps : List Picture). t.picture ∷ ps) (images_within take_image m (z + 1) t.rest) (within_kind take_image h m (z + 1) t.rest)) e

pub no_kind : (n threshold : ℕ) (bs : List ℕ) → pgm_cells n threshold bs ≡ Err Kind → ⊥
unfolding pgm_cells images_from
no_kind n threshold bs =
    then_kind (image_at n 0 None bs) (shot_cells n threshold) (no_kind_image n 0 None bs)
    (λ s. map_kind (cells_of_images n threshold s.width s.height) (images_from n s)
    (map_kind (λ (ps : List Picture). s.picture ∷ ps) (all_images (later_image n (s.width, s.height)) 1 (after_white s.rest))
    (within_kind (later_image n (s.width, s.height)) (λ z bs. map_kind taken (image_at n z (Some (s.width, s.height)) bs) (no_kind_image n z (Some (s.width, s.height)) bs)) (length (after_white s.rest)) 1 (after_white s.rest))))
