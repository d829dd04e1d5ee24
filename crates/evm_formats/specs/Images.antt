-- Images of files: their samples, the cells that these fill, and images one after another.
use Rattle.std.specs.Prelude.{ℕ, zero, suc, ◌+◌, ◌*◌, nat_le, Bool, true, false, cond, ◌&&◌, List, [], ◌∷◌, map, length, ℤ, pos, negsuc, int_le, int_lt, slice_index, get_or, Result, Ok, Err}
use Rattle.evm_cells.specs.Limits.{cells_where}
use Rattle.evm_formats.specs.declared.voxels.VoxelError.{VoxelError}

-- ---- samples

-- one image: the bytes of its samples, and whether a sample has two bytes
pub record Picture : Type 0 where
  pub bytes : List ℕ
  pub wide : Bool

-- the number of bytes of n samples
abbrev pub bytes_of : Bool → ℕ → ℕ
bytes_of wide n = cond wide (2 * n) n

-- sample number i of an image, of one byte or, the most significant byte first, of two
unfoldable pub sample : Picture → ℕ → ℕ
sample p i = cond p.wide (256 * slice_index p.bytes (2 * i) + slice_index p.bytes (2 * i + 1)) (slice_index p.bytes i)

-- no image, for a number past the last
abbrev pub no_picture : Picture
no_picture = record { bytes = []; wide = false }

-- the sample in column x and row y of image z is at least the threshold: rows from the top, each from left to right, all
-- counted from 0
unfoldable pub at_least : ℕ → ℕ → List Picture → ℕ → ℕ → ℕ → Bool
at_least threshold width images x y z = nat_le threshold (sample (get_or images z no_picture) (y * width + x))

-- ---- cells

-- a coordinate from 0 on, as a number
abbrev pub nat_of : ℤ → ℕ
nat_of (pos n) = n
nat_of (negsuc n) = 0

-- the place has one coordinate for each size, from 0 up to, but not at, the size
unfoldable pub in_sizes : List ℕ → List ℤ → Bool
in_sizes [] [] = true
in_sizes [] (x ∷ c) = false
in_sizes (m ∷ ms) [] = false
in_sizes (m ∷ ms) (x ∷ c) = (int_le (pos 0) x && int_lt x (pos m)) && in_sizes ms c

-- a test of places within the sizes, as a test of all places: none off the sizes passes
unfoldable pub within : List ℕ → (List ℕ → Bool) → List ℤ → Bool
within ms test c = in_sizes ms c && test (map nat_of c)

-- the test of a place (x, y, z), and of a place (x, y) in the first image
abbrev pub of_three : (ℕ → ℕ → ℕ → Bool) → List ℕ → Bool
of_three test c = test (get_or c 0 0) (get_or c 1 0) (get_or c 2 0)

abbrev pub of_two : (ℕ → ℕ → ℕ → Bool) → List ℕ → Bool
of_two test c = test (get_or c 0 0) (get_or c 1 0) 0

-- whether the place (x, y) is filled: its sample in the first image is at least the threshold (this project's own)
unfoldable pub in_image : ℕ → ℕ → ℕ → List Picture → List ℤ → Bool
in_image threshold width height images = within (width ∷ height ∷ []) (of_two (at_least threshold width images))

-- whether the place (x, y, z) is filled: its sample in image z is (this project's own)
unfoldable pub in_stack : ℕ → ℕ → ℕ → List Picture → List ℤ → Bool
in_stack threshold width height images = within (width ∷ height ∷ length images ∷ []) (of_three (at_least threshold width images))

-- the cells of images in dimension 2, where the first counts, or in dimension 3, where they lie one above the other
abbrev pub cells_of_images : ℕ → ℕ → ℕ → ℕ → List Picture → List (List ℤ)
cells_of_images n threshold width height images =
    cond (nat_le n 2) (cells_where 2 (in_image threshold width height images)) (cells_where 3 (in_stack threshold width height images))

-- ---- images one after another

-- the value under an Ok
abbrev pub map_ok : {A B E : Type 0} → (A → B) → Result A E → Result B E
map_ok f (Ok a) = Ok (f a)
map_ok f (Err e) = Err e

-- what comes after a value, unless it is a refusal
abbrev pub then_ok : {A B E : Type 0} → Result A E → (A → Result B E) → Result B E
then_ok (Ok a) later = later a
then_ok (Err e) later = Err e

-- an image at the front of bytes, and the bytes after it
pub record Taken : Type 0 where
  pub picture : Picture
  pub rest : List ℕ

-- what bytes have at their front as image number z, or why it is none
abbrev pub Takes : Type 0
Takes = ℕ → List ℕ → Result Taken VoxelError

-- images one after another, from number z on, to the end of the bytes; `most` of them at most
unfoldable pub images_within : Takes → ℕ → ℕ → List ℕ → Result (List Picture) VoxelError
images_within take_image most z [] = Ok []
images_within take_image zero z (b ∷ bs) = Ok []
images_within take_image (suc most) z (b ∷ bs) =
    then_ok (take_image z (b ∷ bs)) (λ t. map_ok (λ ps. t.picture ∷ ps) (images_within take_image most (z + 1) t.rest))

-- all images in bytes, from number z on: each has a byte at least, so that there are no more than bytes
abbrev pub all_images : Takes → ℕ → List ℕ → Result (List Picture) VoxelError
all_images take_image z bs = images_within take_image (length bs) z bs
