-- What the bytes of a PGM stack state: images one after another, or the first refusal (this project's own profile).
use Rattle.std.specs.Prelude.{ℕ, ◌*◌, ◌==◌, nat_le, nat_lt, Bool, true, false, cond, ◌&&◌, List, [], ◌∷◌, length, take, drop, ℤ, Option, Some, None, Result, Ok, Err}
use Rattle.evm_cells.specs.Limits.{limit}
use Rattle.evm_formats.specs.Images.{Picture, bytes_of, cells_of_images, map_ok, then_ok, Taken, all_images}
use Rattle.evm_formats.specs.declared.voxels.VoxelError.{VoxelError}
use Rattle.evm_formats.specs.declared.voxels.VoxelError.TheVariants.{Magic, Header, Shape, Range, Short}
use Rattle.evm_formats.specs.Header.{is_white, Fields, fields}

-- an image of a file, and the bytes after its last sample
pub record Shot : Type 0 where
  pub width : ℕ
  pub height : ℕ
  pub picture : Picture
  pub rest : List ℕ

-- the first two bytes are P5
abbrev pub is_magic : List ℕ → Bool
is_magic [] = false
is_magic (a ∷ []) = false
is_magic (a ∷ b ∷ bs) = (a == 80) && (b == 53)

-- width and height are not 0, and the maxval is 1 to 65535
abbrev pub are_numbers : ℕ → ℕ → ℕ → Bool
are_numbers width height maxval = (nat_le 1 width && nat_le 1 height) && (nat_le 1 maxval && nat_le maxval 65535)

-- width, height and the number z of the image are within the limit of dimension n
abbrev pub in_range : ℕ → ℕ → ℕ → ℕ → Bool
in_range n z width height = (nat_le width (limit n) && nat_le height (limit n)) && nat_lt z (limit n)

-- a second image comes in dimension 3 only, and is of one size with the first
abbrev pub is_shape : ℕ → Option (ℕ × ℕ) → ℕ → ℕ → Bool
is_shape n None width height = true
is_shape n (Some size) width height = (n == 3) && ((size.0 == width) && (size.1 == height))

-- samples have two bytes where the maxval is above 255
abbrev pub is_wide : ℕ → Bool
is_wide maxval = nat_le 256 maxval

-- image number z of a stack of dimension n, whose first image has this size, if there is one before: its samples are the
-- next bytes, or the first refusal comes, in the order Header, Range, Shape, Short
unfoldable pub shot : ℕ → ℕ → Option (ℕ × ℕ) → Option Fields → Result Shot VoxelError
shot n z size None = Err Header
shot n z size (Some f) =
    let bytes = bytes_of (is_wide f.maxval) (f.height * f.width) in
    cond (are_numbers f.width f.height f.maxval)
    (cond (in_range n z f.width f.height)
    (cond (is_shape n size f.width f.height)
    (cond (nat_le bytes (length f.rest))
    (Ok (record {
      width = f.width;
      height = f.height;
      picture = record { bytes = take bytes f.rest; wide = is_wide f.maxval };
      rest = drop bytes f.rest;
    }))
    (Err Short))
    (Err Shape))
    (Err Range))
    (Err Header)

-- image number z, from its magic on
unfoldable pub image_at : ℕ → ℕ → Option (ℕ × ℕ) → List ℕ → Result Shot VoxelError
image_at n z size bs = cond (is_magic bs) (shot n z size (fields (drop 2 bs))) (Err Magic)

-- what follows the white space at the front
unfoldable pub after_white : List ℕ → List ℕ
after_white [] = []
after_white (b ∷ bs) = cond (is_white b) (after_white bs) (b ∷ bs)

abbrev pub taken : Shot → Taken
taken s = record { picture = s.picture; rest = after_white s.rest }

-- image number z after one of this size, and what follows it and its white space
abbrev pub later_image : ℕ → ℕ × ℕ → ℕ → List ℕ → Result Taken VoxelError
later_image n size z bs = map_ok taken (image_at n z (Some size) bs)

-- the images of a file of dimension n, of which this is the first
unfoldable pub images_from : ℕ → Shot → Result (List Picture) VoxelError
images_from n s =
    map_ok (λ (ps : List Picture). s.picture ∷ ps) (all_images (later_image n (s.width, s.height)) 1 (after_white s.rest))

-- the cells of the images of a file, of which this is the first: all have its size
abbrev pub shot_cells : ℕ → ℕ → Shot → Result (List (List ℤ)) VoxelError
shot_cells n threshold s = map_ok (cells_of_images n threshold s.width s.height) (images_from n s)

-- what a PGM file states: its cells, or the first refusal
unfoldable pub pgm_cells : ℕ → ℕ → List ℕ → Result (List (List ℤ)) VoxelError
pgm_cells n threshold bs = then_ok (image_at n 0 None bs) (shot_cells n threshold)
