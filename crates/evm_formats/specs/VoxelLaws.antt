-- What follows from the definitions of PGM stacks and Y4M videos.
use Rattle.std.specs.Prelude.{◌≡◌, ℕ, ◌+◌, ◌*◌, ◌<◌, ◌≤◌, ◌⊎◌, not, true, ◌&&◌, ◌||◌, Bool, List, [], ◌∷◌, ◌++◌, flat_map, map, cond, length, int_le, Option, None, Some, Ok, Err, IfOk, pos, ◌-ℤ◌, ℤ, codes}
use Rattle.std.specs.List.{list_all}
use Rattle.evm_cells.specs.Limits.{limit, ints, cells_where, IsCellSet}
use Rattle.evm_cells.specs.Examples.{plane, space}
use Rattle.evm_text.specs.Numbers.{is_digit, digits_value}
use Rattle.evm_formats.specs.declared.voxels.VoxelError.TheVariants.{Kind, Short}
use Rattle.evm_formats.specs.Images.{Picture, bytes_of, within, in_stack, cells_of_images}
use Rattle.evm_formats.specs.Header.{is_white, is_end}
use Rattle.evm_formats.specs.Pgm.{Shot, shot, image_at, are_numbers, in_range, is_shape, is_wide, images_from, pgm_cells}
use Rattle.evm_formats.specs.Y4m.{Stream, frames_of, y4m_cells}

-- ---- a header

-- a piece of a separator: a white space byte, or a comment with the byte that ends it
pub data Piece : Type 0 where
  White : ℕ → Piece
  Comment : List ℕ → ℕ → Piece

abbrev pub piece_bytes : Piece → List ℕ
piece_bytes (White b) = b ∷ []
piece_bytes (Comment text last) = 35 ∷ (text ++ last ∷ [])

abbrev pub is_piece : Piece → Bool
is_piece (White b) = is_white b
is_piece (Comment text last) = list_all (λ b. not (is_end b)) text && is_end last

abbrev pub bytes_of_pieces : List Piece → List ℕ
bytes_of_pieces = flat_map piece_bytes

-- a number as it is written: one or more pieces, and then one or more digits
pub record Spaced : Type 0 where
  pub first : Piece
  pub more : List Piece
  pub digit : ℕ
  pub digits : List ℕ

-- its bytes, and those after it
abbrev pub spaced_bytes : Spaced → List ℕ → List ℕ
spaced_bytes s rest = bytes_of_pieces (s.first ∷ s.more) ++ ((s.digit ∷ s.digits) ++ rest)

abbrev pub spaced_value : Spaced → ℕ
spaced_value s = digits_value (s.digit ∷ s.digits)

pub record IsSpaced (s : Spaced) : Type 0 where
  pub pieces : list_all is_piece (s.first ∷ s.more) ≡ true
  pub all_digits : list_all is_digit (s.digit ∷ s.digits) ≡ true

-- a header as it is written: P5, three numbers, and a white space byte; then the bytes after it
abbrev pub header_bytes : Spaced → Spaced → Spaced → ℕ → List ℕ → List ℕ
header_bytes width height maxval last rest =
    80 ∷ 53 ∷ spaced_bytes width (spaced_bytes height (spaced_bytes maxval (last ∷ rest)))

pub record IsHeader (w h m : Spaced) (last : ℕ) : Type 0 where
  pub width : IsSpaced w
  pub height : IsSpaced h
  pub maxval : IsSpaced m
  pub white : is_white last ≡ true

-- bytes that begin with a header state what its numbers and the bytes after it do, however it is written
abbrev pub HeaderStates : Type 0
HeaderStates = (n z : ℕ) (size : Option (ℕ × ℕ)) (w h m : Spaced) (last : ℕ) (rest : List ℕ) → IsHeader w h m last
    → image_at n z size (header_bytes w h m last rest)
    ≡ shot n z size (Some (record { width = spaced_value w; height = spaced_value h; maxval = spaced_value m; rest = rest }))

-- an image as it is written: a header, and its samples, and then the bytes after it
pub record IsWritten (bytes : List ℕ) (s : Shot) : Type 0 where
  pub w : Spaced
  pub h : Spaced
  pub m : Spaced
  pub last : ℕ
  pub header : IsHeader w h m last
  pub whole : bytes ≡ header_bytes w h m last (s.picture.bytes ++ s.rest)
  pub width : s.width ≡ spaced_value w
  pub height : s.height ≡ spaced_value h
  pub wide : s.picture.wide ≡ is_wide (spaced_value m)

-- bytes that state an image are so written
abbrev pub ImagesAreWritten : Type 0
ImagesAreWritten = (n z : ℕ) (size : Option (ℕ × ℕ)) (bytes : List ℕ) (s : Shot) → image_at n z size bytes ≡ Ok s → IsWritten bytes s

-- numbers that an image may have as number z of a stack of dimension n
pub record AreTaken (n z : ℕ) (size : Option (ℕ × ℕ)) (width height maxval : ℕ) : Type 0 where
  pub numbers : are_numbers width height maxval ≡ true
  pub range : in_range n z width height ≡ true
  pub shape : is_shape n size width height ≡ true

-- a header and all its samples state the image of these samples, whatever follows; a header with fewer is Short
abbrev pub SamplesState : Type 0
SamplesState = (n z : ℕ) (size : Option (ℕ × ℕ)) (width height maxval : ℕ) (samples rest : List ℕ) → AreTaken n z size width height maxval
    → length samples ≡ bytes_of (is_wide maxval) (height * width)
    → shot n z size (Some (record { width = width; height = height; maxval = maxval; rest = samples ++ rest }))
    ≡ Ok (record { width = width; height = height; picture = record { bytes = samples; wide = is_wide maxval }; rest = rest })

abbrev pub FewerAreShort : Type 0
FewerAreShort = (n z : ℕ) (size : Option (ℕ × ℕ)) (width height maxval : ℕ) (rest : List ℕ) → AreTaken n z size width height maxval
    → length rest < bytes_of (is_wide maxval) (height * width)
    → shot n z size (Some (record { width = width; height = height; maxval = maxval; rest = rest })) ≡ Err Short

-- ---- stacks, one behind the other

-- the bytes state these images of this size in dimension 3
pub record IsStackOf (bytes : List ℕ) (w h : ℕ) (images : List Picture) : Type 0 where
  pub first : Shot
  pub begins : image_at 3 0 None bytes ≡ Ok first
  pub goes_on : images_from 3 first ≡ Ok images
  pub width : first.width ≡ w
  pub height : first.height ≡ h

-- the bytes of two stacks of one size state the images of the first and then those of the second
abbrev pub StacksJoin : Type 0
StacksJoin = (front back : List ℕ) (w h : ℕ) (ps qs : List Picture) → IsStackOf front w h ps → IsStackOf back w h qs
    → length ps + length qs ≤ limit 3 → IsStackOf (front ++ back) w h (ps ++ qs)

-- a stack states the cells of its images
abbrev pub StackCells : Type 0
StackCells = (threshold : ℕ) (bytes : List ℕ) (w h : ℕ) (ps : List Picture) → IsStackOf bytes w h ps
    → pgm_cells 3 threshold bytes ≡ Ok (cells_of_images 3 threshold w h ps)

-- the places from 0 up to, but not at, the sizes that pass a test, ascending
unfoldable pub listed : List ℕ → (List ℤ → Bool) → List (List ℤ)
listed [] f = cond (f []) ([] ∷ []) []
listed (m ∷ ms) f = flat_map (λ x. map (λ t. x ∷ t) (listed ms (λ c. f (x ∷ c)))) (ints (pos 0) m)

-- the cells within sizes that fit the limit can be listed place by place
abbrev pub CellsListed : Type 0
CellsListed = (n : ℕ) (ms : List ℕ) (test : List ℕ → Bool) → length ms ≡ n → list_all (λ m. int_le (pos m) (pos (limit n))) ms ≡ true
    → cells_where n (within ms test) ≡ listed ms (within ms test)

-- a place, lowered along the axis of images
abbrev pub lowered : ℕ → List ℤ → List ℤ
lowered k (x ∷ y ∷ z ∷ []) = x ∷ y ∷ (z -ℤ pos k) ∷ []
lowered k c = c

-- the cells of images behind others are those of the first and, raised by their number, those of the second
abbrev pub CellsJoin : Type 0
CellsJoin = (threshold w h : ℕ) (ps qs : List Picture) → cells_of_images 3 threshold w h (ps ++ qs)
    ≡ cells_where 3 (λ c. in_stack threshold w h ps c || in_stack threshold w h qs (lowered (length ps) c))

-- ---- frames, one behind the other

-- the frames in the bytes after the first line of a stream of dimension 3
abbrev pub frames_in : Stream → List ℕ → Stream
frames_in s bytes = record s { rest = bytes }

-- frames and then other frames are the first and then the others
abbrev pub FramesJoin : Type 0
FramesJoin = (s : Stream) (front back : List ℕ) (ps qs : List Picture)
    → frames_of 3 (frames_in s front) ≡ Ok ps → frames_of 3 (frames_in s back) ≡ Ok qs
    → length ps + length qs ≤ limit 3 → frames_of 3 (frames_in s (front ++ back)) ≡ Ok (ps ++ qs)

-- ---- refusals and sets

-- no stack is refused for a sampling
abbrev pub NeverKind : Type 0
NeverKind = (n threshold : ℕ) (bytes : List ℕ) → ¬ (pgm_cells n threshold bytes ≡ Err Kind)

-- the cells that a file states are a cell set
abbrev pub VoxelCellSets : Type 0
VoxelCellSets = (n threshold : ℕ) (bytes : List ℕ) → (n ≡ 2) ⊎ (n ≡ 3)
    → IfOk (pgm_cells n threshold bytes) (λ S. IsCellSet n S) × IfOk (y4m_cells n threshold bytes) (λ S. IsCellSet n S)

-- ---- worked files

-- an image of two columns and two rows, with a comment: its samples from the top are 0, 200 and 200, 0
abbrev pub image_of_four : List ℕ
image_of_four = codes "P5" ++ 10 ∷ codes "# scan" ++ 10 ∷ codes "2 2" ++ 10 ∷ codes "255" ++ 10 ∷ 0 ∷ 200 ∷ 200 ∷ 0 ∷ []

abbrev pub ImageOfFour : Type 0
ImageOfFour = (pgm_cells 2 128 image_of_four ≡ Ok (plane 0 1 ∷ plane 1 0 ∷ []))
    × (pgm_cells 2 200 image_of_four ≡ Ok (plane 0 1 ∷ plane 1 0 ∷ []))
    × (pgm_cells 2 201 image_of_four ≡ Ok [])

-- a stream of one column and one row, whose second frame has a parameter, and whose samples are 255 and 7
abbrev pub stream_of_two : List ℕ
stream_of_two = codes "YUV4MPEG2 W1 H1 F25:1" ++ 10 ∷ codes "FRAME" ++ 10 ∷ 255 ∷ 0 ∷ 0 ∷ codes "FRAME I" ++ 10 ∷ 7 ∷ 0 ∷ 0 ∷ []

abbrev pub StreamOfTwo : Type 0
StreamOfTwo = (y4m_cells 3 7 stream_of_two ≡ Ok (space 0 0 0 ∷ space 0 0 1 ∷ [])) × (y4m_cells 3 8 stream_of_two ≡ Ok (space 0 0 0 ∷ []))
