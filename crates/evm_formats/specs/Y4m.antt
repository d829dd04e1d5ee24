-- What the bytes of a Y4M stream state: frame by frame, or the first refusal (the format is this project's own profile).
use Rattle.std.specs.Prelude.{ℕ, ◌+◌, ◌*◌, ◌/◌, ◌==◌, nat_le, nat_lt, nat_eq, Bool, false, cond, ◌&&◌, ◌||◌, List, [], ◌∷◌, length, flat_map, take, drop, ℤ, Option, Some, None, option_map, Result, Ok, Err, bytes_eq, codes}
use Rattle.std.specs.List.{list_all, slice_split, starts_with}
use Rattle.evm_cells.specs.Limits.{limit}
use Rattle.evm_formats.specs.Images.{Picture, Taken, cells_of_images, map_ok, then_ok, all_images}
use Rattle.evm_formats.specs.declared.voxels.VoxelError.{VoxelError}
use Rattle.evm_formats.specs.declared.voxels.VoxelError.TheVariants.{Magic, Header, Shape, Range, Short, Kind}
use Rattle.evm_formats.specs.declared.voxels.Sampling.{Sampling}
use Rattle.evm_formats.specs.declared.voxels.Sampling.TheVariants.{Quarter, Half, Full, Mono}
use Rattle.evm_text.specs.Numbers.{is_digit, digits_value}
use Rattle.evm_formats.specs.Header.{begins}

-- the bytes before the first `stop` and those after it; none where there is no `stop`
unfoldable pub cut_at : ℕ → List ℕ → Option (List ℕ × List ℕ)
cut_at stop [] = None
cut_at stop (b ∷ bs) = cond (b == stop) (Some ([], bs)) (option_map (λ (r : List ℕ × List ℕ). (b ∷ r.0, r.1)) (cut_at stop bs))

-- the value of a parameter, which is what follows its letter, if it has this one
abbrev pub value_of : ℕ → List ℕ → List (List ℕ)
value_of letter [] = []
value_of letter (b ∷ bs) = cond (b == letter) (bs ∷ []) []

-- the values of the parameters of this letter, which single spaces separate
unfoldable pub values : ℕ → List ℕ → List (List ℕ)
values letter line = flat_map (value_of letter) (slice_split (λ b. b == 32) line)

-- the number of a value: one or more digits, and not 0
abbrev pub number_of : List ℕ → Option ℕ
number_of ds = cond (nat_le 1 (length ds) && (list_all is_digit ds && nat_le 1 (digits_value ds))) (Some (digits_value ds)) None

-- the number of a parameter that stands exactly once
abbrev pub only_number : List (List ℕ) → Option ℕ
only_number [] = None
only_number (ds ∷ []) = number_of ds
only_number (ds ∷ es ∷ more) = None

-- 420 in its four forms, which differ in where the samples lie
abbrev pub is_quarter : List ℕ → Bool
is_quarter kind = bytes_eq kind (codes "420") || bytes_eq kind (codes "420jpeg")
    || bytes_eq kind (codes "420paldv") || bytes_eq kind (codes "420mpeg2")

-- the sampling of each value of C; none where it is not in the table
unfoldable pub sampling_of : List ℕ → Option Sampling
sampling_of kind =
    cond (is_quarter kind) (Some Quarter)
    (cond (bytes_eq kind (codes "422")) (Some Half)
    (cond (bytes_eq kind (codes "444")) (Some Full)
    (cond (bytes_eq kind (codes "mono")) (Some Mono) None)))

-- half of a number, rounded up
abbrev pub half : ℕ → ℕ
half n = (n + 1) / 2

-- the number of bytes after the luma plane of w times h samples
abbrev pub chroma : Sampling → ℕ → ℕ → ℕ
chroma Quarter w h = 2 * (half w * half h)
chroma Half w h = 2 * (half w * h)
chroma Full w h = 2 * (w * h)
chroma Mono w h = 0

-- what the first line states, and the bytes after it
pub record Stream : Type 0 where
  pub width : ℕ
  pub height : ℕ
  pub extra : ℕ
  pub rest : List ℕ

-- Kind and Range, in this order
unfoldable pub sized : ℕ → ℕ → ℕ → Option Sampling → List ℕ → Result Stream VoxelError
sized n w h None rest = Err Kind
sized n w h (Some s) rest =
    cond (nat_le w (limit n) && nat_le h (limit n)) (Ok (record { width = w; height = h; extra = chroma s w h; rest = rest })) (Err Range)

-- the sampling that C states; without C it is 420 (this project's own choice), and more than one C is refused
abbrev pub kind_of : List (List ℕ) → Result (Option Sampling) VoxelError
kind_of [] = Ok (Some Quarter)
kind_of (kind ∷ []) = Ok (sampling_of kind)
kind_of (kind ∷ other ∷ more) = Err Header

-- W and H stand exactly once, C at most once
abbrev pub with_kind : ℕ → ℕ → ℕ → Result (Option Sampling) VoxelError → List ℕ → Result Stream VoxelError
with_kind n w h (Err e) rest = Err e
with_kind n w h (Ok s) rest = sized n w h s rest

unfoldable pub sampled : ℕ → Option ℕ → Option ℕ → Result (Option Sampling) VoxelError → List ℕ → Result Stream VoxelError
sampled n None h kind rest = Err Header
sampled n (Some w) None kind rest = Err Header
sampled n (Some w) (Some h) kind rest = with_kind n w h kind rest

-- the parameters, and what follows the line feed
unfoldable pub headed : ℕ → Option (List ℕ × List ℕ) → Result Stream VoxelError
headed n None = Err Header
headed n (Some r) = sampled n (only_number (values 87 r.0)) (only_number (values 72 r.0)) (kind_of (values 67 r.0)) r.1

-- a space or LF
abbrev pub ends_word : ℕ → Bool
ends_word b = (b == 32) || (b == 10)

-- the bytes begin with the magic of a stream, which ends there
abbrev pub is_stream : List ℕ → Bool
is_stream bs = starts_with nat_eq bs (codes "YUV4MPEG2") && begins ends_word (drop 9 bs)

-- the first line of a stream of dimension n
unfoldable pub stream : ℕ → List ℕ → Result Stream VoxelError
stream n bs = cond (is_stream bs) (headed n (cut_at 10 (drop 9 bs))) (Err Magic)

-- what follows a frame's line: LF after FRAME, or a space, any bytes and LF
abbrev pub after_frame : List ℕ → Option (List ℕ)
after_frame [] = None
after_frame (b ∷ bs) = cond (b == 10) (Some bs) (cond (b == 32) (option_map (λ (r : List ℕ × List ℕ). r.1) (cut_at 10 bs)) None)

-- the planes of frame number z, or the first refusal, in the order Header, Range, Shape, Short
unfoldable pub planes_at : ℕ → ℕ → ℕ → ℕ → ℕ → Option (List ℕ) → Result Taken VoxelError
planes_at n z w h extra None = Err Header
planes_at n z w h extra (Some bs) =
    cond (nat_lt z (limit n))
    (cond ((n == 3) || (z == 0))
    (cond (nat_le (h * w + extra) (length bs))
    (Ok (record { picture = record { bytes = take (h * w) bs; wide = false }; rest = drop (h * w + extra) bs })) (Err Short))
    (Err Shape))
    (Err Range)

-- what follows a frame's whole line
abbrev pub planes_of : List ℕ → Option (List ℕ)
planes_of bs = cond (starts_with nat_eq bs (codes "FRAME")) (after_frame (drop 5 bs)) None

-- frame number z, from its line on
unfoldable pub frame_at : ℕ → ℕ → ℕ → ℕ → ℕ → List ℕ → Result Taken VoxelError
frame_at n z w h extra bs = planes_at n z w h extra (planes_of bs)

-- dimension 2 takes a frame
abbrev pub none_missing : ℕ → List Picture → Result (List Picture) VoxelError
none_missing n [] = cond (n == 2) (Err Shape) (Ok [])
none_missing n (p ∷ ps) = Ok (p ∷ ps)

-- the frames of a stream
unfoldable pub frames_of : ℕ → Stream → Result (List Picture) VoxelError
frames_of n s = then_ok (all_images (λ z bs. frame_at n z s.width s.height s.extra bs) 0 s.rest) (none_missing n)

-- the cells of the frames of a stream
abbrev pub stream_cells : ℕ → ℕ → Stream → Result (List (List ℤ)) VoxelError
stream_cells n threshold s = map_ok (cells_of_images n threshold s.width s.height) (frames_of n s)

-- what a Y4M stream states: its cells, or the first refusal
unfoldable pub y4m_cells : ℕ → ℕ → List ℕ → Result (List (List ℤ)) VoxelError
y4m_cells n threshold bs = then_ok (stream n bs) (stream_cells n threshold)
