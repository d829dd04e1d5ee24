-- The worked files of images.
use Rattle.std.proofs.Common.{◌≡◌, ℕ, List, [], ◌∷◌, ℤ, Ok, false, refl, ap, ◌∙◌}
use Rattle.evm_cells.specs.Limits.{limit, ints}
use Rattle.evm_formats.specs.Images.{Picture, sample, at_least, in_sizes, within, of_two, of_three, in_image, in_stack, images_within, cells_of_images}
use Rattle.evm_formats.specs.Header.{after_blank, digits, after_digits, spaced_number, ended, fields}
use Rattle.evm_formats.specs.Pgm.{shot, image_at, after_white, images_from, pgm_cells}
use Rattle.evm_formats.specs.Y4m.{cut_at, values, sampling_of, sized, sampled, headed, stream, planes_at, frame_at, frames_of, y4m_cells}
use Rattle.evm_formats.specs.VoxelLaws.{listed, image_of_four, ImageOfFour, stream_of_two, StreamOfTwo}
use Rattle.evm_formats.proofs.Listed.{cells_listed}

four : List Picture
four = record { bytes = 0 ∷ 200 ∷ 200 ∷ 0 ∷ []; wide = false } ∷ []

pgm_is : (threshold : ℕ) → pgm_cells 2 threshold image_of_four ≡ Ok (cells_of_images 2 threshold 2 2 four)
unfolding four pgm_cells images_from images_within after_white image_at shot fields ended spaced_number after_blank digits after_digits limit
pgm_is threshold = refl

image_listed : (threshold : ℕ) → cells_of_images 2 threshold 2 2 four ≡ listed (2 ∷ 2 ∷ []) (within (2 ∷ 2 ∷ []) (of_two (at_least threshold 2 four)))
unfolding in_image limit
image_listed threshold = cells_listed 2 (2 ∷ 2 ∷ []) (of_two (at_least threshold 2 four)) refl refl

pub image_of_four_is : ImageOfFour
unfolding listed ints within in_sizes at_least sample four
image_of_four_is = (
  pgm_is 128 ∙ ap (λ (S : List (List ℤ)). Ok S) (image_listed 128),
  pgm_is 200 ∙ ap (λ (S : List (List ℤ)). Ok S) (image_listed 200),
  pgm_is 201 ∙ ap (λ (S : List (List ℤ)). Ok S) (image_listed 201),
)

two : List Picture
two = record { bytes = 255 ∷ []; wide = false } ∷ record { bytes = 7 ∷ []; wide = false } ∷ []

y4m_is : (threshold : ℕ) → y4m_cells 3 threshold stream_of_two ≡ Ok (cells_of_images 3 threshold 1 1 two)
unfolding two y4m_cells stream headed sampled sized cut_at values sampling_of frames_of images_within frame_at planes_at limit
y4m_is threshold = refl

stack_listed : (threshold : ℕ) → cells_of_images 3 threshold 1 1 two ≡ listed (1 ∷ 1 ∷ 2 ∷ []) (within (1 ∷ 1 ∷ 2 ∷ []) (of_three (at_least threshold 1 two)))
unfolding in_stack limit two
stack_listed threshold = cells_listed 3 (1 ∷ 1 ∷ 2 ∷ []) (of_three (at_least threshold 1 two)) refl refl

pub stream_of_two_is : StreamOfTwo
unfolding listed ints within in_sizes at_least sample two
stream_of_two_is = (
  y4m_is 7 ∙ ap (λ (S : List (List ℤ)). Ok S) (stack_listed 7),
  y4m_is 8 ∙ ap (λ (S : List (List ℤ)). Ok S) (stack_listed 8),
)
