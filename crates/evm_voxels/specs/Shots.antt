-- What a clause sees of an image that was read, and of the marks of images.
use Rattle.std.specs.Prelude.{◌≡◌, ℕ, ◌+◌, ◌*◌, ◌/◌, ◌<◌, nat_le, List, length, get_or, None, Ok}
use Rattle.evm_voxels.specs.declared.header.Fields as read_fields
use Rattle.evm_voxels.specs.declared.image.Image.{Image}
use Rattle.evm_voxels.specs.declared.image.Size.{Size}
use Rattle.evm_voxels.specs.declared.image.Shot as declared
use Rattle.evm_formats.specs.Images.{Picture, sample, no_picture}
use Rattle.evm_voxels.specs.Marks.{is_marked}
use Rattle.evm_formats.specs.Header.{Fields}
use Rattle.evm_formats.specs.Pgm.{Shot, image_at, images_from}

abbrev pub picture_of : Image → Picture
picture_of i = record { bytes = i.bytes.now; wide = i.wide }

abbrev pub fields_read : read_fields.Fields → Fields
fields_read f = record { width = f.width; height = f.height; maxval = f.maxval; rest = f.rest.now }

abbrev pub pair_of : Size → ℕ × ℕ
pair_of s = (s.width, s.height)

abbrev pub shot_of : declared.Shot → Shot
shot_of s = record { width = s.size.width; height = s.size.height; picture = picture_of s.image; rest = s.rest.now }

-- the least number of words that holds the marks of an image
abbrev pub words_of : ℕ → ℕ
words_of count = (count + 31) / 32

-- the words hold the marks of the first z images, of `count` samples each: each image's begin at a word
pub record AreMarked (marks : List ℕ) (count z threshold : ℕ) (images : List Picture) : Type 0 where
  pub size : length marks ≡ z * words_of count
  pub marked : (j i : ℕ) → j < z → i < count → is_marked marks (j * (32 * words_of count) + i)
      ≡ nat_le threshold (sample (get_or images j no_picture) i)

-- the file states this many images, the first of this size
pub record IsStack (n : ℕ) (bs : List ℕ) (size : Size) (depth : ℕ) : Type 0 where
  pub first : Shot
  pub images : List Picture
  pub begins : image_at n 0 None bs ≡ Ok first
  pub goes_on : images_from n first ≡ Ok images
  pub count : length images ≡ depth
  pub width : first.width ≡ size.width
  pub height : first.height ≡ size.height
