-- What a clause sees of a stream that was read.
use Rattle.std.specs.Prelude.{◌≡◌, ℕ, List, [], ◌∷◌}
use Rattle.evm_voxels.specs.declared.stream.Found.{Found}
use Rattle.evm_voxels.specs.declared.stream.Found.TheVariants.{Never, Once, Often}
use Rattle.evm_voxels.specs.declared.stream.Stream as read_stream
use Rattle.evm_voxels.specs.declared.stream.Frame as read_frame
use Rattle.evm_voxels.specs.Shots.{picture_of}
use Rattle.evm_formats.specs.Images.{Taken}
use Rattle.evm_formats.specs.Y4m.{Stream}

abbrev pub stream_of : read_stream.Stream → Stream
stream_of s = record { width = s.size.width; height = s.size.height; extra = s.extra; rest = s.rest.now }

abbrev pub frame_of : read_frame.Frame → Taken
frame_of f = record { picture = picture_of f.luma; rest = f.rest.now }

-- what was found of these values
abbrev pub Shows : Found → List (List ℕ) → Type 0
Shows Never vs = vs ≡ []
Shows (Once v) vs = vs ≡ v.now ∷ []
Shows Often vs = (a : List ℕ) × (b : List ℕ) × (more : List (List ℕ)) × (vs ≡ a ∷ b ∷ more)
