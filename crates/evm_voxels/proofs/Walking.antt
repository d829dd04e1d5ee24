-- Images one after another: those that were passed, and those that come.
use Rattle.std.proofs.Common.{◌≡◌, ℕ, ◌+◌, ◌*◌, ◌≤◌, ◌<◌, nat_le, List, [], ◌∷◌, ◌++◌, length, Some, Ok, Err, refl, sym, ap, ◌∙◌, subst, arith, append_assoc, append-nil, length-append, add-one, suc-mul}
use Rattle.std.specs.Prelude.{Result}
use Rattle.evm_formats.specs.declared.voxels.VoxelError.{VoxelError}
use Rattle.evm_formats.specs.Images.{Picture, Taken, Takes, sample, map_ok, all_images}
use Rattle.evm_formats.specs.Pgm.{Shot, image_at, images_from, taken, later_image}
use Rattle.evm_formats.proofs.Images.{TakesBytes, all-end, all-next, all-refused}
use Rattle.evm_voxels.specs.Marks.{HasMarks}
use Rattle.evm_voxels.specs.Shots.{AreMarked}
use Rattle.evm_voxels.proofs.Marking.{no_marks, marked_more}

-- z images were passed, and the others are those of the rest
pub record IsPassed (whole : Result (List Picture) VoxelError) (take_image : Takes) (z : ℕ) (rest : List ℕ) : Type 0 where
  pub images : List Picture
  pub count : length images ≡ z
  pub all : whole ≡ map_ok (λ (ps : List Picture). images ++ ps) (all_images take_image z rest)

same_ok : (r : Result (List Picture) VoxelError) → r ≡ map_ok (λ (ps : List Picture). [] ++ ps) r
same_ok (Ok ps) = refl
same_ok (Err e) = refl

pub passed_none : (take_image : Takes) (rest : List ℕ) → IsPassed (all_images take_image 0 rest) take_image 0 rest
passed_none take_image rest = record { images = []; count = refl; all = same_ok (all_images take_image 0 rest) }

map_twice : {A B C E : Type 0} (f : B → C) (g : A → B) (r : Result A E) → map_ok f (map_ok g r) ≡ map_ok (λ x. f (g x)) r
map_twice f g (Ok a) = refl
map_twice f g (Err e) = refl

pub passed_more : (whole : Result (List Picture) VoxelError) (take_image : Takes) → TakesBytes take_image → (z : ℕ) (rest : List ℕ) (t : Taken) → IsPassed whole take_image z rest → 0 < length rest → take_image z rest ≡ Ok t
    → IsPassed whole take_image (z + 1) t.rest
passed_more whole take_image shorter z rest t h l e = record {
  images = h.images ++ t.picture ∷ [];
  count = omega (arith, length-append h.images (t.picture ∷ []), h.count);
  all = h.all
      ∙ ap (map_ok (λ (ps : List Picture). h.images ++ ps)) (all-next take_image shorter z rest t l e)
      ∙ map_twice (λ (ps : List Picture). h.images ++ ps) (λ (ps : List Picture). t.picture ∷ ps) (all_images take_image (z + 1) t.rest)
      ∙ ap (λ (k : List Picture → List Picture). map_ok k (all_images take_image (z + 1) t.rest)) (λ i ps. sym (append_assoc h.images (t.picture ∷ []) ps) i);
}

pub passed_all : (whole : Result (List Picture) VoxelError) (take_image : Takes) (z : ℕ) (rest : List ℕ) → (h : IsPassed whole take_image z rest) → length rest ≤ 0 → whole ≡ Ok h.images
passed_all whole take_image z rest h l =
    h.all ∙ ap (map_ok (λ (ps : List Picture). h.images ++ ps)) (all-end take_image z rest l) ∙ ap (λ (ps : List Picture). Ok ps) (append-nil h.images)

pub passed_refused : (whole : Result (List Picture) VoxelError) (take_image : Takes) (z : ℕ) (rest : List ℕ) (e : VoxelError) → IsPassed whole take_image z rest → 0 < length rest → take_image z rest ≡ Err e → whole ≡ Err e
passed_refused whole take_image z rest e h l r = h.all ∙ ap (map_ok (λ (ps : List Picture). h.images ++ ps)) (all-refused take_image z rest e l r)

-- ---- the marks of those that were passed

pub record IsMarked (whole : Result (List Picture) VoxelError) (take_image : Takes) (z : ℕ) (rest : List ℕ) (samples threshold : ℕ) (marks : List ℕ) : Type 0 where
  pub passed : IsPassed whole take_image z rest
  pub marked : AreMarked marks samples z threshold passed.images

pub marked_none : (take_image : Takes) (rest : List ℕ) (samples threshold : ℕ) (marks : List ℕ) → marks ≡ [] → IsMarked (all_images take_image 0 rest) take_image 0 rest samples threshold marks
unfolding passed_none
marked_none take_image rest samples threshold marks e = record { passed = passed_none take_image rest; marked = no_marks marks samples threshold e }

pub marked_next : (whole : Result (List Picture) VoxelError) (take_image : Takes) → TakesBytes take_image → (z : ℕ) (rest : List ℕ) (t : Taken) (samples threshold : ℕ) (old new : List ℕ)
    → IsMarked whole take_image z rest samples threshold old → 0 < length rest → take_image z rest ≡ Ok t
    → HasMarks old new samples (λ i. nat_le threshold (sample t.picture i)) → IsMarked whole take_image (z + 1) t.rest samples threshold new
unfolding passed_more
marked_next whole take_image shorter z rest t samples threshold old new h l e m = record {
  passed = passed_more whole take_image shorter z rest t h.passed l e;
  marked = marked_more old new samples z threshold h.passed.images t.picture h.marked h.passed.count m;
}

pub marked_all : (whole : Result (List Picture) VoxelError) (take_image : Takes) (z : ℕ) (rest : List ℕ) (samples threshold : ℕ) (marks : List ℕ) → IsMarked whole take_image z rest samples threshold marks → length rest ≤ 0
    → (ps : List Picture) → whole ≡ Ok ps → AreMarked marks samples (length ps) threshold ps
marked_all whole take_image z rest samples threshold marks h l ps e =
    let a = passed_all whole take_image z rest h.passed l in
    let same : h.passed.images ≡ ps = cc (a, e) in
    let many : z ≡ length ps = sym h.passed.count ∙ ap (λ (qs : List Picture). length qs) same in
    subst (λ (k : ℕ). AreMarked marks samples k threshold ps) many (subst (λ (qs : List Picture). AreMarked marks samples z threshold qs) same h.marked)

pub passed_at : (whole : Result (List Picture) VoxelError) (take_image : Takes) (z : ℕ) (bs rest : List ℕ) → rest ≡ bs → IsPassed whole take_image z bs → IsPassed whole take_image z rest
passed_at whole take_image z bs rest e h = subst (IsPassed whole take_image z) (sym e) h

pub marked_at : (whole : Result (List Picture) VoxelError) (take_image : Takes) (z : ℕ) (bs rest : List ℕ) (samples threshold : ℕ) (marks : List ℕ) → rest ≡ bs
    → IsMarked whole take_image z bs samples threshold marks → IsMarked whole take_image z rest samples threshold marks
marked_at whole take_image z bs rest samples threshold marks e h = subst (λ (t : List ℕ). IsMarked whole take_image z t samples threshold marks) (sym e) h

-- ---- the bytes that images take

-- one image more, of `samples` bytes at least, behind those of z images
pub more_room : (z samples left later whole : ℕ) → z * samples + left ≤ whole → samples + later ≤ left → (z + 1) * samples + later ≤ whole
more_room z samples left later whole h l = omega (arith, h, l, add-one z, suc-mul z samples)

-- ---- a stack of images

pub stack_first : (n : ℕ) (s : Shot) (rest : List ℕ) → rest ≡ (taken s).rest → IsPassed (images_from n s) (later_image n (s.width, s.height)) 1 rest
unfolding images_from
stack_first n s rest e = record {
  images = s.picture ∷ [];
  count = refl;
  all = ap (λ (bs : List ℕ). map_ok (λ (ps : List Picture). s.picture ∷ ps) (all_images (later_image n (s.width, s.height)) 1 bs)) (sym e);
}

pub stack_marked : (n : ℕ) (s : Shot) (rest : List ℕ) (threshold : ℕ) (old new : List ℕ) → rest ≡ (taken s).rest → old ≡ [] → HasMarks old new (s.height * s.width) (λ i. nat_le threshold (sample s.picture i))
    → IsMarked (images_from n s) (later_image n (s.width, s.height)) 1 rest (s.height * s.width) threshold new
unfolding stack_first
stack_marked n s rest threshold old new r e h = record {
  passed = stack_first n s rest r;
  marked = marked_more old new (s.height * s.width) 0 threshold [] s.picture (no_marks old (s.height * s.width) threshold e) refl h;
}

pub later_is : (n z : ℕ) (size : ℕ × ℕ) (bs : List ℕ) (s : Shot) → image_at n z (Some size) bs ≡ Ok s → later_image n size z bs ≡ Ok (taken s)
later_is n z size bs s e = ap (map_ok taken) e

pub later_refused : (n z : ℕ) (size : ℕ × ℕ) (bs : List ℕ) (e : VoxelError) → image_at n z (Some size) bs ≡ Err e → later_image n size z bs ≡ Err e
later_refused n z size bs e r = ap (map_ok taken) r
