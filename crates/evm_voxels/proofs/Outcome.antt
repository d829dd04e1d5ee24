-- What an answer tells of what bytes state.
use Rattle.std.proofs.Common.{◌≡◌, ◌≢◌, ◌↔◌, ℕ, ◌*◌, ◌≤◌, ◌==◌, ◌⊎◌, true, false, inl, inr, List, [], ◌∷◌, length, ℤ, Ok, Err, refl, sym, ap, ap₂, ◌∙◌, subst, arith, ⊎_elim}
use Rattle.std.specs.Prelude.{Result, IsOk, IsErrOf, IsErrAnd, IsOkAnd, IfOk, IfErr, None}
use Rattle.std.proofs.lemmas.Bool.{false≢true}
use Rattle.std.proofs.lemmas.Bool.Decides.{nat_tests}
use Rattle.evm_cells.specs.Vertices.{evm, cells}
use Rattle.evm_cells.proofs.Core.{cells-evm}
use Rattle.evm_cells.proofs.Layers.{evm-empty}
use Rattle.evm_rows.specs.Rows.{Vertices, cells_of}
use Rattle.evm_formats.specs.declared.voxels.VoxelError.{VoxelError}
use Rattle.evm_formats.specs.declared.voxels.VoxelError.TheVariants.{NoMemory}
use Rattle.evm_voxels.specs.declared.image.Size.{Size}
use Rattle.evm_formats.specs.Images.{Picture, cells_of_images, map_ok, then_ok, all_images}
use Rattle.evm_formats.specs.Pgm.{Shot, image_at, after_white, later_image, images_from, shot_cells, pgm_cells}
use Rattle.evm_formats.specs.Y4m.{Stream, stream, frames_of, stream_cells, y4m_cells}
use Rattle.evm_formats.proofs.ImageSets.{cell_set-images, no_images}
use Rattle.evm_formats.proofs.Lengths.{ok_found}
use Rattle.evm_voxels.proofs.Frames.{frames_none}
use Rattle.evm_voxels.specs.Shots.{IsStack, AreMarked}
use Rattle.evm_voxels.specs.Outcomes.{Answers}

pub answers_dim : (n : ℕ) (X : Result (List (List ℤ)) VoxelError) (r : Result Vertices VoxelError) → Answers n X r → IfOk r (λ s. s.dim ≡ n)
answers_dim n X (Ok s) a = a.0
answers_dim n X (Err e) a = tt

pub answers_cells : (n : ℕ) (X : Result (List (List ℤ)) VoxelError) (r : Result Vertices VoxelError) → Answers n X r → IfOk r (λ s. X ≡ Ok (cells_of s))
answers_cells n X (Ok s) a = a.1
answers_cells n X (Err e) a = tt

pub answers_vertices : (n : ℕ) (X : Result (List (List ℤ)) VoxelError) (r : Result Vertices VoxelError) → Answers n X r → IfOk r (λ s. s.rows ≡ evm n (cells_of s))
answers_vertices n X (Ok s) a = a.2
answers_vertices n X (Err e) a = tt

pub answers_refused : (n : ℕ) (X : Result (List (List ℤ)) VoxelError) (r : Result Vertices VoxelError) → Answers n X r → (e : VoxelError) → e ≢ NoMemory → IsErrOf r e ↔ (X ≡ Err e)
answers_refused n X (Ok s) a e m = (λ h. absurd (cc h), λ h. absurd (cc (h, a.1)))
answers_refused n X (Err f) a e m = (
  λ h. let q : f ≡ e = cc h in ⊎_elim (λ w. absurd (m (sym q ∙ w.0))) (λ w. w ∙ ap (λ (x : VoxelError). Err x) q) a,
  λ h. ⊎_elim (λ w. absurd (no_ok h w.1)) (λ w. let q : f ≡ e = cc (h, w) in ap (λ (x : VoxelError). Err x) q) a,
)
  where
    no_ok : {Y : Result (List (List ℤ)) VoxelError} {x : VoxelError} → Y ≡ Err x → IsOk Y → ⊥
    no_ok h w = false≢true (subst (λ (Z : Result (List (List ℤ)) VoxelError). IsOk Z) h w)

pub answers_found : (n : ℕ) (X : Result (List (List ℤ)) VoxelError) (r : Result Vertices VoxelError) → Answers n X r → (S : List (List ℤ)) → X ≡ Ok S → IsOkAnd r (λ s. cells_of s ≡ S) ⊎ IsErrOf r NoMemory
answers_found n X (Ok s) a S h = inl (let q : cells_of s ≡ S = cc (h, a.1) in q)
answers_found n X (Err e) a S h = ⊎_elim (λ w. inr (ap (λ (x : VoxelError). Err x) w.0)) (λ w. absurd (cc (h, w))) a

pub answers_refusal : (n : ℕ) (X : Result (List (List ℤ)) VoxelError) (r : Result Vertices VoxelError) (e : VoxelError) → IsErrAnd r (λ f. f ≡ e) → X ≡ Err e → Answers n X r
answers_refusal n X (Ok s) e a x = absurd a
answers_refusal n X (Err f) e a x = inr (x ∙ ap (λ (y : VoxelError). Err y) (sym a))

pub answers_memory : (n : ℕ) (X : Result (List (List ℤ)) VoxelError) (r : Result Vertices VoxelError) (e : VoxelError) → IsErrAnd r (λ f. f ≡ e) → IsOk X → (e ≡ NoMemory) ⊎ (X ≡ Err e) → Answers n X r
answers_memory n X (Ok s) e a o x = absurd a
answers_memory n X (Err f) e a o x = ⊎_elim (λ m. inl (a ∙ m, o)) (λ y. inr (y ∙ ap (λ (y : VoxelError). Err y) (sym a))) x

-- a solid, or want of memory, for stated cells
pub answers_solid : (n : ℕ) (X : Result (List (List ℤ)) VoxelError) (r : Result Vertices VoxelError) (threshold w h : ℕ) (images : List Picture) → (n ≡ 2) ⊎ (n ≡ 3) → X ≡ Ok (cells_of_images n threshold w h images)
    → IfOk r (λ s. s.dim ≡ n) → IfOk r (λ s. s.rows ≡ evm n (cells_of_images n threshold w h images)) → IfErr r (λ e. e ≡ NoMemory) → Answers n X r
answers_solid n X (Ok s) threshold w h images d x a b m =
    let S : List (List ℤ) = cells_of_images n threshold w h images in
    let same : cells_of s ≡ cells_of_images n threshold w h images = ap₂ (λ (m : ℕ) (V : List (List ℤ)). cells m V) a b ∙ cells-evm n S (cell_set-images n threshold w h images d) in
    (a, x ∙ ap (λ (S : List (List ℤ)). Ok S) (sym same), b ∙ ap (evm n) (sym same))
answers_solid n X (Err e) threshold w h images d x a b m = inl (m, subst (λ (Y : Result (List (List ℤ)) VoxelError). IsOk Y) (sym x) refl)

-- ---- stacks of images

pub first_refused : (n threshold : ℕ) (bs : List ℕ) (e : VoxelError) → image_at n 0 None bs ≡ Err e → pgm_cells n threshold bs ≡ Err e
unfolding pgm_cells
first_refused n threshold bs e r = ap (λ o. then_ok o (shot_cells n threshold)) r

pub later_refused : (n threshold : ℕ) (bs : List ℕ) (s : Shot) (e : VoxelError) → image_at n 0 None bs ≡ Ok s → images_from n s ≡ Err e → pgm_cells n threshold bs ≡ Err e
unfolding pgm_cells
later_refused n threshold bs s e p r = ap (λ o. then_ok o (shot_cells n threshold)) p ∙ ap (map_ok (cells_of_images n threshold s.width s.height)) r

pub stack_cells : (n threshold : ℕ) (bs : List ℕ) (size : Size) (depth : ℕ) → (h : IsStack n bs size depth) → pgm_cells n threshold bs ≡ Ok (cells_of_images n threshold size.width size.height h.images)
unfolding pgm_cells
stack_cells n threshold bs size depth h =
    ap (λ o. then_ok o (shot_cells n threshold)) h.begins ∙ ap (map_ok (cells_of_images n threshold h.first.width h.first.height)) h.goes_on
    ∙ ap₂ (λ (w k : ℕ). Ok (cells_of_images n threshold w k h.images)) h.width h.height

pub stack_some : (n : ℕ) (bs : List ℕ) (size : Size) (depth : ℕ) → IsStack n bs size depth → 1 ≤ depth
unfolding images_from
stack_some n bs size depth h =
    let (later, p, q) = ok_found (λ (ps : List Picture). h.first.picture ∷ ps) (all_images (later_image n (h.first.width, h.first.height)) 1 (after_white h.first.rest)) h.images h.goes_on in
    omega (arith, ap length q, h.count)

is_ok : {A E : Type 0} (r : Result A E) (a : A) → r ≡ Ok a → IsOk r
is_ok r a e = subst (λ (x : Result _ _). IsOk x) (sym e) refl

pub stack_memory : (n threshold : ℕ) (bs : List ℕ) (size : Size) (depth : ℕ) (r : Result Vertices VoxelError) (e : VoxelError) → IsStack n bs size depth → IsErrAnd r (λ f. f ≡ e)
    → (e ≡ NoMemory) ⊎ ((level : ℕ) → pgm_cells n level bs ≡ Err e) → Answers n (pgm_cells n threshold bs) r
stack_memory n threshold bs size depth r e h a x =
    answers_memory n (pgm_cells n threshold bs) r e a (is_ok (pgm_cells n threshold bs) _ (stack_cells n threshold bs size depth h)) (⊎_elim (λ m. inl m) (λ y. inr (y threshold)) x)

-- the marks of all images of a file, as the code has them
pub stack_marked : (n threshold : ℕ) (bs marks items : List ℕ) (size : Size) (depth : ℕ) → (h : IsStack n bs size depth)
    → ((s : Shot) (ps : List Picture) → image_at n 0 None bs ≡ Ok s → images_from n s ≡ Ok ps → AreMarked items (s.height * s.width) (length ps) threshold ps) → marks ≡ items
    → AreMarked marks (size.height * size.width) depth threshold h.images
stack_marked n threshold bs marks items size depth h m e =
    let count : h.first.height * h.first.width ≡ size.height * size.width = ap₂ (λ (a b : ℕ). a * b) h.height h.width in
    let one : AreMarked items (h.first.height * h.first.width) depth threshold h.images = subst (λ (z : ℕ). AreMarked items (h.first.height * h.first.width) z threshold h.images) h.count (m h.first h.images h.begins h.goes_on) in
    let two : AreMarked items (size.height * size.width) depth threshold h.images = subst (λ (k : ℕ). AreMarked items k depth threshold h.images) count one in
    subst (λ (xs : List ℕ). AreMarked xs (size.height * size.width) depth threshold h.images) (sym e) two

-- ---- streams

pub stream_refused : (n threshold : ℕ) (bs : List ℕ) (e : VoxelError) → stream n bs ≡ Err e → y4m_cells n threshold bs ≡ Err e
unfolding y4m_cells
stream_refused n threshold bs e r = ap (λ o. then_ok o (stream_cells n threshold)) r

pub frames_refused : (n threshold : ℕ) (bs : List ℕ) (s : Stream) (e : VoxelError) → stream n bs ≡ Ok s → frames_of n s ≡ Err e → y4m_cells n threshold bs ≡ Err e
unfolding y4m_cells
frames_refused n threshold bs s e p r = ap (λ o. then_ok o (stream_cells n threshold)) p ∙ ap (map_ok (cells_of_images n threshold s.width s.height)) r

-- the stream has this many frames
abbrev pub HasFrames : ℕ → Stream → ℕ → Type 0
HasFrames n s depth = (ps : List Picture) × (frames_of n s ≡ Ok ps) × (length ps ≡ depth)

pub frames_cells : (n threshold : ℕ) (bs : List ℕ) (s : Stream) (depth : ℕ) → stream n bs ≡ Ok s → (h : HasFrames n s depth) → y4m_cells n threshold bs ≡ Ok (cells_of_images n threshold s.width s.height h.0)
unfolding y4m_cells
frames_cells n threshold bs s depth p h = ap (λ o. then_ok o (stream_cells n threshold)) p ∙ ap (map_ok (cells_of_images n threshold s.width s.height)) h.1

nothing_there : (ps : List Picture) (depth : ℕ) → length ps ≡ depth → depth ≡ 0 → ps ≡ []
nothing_there [] depth l z = refl
nothing_there (p ∷ ps) depth l z = absurd (omega arith)

dim_three : (n : ℕ) → (n ≡ 2) ⊎ (n ≡ 3) → (n == 2) ≡ false → n ≡ 3
dim_three n o t = ⊎_elim (λ (e : n ≡ 2). absurd (false≢true (sym t ∙ (let q : (n == 2) ≡ true = grind (arith, nat_tests) in q)))) (λ e. e) o

pub answers_empty : (n threshold : ℕ) (bs : List ℕ) (s : Stream) (depth : ℕ) (v : Vertices) → stream n bs ≡ Ok s → HasFrames n s depth → depth ≡ 0 → (n ≡ 2) ⊎ (n ≡ 3) → v.dim ≡ n → v.rows ≡ [] → cells v.dim v.rows ≡ [] → Answers n (y4m_cells n threshold bs) (Ok v)
answers_empty n threshold bs s depth v p h z o d r c = (
  d,
  let none : h.0 ≡ [] = nothing_there h.0 depth h.2 z in
      let m : n ≡ 3 = dim_three n o (frames_none n s (h.1 ∙ ap (λ (ps : List Picture). Ok ps) none)) in
      frames_cells n threshold bs s depth p h
      ∙ ap (λ (ps : List Picture). Ok (cells_of_images n threshold s.width s.height ps)) none
      ∙ ap (λ (S : List (List ℤ)). Ok S) (ap (λ (k : ℕ). cells_of_images k threshold s.width s.height []) m ∙ no_images threshold s.width s.height ∙ sym c),
  r ∙ sym (ap (evm n) c ∙ evm-empty n),
)

pub frames_memory : (n threshold : ℕ) (bs : List ℕ) (s : Stream) (depth : ℕ) (r : Result Vertices VoxelError) (e : VoxelError) → stream n bs ≡ Ok s → HasFrames n s depth → IsErrAnd r (λ f. f ≡ e) → (e ≡ NoMemory) ⊎ (frames_of n s ≡ Err e)
    → Answers n (y4m_cells n threshold bs) r
frames_memory n threshold bs s depth r e p h a x =
    answers_memory n (y4m_cells n threshold bs) r e a (is_ok (y4m_cells n threshold bs) _ (frames_cells n threshold bs s depth p h)) (⊎_elim (λ m. inl m) (λ y. inr (frames_refused n threshold bs s e p y)) x)

pub frames_marked : (n threshold : ℕ) (s : Stream) (depth count : ℕ) (marks items : List ℕ) → (h : HasFrames n s depth) → ((ps : List Picture) → frames_of n s ≡ Ok ps → AreMarked items count (length ps) threshold ps) → marks ≡ items
    → AreMarked marks count depth threshold h.0
frames_marked n threshold s depth count marks items h m e =
    subst (λ (xs : List ℕ). AreMarked xs count depth threshold h.0) (sym e) (subst (λ (z : ℕ). AreMarked items count z threshold h.0) h.2 (m h.0 h.1))

-- a refusal that is never stated never comes
pub answers_never : (n : ℕ) (X : Result (List (List ℤ)) VoxelError) (r : Result Vertices VoxelError) (e : VoxelError) → Answers n X r → e ≢ NoMemory → (X ≡ Err e → ⊥) → IsErrOf r e → ⊥
answers_never n X r e a m h k = h ((answers_refused n X r a e m).0 k)
