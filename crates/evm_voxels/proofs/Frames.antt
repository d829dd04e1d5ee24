-- The first line of a stream, and its frames.
use Rattle.std.proofs.Common.{◌≡◌, ℕ, ◌*◌, ◌≤◌, ◌<◌, ◌==◌, nat_le, Bool, true, false, cond, ◌&&◌, List, [], ◌∷◌, length, drop, Option, Some, None, Ok, Err, refl, sym, ap, ap₂, ◌∙◌, arith}
use Rattle.std.specs.Prelude.{Result}
use Rattle.std.proofs.lemmas.Bool.Decides.{nat_tests}
use Rattle.evm_cells.specs.Limits.{limit}
use Rattle.evm_cells.proofs.Xor.{and_first, and_second}
use Rattle.evm_formats.specs.declared.voxels.VoxelError.{VoxelError}
use Rattle.evm_formats.specs.declared.voxels.VoxelError.TheVariants.{Magic, Header, Shape, Range}
use Rattle.evm_formats.specs.declared.voxels.Sampling.{Sampling}
use Rattle.evm_formats.specs.Images.{Picture, Takes, then_ok, all_images}
use Rattle.evm_formats.specs.Y4m.{Stream, cut_at, values, only_number, kind_of, chroma, sized, with_kind, sampled, headed, is_stream, stream, frame_at, none_missing, frames_of}
use Rattle.evm_voxels.specs.Numbers.{capped}
use Rattle.evm_voxels.proofs.Params.{cap}
use Rattle.evm_voxels.proofs.Capped.{size_capped, size_kept}
use Rattle.evm_voxels.proofs.Walking.{IsPassed, passed_all, passed_refused, IsMarked, marked_all}
use Rattle.evm_voxels.specs.Shots.{AreMarked}

-- ---- numbers past 32 bits are refused like the greatest that they can hold

sized-capped : (n v u : ℕ) (s : Option Sampling) (rest : List ℕ) → sized n (capped v) (capped u) s rest ≡ sized n v u s rest
unfolding sized
sized-capped n v u None rest = refl
sized-capped n v u (Some s) rest = at (nat_le v (limit n)) (nat_le u (limit n)) refl refl
  where
    found : ℕ → ℕ → Result Stream VoxelError
    found w h = Ok (record { width = w; height = h; extra = chroma s w h; rest = rest })

    at : (a b : Bool) → nat_le v (limit n) ≡ a → nat_le u (limit n) ≡ b
        → cond (nat_le (capped v) (limit n) && nat_le (capped u) (limit n)) (found (capped v) (capped u)) (Err Range) ≡ cond (nat_le v (limit n) && nat_le u (limit n)) (found v u) (Err Range)
    at true true p q = ap₂ (λ (w h : ℕ). cond (nat_le w (limit n) && nat_le h (limit n)) (found w h) (Err Range)) (size_kept n v p) (size_kept n u q)
    at false b p q =
        ap (λ t. cond (t && nat_le (capped u) (limit n)) (found (capped v) (capped u)) (Err Range)) (size_capped n v ∙ p) ∙ ap (λ t. cond (t && nat_le u (limit n)) (found v u) (Err Range)) (sym p)
    at true false p q =
        ap₂ (λ s t. cond (s && t) (found (capped v) (capped u)) (Err Range)) (size_capped n v ∙ p) (size_capped n u ∙ q) ∙ ap₂ (λ s t. cond (s && t) (found v u) (Err Range)) (sym p) (sym q)

-- ---- the first line

pub no_width : (n : ℕ) (o p : Option ℕ) (kind : Result (Option Sampling) VoxelError) (rest : List ℕ) → None ≡ cap o → Err Header ≡ sampled n o p kind rest
unfolding sampled
no_width n None p kind rest e = refl
no_width n (Some v) p kind rest e = absurd (cc e)

pub no_height : (n : ℕ) (o p : Option ℕ) (kind : Result (Option Sampling) VoxelError) (rest : List ℕ) → None ≡ cap p → Err Header ≡ sampled n o p kind rest
unfolding sampled
no_height n None p kind rest e = refl
no_height n (Some v) None kind rest e = refl
no_height n (Some v) (Some u) kind rest e = absurd (cc e)

pub no_kind : (n w h : ℕ) (o p : Option ℕ) (kind : Result (Option Sampling) VoxelError) (e : VoxelError) (rest : List ℕ) → Some w ≡ cap o → Some h ≡ cap p → Err e ≡ kind → Err e ≡ sampled n o p kind rest
unfolding sampled
no_kind n w h None p kind e rest a b k = absurd (cc a)
no_kind n w h (Some v) None kind e rest a b k = absurd (cc b)
no_kind n w h (Some v) (Some u) kind e rest a b k = ap (λ t. with_kind n v u t rest) k

pub all_sized : (n w h : ℕ) (o p : Option ℕ) (kind : Result (Option Sampling) VoxelError) (s : Option Sampling) (rest : List ℕ) → Some w ≡ cap o → Some h ≡ cap p → Ok s ≡ kind → sized n w h s rest ≡ sampled n o p kind rest
unfolding sampled
all_sized n w h None p kind s rest a b k = absurd (cc a)
all_sized n w h (Some v) None kind s rest a b k = absurd (cc b)
all_sized n w h (Some v) (Some u) kind s rest a b k =
    let x : w ≡ capped v = cc a in
    let y : h ≡ capped u = cc b in
    ap₂ (λ (i j : ℕ). sized n i j s rest) x y ∙ sized-capped n v u s rest ∙ ap (λ t. with_kind n v u t rest) k

pub no_magic : (n : ℕ) (bs : List ℕ) → is_stream bs ≡ false → Err Magic ≡ stream n bs
unfolding stream
no_magic n bs e = sym (ap (λ t. cond t (headed n (cut_at 10 (drop 9 bs))) (Err Magic)) e)

pub no_line : (n : ℕ) (bs after : List ℕ) → is_stream bs ≡ true → after ≡ drop 9 bs → None ≡ cut_at 10 after → Err Header ≡ stream n bs
unfolding stream headed
no_line n bs after e a c = ap (headed n) (c ∙ ap (cut_at 10) a) ∙ sym (ap (λ t. cond t (headed n (cut_at 10 (drop 9 bs))) (Err Magic)) e)

pub line_is : (n : ℕ) (bs after line rest : List ℕ) → is_stream bs ≡ true → after ≡ drop 9 bs → Some (line, rest) ≡ cut_at 10 after
    → sampled n (only_number (values 87 line)) (only_number (values 72 line)) (kind_of (values 67 line)) rest ≡ stream n bs
unfolding stream headed
line_is n bs after line rest e a c = ap (headed n) (c ∙ ap (cut_at 10) a) ∙ sym (ap (λ t. cond t (headed n (cut_at 10 (drop 9 bs))) (Err Magic)) e)

-- ---- the frames

-- the frames of a stream as images one after another
abbrev pub takes_of : ℕ → Stream → Takes
takes_of n s z bs = frame_at n z s.width s.height s.extra bs

abbrev pub whole_of : ℕ → Stream → Result (List Picture) VoxelError
whole_of n s = all_images (takes_of n s) 0 s.rest

none_missing_at : (n z : ℕ) (ps : List Picture) → length ps ≡ z → ((n == 2) && (z == 0)) ≡ false → none_missing n ps ≡ Ok ps
none_missing_at n z [] c t =
    let zero : z ≡ 0 = omega (arith, c) in
    let test : (z == 0) ≡ true = grind (arith, nat_tests) in
    at (n == 2) refl (ap (λ b. (n == 2) && b) (sym test) ∙ t)
  where
    at : (b : Bool) → (n == 2) ≡ b → ((n == 2) && true) ≡ false → cond {A = Result (List Picture) VoxelError} (n == 2) (Err Shape) (Ok []) ≡ Ok []
    at true p q = absurd (cc (ap (λ b. b && true) p, q))
    at false p q = ap (λ b. cond {A = Result (List Picture) VoxelError} b (Err Shape) (Ok [])) p
none_missing_at n z (p ∷ ps) c t = refl

missing_at : (n z : ℕ) (ps : List Picture) → length ps ≡ z → ((n == 2) && (z == 0)) ≡ true → none_missing n ps ≡ Err Shape
missing_at n z [] c t = ap (λ b. cond {A = Result (List Picture) VoxelError} b (Err Shape) (Ok [])) (and_first (n == 2) (z == 0) t)
missing_at n z (p ∷ ps) c t =
    let e : (z == 0) ≡ true = and_second (n == 2) (z == 0) t in
    let zero : z ≡ 0 = grind (arith, nat_tests) in
    absurd (omega (arith, c))

pub frames_refused : (n : ℕ) (s : Stream) (z : ℕ) (rest : List ℕ) (e : VoxelError) → IsPassed (whole_of n s) (takes_of n s) z rest → 0 < length rest → frame_at n z s.width s.height s.extra rest ≡ Err e → frames_of n s ≡ Err e
unfolding frames_of
frames_refused n s z rest e h l r = ap (λ o. then_ok o (none_missing n)) (passed_refused (whole_of n s) (takes_of n s) z rest e h l r)

pub frames_missing : (n : ℕ) (s : Stream) (z : ℕ) (rest : List ℕ) → IsPassed (whole_of n s) (takes_of n s) z rest → length rest ≤ 0 → ((n == 2) && (z == 0)) ≡ true → frames_of n s ≡ Err Shape
unfolding frames_of
frames_missing n s z rest h l t = ap (λ o. then_ok o (none_missing n)) (passed_all (whole_of n s) (takes_of n s) z rest h l) ∙ missing_at n z h.images h.count t

pub frames_all : (n : ℕ) (s : Stream) (z : ℕ) (rest : List ℕ) → (h : IsPassed (whole_of n s) (takes_of n s) z rest) → length rest ≤ 0 → ((n == 2) && (z == 0)) ≡ false → frames_of n s ≡ Ok h.images
unfolding frames_of
frames_all n s z rest h l t = ap (λ o. then_ok o (none_missing n)) (passed_all (whole_of n s) (takes_of n s) z rest h l) ∙ none_missing_at n z h.images h.count t

-- dimension 2 takes a frame
pub frames_none : (n : ℕ) (s : Stream) → frames_of n s ≡ Ok [] → (n == 2) ≡ false
unfolding frames_of
frames_none n s e = at (whole_of n s) (n == 2) refl e
  where
    at : (r : Result (List Picture) VoxelError) (b : Bool) → (n == 2) ≡ b → then_ok r (none_missing n) ≡ Ok [] → (n == 2) ≡ false
    at (Err x) b p h = absurd (cc h)
    at (Ok (q ∷ qs)) b p h = absurd (cc h)
    at (Ok []) true p h = absurd (cc (ap (λ b. cond {A = Result (List Picture) VoxelError} b (Err Shape) (Ok [])) p, h))
    at (Ok []) false p h = p

then_found : (n : ℕ) (r : Result (List Picture) VoxelError) (ps : List Picture) → then_ok r (none_missing n) ≡ Ok ps → r ≡ Ok ps
then_found n (Err e) ps h = absurd (cc h)
then_found n (Ok []) ps h = at (n == 2) (Ok []) h
  where
    at : (b : Bool) (r : Result (List Picture) VoxelError) → cond b (Err Shape) r ≡ Ok ps → r ≡ Ok ps
    at true r h = absurd (cc h)
    at false r h = h
then_found n (Ok (q ∷ qs)) ps h = h

pub frames_marked_all : (n : ℕ) (s : Stream) (z : ℕ) (rest : List ℕ) (threshold : ℕ) (marks : List ℕ) → IsMarked (whole_of n s) (takes_of n s) z rest (s.height * s.width) threshold marks → length rest ≤ 0
    → (ps : List Picture) → frames_of n s ≡ Ok ps → AreMarked marks (s.height * s.width) (length ps) threshold ps
unfolding frames_of
frames_marked_all n s z rest threshold marks h l ps e = marked_all (whole_of n s) (takes_of n s) z rest (s.height * s.width) threshold marks h l ps (then_found n (whole_of n s) ps e)
