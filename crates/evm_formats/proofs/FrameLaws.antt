-- Frames of a stream, one behind the other.
use Rattle.std.proofs.Common.{◌≡◌, ℕ, ◌+◌, ◌*◌, ◌≤◌, ◌<◌, ◌==◌, nat_le, nat_lt, Bool, true, false, cond, ◌||◌, List, [], ◌∷◌, ◌++◌, length, take, drop, Option, Some, None, Ok, Err, refl, sym, ap, ap₂, ◌∙◌, arith, length-append}
use Rattle.std.specs.Prelude.{Result, option_map, nat_eq, codes}
use Rattle.std.specs.List.{starts_with}
use Rattle.std.proofs.lemmas.Bool.Decides.{nat_tests}
use Rattle.std.proofs.lemmas.List.{take-append-le, drop-append-le}
use Rattle.evm_cells.specs.Limits.{limit}
use Rattle.evm_cells.proofs.Xor.{and_first, and_second, and_both}
use Rattle.evm_formats.specs.declared.voxels.VoxelError.{VoxelError}
use Rattle.evm_formats.specs.declared.voxels.VoxelError.TheVariants.{Shape, Range, Short}
use Rattle.evm_formats.specs.Images.{Picture, Taken, Takes, then_ok, all_images}
use Rattle.evm_formats.specs.Y4m.{Stream, cut_at, after_frame, planes_of, planes_at, frame_at, none_missing, frames_of}
use Rattle.evm_formats.specs.VoxelLaws.{FramesJoin}
use Rattle.evm_formats.proofs.Lengths.{frames-take}
use Rattle.evm_formats.proofs.Joins.{Extends, Renumbers, all-join, all-renumber}

-- ---- a frame, and what is appended

cut-append : (stop : ℕ) (bs ys : List ℕ) (r : List ℕ × List ℕ) → cut_at stop bs ≡ Some r → cut_at stop (bs ++ ys) ≡ Some (r.0, r.1 ++ ys)
unfolding cut_at
cut-append stop [] ys r e = absurd (cc e)
cut-append stop (b ∷ bs) ys r e = at (b == stop) (cut_at stop bs) (λ q. cut-append stop bs ys q) e
  where
    longer : Option (List ℕ × List ℕ) → Option (List ℕ × List ℕ)
    longer None = None
    longer (Some p) = Some (p.0, p.1 ++ ys)

    at : (t : Bool) (o : Option (List ℕ × List ℕ)) → ((q : List ℕ × List ℕ) → o ≡ Some q → cut_at stop (bs ++ ys) ≡ Some (q.0, q.1 ++ ys))
        → cond {A = Option (List ℕ × List ℕ)} t (Some ([], bs)) (option_map (λ (r : List ℕ × List ℕ). (b ∷ r.0, r.1)) o) ≡ Some r
        → cond {A = Option (List ℕ × List ℕ)} t (Some ([], bs ++ ys)) (option_map (λ (r : List ℕ × List ℕ). (b ∷ r.0, r.1)) (cut_at stop (bs ++ ys))) ≡ Some (r.0, r.1 ++ ys)
    at true o h e = ap longer e
    at false None h e = absurd (cc e)
    at false (Some p) h e = ap (option_map (λ (r : List ℕ × List ℕ). (b ∷ r.0, r.1))) (h p refl) ∙ ap longer e

line-append : (bs ys rest : List ℕ) → option_map (λ (r : List ℕ × List ℕ). r.1) (cut_at 10 bs) ≡ Some rest → option_map (λ (r : List ℕ × List ℕ). r.1) (cut_at 10 (bs ++ ys)) ≡ Some (rest ++ ys)
line-append bs ys rest e = at (cut_at 10 bs) refl e
  where
    at : (o : Option (List ℕ × List ℕ)) → cut_at 10 bs ≡ o → option_map (λ (r : List ℕ × List ℕ). r.1) o ≡ Some rest → option_map (λ (r : List ℕ × List ℕ). r.1) (cut_at 10 (bs ++ ys)) ≡ Some (rest ++ ys)
    at None p e = absurd (cc e)
    at (Some r) p e = let q : r.1 ≡ rest = cc e in ap (option_map (λ (r : List ℕ × List ℕ). r.1)) (cut-append 10 bs ys r p) ∙ ap (λ (t : List ℕ). Some (t ++ ys)) q

after-append : (bs ys rest : List ℕ) → after_frame bs ≡ Some rest → after_frame (bs ++ ys) ≡ Some (rest ++ ys)
after-append [] ys rest e = absurd (cc e)
after-append (b ∷ bs) ys rest e = at (b == 10) (b == 32) e
  where
    at : (s t : Bool) → cond s (Some bs) (cond t (option_map (λ (r : List ℕ × List ℕ). r.1) (cut_at 10 bs)) None) ≡ Some rest
        → cond s (Some (bs ++ ys)) (cond t (option_map (λ (r : List ℕ × List ℕ). r.1) (cut_at 10 (bs ++ ys))) None) ≡ Some (rest ++ ys)
    at true t e = let q : bs ≡ rest = cc e in ap (λ (t : List ℕ). Some (t ++ ys)) q
    at false true e = line-append bs ys rest e
    at false false e = absurd (cc e)

starts-append : (word bs ys : List ℕ) → starts_with nat_eq bs word ≡ true → (starts_with nat_eq (bs ++ ys) word ≡ true) × (length word ≤ length bs)
starts-append [] bs ys e = (refl, omega arith)
starts-append (w ∷ word) [] ys e = absurd (cc e)
starts-append (w ∷ word) (b ∷ bs) ys e =
    let (p, l) = starts-append word bs ys (and_second (nat_eq w b) (starts_with nat_eq bs word) e) in
    (and_both (nat_eq w b) (starts_with nat_eq (bs ++ ys) word) (and_first (nat_eq w b) (starts_with nat_eq bs word) e) p, omega arith)

planes-append : (bs ys rest : List ℕ) → planes_of bs ≡ Some rest → planes_of (bs ++ ys) ≡ Some (rest ++ ys)
planes-append bs ys rest e = at (starts_with nat_eq bs (codes "FRAME")) refl e
  where
    at : (t : Bool) → starts_with nat_eq bs (codes "FRAME") ≡ t → cond t (after_frame (drop 5 bs)) None ≡ Some rest
        → cond (starts_with nat_eq (bs ++ ys) (codes "FRAME")) (after_frame (drop 5 (bs ++ ys))) None ≡ Some (rest ++ ys)
    at false p e = absurd (cc e)
    at true p e =
        let (q, l) = starts-append (codes "FRAME") bs ys p in
        ap₂ (λ t u. cond t (after_frame u) None) q (drop-append-le 5 bs ys l) ∙ after-append (drop 5 bs) ys rest e

abbrev longer : Taken → List ℕ → Taken
longer t ys = record { picture = t.picture; rest = t.rest ++ ys }

planes_at-append : (n z w h extra : ℕ) (o p : Option (List ℕ)) (ys : List ℕ) (t : Taken) → ((rest : List ℕ) → o ≡ Some rest → p ≡ Some (rest ++ ys)) → planes_at n z w h extra o ≡ Ok t → planes_at n z w h extra p ≡ Ok (longer t ys)
unfolding planes_at
planes_at-append n z w h extra None p ys t q e = absurd (cc e)
planes_at-append n z w h extra (Some bs) p ys t q e =
    ap (planes_at n z w h extra) (q bs refl) ∙ at (nat_lt z (limit n)) ((n == 3) || (z == 0)) (nat_le (h * w + extra) (length bs)) refl e
  where
    found : List ℕ → Taken
    found rest = record { picture = record { bytes = take (h * w) rest; wide = false }; rest = drop (h * w + extra) rest }

    at : (a b c : Bool) → nat_le (h * w + extra) (length bs) ≡ c
        → cond {A = Result Taken VoxelError} a (cond {A = Result Taken VoxelError} b (cond {A = Result Taken VoxelError} c (Ok (found bs)) (Err Short)) (Err Shape)) (Err Range) ≡ Ok t
        → cond {A = Result Taken VoxelError} a (cond {A = Result Taken VoxelError} b (cond {A = Result Taken VoxelError} (nat_le (h * w + extra) (length (bs ++ ys))) (Ok (found (bs ++ ys))) (Err Short)) (Err Shape)) (Err Range) ≡ Ok (longer t ys)
    at false b c p e = absurd (cc e)
    at true false c p e = absurd (cc e)
    at true true false p e = absurd (cc e)
    at true true true p e =
        let l : h * w + extra ≤ length bs = grind (arith, nat_tests) in
        let m : h * w + extra ≤ length (bs ++ ys) = omega (arith, length-append bs ys) in
        let fits : nat_le (h * w + extra) (length (bs ++ ys)) ≡ true = grind (arith, nat_tests) in
        let same : found bs ≡ t = cc e in
        ap (λ t. cond {A = Result Taken VoxelError} t (Ok (found (bs ++ ys))) (Err Short)) fits
        ∙ ap₂ (λ (u v : List ℕ). Ok (record { picture = record { bytes = u; wide = false }; rest = v })) (take-append-le (h * w) bs ys (omega arith)) (drop-append-le (h * w + extra) bs ys l)
        ∙ ap (λ (t : Taken). Ok (longer t ys)) same

abbrev takes_of : Stream → Takes
takes_of s z bs = frame_at 3 z s.width s.height s.extra bs

frames-extend : (s : Stream) (ys : List ℕ) → Extends (takes_of s) ys
unfolding frame_at
frames-extend s ys z xs t e =
    planes_at-append 3 z s.width s.height s.extra (planes_of xs) (planes_of (xs ++ ys)) ys t (λ rest p. planes-append xs ys rest p) e

-- ---- a frame under another number

planes_at-again : (z y w h extra : ℕ) (o : Option (List ℕ)) (t : Taken) → y < limit 3 → planes_at 3 z w h extra o ≡ Ok t → planes_at 3 y w h extra o ≡ Ok t
unfolding planes_at
planes_at-again z y w h extra None t l e = absurd (cc e)
planes_at-again z y w h extra (Some bs) t l e = at (nat_lt z (limit 3)) _ e
  where
    at : (a : Bool) (r : Result Taken VoxelError) → cond {A = Result Taken VoxelError} a r (Err Range) ≡ Ok t → cond {A = Result Taken VoxelError} (nat_lt y (limit 3)) r (Err Range) ≡ Ok t
    at true r e = let few : nat_lt y (limit 3) ≡ true = grind (arith, nat_tests) in ap (λ b. cond {A = Result Taken VoxelError} b r (Err Range)) few ∙ e
    at false r e = absurd (cc e)

frames-renumber : (s : Stream) (k : ℕ) → Renumbers (takes_of s) k (limit 3)
unfolding frame_at
frames-renumber s k z xs t l e = planes_at-again z (z + k) s.width s.height s.extra (planes_of xs) t l e

-- ---- the law

none_missing_there : (ps : List Picture) → none_missing 3 ps ≡ Ok ps
none_missing_there [] = refl
none_missing_there (p ∷ ps) = refl

all_found : (r : Result (List Picture) VoxelError) (ps : List Picture) → then_ok r (none_missing 3) ≡ Ok ps → r ≡ Ok ps
all_found (Err e) ps h = absurd (cc h)
all_found (Ok qs) ps h = sym (none_missing_there qs) ∙ h

pub frames_join : FramesJoin
unfolding frames_of
frames_join s front back ps qs a b l =
    let first : all_images (takes_of s) 0 front ≡ Ok ps = all_found (all_images (takes_of s) 0 front) ps a in
    let second : all_images (takes_of s) 0 back ≡ Ok qs = all_found (all_images (takes_of s) 0 back) qs b in
    let behind : all_images (takes_of s) (0 + length ps) back ≡ Ok qs =
    all-renumber (takes_of s) (frames-take 3 s.width s.height s.extra) (length ps) (limit 3) (frames-renumber s (length ps)) 0 back qs (omega arith) second in
    ap (λ r. then_ok r (none_missing 3)) (all-join (takes_of s) (frames-take 3 s.width s.height s.extra) back (frames-extend s back) 0 front ps qs first behind)
    ∙ none_missing_there (ps ++ qs)
