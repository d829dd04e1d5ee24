-- Heights that are counted among all heights of the plane, by the lists of cuts of some cell sets.
use Rattle.std.proofs.Common.{◌≡◌, ℕ, Bool, true, false, ◌&&◌, ◌||◌, List, ◌∷◌, length, filter, flat_map, ℤ, refl, sym, ap, ap₂, ◌∙◌, int_le, int_lt, int_eq}
use Rattle.std.specs.List.{list_any, list_all}
use Rattle.evm_cells.specs.Limits.{point_coords, is_point_coord}
use Rattle.evm_cells.specs.Sections.{cuts}
use Rattle.evm_cells.specs.Heights.{is_cut, is_cut_of, is_spanned, spanned_cut_count}
use Rattle.evm_cells.proofs.Xor.{and_first}
use Rattle.evm_cells.proofs.Order.{rising, same_lists, rising-filter, any-filter, at_member}
use Rattle.evm_cells.proofs.Lists.{any-flat_map, any_same}
use Rattle.evm_cells.proofs.Coords.{strict_ints, any-point_coords, rising-point_coords}
use Rattle.evm_cells.proofs.Universe.{absorb, guarded}

-- where a test agrees at all heights with another, and the other passes only heights that are listed in W, the two leave the same
pub look_heights : (n : ℕ) (t u : ℤ → Bool) (W : List ℤ) → rising int_lt W ≡ true → ((h : ℤ) → is_point_coord n h ≡ true → t h ≡ u h)
    → ((h : ℤ) → u h ≡ true → is_point_coord n h ≡ true) → ((h : ℤ) → u h ≡ true → list_any (int_eq h) W ≡ true) → filter t (point_coords n) ≡ filter u W
look_heights n t u W r e p w =
    same_lists int_eq int_lt strict_ints (filter t (point_coords n)) (filter u W)
    (rising-filter int_eq int_lt strict_ints t (point_coords n) (rising-point_coords n)) (rising-filter int_eq int_lt strict_ints u W r)
    (λ h. any-filter int_eq int_lt strict_ints t h (point_coords n)
    ∙ ap (λ b. b && t h) (any-point_coords n h)
    ∙ guarded (is_point_coord n h) (t h) (u h) (e h) (p h)
    ∙ sym (any-filter int_eq int_lt strict_ints u h W ∙ absorb (list_any (int_eq h) W) (u h) (w h)))

-- the cuts of some cell sets of the plane, one after another
abbrev pub all_cuts : List (List (List ℤ)) → List ℤ
all_cuts Ss = flat_map (λ S. cuts 1 0 S) Ss

-- a height is a cut where it is among the cuts
cut_listed : (S : List (List ℤ)) (h : ℤ) → is_point_coord 2 h ≡ true → is_cut 2 S h ≡ list_any (int_eq h) (cuts 1 0 S)
unfolding cuts
cut_listed S h p =
    sym (any-filter int_eq int_lt strict_ints (λ k. is_cut 2 S k) h (point_coords 2) ∙ ap (λ b. b && is_cut 2 S h) (any-point_coords 2 h ∙ p))

pub cuts_listed : (Ss : List (List (List ℤ))) (h : ℤ) → is_point_coord 2 h ≡ true → is_cut_of 2 Ss h ≡ list_any (int_eq h) (all_cuts Ss)
cuts_listed Ss h p =
    any_same (λ S. is_cut 2 S h) (λ S. list_any (int_eq h) (cuts 1 0 S)) (λ S. cut_listed S h p) Ss
    ∙ sym (any-flat_map (int_eq h) (λ S. cuts 1 0 S) Ss)

-- it is in a range where cuts are on both sides
pub span_listed : (Ds : List (List (List ℤ))) (h : ℤ) → is_spanned 2 Ds h ≡ (list_any (λ k. int_le k h) (all_cuts Ds) && list_any (int_le h) (all_cuts Ds))
span_listed Ds h =
    ap₂ (λ a b. a && b) (sym (any-flat_map (λ k. int_le k h) (λ S. cuts 1 0 S) Ds)) (sym (any-flat_map (int_le h) (λ S. cuts 1 0 S) Ds))

-- what all numbers of a list pass, each of them passes
pub listed_passes : (P : ℤ → Bool) (K : List ℤ) (h : ℤ) → list_all P K ≡ true → list_any (int_eq h) K ≡ true → P h ≡ true
listed_passes P K h a m = at_member int_eq int_lt strict_ints P h K m a

-- the test of cuts in a range, by the cuts K of some cell sets and L of some changes
abbrev pub is_listed : List ℤ → List ℤ → ℤ → Bool
is_listed K L h = list_any (int_eq h) K && (list_any (λ k. int_le k h) L && list_any (int_le h) L)

-- it is enough to look at the numbers W, where all cuts are among them
pub spanned_listed : (Ss Ds : List (List (List ℤ))) (K L W : List ℤ) → all_cuts Ss ≡ K → all_cuts Ds ≡ L → rising int_lt W ≡ true
    → list_all (is_point_coord 2) K ≡ true → list_all (λ k. list_any (int_eq k) W) K ≡ true → spanned_cut_count 2 Ss Ds ≡ length (filter (is_listed K L) W)
spanned_listed Ss Ds K L W e f r p w =
    ap length (look_heights 2 (λ h. is_cut_of 2 Ss h && is_spanned 2 Ds h) (is_listed K L) W r
    (λ h q. ap₂ (λ a b. a && b) (cuts_listed Ss h q ∙ ap (list_any (int_eq h)) e)
    (span_listed Ds h ∙ ap (λ X. list_any (λ k. int_le k h) X && list_any (int_le h) X) f))
    (λ h u. listed_passes (is_point_coord 2) K h p (here h u))
    (λ h u. listed_passes (λ k. list_any (int_eq k) W) K h w (here h u)))
  where
    here : (h : ℤ) → is_listed K L h ≡ true → list_any (int_eq h) K ≡ true
    here h u = and_first (list_any (int_eq h) K) (list_any (λ k. int_le k h) L && list_any (int_le h) L) u

-- the test of the heights that an edit by a box looks at, by the cuts K
abbrev pub is_looked : ℤ → ℤ → List ℤ → ℤ → Bool
is_looked lo hi K h = int_eq h lo || int_eq h hi || (list_any (int_eq h) K && int_le lo h && int_le h hi)

-- it passes only what is among the two ends and the cuts
looked_listed : (lo hi : ℤ) (K : List ℤ) (h : ℤ) → is_looked lo hi K h ≡ true → list_any (int_eq h) (lo ∷ hi ∷ K) ≡ true
looked_listed lo hi K h u = at (int_eq h lo) (int_eq h hi) (list_any (int_eq h) K) (int_le lo h) (int_le h hi) u
  where
    at : (a b k l m : Bool) → (a || b || (k && l && m)) ≡ true → (a || (b || k)) ≡ true
    at true b k l m e = refl
    at false true k l m e = refl
    at false false true l m e = refl
    at false false false l m e = e

pub looks_listed : (lo hi : ℤ) (Ss : List (List (List ℤ))) (K W : List ℤ) → all_cuts Ss ≡ K → rising int_lt W ≡ true
    → list_all (is_point_coord 2) (lo ∷ hi ∷ K) ≡ true → list_all (λ k. list_any (int_eq k) W) (lo ∷ hi ∷ K) ≡ true
    → length (filter (λ h. int_eq h lo || int_eq h hi || (is_cut_of 2 Ss h && int_le lo h && int_le h hi)) (point_coords 2)) ≡ length (filter (is_looked lo hi K) W)
looks_listed lo hi Ss K W e r p w =
    ap length (look_heights 2 (λ h. int_eq h lo || int_eq h hi || (is_cut_of 2 Ss h && int_le lo h && int_le h hi)) (is_looked lo hi K) W r
    (λ h q. ap (λ b. int_eq h lo || int_eq h hi || (b && int_le lo h && int_le h hi)) (cuts_listed Ss h q ∙ ap (list_any (int_eq h)) e))
    (λ h u. listed_passes (is_point_coord 2) (lo ∷ hi ∷ K) h p (looked_listed lo hi K h u))
    (λ h u. listed_passes (λ k. list_any (int_eq k) W) (lo ∷ hi ∷ K) h w (looked_listed lo hi K h u)))

-- heights that are just those of a rising list
pub just_heights : (t : ℤ → Bool) (W : List ℤ) → rising int_lt W ≡ true → list_all (is_point_coord 2) W ≡ true
    → ((h : ℤ) → is_point_coord 2 h ≡ true → t h ≡ list_any (int_eq h) W) → filter t (point_coords 2) ≡ W
just_heights t W r p e =
    same_lists int_eq int_lt strict_ints (filter t (point_coords 2)) W (rising-filter int_eq int_lt strict_ints t (point_coords 2) (rising-point_coords 2)) r
    (λ h. any-filter int_eq int_lt strict_ints t h (point_coords 2)
    ∙ ap (λ b. b && t h) (any-point_coords 2 h)
    ∙ guarded (is_point_coord 2 h) (t h) (list_any (int_eq h) W) (e h) (listed_passes (is_point_coord 2) W h p))
