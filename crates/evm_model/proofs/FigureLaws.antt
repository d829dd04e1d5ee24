-- Equal figures.
use Rattle.std.proofs.Common.{◌≡◌, ◌==◌, true, ◌&&◌, List, ℤ, refl}
use Rattle.std.specs.List.{list_all}
use Rattle.std.proofs.lemmas.Bool.Decides.{Decides-eqb}
use Rattle.evm_cells.specs.Places.{same, has, before, ascending}
use Rattle.evm_cells.proofs.Xor.{and_first, and_second, and_both}
use Rattle.evm_cells.proofs.Order.{same_tests, at_member}
use Rattle.evm_cells.proofs.Lists.{all_members}
use Rattle.evm_cells.proofs.Places.{strict_places}
use Rattle.evm_cells.proofs.Universe.{same_sets}
use Rattle.evm_model.specs.Figures.{Figure, same_figure}

-- each cell of a list is in it
all_in_itself : (S : List (List ℤ)) → list_all (has S) S ≡ true
unfolding has
all_in_itself S = all_members same before strict_places (has S) S (λ c m. m)

pub same_itself : (a : Figure) → same_figure a a ≡ true
unfolding same_figure
same_itself a =
    and_both (a.dim == a.dim && list_all (has a.cells) a.cells) (list_all (has a.cells) a.cells)
    (and_both (a.dim == a.dim) (list_all (has a.cells) a.cells) ((Decides-eqb a.dim a.dim).1 refl) (all_in_itself a.cells))
    (all_in_itself a.cells)

in_other : (S T : List (List ℤ)) → list_all (has T) S ≡ true → (c : List ℤ) → has S c ≡ true → has T c ≡ true
unfolding has
in_other S T h c m = at_member same before strict_places (has T) c S m h

-- two figures whose cells ascend are the same exactly if they are equal
pub same_equal : (a b : Figure) → ascending a.cells ≡ true → ascending b.cells ≡ true → same_figure a b ≡ true → a ≡ b
unfolding same_figure
same_equal a b p q h =
    let front = and_first (a.dim == b.dim && list_all (has b.cells) a.cells) (list_all (has a.cells) b.cells) h in
    let back = and_second (a.dim == b.dim && list_all (has b.cells) a.cells) (list_all (has a.cells) b.cells) h in
    let dims = (Decides-eqb a.dim b.dim).0 (and_first (a.dim == b.dim) (list_all (has b.cells) a.cells) front) in
    let into = in_other a.cells b.cells (and_second (a.dim == b.dim) (list_all (has b.cells) a.cells) front) in
    let from = in_other b.cells a.cells back in
    let sets = same_sets a.cells b.cells p q (λ c. same_tests (has a.cells c) (has b.cells c) (into c) (from c)) in
    λ i. record { dim = dims i; cells = sets i }
