-- Sums over the entries of a scene.
use Rattle.std.proofs.Common.{◌≡◌, ℕ, ◌+◌, ◌≤◌, Bool, true, false, cond, List, [], ◌∷◌, Some, refl, sym, ap, ◌∙◌, sum_by, arith}
use Rattle.std.proofs.lemmas.List.Sums.{sum_by-cons, sum_by-le-sum_by}
use Rattle.evm_model.specs.Orders.{is_among}
use Rattle.evm_model.specs.Scene.{Entry, has_name, entry_of, without_entry}
use Rattle.evm_model.proofs.Names.{name_sym, among_here, among_later, apart}
use Rattle.evm_model.proofs.Lookups.{same_entry, no_some, without_other}
use Rattle.evm_model.proofs.Counts.{AllDiffer}

-- the entry of a name apart from the others
pub sum_without : (h : Entry → ℕ) (es : List Entry) (name : List ℕ) (e : Entry) → entry_of es name ≡ Some e → sum_by h es ≡ h e + sum_by h (without_entry es name)
sum_without h [] name e at = no_some e at
sum_without h (y ∷ ys) name e at = by (has_name name y) refl (λ k. sum_without h ys name e k)
  where
    by : (b : Bool) → has_name name y ≡ b → (entry_of ys name ≡ Some e → sum_by h ys ≡ h e + sum_by h (without_entry ys name))
        → sum_by h (y ∷ ys) ≡ h e + sum_by h (without_entry (y ∷ ys) name)
    by true d more =
        sum_by-cons h y ys
        ∙ ap (λ (z : Entry). h z + sum_by h ys) (same_entry y e (sym (ap (λ (b : Bool). cond b (Some y) (entry_of ys name)) d) ∙ at))
        ∙ sym (ap (λ (b : Bool). h e + sum_by h (cond b ys (y ∷ without_entry ys name))) d)
    by false d more =
        let rest = more (sym (ap (λ (b : Bool). cond b (Some y) (entry_of ys name)) d) ∙ at) in
        let left : sum_by h (without_entry (y ∷ ys) name) ≡ h y + sum_by h (without_entry ys name) =
        ap (λ (b : Bool). sum_by h (cond b ys (y ∷ without_entry ys name))) d ∙ sum_by-cons h y (without_entry ys name) in
        omega (arith, sum_by-cons h y ys, rest, left)

-- a name has an entry that counts as much or more
abbrev pub Reaches : (List ℕ → ℕ) → (Entry → ℕ) → List Entry → List ℕ → Type 0
Reaches g h es x = (e : Entry) × (entry_of es x ≡ Some e) × (g x ≤ h e)

-- a sum over different names is no more than one over all entries
pub sum_keys : (g : List ℕ → ℕ) (h : Entry → ℕ) (keys : List (List ℕ)) (es : List Entry) → AllDiffer keys
    → ((x : List ℕ) → is_among x keys ≡ true → Reaches g h es x) → sum_by g keys ≤ sum_by h es
sum_keys g h [] es d each = omega arith
sum_keys g h (k ∷ ks) es d each =
    let (e, at, few) = each k (among_here k ks) in
    omega (arith, sum_by-cons g k ks, sum_without h es k e at, few, sum_keys g h ks (without_entry es k) d.1 rest)
  where
    rest : (x : List ℕ) → is_among x ks ≡ true → Reaches g h (without_entry es k) x
    rest x m =
        let (e, at, few) = each x (among_later x k ks m) in
        (e, without_other es k x (name_sym x k ∙ apart k x ks d.0 m) ∙ at, few)

-- with what one name counts, where its own entry counts nothing
pub sum_own : (g h : Entry → ℕ) (es : List Entry) (name : List ℕ) (e : Entry) (own : ℕ) → entry_of es name ≡ Some e → g e ≡ 0 → own ≤ h e → ((y : Entry) → g y ≤ h y)
    → own + sum_by g es ≤ sum_by h es
sum_own g h es name e own at none few each =
    omega (arith, sum_without g es name e at, sum_without h es name e at, none, few, sum_by-le-sum_by g h (without_entry es name) each)
