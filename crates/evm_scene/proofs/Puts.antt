-- Nodes that are put in place.
use Rattle.std.proofs.Common.{◌≡◌, ℕ, Bool, true, false, cond, List, [], ◌∷◌, ◌++◌, Option, None, Some, refl, sym, ap, ◌∙◌, length, arith, bytes_eq}
use Rattle.std.specs.Prelude.{option_map}
use Rattle.std.specs.Map.{set_value}
use Rattle.std.proofs.lemmas.Bool.{both_ways}
use Rattle.std.proofs.lemmas.Option.{same_Some, none-some}
use Rattle.evm_model.proofs.Names.{same_name, equal_names, different_names, name_sym}
use Rattle.evm_scene.specs.declared.node.Node.{Node}
use Rattle.evm_formulas.specs.declared.changes.Change.{Change}
use Rattle.evm_scene.specs.Tables.{Table, node_at, put_node, put_solid, with_solid}
use Rattle.evm_scene.specs.Changes.{Pending, change_at, put_all, moved_node}

-- by the word of maps
pub set_is_put : (to : Node → Node) (t : Table) (x : List ℕ) (n : Node) → node_at t x ≡ Some n → set_value (bytes_eq x) t (to n) ≡ put_node to t x
set_is_put to [] x n e = refl
set_is_put to (p ∷ ps) x n e = by (bytes_eq x p.0) refl (λ d. set_is_put to ps x n (sym (ap (λ b. cond b (Some p.1) (node_at ps x)) d) ∙ e))
  where
    by : (b : Bool) → bytes_eq x p.0 ≡ b → (bytes_eq x p.0 ≡ false → set_value (bytes_eq x) ps (to n) ≡ put_node to ps x)
        → set_value (bytes_eq x) (p ∷ ps) (to n) ≡ put_node to (p ∷ ps) x
    by true d more =
        ap (λ b. cond b ((p.0, to n) ∷ ps) (p ∷ set_value (bytes_eq x) ps (to n))) d
        ∙ ap (λ m. (p.0, to m) ∷ ps) (same_Some n p.1 (sym e ∙ ap (λ b. cond b (Some p.1) (node_at ps x)) d))
        ∙ sym (ap (λ b. cond b ((p.0, to p.1) ∷ ps) (p ∷ put_node to ps x)) d)
    by false d more =
        ap (λ b. cond b ((p.0, to n) ∷ ps) (p ∷ set_value (bytes_eq x) ps (to n))) d
        ∙ ap (λ r. p ∷ r) (more d)
        ∙ sym (ap (λ b. cond b ((p.0, to p.1) ∷ ps) (p ∷ put_node to ps x)) d)

-- at a name that does not stand nothing is put
pub put_absent : (to : Node → Node) (t : Table) (x : List ℕ) → node_at t x ≡ None → put_node to t x ≡ t
put_absent to [] x e = refl
put_absent to (p ∷ ps) x e = by (bytes_eq x p.0) refl (λ d. put_absent to ps x (sym (ap (λ b. cond b (Some p.1) (node_at ps x)) d) ∙ e))
  where
    by : (b : Bool) → bytes_eq x p.0 ≡ b → (bytes_eq x p.0 ≡ false → put_node to ps x ≡ ps) → put_node to (p ∷ ps) x ≡ p ∷ ps
    by true d more = absurd (none-some p.1 (sym e ∙ ap (λ b. cond b (Some p.1) (node_at ps x)) d))
    by false d more = ap (λ b. cond b ((p.0, to p.1) ∷ ps) (p ∷ put_node to ps x)) d ∙ ap (λ r. p ∷ r) (more d)

-- the last change first
pub put_all_last : (t : Table) (p : Pending) (x : List ℕ) (c : Change) → put_all (put_solid t x c.after) p ≡ put_all t (p ++ (x, c) ∷ [])
put_all_last t [] x c = refl
put_all_last t (e ∷ es) x c = ap (λ (r : Table). put_solid r e.0 e.1.after) (put_all_last t es x c)

nowhere : (b : Bool) → let n : Option Node = None in n ≡ cond b n n
nowhere true = refl
nowhere false = refl

-- the nodes after one is put in place
pub node_put : (to : Node → Node) (t : Table) (y x : List ℕ) → node_at (put_node to t y) x ≡ cond (bytes_eq y x) (option_map to (node_at t x)) (node_at t x)
node_put to [] y x = nowhere (bytes_eq y x)
node_put to (e ∷ es) y x = by (bytes_eq y e.0) (bytes_eq x e.0) refl refl (node_put to es y x)
  where
    by : (a b : Bool) → bytes_eq y e.0 ≡ a → bytes_eq x e.0 ≡ b
        → node_at (put_node to es y) x ≡ cond (bytes_eq y x) (option_map to (node_at es x)) (node_at es x)
        → node_at (put_node to (e ∷ es) y) x ≡ cond (bytes_eq y x) (option_map to (node_at (e ∷ es) x)) (node_at (e ∷ es) x)
    by true true p q more =
        let d : bytes_eq y x ≡ true = equal_names y x (same_name y e.0 p ∙ sym (same_name x e.0 q)) in
        rw (p, q, d) refl
    by true false p q more =
        let d : bytes_eq y x ≡ false = different_names y x (λ r. both_ways (bytes_eq x e.0) q (equal_names x e.0 (sym r ∙ same_name y e.0 p))) in
        rw (p, q, d) refl
    by false true p q more =
        let d : bytes_eq y x ≡ false = different_names y x (λ r. both_ways (bytes_eq y e.0) p (equal_names y e.0 (r ∙ same_name x e.0 q))) in
        rw (p, q, d) refl
    by false false p q more = rw (p, q) more

pub moved_again : (n : Option Node) (o : Option Change) (c : Change) → option_map (λ n. with_solid n c.after) (moved_node n o) ≡ moved_node n (Some c)
moved_again None o c = refl
moved_again (Some n) None c = refl
moved_again (Some n) (Some d) c = refl

pub moved_none : (n : Option Node) → n ≡ moved_node n None
moved_none None = refl
moved_none (Some n) = refl

-- the nodes after all changes are put in place
pub node_put_all : (t : Table) (p : Pending) (x : List ℕ) → node_at (put_all t p) x ≡ moved_node (node_at t x) (change_at p x)
node_put_all t [] x = moved_none (node_at t x)
node_put_all t (e ∷ es) x = by (bytes_eq x e.0) refl (node_put_all t es x)
  where
    by : (b : Bool) → bytes_eq x e.0 ≡ b → node_at (put_all t es) x ≡ moved_node (node_at t x) (change_at es x)
        → node_at (put_all t (e ∷ es)) x ≡ moved_node (node_at t x) (change_at (e ∷ es) x)
    by true d more =
        node_put (λ n. with_solid n e.1.after) (put_all t es) e.0 x
        ∙ ap (λ b. cond b (option_map (λ n. with_solid n e.1.after) (node_at (put_all t es) x)) (node_at (put_all t es) x)) (name_sym e.0 x ∙ d)
        ∙ ap (λ o. option_map (λ n. with_solid n e.1.after) o) more
        ∙ moved_again (node_at t x) (change_at es x) e.1
        ∙ ap (λ b. moved_node (node_at t x) (cond b (Some e.1) (change_at es x))) (sym d)
    by false d more =
        node_put (λ n. with_solid n e.1.after) (put_all t es) e.0 x
        ∙ ap (λ b. cond b (option_map (λ n. with_solid n e.1.after) (node_at (put_all t es) x)) (node_at (put_all t es) x)) (name_sym e.0 x ∙ d)
        ∙ more
        ∙ ap (λ b. moved_node (node_at t x) (cond b (Some e.1) (change_at es x))) (sym d)

pub length_put : (to : Node → Node) (t : Table) (y : List ℕ) → length (put_node to t y) ≡ length t
length_put to [] y = refl
length_put to (e ∷ es) y = by (bytes_eq y e.0) (length_put to es y)
  where
    by : (b : Bool) → length (put_node to es y) ≡ length es → length (cond b ((e.0, to e.1) ∷ es) (e ∷ put_node to es y)) ≡ length (e ∷ es)
    by true h = refl
    by false h = omega (arith, h)

pub length_put_all : (t : Table) (p : Pending) → length (put_all t p) ≡ length t
length_put_all t [] = refl
length_put_all t (e ∷ es) = length_put (λ n. with_solid n e.1.after) (put_all t es) e.0 ∙ length_put_all t es
