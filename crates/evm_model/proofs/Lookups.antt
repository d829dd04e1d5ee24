-- Which entry a name has after each change of a scene.
use Rattle.std.proofs.Common.{◌≡◌, ℕ, ◌+◌, Bool, true, false, not, cond, ◌&&◌, ◌||◌, List, [], ◌∷◌, ◌++◌, length, suc, Option, Some, None, refl, sym, ap, ◌∙◌, subst, is_some, bytes_eq, length-append, arith}
use Rattle.std.specs.List.{list_any, list_all}
use Rattle.std.proofs.lemmas.Bool.{false≢true}
use Rattle.std.proofs.lemmas.List.Folds.{list_any-append}
use Rattle.evm_cells.proofs.Xor.{and_first, and_second, and_both}
use Rattle.evm_model.specs.Scene.{Entry, has_name, entry_of, with_entry, without_entry, names_differ}
use Rattle.evm_model.proofs.Names.{by_name, by_test, not_both, same_name, name_itself, name_sym, or_none, neither, or-false, not_true}

-- whether a name stands, as a test of each entry
pub stands_any : (es : List Entry) (name : List ℕ) → is_some (entry_of es name) ≡ list_any (has_name name) es
stands_any [] name = refl
stands_any (e ∷ es) name =
    elim (has_name name e) as (λ b. is_some (cond b (Some e) (entry_of es name)) ≡ b || list_any (has_name name) es) [ true ↦ refl | false ↦ stands_any es name ]

-- an entry that does not stand is none
pub none_stands : (es : List Entry) (name : List ℕ) → is_some (entry_of es name) ≡ false → entry_of es name ≡ None
none_stands es name out = by (entry_of es name) refl
  where
    by : (o : Option Entry) → entry_of es name ≡ o → o ≡ None
    by None q = refl
    by (Some e) q = not_both (is_some (entry_of es name)) (ap (λ (x : Option Entry). is_some x) q) out

pub same_entry : (x e : Entry) → Some x ≡ Some e → x ≡ e
same_entry x e q = cc

pub no_some : {C : Type 0} (e : Entry) → None ≡ Some e → C
no_some {C} e q = absurd (never q)
  where
    never : None ≡ Some e → ⊥
    never k = cc

-- an entry that is found has the name
pub found_name : (es : List Entry) (name : List ℕ) (e : Entry) → entry_of es name ≡ Some e → e.name ≡ name
found_name [] name e f = no_some e f
found_name (x ∷ es) name e f =
    elim (has_name name x) as (λ b. has_name name x ≡ b → cond b (Some x) (entry_of es name) ≡ Some e → e.name ≡ name) [
      | true ↦ λ h k. ap (λ (y : Entry). y.name) (sym (same_entry x e k)) ∙ sym (same_name name x.name h)
      | false ↦ λ h k. found_name es name e k
    ] refl f

-- and passes what all entries pass
pub found_passes : (p : Entry → Bool) (es : List Entry) (name : List ℕ) (e : Entry) → entry_of es name ≡ Some e → list_all p es ≡ true → p e ≡ true
found_passes p [] name e f h = no_some e f
found_passes p (x ∷ es) name e f h =
    elim (has_name name x) as (λ b. cond b (Some x) (entry_of es name) ≡ Some e → p e ≡ true) [
      | true ↦ λ k. subst (λ (y : Entry). p y ≡ true) (same_entry x e k) (and_first (p x) (list_all p es) h)
      | false ↦ λ k. found_passes p es name e k (and_second (p x) (list_all p es) h)
    ] f

-- with another entry in the place of a name: the others stay
pub with_other : (es : List Entry) (name other : List ℕ) (new : Entry) → new.name ≡ name → bytes_eq other name ≡ false → entry_of (with_entry es name new) other ≡ entry_of es other
with_other [] name other new n d = refl
with_other (e ∷ es) name other new n d =
    elim (has_name name e) as (λ b. has_name name e ≡ b → entry_of (cond b (new ∷ es) (e ∷ with_entry es name new)) other ≡ entry_of (e ∷ es) other) [
      | true ↦ λ h.
          ap (λ (b : Bool). cond b (Some new) (entry_of es other)) (ap (λ (x : List ℕ). bytes_eq other x) n ∙ d)
          ∙ sym (ap (λ (b : Bool). cond b (Some e) (entry_of es other)) (ap (λ (x : List ℕ). bytes_eq other x) (sym (same_name name e.name h)) ∙ d))
      | false ↦ λ h. ap (λ (o : Option Entry). cond (has_name other e) (Some e) o) (with_other es name other new n d)
    ] refl

-- and the name has the new one
pub with_own : (es : List Entry) (name : List ℕ) (new : Entry) → new.name ≡ name → is_some (entry_of es name) ≡ true → entry_of (with_entry es name new) name ≡ Some new
with_own [] name new n s = absurd (false≢true s)
with_own (e ∷ es) name new n s =
    elim (has_name name e) as (λ b. has_name name e ≡ b → is_some (cond b (Some e) (entry_of es name)) ≡ true → entry_of (cond b (new ∷ es) (e ∷ with_entry es name new)) name ≡ Some new) [
      | true ↦ λ h k. ap (λ (b : Bool). cond b (Some new) (entry_of es name)) (ap (λ (x : List ℕ). bytes_eq name x) n ∙ name_itself name)
      | false ↦ λ h k. ap (λ (b : Bool). cond b (Some e) (entry_of (with_entry es name new) name)) h ∙ with_own es name new n k
    ] refl s

-- where no entry has the name, nothing is replaced
pub with_none : (es : List Entry) (name : List ℕ) (new : Entry) → is_some (entry_of es name) ≡ false → with_entry es name new ≡ es
with_none [] name new s = refl
with_none (e ∷ es) name new s =
    elim (has_name name e) as (λ b. is_some (cond b (Some e) (entry_of es name)) ≡ false → cond b (new ∷ es) (e ∷ with_entry es name new) ≡ e ∷ es)
    [ true ↦ λ k. absurd (false≢true (sym k)) | false ↦ λ k. ap (λ (xs : List Entry). e ∷ xs) (with_none es name new k) ] s

-- the entries as many as before
pub length-with : (es : List Entry) (name : List ℕ) (new : Entry) → length (with_entry es name new) ≡ length es
length-with [] name new = refl
length-with (e ∷ es) name new =
    elim (has_name name e) as (λ b. length (cond b (new ∷ es) (e ∷ with_entry es name new)) ≡ length (e ∷ es))
    [ true ↦ refl | false ↦ ap suc (length-with es name new) ]

-- the same names stand
pub with_stands : (es : List Entry) (name other : List ℕ) (new : Entry) → new.name ≡ name → is_some (entry_of (with_entry es name new) other) ≡ is_some (entry_of es other)
with_stands es name other new n =
    by_name other name
    (λ e. by_test (is_some (entry_of es name))
    (λ s. subst (λ (x : List ℕ). is_some (entry_of (with_entry es name new) x) ≡ is_some (entry_of es x)) (sym e) (ap (λ (o : Option Entry). is_some o) (with_own es name new n s) ∙ sym s))
    (λ s. ap (λ (xs : List Entry). is_some (entry_of xs other)) (with_none es name new s)))
    (λ d. ap (λ (o : Option Entry). is_some o) (with_other es name other new n d))

any_with : (es : List Entry) (name other : List ℕ) (new : Entry) → new.name ≡ name → list_any (has_name other) (with_entry es name new) ≡ list_any (has_name other) es
any_with es name other new n = sym (stands_any (with_entry es name new) other) ∙ with_stands es name other new n ∙ stands_any es other

pub differ_with : (es : List Entry) (name : List ℕ) (new : Entry) → new.name ≡ name → names_differ es ≡ true → names_differ (with_entry es name new) ≡ true
differ_with [] name new n d = refl
differ_with (e ∷ es) name new n d =
    elim (has_name name e) as (λ b. has_name name e ≡ b → names_differ (cond b (new ∷ es) (e ∷ with_entry es name new)) ≡ true) [
      | true ↦ λ h. ap (λ (x : List ℕ). not (list_any (has_name x) es) && names_differ es) (n ∙ same_name name e.name h) ∙ d
      | false ↦ λ h. and_both (not (list_any (has_name e.name) (with_entry es name new))) (names_differ (with_entry es name new))
          (ap not (any_with es name e.name new n) ∙ and_first (not (list_any (has_name e.name) es)) (names_differ es) d)
          (differ_with es name new n (and_second (not (list_any (has_name e.name) es)) (names_differ es) d))
    ] refl

-- what all entries pass, and the new one
pub all_with : (p : Entry → Bool) (es : List Entry) (name : List ℕ) (new : Entry) → p new ≡ true → list_all p es ≡ true → list_all p (with_entry es name new) ≡ true
all_with p [] name new k h = refl
all_with p (e ∷ es) name new k h =
    elim (has_name name e) as (λ b. list_all p (cond b (new ∷ es) (e ∷ with_entry es name new)) ≡ true) [
      | true ↦ and_both (p new) (list_all p es) k (and_second (p e) (list_all p es) h)
      | false ↦ and_both (p e) (list_all p (with_entry es name new)) (and_first (p e) (list_all p es) h) (all_with p es name new k (and_second (p e) (list_all p es) h))
    ]

-- without the entry of a name: the others stay
pub without_other : (es : List Entry) (name other : List ℕ) → bytes_eq other name ≡ false → entry_of (without_entry es name) other ≡ entry_of es other
without_other [] name other d = refl
without_other (e ∷ es) name other d =
    elim (has_name name e) as (λ b. has_name name e ≡ b → entry_of (cond b es (e ∷ without_entry es name)) other ≡ entry_of (e ∷ es) other) [
      | true ↦ λ h. sym (ap (λ (b : Bool). cond b (Some e) (entry_of es other)) (ap (λ (x : List ℕ). bytes_eq other x) (sym (same_name name e.name h)) ∙ d))
      | false ↦ λ h. ap (λ (o : Option Entry). cond (has_name other e) (Some e) o) (without_other es name other d)
    ] refl

-- and the name does not stand, where names differ
pub without_own : (es : List Entry) (name : List ℕ) → names_differ es ≡ true → entry_of (without_entry es name) name ≡ None
without_own [] name d = refl
without_own (e ∷ es) name d =
    elim (has_name name e) as (λ b. has_name name e ≡ b → entry_of (cond b es (e ∷ without_entry es name)) name ≡ None) [
      | true ↦ λ h. none_stands es name (stands_any es name ∙ ap (λ (x : List ℕ). list_any (has_name x) es) (same_name name e.name h) ∙ not_true (list_any (has_name e.name) es) (and_first (not (list_any (has_name e.name) es)) (names_differ es) d))
      | false ↦ λ h. ap (λ (b : Bool). cond b (Some e) (entry_of (without_entry es name) name)) h ∙ without_own es name (and_second (not (list_any (has_name e.name) es)) (names_differ es) d)
    ] refl

-- one entry less
pub length-without : (es : List Entry) (name : List ℕ) → is_some (entry_of es name) ≡ true → length (without_entry es name) + 1 ≡ length es
length-without [] name s = absurd (false≢true s)
length-without (e ∷ es) name s =
    elim (has_name name e) as (λ b. is_some (cond b (Some e) (entry_of es name)) ≡ true → length (cond b es (e ∷ without_entry es name)) + 1 ≡ length (e ∷ es))
    [ true ↦ λ k. omega arith | false ↦ λ k. omega (arith, length-without es name k) ] s

-- where no entry has the name, none is taken out
pub without_none : (es : List Entry) (name : List ℕ) → is_some (entry_of es name) ≡ false → without_entry es name ≡ es
without_none [] name s = refl
without_none (e ∷ es) name s =
    elim (has_name name e) as (λ b. is_some (cond b (Some e) (entry_of es name)) ≡ false → cond b es (e ∷ without_entry es name) ≡ e ∷ es)
    [ true ↦ λ k. absurd (false≢true (sym k)) | false ↦ λ k. ap (λ (xs : List Entry). e ∷ xs) (without_none es name k) ] s

-- what no entry passes, none that is left passes
pub any_without : (p : Entry → Bool) (es : List Entry) (name : List ℕ) → list_any p es ≡ false → list_any p (without_entry es name) ≡ false
any_without p [] name h = refl
any_without p (e ∷ es) name h =
    elim (has_name name e) as (λ b. list_any p (cond b es (e ∷ without_entry es name)) ≡ false) [
      | true ↦ (or_none (p e) (list_any p es) h).1
      | false ↦ neither (p e) (list_any p (without_entry es name)) (or_none (p e) (list_any p es) h).0 (any_without p es name (or_none (p e) (list_any p es) h).1)
    ]

pub all_without : (p : Entry → Bool) (es : List Entry) (name : List ℕ) → list_all p es ≡ true → list_all p (without_entry es name) ≡ true
all_without p [] name h = refl
all_without p (e ∷ es) name h =
    elim (has_name name e) as (λ b. list_all p (cond b es (e ∷ without_entry es name)) ≡ true) [
      | true ↦ and_second (p e) (list_all p es) h
      | false ↦ and_both (p e) (list_all p (without_entry es name)) (and_first (p e) (list_all p es) h) (all_without p es name (and_second (p e) (list_all p es) h))
    ]

pub differ_without : (es : List Entry) (name : List ℕ) → names_differ es ≡ true → names_differ (without_entry es name) ≡ true
differ_without [] name d = refl
differ_without (e ∷ es) name d =
    elim (has_name name e) as (λ b. names_differ (cond b es (e ∷ without_entry es name)) ≡ true) [
      | true ↦ and_second (not (list_any (has_name e.name) es)) (names_differ es) d
      | false ↦ and_both (not (list_any (has_name e.name) (without_entry es name))) (names_differ (without_entry es name))
          (ap not (any_without (has_name e.name) es name (not_true (list_any (has_name e.name) es) (and_first (not (list_any (has_name e.name) es)) (names_differ es) d))))
          (differ_without es name (and_second (not (list_any (has_name e.name) es)) (names_differ es) d))
    ]

-- with an entry at the end: the others stay
pub push_other : (es : List Entry) (new : Entry) (other : List ℕ) → bytes_eq other new.name ≡ false → entry_of (es ++ new ∷ []) other ≡ entry_of es other
push_other [] new other d = ap (λ (b : Bool). cond b (Some new) None) d
push_other (e ∷ es) new other d = ap (λ (o : Option Entry). cond (has_name other e) (Some e) o) (push_other es new other d)

-- a name that stood keeps its entry
pub push_old : (es : List Entry) (new : Entry) (other : List ℕ) → is_some (entry_of es other) ≡ true → entry_of (es ++ new ∷ []) other ≡ entry_of es other
push_old [] new other s = absurd (false≢true s)
push_old (e ∷ es) new other s =
    elim (has_name other e) as (λ b. is_some (cond b (Some e) (entry_of es other)) ≡ true → cond b (Some e) (entry_of (es ++ new ∷ []) other) ≡ cond b (Some e) (entry_of es other))
    [ true ↦ λ k. refl | false ↦ λ k. push_old es new other k ] s

-- and the new name has the new one
pub push_own : (es : List Entry) (new : Entry) → is_some (entry_of es new.name) ≡ false → entry_of (es ++ new ∷ []) new.name ≡ Some new
push_own [] new s = ap (λ (b : Bool). cond b (Some new) None) (name_itself new.name)
push_own (e ∷ es) new s =
    elim (has_name new.name e) as (λ b. is_some (cond b (Some e) (entry_of es new.name)) ≡ false → cond b (Some e) (entry_of (es ++ new ∷ []) new.name) ≡ Some new)
    [ true ↦ λ k. absurd (false≢true (sym k)) | false ↦ λ k. push_own es new k ] s

pub length-push : (es : List Entry) (new : Entry) → length (es ++ new ∷ []) ≡ length es + 1
length-push es new = length-append es (new ∷ [])

pub differ_push : (es : List Entry) (new : Entry) → names_differ es ≡ true → is_some (entry_of es new.name) ≡ false → names_differ (es ++ new ∷ []) ≡ true
differ_push [] new d s = refl
differ_push (e ∷ es) new d s =
    let parts = or_none (has_name new.name e) (list_any (has_name new.name) es) (sym (stands_any (e ∷ es) new.name) ∙ s) in
    and_both (not (list_any (has_name e.name) (es ++ new ∷ []))) (names_differ (es ++ new ∷ []))
    (ap not (list_any-append (has_name e.name) es (new ∷ []) ∙ neither (list_any (has_name e.name) es) (has_name e.name new || false)
    (not_true (list_any (has_name e.name) es) (and_first (not (list_any (has_name e.name) es)) (names_differ es) d))
    (or-false (has_name e.name new) ∙ name_sym e.name new.name ∙ parts.0)))
    (differ_push es new (and_second (not (list_any (has_name e.name) es)) (names_differ es) d) (stands_any es new.name ∙ parts.1))
