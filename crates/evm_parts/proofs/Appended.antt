-- Links that are appended one after another.
use Rattle.std.proofs.Common.{◌≡◌, ◌⊎◌, List, [], ◌∷◌, ◌++◌, refl, sym, ap, subst, ◌∙◌, ⊎_elim, append_assoc, append-nil}
use Rattle.std.specs.List.{Contains}
use Rattle.std.proofs.lemmas.List.Elements.{All-nil, All-cons, All-append, All-weaker, Contains-push, Contains-append_left, Contains-append_right}
use Rattle.evm_parts.specs.Stretches.{AreAppended}
use Rattle.evm_parts.specs.declared.neighbours.Link.{Link}

-- none, where no link has the property
pub none_appended : (P : Link → Type 0) (xs : List Link) → ((l : Link) → P l → ⊥) → AreAppended P xs xs
none_appended P xs fails = record {
  added = [];
  is = sym (append-nil xs);
  sound = All-nil P;
  complete = λ l h. absurd (fails l h);
}

-- one, where no other link has it
pub one_appended : (P : Link → Type 0) (xs : List Link) (x : Link) → P x → ((l : Link) → P l → l ≡ x) → AreAppended P xs (xs ++ x ∷ [])
one_appended P xs x holds one = record {
  added = x ∷ [];
  is = refl;
  sound = All-cons P x [] holds (All-nil P);
  complete = λ l h. subst (Contains (x ∷ [])) (sym (one l h)) (Contains-push [] x);
}

-- the same links, by another property
pub appended_as : (P Q : Link → Type 0) (xs ys : List Link) → ((l : Link) → P l → Q l) → ((l : Link) → Q l → P l) → AreAppended P xs ys → AreAppended Q xs ys
appended_as P Q xs ys to from a = record {
  added = a.added;
  is = a.is;
  sound = All-weaker P Q to a.added a.sound;
  complete = λ l h. a.complete l (from l h);
}

-- first those of one property, and then those of another
pub appended_both : (P Q R : Link → Type 0) (xs ys zs : List Link) → ((l : Link) → P l → R l) → ((l : Link) → Q l → R l) → ((l : Link) → R l → P l ⊎ Q l)
    → AreAppended P xs ys → AreAppended Q ys zs → AreAppended R xs zs
appended_both P Q R xs ys zs first then either a b = record {
  added = a.added ++ b.added;
  is = b.is ∙ ap (λ t. t ++ b.added) a.is ∙ append_assoc xs a.added b.added;
  sound = All-append R a.added b.added (All-weaker P R first a.added a.sound) (All-weaker Q R then b.added b.sound);
  complete = λ l h. ⊎_elim
      (λ (p : P l). Contains-append_left a.added b.added l (a.complete l p))
      (λ (q : Q l). Contains-append_right a.added b.added l (b.complete l q))
      (either l h);
}
