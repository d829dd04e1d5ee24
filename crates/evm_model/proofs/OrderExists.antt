-- Where operands stand and no name reaches itself, the names have an order in which operands come first.
use Rattle.std.proofs.Common.{◌≡◌, ℕ, zero, suc, ◌+◌, ◌≤◌, true, false, ◌||◌, List, [], ◌∷◌, ◌++◌, length, map, refl, sym, ◌∙◌, subst, bytes_eq, arith}
use Rattle.std.proofs.lemmas.Bool.{false≢true}
use Rattle.std.proofs.lemmas.List.Sums.{count_by-le-length}
use Rattle.evm_cells.proofs.Lists.{all_weaker, any-map}
use Rattle.evm_cells.proofs.Order.{refuted, same_tests}
use Rattle.evm_model.specs.Orders.{is_among, Ordered}
use Rattle.evm_model.specs.Scene.{Scene, Entry, stands, operands_of, reaches_within, reaches, names_differ, IsOrderOf}
use Rattle.evm_model.proofs.Names.{by_test, by_or, by_among, same_name, name_itself, or_left, or_right, or-false, among_here, among_later, among_none, among_end, some_passes, any_less}
use Rattle.evm_model.proofs.Lookups.{stands_any}
use Rattle.evm_model.proofs.Counts.{AllDiffer, name_of_entry, entries_differ, all_stand, count_all, count_keys, ordered_differ}
use Rattle.evm_model.proofs.Orders.{ordered_push}

-- a name reaches through more levels what it reaches through fewer
reaches_up : (es : List Entry) (n m : ℕ) (x y : List ℕ) → n ≤ m → reaches_within n es x y ≡ true → reaches_within m es x y ≡ true
reaches_up es zero m x y l h = absurd (false≢true h)
reaches_up es (suc n) zero x y l h = absurd (omega arith)
reaches_up es (suc n) (suc m) x y l h =
    any_less (λ o. bytes_eq o y || reaches_within n es o y) (λ o. bytes_eq o y || reaches_within m es o y) (operands_of es x)
    (λ o r k. by_or (bytes_eq o y) (reaches_within n es o y) k
    (λ t. or_left (bytes_eq o y) (reaches_within m es o y) t)
    (λ t. or_right (bytes_eq o y) (reaches_within m es o y) (reaches_up es n m o y (omega arith) t))) h

-- a name reaches what it reads
reads_one : (es : List Entry) (n : ℕ) (x z : List ℕ) → is_among z (operands_of es x) ≡ true → reaches_within (suc n) es x z ≡ true
reads_one es n x z m =
    some_passes (λ o. bytes_eq o z || reaches_within n es o z) (operands_of es x) z m (or_left (bytes_eq z z) (reaches_within n es z z) (name_itself z))

-- and through one more what a name reads that it reaches
reaches_on : (es : List Entry) (n : ℕ) (x y z : List ℕ) → reaches_within n es x y ≡ true → is_among z (operands_of es y) ≡ true
    → reaches_within (suc n) es x z ≡ true
reaches_on es zero x y z h m = absurd (false≢true h)
reaches_on es (suc n) x y z h m =
    any_less (λ o. bytes_eq o y || reaches_within n es o y) (λ o. bytes_eq o z || reaches_within (suc n) es o z) (operands_of es x)
    (λ o r k. or_right (bytes_eq o z) (reaches_within (suc n) es o z) (by_or (bytes_eq o y) (reaches_within n es o y) k
    (λ t. subst (λ (u : List ℕ). reaches_within (suc n) es u z ≡ true) (sym (same_name o y t))
    (reads_one es n y z m))
    (λ t. reaches_on es n o y z t m))) h

-- an order of some names that stand
record IsFront (scene : Scene) (front : List (List ℕ)) : Type 0 where
  ordered : Ordered (operands_of scene.entries) [] front
  there : (x : List ℕ) → is_among x front ≡ true → stands scene x ≡ true

-- an order that has the names of another, and these
record IsFurther (scene : Scene) (front xs : List (List ℕ)) : Type 0 where
  order : List (List ℕ)
  fits : IsFront scene order
  keeps : (x : List ℕ) → is_among x front ≡ true → is_among x order ≡ true
  ends : (x : List ℕ) → is_among x xs ≡ true → is_among x order ≡ true

-- different names that stand, each of which reaches a name
record IsPath (scene : Scene) (path : List (List ℕ)) (x : List ℕ) : Type 0 where
  own : stands scene x ≡ true
  differ : AllDiffer path
  there : (y : List ℕ) → is_among y path ≡ true → stands scene y ≡ true
  leads : (y : List ℕ) → is_among y path ≡ true → reaches_within (length path) scene.entries y x ≡ true

-- a name behind an order of what it reads
push : (scene : Scene) (front : List (List ℕ)) (x : List ℕ) → stands scene x ≡ true → IsFurther scene front (operands_of scene.entries x)
    → IsFurther scene front (x ∷ [])
push scene front x st g =
    by_test (is_among x g.order)
    (λ m. record {
      order = g.order;
      fits = g.fits;
      keeps = g.keeps;
      ends = λ o k. by_among o x [] k (λ e. subst (λ (z : List ℕ). is_among z g.order ≡ true) (sym e) m) (λ d n. among_none o n);
    })
    (λ out. record {
      order = g.order ++ x ∷ [];
      fits = record {
        ordered = ordered_push (operands_of scene.entries) [] g.order x g.fits.ordered refl out (λ o r. g.ends o r);
        there = λ o k. by_or (is_among o g.order) (bytes_eq o x) (sym (among_end o x g.order) ∙ k)
            (λ t. g.fits.there o t) (λ t. subst (λ (z : List ℕ). stands scene z ≡ true) (sym (same_name o x t)) st);
      };
      keeps = λ o k. among_end o x g.order ∙ or_left (is_among o g.order) (bytes_eq o x) (g.keeps o k);
      ends = λ o k. among_end o x g.order ∙ or_right (is_among o g.order) (bytes_eq o x) (sym (or-false (bytes_eq o x)) ∙ k);
    })

-- names one after another
push_all : (scene : Scene) (xs front : List (List ℕ)) → IsFront scene front
    → ((o : List ℕ) → is_among o xs ≡ true → (before : List (List ℕ)) → IsFront scene before → IsFurther scene before (o ∷ [])) → IsFurther scene front xs
push_all scene [] front fits each = record { order = front; fits = fits; keeps = λ x m. m; ends = λ x m. among_none x m }
push_all scene (x ∷ xs) front fits each = joined first (push_all scene xs first.order first.fits (λ o m. each o (among_later o x xs m)))
  where
    first : IsFurther scene front (x ∷ [])
    first = each x (among_here x xs) front fits

    joined : (a : IsFurther scene front (x ∷ [])) → IsFurther scene a.order xs → IsFurther scene front (x ∷ xs)
    joined a b = record {
      order = b.order;
      fits = b.fits;
      keeps = λ o m. b.keeps o (a.keeps o m);
      ends = λ o m. by_among o x xs m
          (λ e. b.keeps o (a.ends o (subst (λ (z : List ℕ). is_among z (x ∷ []) ≡ true) (sym e) (among_here x []))))
          (λ d l. b.ends o l);
    }

module _ (scene : Scene) (names : names_differ scene.entries ≡ true)
    (stand : (x o : List ℕ) → is_among o (operands_of scene.entries x) ≡ true → stands scene o ≡ true)
    (acyclic : (x : List ℕ) → reaches scene x x ≡ false) where
  -- as many different names stand as there are entries at most
  at_most : (path : List (List ℕ)) → AllDiffer path → ((y : List ℕ) → is_among y path ≡ true → stands scene y ≡ true)
      → length path ≤ length scene.entries
  at_most path differ there =
      omega (
        arith,
        count_keys name_of_entry path scene.entries differ (entries_differ scene.entries names) (λ k m. sym (stands_any scene.entries k) ∙ there k m),
        count_by-le-length (λ (e : Entry). is_among e.name path) scene.entries,
      )

  -- the end of a path is not on it
  off_path : (path : List (List ℕ)) (x : List ℕ) → IsPath scene path x → is_among x path ≡ false
  off_path path x p =
      refuted (is_among x path)
      (λ m. false≢true (sym (acyclic x) ∙ reaches_up scene.entries (length path) (length scene.entries) x x (at_most path p.differ p.there) (p.leads x m)))

  -- a path with its end on it
  whole_path : (path : List (List ℕ)) (x y : List ℕ) → IsPath scene path x → is_among y (x ∷ path) ≡ true → stands scene y ≡ true
  whole_path path x y p m = by_among y x path m (λ e. subst (λ (z : List ℕ). stands scene z ≡ true) (sym e) p.own) (λ d l. p.there y l)

  step : (path : List (List ℕ)) (x o : List ℕ) → IsPath scene path x → is_among o (operands_of scene.entries x) ≡ true → IsPath scene (x ∷ path) o
  step path x o p m = record {
    own = stand x o m;
    differ = (off_path path x p, p.differ);
    there = λ y k. whole_path path x y p k;
    leads = λ y k. by_among y x path k
        (λ e. subst (λ (z : List ℕ). reaches_within (suc (length path)) scene.entries z o ≡ true) (sym e) (reads_one scene.entries (length path) x o m))
        (λ d l. reaches_on scene.entries (length path) y x o (p.leads y l) m);
  }

  -- an order goes on to a name by what it reads: no path is longer than there are entries
  visit : (spare : ℕ) (path : List (List ℕ)) (x : List ℕ) → IsPath scene path x → length path + spare ≡ length scene.entries
      → (front : List (List ℕ)) → IsFront scene front → IsFurther scene front (x ∷ [])
  visit zero path x p size front fits =
      absurd (omega (arith, at_most (x ∷ path) (off_path path x p, p.differ) (λ y m. whole_path path x y p m)))
  visit (suc spare) path x p size front fits =
      push scene front x p.own
      (push_all scene (operands_of scene.entries x) front fits
      (λ o m before k. visit spare (x ∷ path) o (step path x o p m) (omega arith) before k))

  pub order_of : (order : List (List ℕ)) × IsOrderOf scene order
  order_of = (
    all.order,
    record {
      ordered = all.fits.ordered;
      whole = whole;
      size = sym (count_keys name_of_entry all.order scene.entries (ordered_differ (operands_of scene.entries) [] all.order all.fits.ordered)
          (entries_differ scene.entries names) (λ k m. sym (stands_any scene.entries k) ∙ all.fits.there k m))
          ∙ count_all (λ (e : Entry). is_among e.name all.order) scene.entries
          (all_weaker (λ (e : Entry). stands scene e.name) (λ (e : Entry). is_among e.name all.order) (λ e s. whole e.name ∙ s) scene.entries (all_stand scene.entries));
    },
  )
    where
      named : (x : List ℕ) → is_among x (map name_of_entry scene.entries) ≡ stands scene x
      named x = any-map (bytes_eq x) name_of_entry scene.entries ∙ sym (stands_any scene.entries x)

      all : IsFurther scene [] (map name_of_entry scene.entries)
      all =
          push_all scene (map name_of_entry scene.entries) [] (record { ordered = tt; there = λ x m. among_none x m })
          (λ o m before k. visit (length scene.entries) [] o
          (record { own = sym (named o) ∙ m; differ = tt; there = λ y n. among_none y n; leads = λ y n. among_none y n }) (omega arith) before k)

      whole : (x : List ℕ) → is_among x all.order ≡ stands scene x
      whole x = same_tests (is_among x all.order) (stands scene x) (λ m. all.fits.there x m) (λ s. all.ends x (named x ∙ s))
