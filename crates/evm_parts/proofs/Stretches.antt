-- The stretches of flat numbers that are the rows of parts.
use Rattle.std.proofs.Common.{◌≡◌, ℕ, zero, suc, ◌-◌, ◌<◌, ◌≤◌, ℤ, List, [], ◌∷◌, ◌++◌, length, get_or, take, drop, arith, refl, ap, ap₂, sym, ◌∙◌, subst}
use Rattle.std.proofs.lemmas.List.{drop-append-le, take-append-le, length-append, length-drop}
use Rattle.std.proofs.Math.Seq.{drop-append_seam, take-length}
use Rattle.evm_rows.specs.Rows.{AreRows, rows_of}
use Rattle.evm_parts.specs.PartLists.{PartList, stretch, parts_from, IsStretch, AreStretches, AreParts}

-- there are as many parts as ends
pub count_parts : (n start : ℕ) (flat : List ℤ) (ends : List ℕ) → length (parts_from n start flat ends) ≡ length ends
count_parts n start flat [] = refl
count_parts n start flat (end ∷ ends) = ap suc (count_parts n end flat ends)

-- a part goes from one place of the numbers to another
pub record IsPartAt (n start end : ℕ) (flat : List ℤ) (V : List (List ℤ)) : Type 0 where
  pub piece : IsStretch n start end flat
  pub rows : V ≡ rows_of (stretch start end flat) n 0

part_at : (n start : ℕ) (flat : List ℤ) (ends : List ℕ) (k : ℕ) → AreStretches n start flat ends → k < length ends
    → IsPartAt n (get_or (start ∷ ends) k 0) (get_or ends k 0) flat (get_or (parts_from n start flat ends) k [])
part_at n start flat [] k h l = absurd (omega (arith, l))
part_at n start flat (end ∷ ends) zero h l = record { piece = h.0; rows = refl }
part_at n start flat (end ∷ ends) (suc k) h l = part_at n end flat ends k h.1 (omega (arith, l))

-- its number is below that of the ends
pub end_within : (p : PartList) (n k : ℕ) (flat : List ℤ) (ends read : List ℕ) → record { dim = n; parts = parts_from n 0 flat ends } ≡ p → k < length p.parts
    → read ≡ ends → k < length read
end_within p n k flat ends read view within same =
    subst (λ es. k < length es) (sym same)
    (subst (λ m. k < m) (count_parts n 0 flat ends) (subst (λ (q : PartList). k < length q.parts) (sym view) within))

-- the part with this number, of a list as a clause sees it
pub part_of : (p : PartList) (n k start : ℕ) (flat numbers : List ℤ) (ends read : List ℕ) → record { dim = n; parts = parts_from n 0 flat ends } ≡ p
    → AreParts n flat ends → k < length p.parts → numbers ≡ flat → read ≡ ends → start ≡ get_or (0 ∷ read) k 0
    → IsPartAt n start (get_or read k 0) numbers (get_or p.parts k [])
part_of p n k start flat numbers ends read view ok within same again s =
    let l : k < length ends = subst (λ es. k < length es) again (end_within p n k flat ends read view within again) in
    let h = part_at n 0 flat ends k ok.stretches l in
    subst (λ (q : PartList). IsPartAt n start (get_or read k 0) numbers (get_or q.parts k [])) view
    (subst (λ z. IsPartAt n z (get_or read k 0) numbers (get_or (parts_from n 0 flat ends) k [])) (sym s)
    (subst (λ es. IsPartAt n (get_or (0 ∷ es) k 0) (get_or es k 0) numbers (get_or (parts_from n 0 flat ends) k [])) (sym again)
    (subst (λ xs. IsPartAt n (get_or (0 ∷ ends) k 0) (get_or ends k 0) xs (get_or (parts_from n 0 flat ends) k [])) (sym same) h)))

-- ---- one part more

-- where the last part ends
abbrev pub last_end : ℕ → List ℕ → ℕ
last_end start [] = start
last_end start (end ∷ ends) = last_end end ends

stretch_kept : (start end : ℕ) (flat more : List ℤ) → start ≤ end → end ≤ length flat → stretch start end (flat ++ more) ≡ stretch start end flat
stretch_kept start end flat more rises within =
    ap (take (end - start)) (drop-append-le start flat more (omega (arith, rises, within)))
    ∙ take-append-le (end - start) (drop start flat) more (let e = length-drop start flat in omega (arith, e, rises, within))

stretch_last : (flat more : List ℤ) → stretch (length flat) (length (flat ++ more)) (flat ++ more) ≡ more
stretch_last flat more =
    ap₂ (λ n xs. take n xs) (let e = length-append flat more in let f : length (flat ++ more) - length flat ≡ length more = omega (arith, e) in f) (drop-append_seam flat more)
    ∙ take-length more

last_stretch : (n start : ℕ) (flat more : List ℤ) → start ≡ length flat → AreRows more n 0 → IsStretch n start (length (flat ++ more)) (flat ++ more)
last_stretch n start flat more e r =
    let l = length-append flat more in
    record {
      rises = omega (arith, l, e);
      within = omega arith;
      rows = subst (λ xs. AreRows xs n 0) (sym (ap (λ k. stretch k (length (flat ++ more)) (flat ++ more)) e ∙ stretch_last flat more)) r;
    }

stretches_more : (n start : ℕ) (flat more : List ℤ) (ends : List ℕ) → AreStretches n start flat ends → last_end start ends ≡ length flat → AreRows more n 0
    → AreStretches n start (flat ++ more) (ends ++ length (flat ++ more) ∷ [])
stretches_more n start flat more [] h e r = (last_stretch n start flat more e r, tt)
stretches_more n start flat more (end ∷ ends) h e r = (kept h.0, stretches_more n end flat more ends h.1 e r)
  where
    kept : IsStretch n start end flat → IsStretch n start end (flat ++ more)
    kept s =
        let l = length-append flat more in
        let w = s.within in
        record {
          rises = s.rises;
          within = omega (arith, l, w);
          rows = subst (λ xs. AreRows xs n 0) (sym (stretch_kept start end flat more s.rises s.within)) s.rows;
        }

parts_more : (n start : ℕ) (flat more : List ℤ) (ends : List ℕ) → AreStretches n start flat ends → last_end start ends ≡ length flat
    → parts_from n start (flat ++ more) (ends ++ length (flat ++ more) ∷ []) ≡ parts_from n start flat ends ++ rows_of more n 0 ∷ []
parts_more n start flat more [] h e =
    ap (λ xs. rows_of xs n 0 ∷ []) (ap (λ k. stretch k (length (flat ++ more)) (flat ++ more)) e ∙ stretch_last flat more)
parts_more n start flat more (end ∷ ends) h e =
    ap₂ (λ V Ws. V ∷ Ws) (ap (λ xs. rows_of xs n 0) (stretch_kept start end flat more h.0.rises h.0.within)) (parts_more n end flat more ends h.1 e)

last_more : (start end : ℕ) (ends : List ℕ) → last_end start (ends ++ end ∷ []) ≡ end
last_more start end [] = refl
last_more start end (x ∷ ends) = last_more x end ends

-- the numbers are those of these parts, and no more
pub record AreListed (n : ℕ) (flat : List ℤ) (ends : List ℕ) (Vs : List (List (List ℤ))) : Type 0 where
  pub stretches : AreStretches n 0 flat ends
  pub parts : parts_from n 0 flat ends ≡ Vs
  pub last : last_end 0 ends ≡ length flat

pub listed_start : (n : ℕ) (flat : List ℤ) (ends : List ℕ) → flat ≡ [] → ends ≡ [] → AreListed n flat ends []
listed_start n flat ends e f =
    subst (λ xs. AreListed n xs ends []) (sym e) (subst (λ es. AreListed n [] es []) (sym f) (record { stretches = tt; parts = refl; last = refl }))

pub listed_more : (n : ℕ) (flat more new : List ℤ) (ends later : List ℕ) (Vs : List (List (List ℤ))) (W : List (List ℤ)) → AreListed n flat ends Vs → AreRows more n 0 → rows_of more n 0 ≡ W
    → new ≡ flat ++ more → later ≡ ends ++ length new ∷ [] → AreListed n new later (Vs ++ W ∷ [])
listed_more n flat more new ends later Vs W h r w e f =
    subst (λ es. AreListed n new es (Vs ++ W ∷ [])) (sym f)
    (subst (λ xs. AreListed n xs (ends ++ length xs ∷ []) (Vs ++ W ∷ [])) (sym e)
    (record {
      stretches = stretches_more n 0 flat more ends h.stretches h.last r;
      parts = parts_more n 0 flat more ends h.stretches h.last ∙ ap₂ (λ Us U. Us ++ U ∷ []) h.parts w;
      last = last_more 0 (length (flat ++ more)) ends;
    }))
