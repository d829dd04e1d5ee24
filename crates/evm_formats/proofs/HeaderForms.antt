-- Bytes that state an image are a header as it is written, and samples.
use Rattle.std.proofs.Common.{◌≡◌, ℕ, ◌*◌, ◌<◌, ◌==◌, nat_le, Bool, true, false, not, cond, ◌&&◌, List, [], ◌∷◌, ◌++◌, length, take, drop, Option, Some, None, Ok, Err, refl, sym, ap, ap₂, subst, ◌∙◌, arith, append_assoc, eqb-true}
use Rattle.std.specs.Prelude.{Result}
use Rattle.std.specs.List.{list_all}
use Rattle.std.proofs.lemmas.Bool.Decides.{nat_tests}
use Rattle.std.proofs.lemmas.List.{take-append-drop}
use Rattle.evm_cells.proofs.Xor.{and_first, and_second, and_both}
use Rattle.evm_text.specs.Numbers.{is_digit, digits_value}
use Rattle.evm_formats.specs.declared.voxels.VoxelError.{VoxelError}
use Rattle.evm_formats.specs.declared.voxels.VoxelError.TheVariants.{Magic, Header, Shape, Range, Short}
use Rattle.evm_formats.specs.Images.{bytes_of}
use Rattle.evm_formats.specs.Header.{is_white, is_end, is_blank, begins, after_blank, digits, after_digits, spaced_number, Fields, ended, maxval_and_end, height_on, fields}
use Rattle.evm_formats.specs.Pgm.{Shot, shot, image_at, are_numbers, in_range, is_shape, is_wide}
use Rattle.evm_formats.specs.VoxelLaws.{Piece, White, Comment, is_piece, bytes_of_pieces, Spaced, spaced_bytes, spaced_value, IsSpaced, IsHeader, IsWritten, ImagesAreWritten}
use Rattle.evm_formats.proofs.Lengths.{then_some}

-- ---- what was passed over is pieces of a separator

record IsRun (bs rest : List ℕ) : Type 0 where
  pub pieces : List Piece
  pub good : list_all is_piece pieces ≡ true
  pub whole : bs ≡ bytes_of_pieces pieces ++ rest

-- the rest of a comment, and pieces after it
record IsCutRun (bs rest : List ℕ) : Type 0 where
  pub text : List ℕ
  pub last : ℕ
  pub clean : list_all (λ b. not (is_end b)) text ≡ true
  pub ends : is_end last ≡ true
  pub more : List Piece
  pub good : list_all is_piece more ≡ true
  pub whole : bs ≡ text ++ last ∷ (bytes_of_pieces more ++ rest)

abbrev Run : Bool → List ℕ → List ℕ → Type 0
Run false bs rest = IsRun bs rest
Run true bs rest = IsCutRun bs rest

behind_white : (b : ℕ) (bs rest : List ℕ) → is_white b ≡ true → IsRun bs rest → IsRun (b ∷ bs) rest
behind_white b bs rest e r = record { pieces = White b ∷ r.pieces; good = and_both (is_white b) (list_all is_piece r.pieces) e r.good; whole = ap (λ (t : List ℕ). b ∷ t) r.whole }

behind_sign : (b : ℕ) (bs rest : List ℕ) → (b == 35) ≡ true → IsCutRun bs rest → IsRun (b ∷ bs) rest
behind_sign b bs rest e r =
    let sign : b ≡ 35 = eqb-true b 35 e in
    let piece : is_piece (Comment r.text r.last) ≡ true = and_both (list_all (λ b. not (is_end b)) r.text) (is_end r.last) r.clean r.ends in
    record {
      pieces = Comment r.text r.last ∷ r.more;
      good = and_both (is_piece (Comment r.text r.last)) (list_all is_piece r.more) piece r.good;
      whole = ap₂ (λ (c : ℕ) (t : List ℕ). c ∷ t) sign r.whole
          ∙ ap (λ (t : List ℕ). 35 ∷ t) (sym (append_assoc (r.text ++ r.last ∷ []) (bytes_of_pieces r.more) rest ∙ append_assoc r.text (r.last ∷ []) (bytes_of_pieces r.more ++ rest)));
    }

cut_ends : (b : ℕ) (bs rest : List ℕ) → is_end b ≡ true → IsRun bs rest → IsCutRun (b ∷ bs) rest
cut_ends b bs rest e r = record { text = []; last = b; clean = refl; ends = e; more = r.pieces; good = r.good; whole = ap (λ (t : List ℕ). b ∷ t) r.whole }

cut_goes : (b : ℕ) (bs rest : List ℕ) → is_end b ≡ false → IsCutRun bs rest → IsCutRun (b ∷ bs) rest
cut_goes b bs rest e r = record {
  text = b ∷ r.text;
  last = r.last;
  clean = and_both (not (is_end b)) (list_all (λ b. not (is_end b)) r.text) (ap not e) r.clean;
  ends = r.ends;
  more = r.more;
  good = r.good;
  whole = ap (λ (t : List ℕ). b ∷ t) r.whole;
}

run : (inside : Bool) (bs : List ℕ) → 0 < length (after_blank inside bs) → Run inside bs (after_blank inside bs)
unfolding after_blank
run inside [] l = absurd (omega arith)
run true (b ∷ bs) l = at (is_end b) refl (run false bs) (run true bs) l
  where
    at : (t : Bool) → is_end b ≡ t → (0 < length (after_blank false bs) → IsRun bs (after_blank false bs)) → (0 < length (after_blank true bs) → IsCutRun bs (after_blank true bs))
        → 0 < length (after_blank (not t) bs) → IsCutRun (b ∷ bs) (after_blank (not t) bs)
    at true e p q l = cut_ends b bs (after_blank false bs) e (p l)
    at false e p q l = cut_goes b bs (after_blank true bs) e (q l)
run false (b ∷ bs) l = at (is_white b) (b == 35) refl refl (run false bs) (run true bs) l
  where
    at : (w h : Bool) → is_white b ≡ w → (b == 35) ≡ h → (0 < length (after_blank false bs) → IsRun bs (after_blank false bs)) → (0 < length (after_blank true bs) → IsCutRun bs (after_blank true bs))
        → 0 < length (cond w (after_blank false bs) (cond h (after_blank true bs) (b ∷ bs))) → IsRun (b ∷ bs) (cond w (after_blank false bs) (cond h (after_blank true bs) (b ∷ bs)))
    at true h d e p q l = behind_white b bs (after_blank false bs) d (p l)
    at false true d e p q l = behind_sign b bs (after_blank true bs) e (q l)
    at false false d e p q l = record { pieces = []; good = refl; whole = refl }

-- ---- digits

record AreDigits (bs : List ℕ) : Type 0 where
  pub good : list_all is_digit (digits bs) ≡ true
  pub whole : bs ≡ digits bs ++ after_digits bs

digits_are : (bs : List ℕ) → AreDigits bs
unfolding digits after_digits
digits_are [] = record { good = refl; whole = refl }
digits_are (b ∷ bs) = at (is_digit b) refl (digits_are bs)
  where
    both : (t : Bool) → List ℕ
    both t = cond t (b ∷ digits bs) []

    at : (t : Bool) → is_digit b ≡ t → AreDigits bs → AreDigits (b ∷ bs)
    at true e h = record {
      good = ap (λ t. list_all is_digit (cond t (b ∷ digits bs) [])) e ∙ and_both (is_digit b) (list_all is_digit (digits bs)) e h.good;
      whole = ap (λ (t : List ℕ). b ∷ t) h.whole ∙ sym (ap (λ t. cond t (b ∷ digits bs) [] ++ cond t (after_digits bs) (b ∷ bs)) e);
    }
    at false e h = record { good = ap (λ t. list_all is_digit (cond t (b ∷ digits bs) [])) e; whole = sym (ap (λ t. cond t (b ∷ digits bs) [] ++ cond t (after_digits bs) (b ∷ bs)) e) }

first_digit : (bs : List ℕ) → begins is_digit bs ≡ true → (d : ℕ) × (ds : List ℕ) × (digits bs ≡ d ∷ ds)
unfolding digits
first_digit [] e = absurd (cc e)
first_digit (b ∷ bs) e = (b, digits bs, ap (λ t. cond t (b ∷ digits bs) []) e)

-- ---- a number that was read is written so

record IsNumber (bs : List ℕ) (value : ℕ) (rest : List ℕ) : Type 0 where
  pub written : Spaced
  pub good : IsSpaced written
  pub whole : bs ≡ spaced_bytes written rest
  pub stands : spaced_value written ≡ value

no_both : (bs : List ℕ) → begins is_blank bs ≡ true → begins is_digit bs ≡ true → ⊥
no_both [] p q = cc p
no_both (b ∷ bs) p q = apart b p q
  where
    apart : (b : ℕ) → is_blank b ≡ true → is_digit b ≡ true → ⊥
    apart b p q = grind (arith, nat_tests)

number_parts : (bs : List ℕ) → begins is_blank bs ≡ true → begins is_digit (after_blank false bs) ≡ true → IsNumber bs (digits_value (digits (after_blank false bs))) (after_digits (after_blank false bs))
number_parts bs p q =
    let found = after_blank false bs in
    let r = run false bs (some (after_blank false bs) q) in
    let ds = digits_are (after_blank false bs) in
    let (d, more, e) = first_digit (after_blank false bs) q in
    at r.pieces r.good r.whole d more e ds.good ds.whole
  where
    some : (xs : List ℕ) → begins is_digit xs ≡ true → 0 < length xs
    some [] e = absurd (cc e)
    some (x ∷ xs) e = omega arith

    at : (ps : List Piece) → list_all is_piece ps ≡ true → bs ≡ bytes_of_pieces ps ++ after_blank false bs → (d : ℕ) (more : List ℕ) → digits (after_blank false bs) ≡ d ∷ more
        → list_all is_digit (digits (after_blank false bs)) ≡ true → after_blank false bs ≡ digits (after_blank false bs) ++ after_digits (after_blank false bs)
        → IsNumber bs (digits_value (digits (after_blank false bs))) (after_digits (after_blank false bs))
    at [] good whole d more e a b = absurd (no_both bs p (ap (begins is_digit) whole ∙ q))
    at (x ∷ ps) good whole d more e a b = record {
      written = record { first = x; more = ps; digit = d; digits = more };
      good = record { pieces = good; all_digits = ap (list_all is_digit) (sym e) ∙ a };
      whole = whole ∙ ap (λ (t : List ℕ). bytes_of_pieces (x ∷ ps) ++ t) (b ∙ ap (λ (t : List ℕ). t ++ after_digits (after_blank false bs)) e);
      stands = ap digits_value (sym e);
    }

number_is : (bs : List ℕ) (r : ℕ × List ℕ) → spaced_number bs ≡ Some r → IsNumber bs r.0 r.1
unfolding spaced_number
number_is bs r e = at (begins is_blank bs && begins is_digit (after_blank false bs)) refl e
  where
    first : Option (ℕ × List ℕ) → ℕ
    first None = 0
    first (Some q) = q.0

    second : Option (ℕ × List ℕ) → List ℕ
    second None = []
    second (Some q) = q.1

    at : (t : Bool) → (begins is_blank bs && begins is_digit (after_blank false bs)) ≡ t
        → cond {A = Option (ℕ × List ℕ)} t (Some (digits_value (digits (after_blank false bs)), after_digits (after_blank false bs))) None ≡ Some r → IsNumber bs r.0 r.1
    at false p e = absurd (cc e)
    at true p e =
        subst (λ (v : ℕ). IsNumber bs v r.1) (ap first e) (subst (IsNumber bs (digits_value (digits (after_blank false bs)))) (ap second e)
        (number_parts bs (and_first (begins is_blank bs) (begins is_digit (after_blank false bs)) p) (and_second (begins is_blank bs) (begins is_digit (after_blank false bs)) p)))

record IsLast (w h m : ℕ) (bs : List ℕ) (f : Fields) : Type 0 where
  pub last : ℕ
  pub white : is_white last ≡ true
  pub whole : bs ≡ last ∷ f.rest
  pub width : f.width ≡ w
  pub height : f.height ≡ h
  pub maxval : f.maxval ≡ m

last_is : (w h m : ℕ) (bs : List ℕ) (f : Fields) → ended w h m bs ≡ Some f → IsLast w h m bs f
unfolding ended
last_is w h m [] f e = absurd (cc e)
last_is w h m (b ∷ bs) f e = at (is_white b) refl e
  where
    at : (t : Bool) → is_white b ≡ t → cond {A = Option Fields} t (Some (record { width = w; height = h; maxval = m; rest = bs })) None ≡ Some f → IsLast w h m (b ∷ bs) f
    at false p e = absurd (cc e)
    at true p e =
        let same : record { width = w; height = h; maxval = m; rest = bs } ≡ f = cc e in
        record { last = b; white = p; whole = ap (λ (t : Fields). b ∷ t.rest) same; width = sym (ap (λ (t : Fields). t.width) same); height = sym (ap (λ (t : Fields). t.height) same); maxval = sym (ap (λ (t : Fields). t.maxval) same) }

record AreFields (bs : List ℕ) (f : Fields) : Type 0 where
  pub w : Spaced
  pub h : Spaced
  pub m : Spaced
  pub last : ℕ
  pub header : IsHeader w h m last
  pub whole : bs ≡ spaced_bytes w (spaced_bytes h (spaced_bytes m (last ∷ f.rest)))
  pub width : f.width ≡ spaced_value w
  pub height : f.height ≡ spaced_value h
  pub maxval : f.maxval ≡ spaced_value m

fields_are : (bs : List ℕ) (f : Fields) → fields bs ≡ Some f → AreFields bs f
unfolding fields
fields_are bs f e =
    let (w, p, e1) = then_some (λ (w : ℕ × List ℕ). height_on w.0 w.1) (spaced_number bs) f e in
    let (h, q, e2) = then_some (λ (h : ℕ × List ℕ). maxval_and_end w.0 h.0 h.1) (spaced_number w.1) f e1 in
    let (m, r, e3) = then_some (λ (m : ℕ × List ℕ). ended w.0 h.0 m.0 m.1) (spaced_number h.1) f e2 in
    let a = number_is bs w p in
    let b = number_is w.1 h q in
    let c = number_is h.1 m r in
    let d = last_is w.0 h.0 m.0 m.1 f e3 in
    record {
      w = a.written;
      h = b.written;
      m = c.written;
      last = d.last;
      header = record { width = a.good; height = b.good; maxval = c.good; white = d.white };
      whole = a.whole ∙ ap (spaced_bytes a.written) (b.whole ∙ ap (spaced_bytes b.written) (c.whole ∙ ap (spaced_bytes c.written) d.whole));
      width = d.width ∙ sym a.stands;
      height = d.height ∙ sym b.stands;
      maxval = d.maxval ∙ sym c.stands;
    }

record IsShot (f : Fields) (s : Shot) : Type 0 where
  pub rest : f.rest ≡ s.picture.bytes ++ s.rest
  pub width : s.width ≡ f.width
  pub height : s.height ≡ f.height
  pub wide : s.picture.wide ≡ is_wide f.maxval

shot_is : (n z : ℕ) (size : Option (ℕ × ℕ)) (f : Fields) (s : Shot) → shot n z size (Some f) ≡ Ok s → IsShot f s
unfolding shot
shot_is n z size f s e =
    at (are_numbers f.width f.height f.maxval) (in_range n z f.width f.height) (is_shape n size f.width f.height) (nat_le bytes (length f.rest)) e
  where
    bytes : ℕ
    bytes = bytes_of (is_wide f.maxval) (f.height * f.width)

    found : Shot
    found = record { width = f.width; height = f.height; picture = record { bytes = take bytes f.rest; wide = is_wide f.maxval }; rest = drop bytes f.rest }

    at : (a b c d : Bool) → cond {A = Result Shot VoxelError} a (cond {A = Result Shot VoxelError} b (cond {A = Result Shot VoxelError} c (cond {A = Result Shot VoxelError} d (Ok found) (Err Short)) (Err Shape)) (Err Range)) (Err Header) ≡ Ok s → IsShot f s
    at false b c d e = absurd (cc e)
    at true false c d e = absurd (cc e)
    at true true false d e = absurd (cc e)
    at true true true false e = absurd (cc e)
    at true true true true e =
        let same : found ≡ s = cc e in
        subst (IsShot f) same (record { rest = sym (take-append-drop bytes f.rest); width = refl; height = refl; wide = refl })

written_some : (n z : ℕ) (size : Option (ℕ × ℕ)) (bs : List ℕ) (o : Option Fields) (s : Shot) → fields bs ≡ o → shot n z size o ≡ Ok s → IsWritten (80 ∷ 53 ∷ bs) s
unfolding shot
written_some n z size bs None s p e = absurd (cc e)
written_some n z size bs (Some f) s p e =
    let a = fields_are bs f p in
    let b = shot_is n z size f s e in
    record {
      w = a.w;
      h = a.h;
      m = a.m;
      last = a.last;
      header = a.header;
      whole = ap (λ (t : List ℕ). 80 ∷ 53 ∷ t) (a.whole ∙ ap (λ (t : List ℕ). spaced_bytes a.w (spaced_bytes a.h (spaced_bytes a.m (a.last ∷ t)))) b.rest);
      width = b.width ∙ a.width;
      height = b.height ∙ a.height;
      wide = b.wide ∙ ap is_wide a.maxval;
    }

pub images_are_written : ImagesAreWritten
unfolding image_at
images_are_written n z size [] s e = absurd (cc e)
images_are_written n z size (b ∷ []) s e = absurd (cc e)
images_are_written n z size (b ∷ c ∷ bs) s e = at ((b == 80) && (c == 53)) refl e
  where
    at : (t : Bool) → ((b == 80) && (c == 53)) ≡ t → cond {A = Result Shot VoxelError} t (shot n z size (fields bs)) (Err Magic) ≡ Ok s → IsWritten (b ∷ c ∷ bs) s
    at false p e = absurd (cc e)
    at true p e =
        let first : 80 ≡ b = sym (eqb-true b 80 (and_first (b == 80) (c == 53) p)) in
        let second : 53 ≡ c = sym (eqb-true c 53 (and_second (b == 80) (c == 53) p)) in
        subst (λ (x : ℕ). IsWritten (x ∷ c ∷ bs) s) first (subst (λ (y : ℕ). IsWritten (80 ∷ y ∷ bs) s) second (written_some n z size bs (fields bs) s refl e))
