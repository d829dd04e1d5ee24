-- What one piece more makes of a script that was answered so far, and what stands when it ends.
use Rattle.std.proofs.Common.{◌≡◌, ℕ, ◌+◌, ◌-◌, ◌<◌, ◌≤◌, min, Bool, true, false, not, ◌||◌, leb, List, [], ◌∷◌, ◌++◌, length, take, drop, refl, sym, ◌∙◌, ap, subst, arith, append_assoc, All, Option, Ok, Err, inl, inr}
use Rattle.std.proofs.Math.Seq.{drop-append_seam}
use Rattle.std.proofs.lemmas.Bool.{leb-true, leb-false}
use Rattle.std.proofs.lemmas.List.{take_all, take_at, take-take, drop_all, drop-take, length-append, length-take, length-drop, append-nil}
use Rattle.std.proofs.lemmas.List.Elements.{All-nil, All-append, All-cons, All-drop, All-take}
use Rattle.std.specs.Io.KnownBytes.{Consumes, Keeps, IsAtEnd}
use Rattle.evm_outside.specs.declared.Failed.{Failed}
use Rattle.evm_script.specs.Line.{command}
use Rattle.evm_text.specs.Lines.{is_lf, last_line, lines, text_of}
use Rattle.evm_tool.specs.EndedLines.{HasNoLf, IsCut, ended_lines}
use Rattle.evm_tool.specs.Script.{Answered, StopsIn, ReadsBehind, ServesLast}
use Rattle.evm_tool.specs.Served.{State, ServesFrom, Served, ServesFront, ServesEnded, CutsEnded, KeepsOf, Stands}
use Rattle.evm_tool.specs.Streams.{script_limit, piece_max, line_kept}
use Rattle.evm_tool.specs.declared.top.Status.{Status}
use Rattle.evm_tool.specs.declared.top.Status.TheVariants.{Done, Refused, Words, ReadFault, WriteFault, NoMemory, TooLong}
use Rattle.evm_tool.proofs.Chains.{served_append, served_more, serves_same, same_kept, command_kept, one_line, last_same}
use Rattle.evm_tool.proofs.Cuts.{text_cons, text_append, each_head, each_tail, lines_text, lines_cut, ended_cut, lines_only, ended_only, goes_on}
use Rattle.evm_tool.proofs.Streams.{consumes_nothing, consumes_more, keeps_consumes}

no_lf_after : (front tail : List ℕ) → HasNoLf (front ++ tail) → HasNoLf tail
no_lf_after front tail h =
    subst (λ (t : List ℕ). HasNoLf t) (drop-append_seam front tail) (All-drop (λ (b : ℕ). is_lf b ≡ false) (length front) (front ++ tail) h)

no_lf_both : (front tail : List ℕ) → HasNoLf front → HasNoLf tail → HasNoLf (front ++ tail)
no_lf_both front tail f t = All-append (λ (b : ℕ). is_lf b ≡ false) front tail f t

-- ---- inside a piece

text_snoc : (ls : List (List ℕ)) (line after : List ℕ) → text_of (ls ++ line ∷ []) ++ after ≡ text_of ls ++ (line ++ 10 ∷ after)
text_snoc ls line after =
    ap (λ (t : List ℕ). t ++ after) (text_append ls (line ∷ []))
    ∙ append_assoc (text_of ls) (text_of (line ∷ [])) after
    ∙ ap (λ (t : List ℕ). text_of ls ++ t) (text_cons line [] after)

each_more : (ls : List (List ℕ)) (line : List ℕ) → All HasNoLf ls → HasNoLf line → All HasNoLf (ls ++ line ∷ [])
each_more ls line h l = All-append HasNoLf ls (line ∷ []) h (All-cons HasNoLf line [] l (All-nil HasNoLf))

-- one line more was served
pub front_more : (text rest line after : List ℕ) (x fine z : Bool) (s m t : State) → ServesFront text rest x s m → (rest ≡ line ++ 10 ∷ after) × HasNoLf line → ServesFrom (Ok fine) line m t → z ≡ x || not fine
    → ServesFront text after z s t
front_more text rest line after x fine z s m t v cut w e = record {
  ls = v.ls ++ line ∷ [];
  whole = v.whole ∙ ap (λ (r : List ℕ). text_of v.ls ++ r) cut.0 ∙ sym (text_snoc v.ls line after);
  each = each_more v.ls line v.each cut.1;
  served = served_more v.ls line x fine z s m t v.served w e;
}

-- the sink failed at one
pub front_cut : (text rest line after : List ℕ) (x : Bool) (f : Failed) (s m t : State) → ServesFront text rest x s m → (rest ≡ line ++ 10 ∷ after) × HasNoLf line → ServesFrom (Err f) line m t
    → CutsEnded text s t
front_cut text rest line after x f s m t v cut w = record {
  ls = v.ls;
  line = line;
  after = after;
  whole = v.whole ∙ ap (λ (r : List ℕ). text_of v.ls ++ r) cut.0 ∙ sym (text_snoc v.ls line after);
  each = each_more v.ls line v.each cut.1;
  some = x;
  between = m;
  served = v.served;
  failed = f;
  last = w;
}

-- ---- a line that began in an earlier piece

-- the whole line for what the buffer has of it
record Whole (rest got first : List ℕ) (more : List (List ℕ)) (after : List ℕ) : Type 0 where
  pub line : List ℕ
  pub same : command first ≡ command line
  pub no_lf : HasNoLf line
  pub whole : rest ++ got ≡ text_of (line ∷ more) ++ after
  pub near : length after ≤ length got

whole_line : (kept rest got first : List ℕ) (more : List (List ℕ)) (after : List ℕ) → KeepsOf kept rest → HasNoLf kept → HasNoLf rest → HasNoLf first → kept ++ got ≡ text_of (first ∷ more) ++ after
    → Whole rest got first more after
whole_line kept rest got first more after k nk nr nf e =
    let behind = text_of more ++ after in
    let g = goes_on kept got first behind nk (e ∙ text_cons first more after) in
    record {
      line = rest ++ g.tail;
      same = ap command g.line_is ∙ same_kept kept rest g.tail k;
      no_lf = no_lf_both rest g.tail nr (no_lf_after kept g.tail (subst (λ (t : List ℕ). HasNoLf t) g.line_is nf));
      whole = ap (λ (t : List ℕ). rest ++ t) g.behind_is ∙ sym (append_assoc rest g.tail (10 ∷ behind)) ∙ sym (text_cons (rest ++ g.tail) more after);
      near = omega (arith, ap length g.behind_is, length-append g.tail (10 ∷ behind), length-append (text_of more) after);
    }

-- what the buffer shows of the bytes behind those that were answered
record Rejoins (rest got left : List ℕ) (ls : List (List ℕ)) : Type 0 where
  pub all : List (List ℕ)
  pub behind : List ℕ
  pub whole : rest ++ got ≡ text_of all ++ behind
  pub each : All HasNoLf all
  pub no_lf : HasNoLf behind
  pub keeps : KeepsOf left behind
  pub served : (some : Bool) (s t : State) → Served ls some s t → Served all some s t

keeps_longer : (kept rest got left : List ℕ) → KeepsOf kept rest → kept ++ got ≡ left → KeepsOf left (rest ++ got)
keeps_longer kept rest got left (inl same) e = inl (sym e ∙ ap (λ (t : List ℕ). t ++ got) same)
keeps_longer kept rest got left (inr long) e =
    inr (omega (arith, long.0, length-append kept got, ap length e), omega (arith, long.1, length-append rest got))

rejoin : (kept rest got left : List ℕ) (ls : List (List ℕ)) → KeepsOf kept rest → HasNoLf kept → HasNoLf rest → IsCut (kept ++ got) ls left → Rejoins rest got left ls
rejoin kept rest got left [] k nk nr c = record {
  all = [];
  behind = rest ++ got;
  whole = refl;
  each = All-nil HasNoLf;
  no_lf = no_lf_both rest got nr (no_lf_after kept got (subst (λ (t : List ℕ). HasNoLf t) (sym c.whole) c.behind));
  keeps = keeps_longer kept rest got left k c.whole;
  served = λ some s t v. v;
}
rejoin kept rest got left (l ∷ more) k nk nr c =
    let w = whole_line kept rest got l more left k nk nr (each_head l more c.each) c.whole in
    record {
      all = w.line ∷ more;
      behind = left;
      whole = w.whole;
      each = All-cons HasNoLf w.line more w.no_lf (each_tail l more c.each);
      no_lf = c.behind;
      keeps = inl refl;
      served = λ some s t v. (v.0, v.1, v.2, serves_same (Ok v.1) l w.line s v.0 w.same v.3, v.4, v.5);
    }

-- of a line that has so many bytes no more are kept
trimmed : (left behind : List ℕ) (k : ℕ) → k ≡ min (length left) line_kept → KeepsOf left behind → KeepsOf (take k left) behind
trimmed left behind k e keeps = by_test (leb (length left) line_kept) refl keeps
  where
    by_test : (b : Bool) → leb (length left) line_kept ≡ b → KeepsOf left behind → KeepsOf (take k left) behind
    by_test true t h = subst (λ (q : List ℕ). KeepsOf q behind) (sym (take_all k left (omega (arith, e, leb-true _ _ t)))) h
    by_test false t (inl same) = inr (omega (arith, e, leb-false _ _ t, length-take k left), omega (arith, leb-false _ _ t, ap length same))
    by_test false t (inr long) = inr (omega (arith, e, leb-false _ _ t, length-take k left), long.1)

-- the bytes that were taken with a piece more
joined : (ls all : List (List ℕ)) (rest got behind : List ℕ) → rest ++ got ≡ text_of all ++ behind → (text_of ls ++ rest) ++ got ≡ text_of (ls ++ all) ++ behind
joined ls all rest got behind e =
    append_assoc (text_of ls) rest got
    ∙ ap (λ (t : List ℕ). text_of ls ++ t) e
    ∙ sym (append_assoc (text_of ls) (text_of all) behind)
    ∙ ap (λ (t : List ℕ). t ++ behind) (sym (text_append ls all))

stands_more : (a b c : Option (List ℕ)) (n count left : ℕ) (kept got next : List ℕ) (x y z : Bool) (s m t : State) → Stands a b n kept x s m → Consumes b c got → length got ≡ count
    → ServesEnded (kept ++ got) left y m t → next ≡ take (min left line_kept) (drop (length (kept ++ got) - left) (kept ++ got)) → z ≡ x || y → Stands a c (n + count) next z s t
stands_more a b c n count left kept got next x y z s m t st consumed size v e more =
    let text = kept ++ got in
    let back = drop (length text - left) text in
    let j = rejoin kept st.rest got back v.ls st.keeps st.kept_behind st.behind v.cut in
    let so_far = text_of st.ls ++ st.rest in
    let whole = joined st.ls j.all st.rest got j.behind j.whole in
    let back_size : length back ≡ left = omega (arith, length-drop (length text - left) text, v.fits) in
    record {
      ls = st.ls ++ j.all;
      rest = j.behind;
      each = All-append HasNoLf st.ls j.all st.each j.each;
      behind = j.no_lf;
      kept_behind = subst (λ (q : List ℕ). HasNoLf q) (sym e) (All-take (λ (b : ℕ). is_lf b ≡ false) (min left line_kept) back v.cut.behind);
      taken = subst (λ (q : List ℕ). Consumes a c q) whole (consumes_more a b c so_far got st.taken consumed);
      size = ap length (sym whole) ∙ length-append so_far got ∙ omega (arith, st.size, size);
      keeps = subst (λ (q : List ℕ). KeepsOf q j.behind) (sym e) (trimmed back j.behind (min left line_kept) (omega (arith, back_size)) j.keeps);
      served = served_append st.ls j.all x y z s m t st.served (j.served y m t v.served) more;
    }

-- what was moved to the front of the buffer
moved : (buffer next : List ℕ) (end left r : ℕ) → end ≤ length buffer → left ≤ end → r ≡ min left line_kept → take r next ≡ take r (drop (end - left) buffer)
    → take r next ≡ take (min left line_kept) (drop (length (take end buffer) - left) (take end buffer))
moved buffer next end left r room fits e kept =
    let size : length (take end buffer) ≡ end = omega (arith, length-take end buffer, room) in
    let back = drop (end - left) buffer in
    kept ∙ sym (take-take r left back (omega (arith, e)))
    ∙ ap (take r) (sym (drop-take (end - left) left buffer))
    ∙ ap (λ (k : ℕ). take r (drop (end - left) (take k buffer))) (omega (arith, fits))
    ∙ ap (λ (k : ℕ). take k (drop (end - left) (take end buffer))) e
    ∙ ap (λ (k : ℕ). take (min left line_kept) (drop (k - left) (take end buffer))) (sym size)

-- one turn of the loop
pub stands_turn : (a b c : Option (List ℕ)) (n count kept want left r : ℕ) (old buffer next : List ℕ) (x y z : Bool) (s m t : State) → Stands a b n (take kept old) x s m
    → ReadsBehind (Ok count) kept want b c old buffer → kept + count ≤ length buffer → ServesEnded (take (kept + count) buffer) left y m t → r ≡ min left line_kept
    → take r next ≡ take r (drop (kept + count - left) buffer) → z ≡ x || y → Stands a c (n + count) (take r next) z s t
stands_turn a b c n count kept want left r old buffer next x y z s m t st read room v e k more =
    let text = take (kept + count) buffer in
    let size : length text ≡ kept + count = omega (arith, length-take (kept + count) buffer, room) in
    let left_fits : left ≤ kept + count = omega (arith, v.fits, size) in
    let there = moved buffer next (kept + count) left r room left_fits e k in
    stands_more a b c n count left (take kept old) read.0 (take r next) x y z s m t st read.1 read.2
    (subst (λ (q : List ℕ). ServesEnded q left y m t) read.4 v)
    (there ∙ ap (λ (q : List ℕ). take (min left line_kept) (drop (length q - left) q)) read.4) more

-- ---- the end

pub stands_start : (a : Option (List ℕ)) (s : State) → Stands a a 0 [] false s s
stands_start a s = record {
  ls = [];
  rest = [];
  each = All-nil HasNoLf;
  behind = All-nil (λ (b : ℕ). is_lf b ≡ false);
  kept_behind = All-nil (λ (b : ℕ). is_lf b ≡ false);
  taken = consumes_nothing a;
  size = refl;
  keeps = inl refl;
  served = (refl, refl);
}

-- the source failed
pub stands_fault : (a b c : Option (List ℕ)) (n : ℕ) (kept : List ℕ) (x : Bool) (s t : State) → Stands a b n kept x s t → Keeps b c → n ≤ script_limit → Answered ReadFault a c s t
stands_fault a b c n kept x s t st k most = (
  text_of st.ls ++ st.rest,
  keeps_consumes a b c (text_of st.ls ++ st.rest) st.taken k,
  omega (arith, st.size, most),
  (x, subst (λ (ls : List (List ℕ)). Served ls x s t) (sym (ended_cut st.ls st.rest st.each st.behind)) st.served),
)

-- one byte more than a script may have was taken
pub stands_long : (a b c : Option (List ℕ)) (n : ℕ) (kept got : List ℕ) (x : Bool) (s t : State) → Stands a b n kept x s t → Consumes b c got → length got ≡ 1 → n ≡ script_limit
    → Answered TooLong a c s t
stands_long a b c n kept got x s t st k one most =
    let so_far = text_of st.ls ++ st.rest in (
      so_far ++ got,
      consumes_more a b c so_far got st.taken k,
      length-append so_far got ∙ omega (arith, st.size, one, most),
      (
        x,
        subst (λ (ls : List (List ℕ)). Served ls x s t)
            (sym (ap ended_lines (take_at so_far got script_limit (st.size ∙ most)) ∙ ended_cut st.ls st.rest st.each st.behind)) st.served,
      ),
    )

not_empty : (kept rest : List ℕ) → KeepsOf kept rest → 0 < length kept → 0 < length rest
not_empty kept rest (inl e) h = omega (arith, ap length e, h)
not_empty kept rest (inr long) h = omega (arith, long.1)

-- the bytes end
pub stands_end : (status : Status) (a b c : Option (List ℕ)) (n : ℕ) (kept got : List ℕ) (x : Bool) (s m t : State) → Stands a b n kept x s m → Consumes b c got → length got ≡ 0 → IsAtEnd c
    → n ≤ script_limit → ServesLast status kept x m t → Answered status a c s t
stands_end status a b c n kept got x s m t st k none end most v =
    let so_far = text_of st.ls ++ st.rest in
    let taken : Consumes a c so_far =
    subst (λ (q : List ℕ). Consumes a c q) (ap (λ (g : List ℕ). so_far ++ g) (drop_all 0 got (omega (arith, none))) ∙ append-nil so_far)
    (consumes_more a b c so_far got st.taken k) in
    let size : length so_far ≤ script_limit = omega (arith, st.size, most) in
    by_status status v taken size
  where
    all_lines : lines (text_of st.ls ++ st.rest) ≡ st.ls ++ last_line st.rest
    all_lines = lines_cut st.ls st.rest st.each st.behind

    by_status : (status : Status) → ServesLast status kept x m t → Consumes a c (text_of st.ls ++ st.rest) → length (text_of st.ls ++ st.rest) ≤ script_limit → Answered status a c s t
    by_status Done v taken size = (
      text_of st.ls ++ st.rest,
      (taken, end, size),
      subst (λ (ls : List (List ℕ)). Served ls false s t) (sym all_lines)
          (served_append st.ls (last_line st.rest) x v.0 false s m t st.served (last_same kept st.rest v.0 m t st.keeps v.1) (sym v.2)),
    )
    by_status Refused v taken size = (
      text_of st.ls ++ st.rest,
      (taken, end, size),
      subst (λ (ls : List (List ℕ)). Served ls true s t) (sym all_lines)
          (served_append st.ls (last_line st.rest) x v.0 true s m t st.served (last_same kept st.rest v.0 m t st.keeps v.1) (sym v.2)),
    )
    by_status Words v taken size = absurd v
    by_status ReadFault v taken size = absurd v
    by_status WriteFault v taken size = (
      text_of st.ls ++ st.rest,
      taken,
      size,
      record {
        ls = st.ls;
        line = st.rest;
        later = [];
        here = all_lines ∙ ap (λ (q : List (List ℕ)). st.ls ++ q) (one_line st.rest (not_empty kept st.rest st.keeps v.1));
        some = x;
        between = m;
        served = st.served;
        failed = v.0;
        last = serves_same (Err v.0) kept st.rest m t (command_kept kept st.rest st.keeps) v.2;
        upto = text_of st.ls ++ st.rest;
        after = [];
        whole = sym (append-nil (text_of st.ls ++ st.rest));
        to_here = all_lines ∙ ap (λ (q : List (List ℕ)). st.ls ++ q) (one_line st.rest (not_empty kept st.rest st.keeps v.1));
        ended = inr (refl, end);
        near = omega arith;
      },
    )
    by_status NoMemory v taken size = absurd v
    by_status TooLong v taken size = absurd v

-- the sink failed inside a piece
stops_in : (a c : Option (List ℕ)) (so_far got after : List ℕ) (ls between : List (List ℕ)) (line : List ℕ) (x y : Bool) (f : Failed) (s m q t : State) → so_far ++ got ≡ text_of (ls ++ (between ++ line ∷ [])) ++ after
    → All HasNoLf (ls ++ (between ++ line ∷ [])) → Served ls x s m → Served between y m q → ServesFrom (Err f) line q t → length after ≤ piece_max → StopsIn c (so_far ++ got) s t
stops_in a c so_far got after ls between line x y f s m q t whole each v w last near =
    let all = ls ++ (between ++ line ∷ []) in
    record {
      ls = ls ++ between;
      line = line;
      later = lines after;
      here = ap lines whole ∙ lines_text all after each
          ∙ append_assoc ls (between ++ line ∷ []) (lines after)
          ∙ ap (λ (t : List (List ℕ)). ls ++ t) (append_assoc between (line ∷ []) (lines after))
          ∙ sym (append_assoc ls between (line ∷ lines after));
      some = x || y;
      between = q;
      served = served_append ls between x y (x || y) s m q v w refl;
      failed = f;
      last = last;
      upto = text_of all;
      after = after;
      whole = whole;
      to_here = lines_only all each ∙ sym (append_assoc ls between (line ∷ []));
      ended = inl (ended_only all each ∙ sym (lines_only all each));
      near = near;
    }

cut_among : (a c : Option (List ℕ)) (kept rest got after : List ℕ) (ls between : List (List ℕ)) (line : List ℕ) (x y : Bool) (f : Failed) (s m q t : State) → KeepsOf kept rest → HasNoLf kept → HasNoLf rest
    → All HasNoLf ls → kept ++ got ≡ text_of (between ++ line ∷ []) ++ after → All HasNoLf (between ++ line ∷ []) → Served ls x s m → Served between y m q → ServesFrom (Err f) line q t → length got ≤ piece_max
    → StopsIn c ((text_of ls ++ rest) ++ got) s t
cut_among a c kept rest got after ls [] line x y f s m q t k nk nr each_ls e each v w last near =
    let whole = whole_line kept rest got line [] after k nk nr (each_head line [] each) e in
    stops_in a c (text_of ls ++ rest) got after ls [] whole.line x y f s m q t
    (joined ls (whole.line ∷ []) rest got after whole.whole)
    (All-append HasNoLf ls (whole.line ∷ []) each_ls (All-cons HasNoLf whole.line [] whole.no_lf (All-nil HasNoLf)))
    v w (serves_same (Err f) line whole.line q t whole.same last) (omega (arith, whole.near, near))
cut_among a c kept rest got after ls (l ∷ more) line x y f s m q t k nk nr each_ls e each v w last near =
    let whole = whole_line kept rest got l (more ++ line ∷ []) after k nk nr (each_head l (more ++ line ∷ []) each) e in
    stops_in a c (text_of ls ++ rest) got after ls (whole.line ∷ more) line x y f s m q t
    (joined ls (whole.line ∷ (more ++ line ∷ [])) rest got after whole.whole)
    (All-append HasNoLf ls (whole.line ∷ (more ++ line ∷ [])) each_ls
    (All-cons HasNoLf whole.line (more ++ line ∷ []) whole.no_lf (each_tail l (more ++ line ∷ []) each)))
    v (w.0, w.1, w.2, serves_same (Ok w.1) l whole.line m w.0 whole.same w.3, w.4, w.5) last (omega (arith, whole.near, near))

pub stands_cut : (a b c : Option (List ℕ)) (n count kept want : ℕ) (old buffer : List ℕ) (x : Bool) (s m t : State) → Stands a b n (take kept old) x s m → ReadsBehind (Ok count) kept want b c old buffer
    → want ≤ piece_max → n + want ≤ script_limit → CutsEnded (take (kept + count) buffer) m t → Answered WriteFault a c s t
stands_cut a b c n count kept want old buffer x s m t st read piece most v =
    let got = read.0 in
    let so_far = text_of st.ls ++ st.rest in (
      so_far ++ got,
      consumes_more a b c so_far got st.taken read.1,
      omega (arith, length-append so_far got, st.size, read.2, read.3, most),
      cut_among a c (take kept old) st.rest got v.after st.ls v.ls v.line x v.some v.failed s m v.between t st.keeps st.kept_behind st.behind st.each
          (sym read.4 ∙ v.whole) v.each st.served v.served v.last (omega (arith, read.2, read.3, piece)),
    )

-- where a read gave nothing, the bytes end
pub stands_last : (status : Status) (a b c : Option (List ℕ)) (n count kept want : ℕ) (old buffer : List ℕ) (x : Bool) (s m t : State) → Stands a b n (take kept old) x s m
    → ReadsBehind (Ok count) kept want b c old buffer → count ≡ 0 → n ≤ script_limit → ServesLast status (take kept buffer) x m t → Answered status a c s t
stands_last status a b c n count kept want old buffer x s m t st read zero most v =
    let same : take kept buffer ≡ take kept old =
    ap (λ (k : ℕ). take k buffer) (omega (arith, zero)) ∙ read.4
    ∙ ap (λ (g : List ℕ). take kept old ++ g) (drop_all 0 read.0 (omega (arith, read.2, zero))) ∙ append-nil (take kept old) in
    stands_end status a b c n (take kept old) read.0 x s m t st read.1 (read.2 ∙ zero) (read.5 zero) most
    (subst (λ (q : List ℕ). ServesLast status q x m t) same v)

-- where one gave a byte too many, the script is too long
pub stands_over : (a b c : Option (List ℕ)) (n count kept : ℕ) (old buffer : List ℕ) (x : Bool) (s t : State) → Stands a b n (take kept old) x s t → ReadsBehind (Ok count) kept 1 b c old buffer
    → 0 < count → n ≡ script_limit → Answered TooLong a c s t
stands_over a b c n count kept old buffer x s t st read some most =
    stands_long a b c n (take kept old) read.0 x s t st read.1 (omega (arith, read.2, read.3, some)) most
