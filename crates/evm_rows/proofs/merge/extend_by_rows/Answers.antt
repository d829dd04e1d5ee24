use Rattle.std.proofs.Common.{◌≡◌, ◌<◌, ◌++◌, List, ℤ, Option, None, Some, false, refl, sym, ap, ◌∙◌, arith}
use Rattle.std.specs.Option.{is_some}
use Rattle.evm_rows.specs.Rows.{rows_of, raised}
use Rattle.evm_rows.proofs.RowsLaws.{append_more, append_done}
use Rattle.evm_rows.proofs.Solids.{flat_of-rows_of}
use Rattle.evm_rows.proofs.merge.extend_by_rows.Goals as goal

-- rows with no height before them
not_raised : (h : Option ℤ) (rs : List (List ℤ)) → is_some h ≡ false → raised h rs ≡ rs
not_raised None rs e = refl
not_raised (Some k) rs e = cc

pub returns-then-is_none : goal.returns-then-is_none
returns-then-is_none c =
    let some : 0 < c.args.width = omega (arith, c.requires.left) in
    rw (not_raised c.args.height (rows_of c.args.flat.now c.args.width c.args.skip) c.if-is_none.ensures, c.if-skip-eq0.true)
    (c.in_ok-extend_from_slice.ensures.items
    ∙ ap (λ (t : List ℤ). c.args.out.now.items ++ t) (sym (flat_of-rows_of c.args.flat.now c.args.width some c.requires.whole)))

pub loop-left-preserved : goal.loop-left-preserved
loop-left-preserved c = record {
  whole = c.split_row.ensures.whole;
  so_far = append_more _ _ _ _ _ _ _ c.split_row.ensures.first c.in_ok-extend_by_row.ensures c.loop-left.invariant.so_far;
}

pub returns : goal.returns
returns c = append_done _ c.loop-left.left.now _ _ _ _ (omega arith) c.loop-left.invariant.so_far
