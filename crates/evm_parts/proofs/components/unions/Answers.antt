use Rattle.std.proofs.Common.{◌≡◌, ◌≢◌, Some, ◌+◌, ◌%◌, ℕ, length, ap, sym, ◌∙◌, subst, arith}
use Rattle.std.proofs.lemmas.Bool.{true≢false}
use Rattle.evm_parts.specs.Labels.{labelled}
use Rattle.evm_parts.specs.PartRows.{IsUnion}
use Rattle.evm_parts.proofs.Apart.{labelled_apart}
use Rattle.evm_parts.specs.PartLists.{AreParts, parts_from}
use Rattle.evm_parts.proofs.Stretches.{AreListed, listed_start}
use Rattle.evm_parts.proofs.PartLists.{parts_to, parts_same, whole_rows, odd_union, list_is, listed_part}
use Rattle.evm_parts.proofs.components.unions.Goals as goal
use Rattle.evm_parts.proofs.components.unions.Goals.{then-label-index+in_ok-append_part, then-is_main+in_ok-part, else-is_main+in_ok-part-2, else-label-index}

pub loop-index-init : goal.loop-index-init
loop-index-init c = listed_start c.args.boxes.now.dim c.new-flat.result.items c.new-ends.result.items c.new-flat.ensures.items c.new-ends.ensures.items

pub reduced-requires-clause-whole : goal.reduced-requires-clause-whole
reduced-requires-clause-whole c =
    let n = c.args.boxes.now.dim in
    let boxes = c.args.boxes.now.boxes in
    let labels = c.args.labels.now in
    let at = c.loop-index.index in
    let other : c.main_label-main.result ≢ Some at = λ e. true≢false (sym (c.is_main.ensures.1 e) ∙ c.if-is_main.false) in
    let rows = list_is n boxes labels c.main_label-main.result c.in_ok-lists.lists.items at c.index.result.now c.as_slice.result.now c.in_ok-lists.ensures c.loop-index-test.true other c.index.ensures c.as_slice.ensures.value in
    ap (λ (k : ℕ). length c.as_slice.result.now % k) c.dim-dim.ensures ∙ whole_rows n (labelled at labels boxes) c.as_slice.result.now rows

pub loop-index-preserved : goal.loop-index-preserved
loop-index-preserved c =
    let n = c.args.boxes.now.dim in
    let boxes = c.args.boxes.now.boxes in
    let labels = c.args.labels.now in
    let at = c.loop-index.index in
    let Vs = parts_to n boxes labels (at + 1) in
    elim c.if-label-index.branch [
      | then-label-index+in_ok-append_part w ↦
          let part : IsUnion n (labelled at labels boxes) w.if-is_main.part.items =
          elim w.if-is_main.branch [
            | then-is_main+in_ok-part u ↦
                subst (λ v. IsUnion n (labelled at labels boxes) v.items) (sym u.part-is) u.in_ok-part.ensures
            | else-is_main+in_ok-part-2 u ↦
                let other : c.main_label-main.result ≢ Some at = λ e. true≢false (sym (w.is_main.ensures.1 e) ∙ u.if-is_main.false) in
                let rows = list_is n boxes labels c.main_label-main.result c.in_ok-lists.lists.items at u.index.result.now u.as_slice.result.now c.in_ok-lists.ensures c.loop-index-test.true other u.index.ensures u.as_slice.ensures.value in
                subst (λ v. IsUnion n (labelled at labels boxes) v.items) (sym u.part-is)
                (odd_union n c.dim-dim.result (labelled at labels boxes) u.as_slice.result.now u.in_ok-part-2.part.items c.requires.low c.requires.high c.dim-dim.ensures
                (labelled_apart n at labels boxes c.requires.apart) rows u.in_ok-part-2.ensures.whole u.in_ok-part-2.ensures.rows)
          ] in
          let read = subst (λ xs. IsUnion n (labelled at labels boxes) xs) (sym w.as_slice-then-label-index.ensures.value) part in
          let h = listed_part n boxes labels at w.as_slice-then-label-index.result.now c.loop-index.flat.items w.append_part.new.flat.items c.loop-index.ends.items w.append_part.new.ends.items
          w.if-label-index.true read w.in_ok-append_part.ensures c.loop-index.invariant in
          subst (λ v. AreListed n v.items c.if-label-index.ends.items Vs) (sym w.flat-is) (subst (λ v. AreListed n w.append_part.new.flat.items v.items Vs) (sym w.ends-is) h)
      | else-label-index w ↦
          let h = subst (AreListed n c.loop-index.flat.items c.loop-index.ends.items) (sym (parts_same n boxes labels at w.if-label-index.false)) c.loop-index.invariant in
          subst (λ v. AreListed n v.items c.if-label-index.ends.items Vs) (sym w.flat-is) (subst (λ v. AreListed n c.loop-index.flat.items v.items Vs) (sym w.ends-is) h)
    ]

pub of_flat-requires : goal.of_flat-requires
of_flat-requires c =
    subst (λ (k : ℕ). AreParts k c.loop-index.flat.items c.loop-index.ends.items) (sym c.dim-dim.ensures)
    (record { low = c.requires.low; high = c.requires.high; stretches = c.loop-index.invariant.stretches })

pub returns-clause-parts : goal.returns-clause-parts
returns-clause-parts c =
    let n = c.args.boxes.now.dim in
    let labels = c.args.labels.now in
    let end : c.loop-index.index ≡ length labels = omega arith in
    c.of_flat.ensures.parts ∙ ap (λ (k : ℕ). parts_from k 0 c.loop-index.flat.items c.loop-index.ends.items) c.dim-dim.ensures
    ∙ c.loop-index.invariant.parts ∙ ap (parts_to n c.args.boxes.now.boxes labels) end
