use Rattle.std.proofs.Common.{◌≡◌, ℕ, ◌+◌, ◌*◌, List, ◌∷◌, [], length, replicate, take, pos, ap, ◌∙◌, arith, refl}
use Rattle.std.proofs.lemmas.List.{length-replicate}
use Rattle.evm_voxels.specs.Parity.{turns}
use Rattle.evm_voxels.specs.Grids.{filled_in, filled_flat}
use Rattle.evm_voxels.proofs.GridRows.{image_done}
use Rattle.evm_voxels.proofs.BlockLaws.{columns_none, image_columns_all, clear_line, first_line, two_lines, length-words}
use Rattle.evm_voxels.proofs.blocks.wide_image.Goals as goal

pub loop-first-init : goal.loop-first-init
loop-first-init c =
    let zeros : c.in_ok-last.last.items ≡ replicate (c.args.of.now.depth + 1) 0 = c.in_ok-last.ensures.items_if_clones_equal (λ y e. e) in
    record {
      within = omega arith;
      rows = columns_none (c.args.of.now.depth ∷ []) (turns (filled_flat c.args.of.now)) _ c.new-out.ensures.items;
      long = ap (λ (v : List ℕ). length v) zeros ∙ length-replicate (c.args.of.now.depth + 1) 0;
      clear = λ k z l m. clear_line k z (c.args.of.now.depth + 1) c.in_ok-last.last.items zeros m;
    }

pub returns : goal.returns
returns c =
    let g = c.args.of.now in
    image_done g c.loop-first.out.items c.requires.width c.requires.depth (image_columns_all g c.loop-first.first c.loop-first.out.items (omega arith) c.loop-first.invariant.rows)

pub split_at-requires : goal.split_at-requires
split_at-requires c =
    let g = c.args.of.now in
    let long : length c.deref.result.now ≡ (g.height + 1) * (g.depth + 1) =
    length-words g.height g.depth (g.depth + 1) (g.height + 1) 0 _ c.fill_block.new.words.items _ c.deref.ensures.value (c.in_ok-fill_block.ensures.words 0 (omega arith)) refl refl in
    omega (arith, long, two_lines g.height (g.depth + 1) c.requires.height)

pub append_columns-requires-clause-words : goal.append_columns-requires-clause-words
append_columns-requires-clause-words c k l =
    let g = c.args.of.now in
    first_line k g.height g.depth (λ t. turns (filled_in g) (pos (c.loop-first.first + k) ∷ t)) c.fill_block.new.words.items _ (c.split_at.ensures.front ∙ ap (take (g.depth + 1)) c.deref.ensures.value) (c.in_ok-fill_block.ensures.words k l)
