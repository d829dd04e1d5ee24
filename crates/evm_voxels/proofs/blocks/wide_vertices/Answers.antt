use Rattle.std.proofs.Common.{◌≡◌, ℕ, ◌+◌, List, ◌∷◌, [], length, replicate, ap, ◌∙◌, arith}
use Rattle.std.proofs.lemmas.List.{length-replicate}
use Rattle.evm_voxels.specs.Parity.{turns}
use Rattle.evm_voxels.specs.Grids.{filled_in}
use Rattle.evm_voxels.proofs.GridRows.{stack_done}
use Rattle.evm_voxels.proofs.BlockLaws.{columns_none, columns_all, clear_line}
use Rattle.evm_voxels.proofs.blocks.wide_vertices.Goals as goal

pub loop-first-init : goal.loop-first-init
loop-first-init c =
    let zeros : c.in_ok-last.last.items ≡ replicate (c.args.of.now.depth + 1) 0 = c.in_ok-last.ensures.items_if_clones_equal (λ y e. e) in
    record {
      within = omega arith;
      rows = columns_none (c.args.of.now.height ∷ c.args.of.now.depth ∷ []) (turns (filled_in c.args.of.now)) _ c.new-out.ensures.items;
      long = ap (λ (v : List ℕ). length v) zeros ∙ length-replicate (c.args.of.now.depth + 1) 0;
      clear = λ k z l m. clear_line k z (c.args.of.now.depth + 1) c.in_ok-last.last.items zeros m;
    }

pub returns : goal.returns
returns c =
    let g = c.args.of.now in
    stack_done g c.loop-first.out.items c.requires.width c.requires.height c.requires.depth (columns_all g c.loop-first.first c.loop-first.out.items (omega arith) c.loop-first.invariant.rows)
