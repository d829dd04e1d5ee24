use Rattle.std.proofs.Common.{◌≡◌, pos, ◌+◌, ◌∷◌, ◌++◌, [], ◌∙◌, List, ℤ, ap, arith, refl, rules}
use Rattle.evm_rows.specs.Rows.{flat_of}
use Rattle.std.proofs.Common.{map}
use Rattle.evm_voxels.specs.Parity.{turns}
use Rattle.evm_voxels.specs.Grids.{filled_flat}
use Rattle.evm_voxels.specs.Marks.{bit_on}
use Rattle.evm_voxels.specs.Blocks.{columns, places}
use Rattle.evm_voxels.proofs.BlockLaws.{columns_more, column_are}
use Rattle.evm_voxels.proofs.Layers.{head_is}
use Rattle.evm_voxels.proofs.blocks.append_columns.Goals as goal

pub loop-k-init : goal.loop-k-init
loop-k-init c e = e ∙ ap (columns (c.args.of.now.depth ∷ []) (turns (filled_flat c.args.of.now))) (let q : c.args.first ≡ c.args.first + 0 = omega arith in q)

pub loop-k-preserved : goal.loop-k-preserved
loop-k-preserved c e =
    let g = c.args.of.now in
    let x = c.args.first + c.loop-k.k in
    let rows : List (List ℤ) = places (map (bit_on c.loop-k.k) c.args.words.now) 0 in
    columns_more (g.depth ∷ []) (turns (filled_flat g)) x (c.args.first + (c.loop-k.k + 1)) x rows c.loop-k.out.items _ refl (omega arith) (c.loop-k.invariant e)
    (c.in_ok-append_bits.ensures ∙ ap (λ (h : List ℤ). c.loop-k.out.items ++ flat_of (map (λ t. h ++ t) rows)) (head_is (pos x) (search rules)))
    (column_are g x c.loop-k.k c.args.words.now c.requires.one (c.requires.words c.loop-k.k (omega arith)))

pub returns : goal.returns
returns c e = c.loop-k.invariant e ∙ ap (columns (c.args.of.now.depth ∷ []) (turns (filled_flat c.args.of.now))) (let q : c.args.first + c.loop-k.k ≡ c.args.first + c.args.count = omega arith in q)
