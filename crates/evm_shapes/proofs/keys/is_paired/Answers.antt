use Rattle.std.proofs.Common.{◌∙◌, ◌+◌, length, sym}
use Rattle.std.proofs.lemmas.Bool.{le-ltb}
use Rattle.evm_shapes.specs.Keys.{unpacked}
use Rattle.evm_shapes.proofs.Packed.{same_key}
use Rattle.evm_shapes.proofs.Sorted.{pair_at, pair_last}
use Rattle.evm_shapes.proofs.keys.is_paired.Goals as goal

pub returns-then-i-keys : goal.returns-then-i-keys
returns-then-i-keys c =
    sym
    (pair_at (unpacked c.args.width) c.args.keys.now c.args.i 0 c.if-i-keys.true
    ∙ same_key c.args.width _ _ (c.requires.room c.args.i 0 c.requires.within) (c.requires.room (c.args.i + 1) 0 c.if-i-keys.true))

pub returns-else-i-keys : goal.returns-else-i-keys
returns-else-i-keys c =
    le-ltb (c.args.i + 1) (length c.args.keys.now) c.if-i-keys.false ∙ sym (pair_last (unpacked c.args.width) c.args.keys.now c.args.i 0 c.requires.within c.if-i-keys.false)
