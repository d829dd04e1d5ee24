use Rattle.std.proofs.Common.{◌≡◌, ◌++◌, ◌<◌, ℤ, List, ap₂, ◌∙◌, map}
use Rattle.std.proofs.lemmas.List.Sorted.{All-permutation}
use Rattle.std.proofs.lemmas.List.Elements.{All-same}
use Rattle.evm_rows.specs.Rows.{flat_of}
use Rattle.evm_shapes.specs.Keys.{unpacked, room}
use Rattle.evm_shapes.specs.Order.{unpaired}
use Rattle.evm_shapes.proofs.Packed.{sorted_keys}
use Rattle.evm_shapes.proofs.Windowed.{keys_lone}
use Rattle.evm_shapes.proofs.keys.rows_of_keys.Goals as goal

pub append_unpaired-requires-clause-room : goal.append_unpaired-requires-clause-room
append_unpaired-requires-clause-room c =
    All-same (λ k. k < room c.args.width) _ _ c.as_slice.ensures.value
    (All-permutation (λ k. k < room c.args.width) _ _ c.sort_unstable.ensures.permutation c.requires.room)

pub returns-clause-whole : goal.returns-clause-whole
returns-clause-whole c =
    let written : c.append_unpaired.new.out.items ≡ flat_of (unpaired (map (unpacked c.args.width) c.sort_unstable.new.self.items)) =
    c.in_ok-append_unpaired.ensures ∙ ap₂ (λ (u : List ℤ) v. u ++ flat_of (unpaired (map (unpacked c.args.width) v))) c.in_ok-out.ensures.items c.as_slice.ensures.value in
    let all = sorted_keys c.args.width (map (unpacked c.args.width) c.args.keys.items) _ _ _ c.requires.some c.requires.room (keys_lone c.args.width c.args.keys.items) c.sort_unstable.ensures.permutation c.sort_unstable.ensures.sorted written in
    all.0

pub returns-clause-rows : goal.returns-clause-rows
returns-clause-rows c =
    let written : c.append_unpaired.new.out.items ≡ flat_of (unpaired (map (unpacked c.args.width) c.sort_unstable.new.self.items)) =
    c.in_ok-append_unpaired.ensures ∙ ap₂ (λ (u : List ℤ) v. u ++ flat_of (unpaired (map (unpacked c.args.width) v))) c.in_ok-out.ensures.items c.as_slice.ensures.value in
    let all = sorted_keys c.args.width (map (unpacked c.args.width) c.args.keys.items) _ _ _ c.requires.some c.requires.room (keys_lone c.args.width c.args.keys.items) c.sort_unstable.ensures.permutation c.sort_unstable.ensures.sorted written in
    all.1
