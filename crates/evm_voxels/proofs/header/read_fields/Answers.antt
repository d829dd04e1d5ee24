use Rattle.std.proofs.Common.{ap, ◌∙◌, sym}
use Rattle.std.specs.Prelude.{option_map}
use Rattle.evm_voxels.specs.Shots.{fields_read}
use Rattle.evm_voxels.proofs.Capped.{next_is, no_width, no_height, no_maxval, no_more, no_white, all_there}
use Rattle.evm_voxels.proofs.header.read_fields.Goals as goal

pub returns-in_err-width : goal.returns-in_err-width
returns-in_err-width c = ap (option_map fields_read) c.from_residual.ensures ∙ no_width c.args.bytes.now c.in_err-width.ensures

pub returns-in_err-height : goal.returns-in_err-height
returns-in_err-height c =
    ap (option_map fields_read) c.from_residual-in_err-height.ensures
    ∙ no_height c.args.bytes.now _ _ (next_is c.args.bytes.now _ _ c.in_ok-width.ensures) c.in_err-height.ensures

pub returns-in_err-maxval : goal.returns-in_err-maxval
returns-in_err-maxval c =
    ap (option_map fields_read) c.from_residual-in_err-maxval.ensures
    ∙ no_maxval c.args.bytes.now _ _ _ _ (next_is c.args.bytes.now _ _ c.in_ok-width.ensures) (next_is c.in_ok-width.rest.now _ _ c.in_ok-height.ensures) c.in_err-maxval.ensures

pub returns-in_err-b : goal.returns-in_err-b
returns-in_err-b c =
    ap (option_map fields_read) c.from_residual-in_err-b.ensures
    ∙ no_more c.args.bytes.now _ _ _ _ _ _ (next_is c.args.bytes.now _ _ c.in_ok-width.ensures) (next_is c.in_ok-width.rest.now _ _ c.in_ok-height.ensures) (next_is c.in_ok-height.rest.now _ _ c.in_ok-maxval.ensures)
    c.in_err-b.ensures

pub returns-then-is_white : goal.returns-then-is_white
returns-then-is_white c =
    all_there c.args.bytes.now _ _ _ c.in_ok-b.b _ _ _ c.in_ok-b.rest.now (next_is c.args.bytes.now _ _ c.in_ok-width.ensures) (next_is c.in_ok-width.rest.now _ _ c.in_ok-height.ensures)
    (next_is c.in_ok-height.rest.now _ _ c.in_ok-maxval.ensures) c.in_ok-b.ensures (sym c.is_white.ensures ∙ c.if-is_white.true)

pub returns-else-is_white : goal.returns-else-is_white
returns-else-is_white c =
    no_white c.args.bytes.now _ _ _ c.in_ok-b.b _ _ _ c.in_ok-b.rest.now (next_is c.args.bytes.now _ _ c.in_ok-width.ensures) (next_is c.in_ok-width.rest.now _ _ c.in_ok-height.ensures)
    (next_is c.in_ok-height.rest.now _ _ c.in_ok-maxval.ensures) c.in_ok-b.ensures (sym c.is_white.ensures ∙ c.if-is_white.false)
