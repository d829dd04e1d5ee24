use Rattle.evm_formats.specs.declared.voxels.VoxelError.TheVariants.{Kind}
use Rattle.evm_formats.specs.Pgm.{pgm_cells}
use Rattle.evm_voxels.proofs.Outcome.{answers_dim, answers_cells, answers_vertices, answers_refused, answers_never, answers_found}
use Rattle.evm_formats.proofs.PgmRefusals.{no_kind}
use Rattle.evm_voxels.proofs.read_pgm.Goals as goal

pub returns : goal.returns
returns c =
    let stated = pgm_cells c.args.dim c.args.threshold c.args.bytes.now in
    record {
      dim = answers_dim c.args.dim stated _ c.read_stack.ensures;
      cells = answers_cells c.args.dim stated _ c.read_stack.ensures;
      vertices = answers_vertices c.args.dim stated _ c.read_stack.ensures;
      refused = answers_refused c.args.dim stated _ c.read_stack.ensures;
      kind = answers_never c.args.dim stated _ Kind c.read_stack.ensures (λ e. cc e) (no_kind c.args.dim c.args.threshold c.args.bytes.now);
      found = answers_found c.args.dim stated _ c.read_stack.ensures;
    }
