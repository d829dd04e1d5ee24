use Rattle.evm_formats.specs.Y4m.{y4m_cells}
use Rattle.evm_voxels.proofs.Outcome.{answers_dim, answers_cells, answers_vertices, answers_refused, answers_found}
use Rattle.evm_voxels.proofs.read_y4m.Goals as goal

pub returns : goal.returns
returns c =
    let stated = y4m_cells c.args.dim c.args.threshold c.args.bytes.now in
    record {
      dim = answers_dim c.args.dim stated _ c.read_video.ensures;
      cells = answers_cells c.args.dim stated _ c.read_video.ensures;
      vertices = answers_vertices c.args.dim stated _ c.read_video.ensures;
      refused = answers_refused c.args.dim stated _ c.read_video.ensures;
      found = answers_found c.args.dim stated _ c.read_video.ensures;
    }
