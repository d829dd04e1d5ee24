use Rattle.std.proofs.Common.{◌≡◌, pos, sym, arith, rules, SFits, w64}
use Rattle.std.proofs.lemmas.Int.{ints as int_facts}
use Rattle.evm_boxes.proofs.FileSteps.{under_head}
use Rattle.evm_boxes.proofs.file.read_file.Goals as goal

pub returns-in-Some-2-clause-memory : goal.returns-in-Some-2-clause-memory
returns-in-Some-2-clause-memory c =
    let stated = c.in-Some-head_dim.stated in
    let fits : SFits w64 stated = search rules in
    let same : stated ≡ pos c.args.dim = let h = c.if-stated-dim.false in omega (arith, int_facts) in
    λ e. under_head c.args.dim stated c.args.bytes.now c.in-Some.first.now c.in-Some.rest.now c.in-Some.ensures.line (sym c.in-Some-head_dim.ensures) same
    (c.read_lines.ensures.memory e)
