use Rattle.std.proofs.Common.{rules, ◌≡◌, ◌-◌, ◌++◌, length, ap, ◌∙◌, arith, w32, SFits}
use Rattle.evm_sections.proofs.Bits.{same32}
use Rattle.evm_rows.specs.Rows.{rows_of}
use Rattle.evm_formats.specs.FirstFile.{field}
use Rattle.evm_file.proofs.Writing.{few_left, body_start, body_more}
use Rattle.evm_file.proofs.bodies.+append_body.Goals as goal

pub count_couplets-requires : goal.count_couplets-requires
count_couplets-requires t c =
    let a = c.args.a in
    few_left (a.width - a.skip) c.of-walk.result.dim (rows_of a.flat.now a.width a.skip) c.again.result.left c.of-walk.ensures.dim a.vertices (ap (λ w. w.left) c.again.ensures ∙ c.of-walk.ensures.left)

pub loop-height-init : goal.loop-height-init
loop-height-init t c =
    let a = c.args.a in
    record {
      deep = c.of-walk.ensures.dim;
      so_far = body_start (a.width - a.skip) c.of-walk.result.dim c.count_couplets.result (rows_of a.flat.now a.width a.skip) c.of-walk.result.left c.args.out.now.items c.append_count.new.out.items
          c.of-walk.ensures.dim c.of-walk.ensures.left (c.count_couplets.ensures ∙ ap (λ w. length w.left) c.again.ensures) c.in_ok-append_count.ensures;
    }

pub loop-height-preserved : goal.loop-height-preserved
loop-height-preserved t c =
    let i = c.loop-height.invariant in
    let w = c.next_couplet.new.self in
    let n = c.loop-height.walk.dim in
    let f : SFits w32 c.in-Some.height = search rules in
    let r = c.in-Some.couplet in
    let d : w.dim ≡ n = c.next_couplet.ensures.dim in
    record {
      deep = omega (arith, d, i.deep);
      so_far = body_more n (r.width - r.skip) w.dim c.in-Some.height (rows_of r.flat.now r.width r.skip) c.loop-height.walk.left w.left c.loop-height.out.items c.append_field.new.out.items c.append_body.new.out.items _
          c.in-Some.ensures.some d c.in-Some.ensures.same (c.in_ok-append_field.ensures ∙ ap (λ z. c.loop-height.out.items ++ field z) (same32 c.in-Some.height f)) c.in_ok-append_body.ensures i.so_far;
    }
