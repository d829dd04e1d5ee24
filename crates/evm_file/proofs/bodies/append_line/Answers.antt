use Rattle.std.proofs.Common.{rules, ◌-◌, ◌≡◌, ◌++◌, ap, ◌∙◌, sym, w32, SFits, arith}
use Rattle.evm_sections.proofs.Bits.{same32}
use Rattle.evm_rows.specs.Rows.{rows_of}
use Rattle.evm_formats.specs.FirstFile.{field}
use Rattle.evm_file.proofs.Writing.{few_rows, line_start, line_more, single_rest}
use Rattle.evm_file.proofs.bodies.append_line.Goals as goal

pub overflow_cast-len : goal.overflow_cast-len
overflow_cast-len c =
    let a = c.args.a in
    let few = few_rows (a.width - a.skip) (rows_of a.flat.now a.width a.skip) c.requires a.vertices in
    let e = c.len.ensures in search rules

pub loop-at-init : goal.loop-at-init
loop-at-init c =
    let a = c.args.a in
    record {
      single = c.of-marks.ensures.single;
      so_far = line_start (a.width - a.skip) c.len.result (rows_of a.flat.now a.width a.skip) c.of-marks.result c.args.out.now.items c.append_count.new.out.items
          c.requires a.vertices c.of-marks.ensures.left c.len.ensures c.in_ok-append_count.ensures;
    }

pub loop-at-preserved : goal.loop-at-preserved
loop-at-preserved c =
    let i = c.loop-at.invariant in
    let f : SFits w32 c.in-Some.at = search rules in
    record {
      single = single_rest c.loop-at.marks c.step.new.self i.single c.step.ensures;
      so_far = line_more c.loop-at.marks c.step.new.self c.in-Some.at c.loop-at.out.items c.append_field.new.out.items _ c.in-Some.ensures c.step.ensures
          (c.in_ok-append_field.ensures ∙ ap (λ z. c.loop-at.out.items ++ field z) (same32 c.in-Some.at f)) i.so_far;
    }
