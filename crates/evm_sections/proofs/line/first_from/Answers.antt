use Rattle.std.proofs.Common.{◌+◌, ◌-◌, ◌/◌, get_or, pos, rules, arith, w32}
use mir.Val.{SFits}
use Rattle.std.proofs.lemmas.Int.{ints as int_facts}
use Rattle.evm_sections.proofs.Bits.{same32}
use Rattle.evm_sections.proofs.LineChanges.{all_higher}
use Rattle.evm_sections.proofs.LineSteps.{below-more, numbers-rise}
use Rattle.evm_sections.proofs.line.first_from.Goals as goal

pub loop-from-preserved-then-numbers-middle : goal.loop-from-preserved-then-numbers-middle
loop-from-preserved-then-numbers-middle c =
    let fits : SFits w32 (get_or c.args.numbers.now (c.loop-from.from + (c.loop-from.to - c.loop-from.from) / 2) (pos 0)) = search rules in
    record {
      order = search rules;
      within = search rules;
      below = below-more c.args.numbers.now (c.loop-from.from + (c.loop-from.to - c.loop-from.from) / 2) _ (numbers-rise c.args.numbers.now c.requires) (omega arith) (let e = same32 (get_or c.args.numbers.now (c.loop-from.from + (c.loop-from.to - c.loop-from.from) / 2) (pos 0)) fits in omega (arith, int_facts));
      above = search rules;
    }

pub loop-from-preserved : goal.loop-from-preserved
loop-from-preserved c =
    let fits : SFits w32 (get_or c.args.numbers.now (c.loop-from.from + (c.loop-from.to - c.loop-from.from) / 2) (pos 0)) = search rules in
    record {
      order = search rules;
      within = search rules;
      below = search rules;
      above = all_higher c.args.numbers.now (c.loop-from.from + (c.loop-from.to - c.loop-from.from) / 2) _ (numbers-rise c.args.numbers.now c.requires) (omega arith) (let e = same32 (get_or c.args.numbers.now (c.loop-from.from + (c.loop-from.to - c.loop-from.from) / 2) (pos 0)) fits in omega (arith, int_facts));
    }
