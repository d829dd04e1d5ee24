use Rattle.std.proofs.Common.{List, ℕ, refl, sym, subst}
use Rattle.std.proofs.lemmas.Result.{err_from_is_err_and}
use Rattle.evm_model.specs.Runs.{NoMemory}
use Rattle.evm_tool.specs.Generated.{Replies}
use Rattle.evm_tool.proofs.Summaries.{nothing_yet, so_far_given, no_line, so_far_more, sums_of, stops_at_line}
use Rattle.evm_tool.proofs.generated.tally_of.Goals as goal

pub loop-reply-init : goal.loop-reply-init
loop-reply-init g c = record {
  clear = c.new-line.ensures.items;
  passed = refl;
  so_far = nothing_yet c.args.seed c.args.edits _ _ _ c.args.steps.now c.new-generator.ensures (rw c.new.ensures.items at c.in_ok-session.ensures) c.new-3.ensures.items;
}

pub loop-reply-preserved : goal.loop-reply-preserved
loop-reply-preserved g c =
    let l = c.loop-reply in
    let before = so_far_given (Unit {0}) _ _ _ _ _ c.as_slice.result.now c.args.seed c.args.edits _ _ _ _ _ _ c.in_ok-line.ensures c.if-branch.true l.invariant.clear
    c.as_slice.ensures.value l.invariant.so_far in
    let said = subst (λ (text : List ℕ). Replies c.as_slice.result.now l.session c.reply_to.new.session text c.in_ok-fine.fine l.steps c.reply_to.new.steps) (sym c.as_slice-in-loop-reply.ensures.value) c.in_ok-fine.ensures in
    record {
      clear = c.clear.ensures.items;
      passed = refl;
      so_far = so_far_more c.args.seed c.args.edits _ _ _ _ _ _ _ _ _ _ _ _ _ _ _ _ refl before said c.in_ok-count.ensures;
    }

pub returns-clause-some : goal.returns-clause-some
returns-clause-some g c =
    let l = c.loop-reply in
    sums_of c.args.seed c.args.edits _ _ _ _ _ _ _ c.generated_scripts_are_as_stated.ensures.count
    (no_line (Unit {0}) _ _ _ _ _ c.in_ok-line.ensures c.if-branch.false) l.invariant.so_far

-- the line for which memory was missing stood first of those that are left
pub returns-in_err-fine-clause-none : goal.returns-in_err-fine-clause-none
returns-in_err-fine-clause-none g c =
    let l = c.loop-reply in
    let before = so_far_given (Unit {0}) _ _ _ _ _ c.as_slice.result.now c.args.seed c.args.edits _ _ _ _ _ _ c.in_ok-line.ensures c.if-branch.true l.invariant.clear
    c.as_slice.ensures.value l.invariant.so_far in
    let p = err_from_is_err_and c.from_residual-in_err-fine.result c.from_residual-in_err-fine.ensures.1 in
    rw p.1 (stops_at_line c.args.seed c.args.edits _ _ _ NoMemory _ _ _ _ _ _ refl before c.in_err-fine.ensures)

pub returns-in_err-count-clause-none : goal.returns-in_err-count-clause-none
returns-in_err-count-clause-none g c =
    let l = c.loop-reply in
    let before = so_far_given (Unit {0}) _ _ _ _ _ c.as_slice.result.now c.args.seed c.args.edits _ _ _ _ _ _ c.in_ok-line.ensures c.if-branch.true l.invariant.clear
    c.as_slice.ensures.value l.invariant.so_far in
    let said = c.in_ok-fine.ensures in
    let p = err_from_is_err_and c.from_residual-in_err-count.result c.from_residual-in_err-count.ensures.1 in
    rw p.1 (stops_at_line c.args.seed c.args.edits _ _ _ said.mark _ _ _ _ _ _ said.own before said.steps)
