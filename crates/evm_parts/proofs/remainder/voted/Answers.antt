use Rattle.std.proofs.Common.{◌+◌, sym, subst}
use Rattle.evm_parts.specs.Labels.{label_at}
use Rattle.evm_parts.proofs.Votes.{IsVoted, voted_for, voted_new, voted_against, voted_most}
use Rattle.evm_parts.proofs.remainder.voted.Goals as goal
use Rattle.evm_parts.proofs.remainder.voted.Goals.{then-label-voted, else-label-voted+then-votes-eq0, else-label-voted+else-votes-eq0}

pub loop-label-preserved : goal.loop-label-preserved
loop-label-preserved c =
    let labels = c.args.labels.now in
    let at = c.loop-label.label-index in
    let voted = c.loop-label.voted in
    let votes = c.loop-label.votes in
    let h = c.loop-label.invariant in
    elim c.if-label-voted.branch [
      | then-label-voted w ↦
          subst (λ v. IsVoted labels (at + 1) v c.if-label-voted.votes) (sym w.voted-is)
          (subst (IsVoted labels (at + 1) voted) (sym w.votes-is) (voted_for labels at voted votes c.loop-label-test.true h w.if-label-voted.true))
      | else-label-voted+then-votes-eq0 w ↦
          subst (λ v. IsVoted labels (at + 1) v c.if-label-voted.votes) (sym w.voted-is)
          (subst (IsVoted labels (at + 1) (label_at labels at)) (sym w.votes-is)
          (voted_new labels at voted votes c.loop-label-test.true h w.if-label-voted.false w.if-votes-eq0.true))
      | else-label-voted+else-votes-eq0 w ↦
          subst (λ v. IsVoted labels (at + 1) v c.if-label-voted.votes) (sym w.voted-is)
          (subst (IsVoted labels (at + 1) voted) (sym w.votes-is)
          (voted_against labels at voted votes c.loop-label-test.true h w.if-label-voted.false w.if-votes-eq0.false))
    ]

pub returns : goal.returns
returns c =
    λ label most. voted_most c.args.labels.now c.loop-label.label-index c.loop-label.voted c.loop-label.votes label c.loop-label-test.false
    c.loop-label.auto.label-index-end c.loop-label.invariant most
