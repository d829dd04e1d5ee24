use Rattle.evm_parts.proofs.Votes.{most_have_it, none_has_most}
use Rattle.evm_parts.proofs.remainder.main_label.Goals as goal

pub returns-then-labels-votes : goal.returns-then-labels-votes
returns-then-labels-votes c =
    λ label. most_have_it c.args.labels.now c.voted-label.result c.votes_for-votes.result label c.votes_for-votes.ensures c.if-labels-votes.true (c.voted-label.ensures label)

pub returns-else-labels-votes : goal.returns-else-labels-votes
returns-else-labels-votes c =
    λ label. none_has_most c.args.labels.now c.voted-label.result c.votes_for-votes.result label c.votes_for-votes.ensures c.if-labels-votes.false (c.voted-label.ensures label)
