use Rattle.evm_model.proofs.SlotLaws.{edit_slots, slots_names, attached_reads, readings_follow, gone_stays, slots_fixed, none_comes_or_goes, others_leave, reads_tell, nothing_read, handovers_tell, given_up}
use Rattle.evm_model.proofs.meters_watch_names.Goals as goal

pub returns-clause-edits : goal.returns-clause-edits
returns-clause-edits c = edit_slots

pub returns-clause-names : goal.returns-clause-names
returns-clause-names c = slots_names

pub returns-clause-attached : goal.returns-clause-attached
returns-clause-attached c = attached_reads

pub returns-clause-follow : goal.returns-clause-follow
returns-clause-follow c = readings_follow

pub returns-clause-gone : goal.returns-clause-gone
returns-clause-gone c = gone_stays

pub returns-clause-fixed : goal.returns-clause-fixed
returns-clause-fixed c = slots_fixed

pub returns-clause-steady : goal.returns-clause-steady
returns-clause-steady c = none_comes_or_goes

pub returns-clause-others : goal.returns-clause-others
returns-clause-others c = others_leave

pub returns-clause-read : goal.returns-clause-read
returns-clause-read c = reads_tell

pub returns-clause-unread : goal.returns-clause-unread
returns-clause-unread c = nothing_read

pub returns-clause-handed : goal.returns-clause-handed
returns-clause-handed c = handovers_tell

pub returns-clause-given_up : goal.returns-clause-given_up
returns-clause-given_up c = given_up
