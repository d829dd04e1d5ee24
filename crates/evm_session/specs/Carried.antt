-- What carrying out a command leaves, where a part of a reply may stand behind what was there after want of memory.
use Rattle.std.specs.Prelude.{ℕ, ◌≡◌, false, List, ◌++◌, Result, Ok, Err}
use Rattle.evm_model.specs.Scene.{Scene}
use Rattle.evm_model.specs.Replies.{No, reply_text, is_no}
use Rattle.evm_model.specs.Steps.{Turn, stays}
use Rattle.evm_session.specs.declared.refusals.Refusal.{Refusal}
use Rattle.evm_session.specs.declared.refusals.Refusal.TheVariants.{NoMemory}
use Rattle.evm_session.specs.Refusals.{code_of}
use Rattle.evm_session.specs.Says.{Extends}

-- the turn refuses by this cause; want of memory may come at any turn
abbrev pub IsRefusalOf : Refusal → Scene → Turn → Type 0
IsRefusalOf NoMemory scene turn = Unit {0}
IsRefusalOf refusal scene turn = turn ≡ stays scene (No (code_of refusal))

-- after a refusal nothing was appended, after want of memory a part of a reply at most
abbrev pub LeavesText : Refusal → List ℕ → List ℕ → Type 0
LeavesText NoMemory before now = Extends before now
LeavesText refusal before now = now ≡ before

-- the turn's reply, which does not refuse, was appended and the scene is the turn's; or the refusal is the turn's
abbrev pub Carries : Result (Unit {0}) Refusal → Scene → Scene → List ℕ → List ℕ → Turn → Type 0
Carries (Ok done) old new before now turn = (now ≡ before ++ reply_text turn.reply) × (new ≡ turn.scene) × (is_no turn.reply ≡ false)
Carries (Err refusal) old new before now turn = IsRefusalOf refusal old turn × LeavesText refusal before now × (new ≡ old)
