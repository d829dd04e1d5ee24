use Rattle.evm_tool.proofs.CubeStarts.{just_lack, some_lack}
use Rattle.evm_tool.proofs.generated.generated_lines_lack_memory_alone.Goals as goal

pub returns : goal.returns
returns c =
    let laws = c.generated_scripts_are_as_stated.ensures in record { just = just_lack laws.count laws.room; some = some_lack laws.count laws.room }
