use Rattle.std.proofs.Common.{rules}
use Rattle.runs.proofs.Laws.{agree, cut, recalls, spared}
use Rattle.terminal.proofs.install.install.Goals as goal

pub returns-in_err-check_size : goal.returns-in_err-check_size
returns-in_err-check_size c = record { value = search rules; agree = agree; cut = cut; recall = recalls; spared = spared }

pub returns-in_err-terminator : goal.returns-in_err-terminator
returns-in_err-terminator c = record { value = search rules; agree = agree; cut = cut; recall = recalls; spared = spared }

pub returns : goal.returns
returns c = record { value = search rules; agree = agree; cut = cut; recall = recalls; spared = spared }
