use Rattle.flow_check.proofs.NotGood.{unreleased_sound, unreleased_wrong}
use Rattle.flow_check.proofs.wrong.unreleased_access_is_not_good.Goals as goal

pub returns-clause-sound : goal.returns-clause-sound
returns-clause-sound c = unreleased_sound

pub returns-clause-wrong : goal.returns-clause-wrong
returns-clause-wrong c = unreleased_wrong
