use Rattle.sa_driven.specs.Replies.{are_alike}
use Rattle.sa_driven_laws.proofs.DrivenLaws.{driven_level}
use Rattle.sa_session_runs.proofs.Sessions.{session-is-right}
use Rattle.sa_driven_runs.proofs.Alike.{driven-alike}
use Rattle.sa_driven_runs.proofs.laws.each_whole_session_is_right.Goals as goal

pub returns : goal.returns
returns c w budget moves after end ok session none ended =
    session-is-right driven_level are_alike driven-alike w moves after ok session budget none end ended
