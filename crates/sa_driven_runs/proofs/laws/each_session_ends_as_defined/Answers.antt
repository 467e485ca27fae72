use Rattle.sa_driven.specs.Replies.{are_alike}
use Rattle.sa_driven_laws.proofs.DrivenLaws.{driven_level}
use Rattle.sa_session_runs.proofs.Sessions.{session-ends}
use Rattle.sa_driven_runs.proofs.Alike.{driven-alike}
use Rattle.sa_driven_runs.proofs.laws.each_session_ends_as_defined.Goals as goal

pub returns : goal.returns
returns c w moves after budget ok session = session-ends driven_level are_alike driven-alike w moves after ok session budget
