use Rattle.sa_driven.specs.Replies.{are_alike}
use Rattle.sa_driven_laws.proofs.DrivenLaws.{driven_level}
use Rattle.sa_session_runs.proofs.Sessions.{session-is-legal}
use Rattle.sa_driven_runs.proofs.Alike.{driven-alike}
use Rattle.sa_driven_runs.proofs.laws.each_session_is_legal.Goals as goal

pub returns : goal.returns
returns c w moves after ok session = session-is-legal driven_level are_alike driven-alike w moves after ok session
