use Rattle.sa_driven.specs.Replies.{are_alike}
use Rattle.sa_driven_laws.proofs.DrivenLaws.{driven_level}
use Rattle.sa_session_runs.proofs.Sessions.{session-follows, session-numbers, session-counts}
use Rattle.sa_driven_runs.proofs.Alike.{driven-alike}
use Rattle.sa_driven_runs.proofs.laws.events_follow_the_moves.Goals as goal

pub returns : goal.returns
returns c = record {
  processors = λ w moves after ok session. session-follows driven_level are_alike driven-alike w moves after ok session;
  numbers = λ w moves after ok session. session-numbers driven_level are_alike driven-alike w moves after ok session;
  count = λ w moves after ok session. session-counts driven_level are_alike driven-alike w moves after ok session;
}
