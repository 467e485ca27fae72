use Rattle.sa_session.proofs.Sessions.{reached-ended}
use Rattle.sa_session.proofs.laws.each_whole_session_is_right.Goals as goal

pub returns : goal.returns
returns c w order budget events x end ok is ended = reached-ended w order budget events x ok is end ended
