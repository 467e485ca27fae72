use Rattle.sa_session.proofs.Sessions.{reached-legal}
use Rattle.sa_session.proofs.laws.each_session_is_legal.Goals as goal

pub returns : goal.returns
returns c w order budget events x ok is = reached-legal w order budget events x ok is
