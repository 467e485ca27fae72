use Rattle.sa_session.proofs.Sessions.{reached-ends}
use Rattle.sa_session.proofs.laws.each_session_ends_as_defined.Goals as goal

pub returns : goal.returns
returns c w order budget events x ok is = reached-ends w order budget events x ok is
