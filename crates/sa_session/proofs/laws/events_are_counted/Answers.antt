use Rattle.sa_session.proofs.Sessions.{event-is}
use Rattle.sa_session.proofs.laws.events_are_counted.Goals as goal

pub returns : goal.returns
returns c w order budget events x ok is = event-is w order budget events x ok is
