-- A reply is no part of what stands, nor of what fits.
use Rattle.std.proofs.Common.{◌≡◌, ap, sym, subst}
use Rattle.sa_abstract.specs.Setting.{Setting}
use Rattle.sa_abstract.specs.Calls.{Contexts}
use Rattle.sa_spaces.specs.Workload.{WorkloadView}
use Rattle.sa_laws.specs.Readings.{Readings}
use Rattle.sa_fast.specs.declared.shared.Shared.{Shared}
use Rattle.sa_driven_model.specs.declared.context.DrivenContext.{DrivenContext}
use Rattle.sa_driven_model.specs.declared.space.DrivenSpace.{DrivenSpace}
use Rattle.sa_driven.specs.Replies.{are_alike}
use Rattle.sa_driven.specs.RepliesKeep.{driven_keeps_replies}
use Rattle.sa_driven_laws.specs.DrivenFits.{DrivenFits, driven_fits}
use Rattle.sa_driven_laws.proofs.DrivenLaws.{driven_level}
use Rattle.sa_session_runs.specs.Sessions.{KeepsAlike}

fits-alike : (w : WorkloadView) (s : Setting) (r : Readings) (u v : DrivenSpace) (cs : Contexts DrivenContext) → are_alike u v
    → driven_fits w s r u cs → driven_fits w s r v cs
fits-alike w s r u v cs same fits =
    subst (λ (x : Shared). DrivenFits s.space r x cs) (sym (ap (λ (y : DrivenSpace). y.base.shared) same)) fits

pub driven-alike : KeepsAlike driven_level are_alike
driven-alike = record { stands_alike = driven_keeps_replies.stands_alike; fits_alike = fits-alike }
