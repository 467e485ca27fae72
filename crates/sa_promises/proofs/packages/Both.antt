-- Either package, by its name, meets what is needed of a user level.
use Rattle.sa_promises.specs.Needs.{TellsBehindUps, KeepsListsApart, KnowsHolders, HasForms, AnnouncesDemand}
use Rattle.sa_base.specs.declared.package.PackageName.{PackageName}
use Rattle.sa_base.specs.declared.package.PackageName.TheVariants.{FastThreads, Priorities}
use Rattle.sa_ranks.specs.Packages.{rules_of}
use Rattle.sa_promises.proofs.packages.FastThreads.{fast-tells, fast-apart, fast-knows, fast-forms, fast-announces}
use Rattle.sa_promises.proofs.packages.ThreadPriorities.{prio-tells, prio-apart, prio-knows, prio-forms, prio-announces}

pub tells_of : (which : PackageName) → TellsBehindUps (rules_of which)
tells_of FastThreads = fast-tells
tells_of Priorities = prio-tells

pub apart_of : (which : PackageName) → KeepsListsApart (rules_of which)
apart_of FastThreads = fast-apart
apart_of Priorities = prio-apart

pub knows_of : (which : PackageName) → KnowsHolders (rules_of which)
knows_of FastThreads = fast-knows
knows_of Priorities = prio-knows

pub forms_of : (which : PackageName) → HasForms (rules_of which)
forms_of FastThreads = fast-forms
forms_of Priorities = prio-forms

pub announces_of : (which : PackageName) → AnnouncesDemand (rules_of which)
announces_of FastThreads = fast-announces
announces_of Priorities = prio-announces
