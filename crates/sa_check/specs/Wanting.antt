-- The moment of the opening after its wants.
use Rattle.sa_spaces.specs.Workload.{WorkloadView}
use Rattle.sa_assign.specs.Reaim.{proc_no}
use Rattle.sa_laws.specs.Readings.{opening_readings}
use Rattle.sa_laws.specs.History.{after_records}
use Rattle.sa_laws.specs.Opening.{first_wants}
use Rattle.sa_base.specs.declared.package.RulesName.TheVariants.{FastThreads}
use Rattle.sa_check_moment.specs.Seen.{Seen}

abbrev pub wanting : WorkloadView → Seen
wanting w = record { rules = FastThreads; workload = w; readings = after_records w 0 (proc_no 0) (opening_readings w) (first_wants w) }
