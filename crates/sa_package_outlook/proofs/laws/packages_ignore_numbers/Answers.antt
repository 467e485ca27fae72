use Rattle.sa_package_outlook.proofs.FastThreads.{fast-ignores-numbers}
use Rattle.sa_package_outlook.proofs.Priorities.{prio-ignores-numbers}
use Rattle.sa_package_outlook.proofs.laws.packages_ignore_numbers.Goals as goal

pub returns : goal.returns
returns c = record {
  fast = fast-ignores-numbers;
  priorities = prio-ignores-numbers;
}
