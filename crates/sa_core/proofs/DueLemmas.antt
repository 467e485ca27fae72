-- What the completion of an I/O that is due needs.
use Rattle.std.proofs.Common.{◌≡◌, Option, Some, None, IsSome, IfSome, subst}
use Rattle.std.specs.Option.{option_map}
use Rattle.sa_lemmas.proofs.Options.{some-is}
use Rattle.sa_base.specs.declared.number.ProcNo.{ProcNo}
use Rattle.sa_base.specs.declared.number.IoNo.{IoNo}
use Rattle.sa_devices.specs.Ios.{due_of, io_at, io_no}
use Rattle.sa_devices.proofs.IosLemmas.{due_of-under_way}
use Rattle.sa_kernel_model.specs.declared.entry.Entry.TheVariants.{Complete}
use Rattle.sa_kernel_model.specs.State.{line_of}
use Rattle.sa_kernel_model.specs.Entering.{MayEnter}
use Rattle.sa_core_model.specs.Machine.{Machine}

pub due-fits : {U C : Type 0} (m : Machine U C) (p : ProcNo) (io : IoNo) → line_of m.kernel p ≡ None → option_map io_no (due_of m.event m.kernel.under_way) ≡ Some io
    → MayEnter m.kernel p m.event (Complete io)
due-fits m p io low due =
    let there = subst (λ (o : Option IoNo). IfSome o (λ i. IsSome (io_at i.0 m.kernel.under_way))) due (due_of-under_way m.event m.kernel.under_way) in
    let here = some-is (io_at io.0 m.kernel.under_way) there in
    record { here = here.0; under_way = here.1; low = low }
