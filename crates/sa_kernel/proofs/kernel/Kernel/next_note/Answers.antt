use Rattle.std.proofs.Common.{◌≤◌, subst, sym}
use Rattle.sa_kernel.specs.Kept.{KernelView, kernel_of}
use Rattle.sa_kernel_model.specs.Owed.{owed_items}
use Rattle.sa_kernel_model.specs.Sound.{AreClaimed}
use Rattle.sa_kernel.specs.View.{state_of}
use Rattle.sa_kernel.proofs.Kept.{kept-fetch, told-fetch, owed-fetch}
use Rattle.sa_kernel.proofs.Lows.{low-fetch}
use Rattle.sa_kernel.proofs.Lawful.{lawful-fetch}
use Rattle.sa_kernel.proofs.kernel.Kernel.next_note.Goals as goal

pub invariant_of-self : goal.invariant_of-self
invariant_of-self g c =
    let k = c.self.inside in
    record {
      kept = kept-fetch k.parts c.next_note.new.self k.spare k.last c.next_note.ensures.state c.next_note.ensures.room c.self.invariant.kept;
      low = low-fetch k.parts c.next_note.new.self k.lows c.next_note.ensures.state c.self.invariant.low;
    }

pub returns-clause-told : goal.returns-clause-told
returns-clause-told g c = λ s claimed.
    told-fetch c.self.inside.parts c.next_note.new.self s c.next_note.ensures.state
    (subst (λ (v : KernelView g.row.C.Denot). AreClaimed (kernel_of v) s) (sym c.self.view_is) claimed)

pub returns-clause-owed : goal.returns-clause-owed
returns-clause-owed g c =
    subst (λ (v : KernelView g.row.C.Denot). owed_items (state_of c.next_note.new.self) ≤ owed_items (kernel_of v)) c.self.view_is
    (owed-fetch c.self.inside.parts c.next_note.new.self c.next_note.ensures.state)

pub returns-clause-lawful : goal.returns-clause-lawful
returns-clause-lawful g c =
    let k = c.self.inside in
    lawful-fetch c.args.self.now k.parts c.next_note.new.self k.spare k.last c.self.view_is c.next_note.ensures.state
