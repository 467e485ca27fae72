-- The tables and the lists of an opening.
use Rattle.std.specs.Prelude.{◌≡◌, ℕ, [], ◌∷◌, length, replicate, None}
use Rattle.sa_spaces.specs.Workload.{WorkloadView}
use Rattle.sa_links.specs.Lists.{Lists}
use Rattle.sa_virtual.specs.Virtual.{opening_queue}
use Rattle.sa_vp_model.specs.declared.limits.TheConstants.{VIRTUALS}
use Rattle.sa_vp_model.specs.Board.{act_numbers, empty, first_ready}
use Rattle.sa_vp.specs.declared.start.Tables.{Tables}
use Rattle.sa_vp.specs.declared.start.Rows.{Rows}

pub record IsOpeningTable (spaces processors : ℕ) (t : Tables) : Type 0 where
  pub placed : t.placed.items ≡ replicate processors None
  pub threads : t.threads.items ≡ replicate VIRTUALS None
  pub steps : t.steps.items ≡ replicate VIRTUALS 0
  pub blocked : t.blocked.items ≡ replicate spaces 0
  pub lost : t.lost.items ≡ replicate spaces 0

abbrev pub queue_at_opening : WorkloadView → Lists
queue_at_opening w = record { nodes = VIRTUALS; lists = act_numbers (opening_queue w) ∷ [] }

pub record AreOpeningRows (w : WorkloadView) (r : Rows) : Type 0 where
  pub queue : r.queue ≡ queue_at_opening w
  pub ready : r.ready.items ≡ replicate (length w.spaces) (first_ready w.processors)
  pub work : r.work.items ≡ replicate (length w.spaces) (empty w.processors)
