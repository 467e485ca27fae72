-- The board of the parts of an opening.
use Rattle.std.proofs.Common.{◌≡◌, ℕ, List, [], length, replicate, Option, None, ap, ◌∙◌}
use Rattle.sa_base.specs.declared.number.ActNo.{ActNo}
use Rattle.sa_base.specs.declared.number.ThreadNo.{ThreadNo}
use Rattle.sa_base.specs.declared.record.Item.{Item}
use Rattle.sa_spaces.specs.Workload.{WorkloadView}
use Rattle.sa_links.specs.Lists.{Lists}
use Rattle.sa_devices.specs.DevicesView.{DevicesView, opening as no_ios}
use Rattle.sa_replay.specs.Replayed.{Replayed, opened as replay_opened}
use Rattle.sa_vp_model.specs.declared.limits.TheConstants.{VIRTUALS}
use Rattle.sa_vp_model.specs.Board.{Board, opened, empty, first_ready}
use Rattle.sa_vp.specs.declared.board.Parts.{Parts}
use Rattle.sa_vp.specs.View.{board_of}
use Rattle.sa_vp.specs.Opening.{queue_at_opening}

abbrev built : Replayed → DevicesView → Lists → List (Option ActNo) → List (Option ThreadNo) → List ℕ → List Lists → List Lists → ℕ → List ℕ → List ℕ
    → List Item → ℕ → Board
built r d q p t st re wo du bl lo it nu = record {
  workload = r.workload;
  number = nu;
  state = r.state;
  devices = record d { ios = record d.ios { spare = 0 } };
  queue = q;
  placed = p;
  threads = t;
  steps = st;
  ready = re;
  work = wo;
  due = du;
  blocked = bl;
  lost = lo;
  items = it;
}

pub opened-board : (m : Parts) (w : WorkloadView)
    → m.replay ≡ replay_opened w
    → m.devices ≡ no_ios w
    → m.queue ≡ queue_at_opening w
    → m.placed.items ≡ replicate w.processors None
    → m.threads.items ≡ replicate VIRTUALS None
    → m.steps.items ≡ replicate VIRTUALS 0
    → m.ready.items ≡ replicate (length w.spaces) (first_ready w.processors)
    → m.work.items ≡ replicate (length w.spaces) (empty w.processors)
    → m.due ≡ 0
    → m.blocked.items ≡ replicate (length w.spaces) 0
    → m.lost.items ≡ replicate (length w.spaces) 0
    → m.trace.items ≡ []
    → m.number ≡ 1
    → board_of m ≡ opened w
opened-board m w r d q p t st re wo du bl lo it nu =
    ap (λ (x : Replayed). built x m.devices m.queue m.placed.items m.threads.items m.steps.items m.ready.items m.work.items m.due m.blocked.items m.lost.items
    m.trace.items m.number) r
    ∙ ap (λ (x : DevicesView). built
    (replay_opened w) x m.queue m.placed.items m.threads.items m.steps.items m.ready.items m.work.items m.due m.blocked.items m.lost.items
    m.trace.items m.number) d
    ∙ ap (λ (x : Lists). built (replay_opened w)
    (no_ios w) x m.placed.items m.threads.items m.steps.items m.ready.items m.work.items m.due m.blocked.items m.lost.items m.trace.items m.number) q
    ∙ ap (λ (x : List (Option ActNo)). built (replay_opened w) (no_ios w)
    (queue_at_opening w) x m.threads.items m.steps.items m.ready.items m.work.items m.due m.blocked.items m.lost.items m.trace.items m.number) p
    ∙ ap (λ (x : List (Option ThreadNo)). built (replay_opened w) (no_ios w) (queue_at_opening w)
    (replicate w.processors None) x m.steps.items m.ready.items m.work.items m.due m.blocked.items m.lost.items m.trace.items m.number) t
    ∙ ap (λ (x : List ℕ). built (replay_opened w) (no_ios w) (queue_at_opening w) (replicate w.processors None)
    (replicate VIRTUALS None) x m.ready.items m.work.items m.due m.blocked.items m.lost.items m.trace.items m.number) st
    ∙ ap (λ (x : List Lists). built (replay_opened w) (no_ios w) (queue_at_opening w) (replicate w.processors None) (replicate VIRTUALS None)
    (replicate VIRTUALS 0) x m.work.items m.due m.blocked.items m.lost.items m.trace.items m.number) re
    ∙ ap (λ (x : List Lists). built (replay_opened w) (no_ios w) (queue_at_opening w) (replicate w.processors None) (replicate VIRTUALS None)
    (replicate VIRTUALS 0) (replicate (length w.spaces) (first_ready w.processors)) x m.due m.blocked.items m.lost.items m.trace.items m.number) wo
    ∙ ap (λ (x : ℕ). built (replay_opened w) (no_ios w) (queue_at_opening w) (replicate w.processors None) (replicate VIRTUALS None) (replicate VIRTUALS 0)
    (replicate (length w.spaces) (first_ready w.processors))
    (replicate (length w.spaces) (empty w.processors)) x m.blocked.items m.lost.items m.trace.items m.number) du
    ∙ ap (λ (x : List ℕ). built (replay_opened w) (no_ios w) (queue_at_opening w) (replicate w.processors None) (replicate VIRTUALS None)
    (replicate VIRTUALS 0) (replicate (length w.spaces) (first_ready w.processors))
    (replicate (length w.spaces) (empty w.processors)) 0 x m.lost.items m.trace.items m.number) bl
    ∙ ap (λ (x : List ℕ). built (replay_opened w) (no_ios w) (queue_at_opening w) (replicate w.processors None) (replicate VIRTUALS None)
    (replicate VIRTUALS 0) (replicate (length w.spaces) (first_ready w.processors)) (replicate (length w.spaces) (empty w.processors)) 0
    (replicate (length w.spaces) 0) x m.trace.items m.number) lo
    ∙ ap (λ (x : List Item). built (replay_opened w) (no_ios w) (queue_at_opening w) (replicate w.processors None) (replicate VIRTUALS None)
    (replicate VIRTUALS 0) (replicate (length w.spaces) (first_ready w.processors)) (replicate (length w.spaces) (empty w.processors)) 0
    (replicate (length w.spaces) 0) (replicate (length w.spaces) 0) x m.number) it
    ∙ ap (λ (x : ℕ). built (replay_opened w) (no_ios w) (queue_at_opening w) (replicate w.processors None) (replicate VIRTUALS None) (replicate VIRTUALS 0)
    (replicate (length w.spaces) (first_ready w.processors)) (replicate (length w.spaces) (empty w.processors)) 0 (replicate (length w.spaces) 0)
    (replicate (length w.spaces) 0) [] x) nu
