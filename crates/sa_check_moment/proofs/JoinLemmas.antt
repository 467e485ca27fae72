-- The readings after a record, part by part.
use Rattle.std.proofs.Common.{◌≡◌, ℕ, refl, sym, ◌∙◌, ap, Bool, List, Option, Some}
use Rattle.sa_base.specs.declared.number.ProcNo.{ProcNo}
use Rattle.sa_base.specs.declared.number.SpaceNo.{SpaceNo}
use Rattle.sa_base.specs.declared.number.ThreadNo.{ThreadNo}
use Rattle.sa_base.specs.declared.record.Note.TheVariants.{Add}
use Rattle.sa_base.specs.declared.record.Record.{Record}
use Rattle.sa_base.specs.declared.record.Record.TheVariants.{Ready, Take, Told}
use Rattle.sa_spaces.specs.Workload.{WorkloadView}
use Rattle.sa_laws.specs.State.{State}
use Rattle.sa_laws.specs.Machine.{changed}
use Rattle.sa_laws.specs.Readings.{Readings, Listed, life_on}
use Rattle.sa_laws.specs.Record.{Blocking, after_record, moved_after, first_list}
use Rattle.sa_check_lives.specs.View.{LivesView, lives_of, read_of}
use Rattle.sa_check_lives.specs.Recorded.{recorded}
use Rattle.sa_check_lives.proofs.ReadLemmas.{records-read}
use Rattle.sa_replay.specs.Replayed.{roused_by}
use Rattle.sa_check_ios.specs.Ready.{with_ready}
use Rattle.sa_check_ios.specs.PendingView.{PendingView, pending_of}
use Rattle.sa_base.specs.declared.package.RulesName.{RulesName}
use Rattle.sa_check_moment.specs.Board.{BoardView, board_of, noted}
use Rattle.sa_check_moment.specs.Seen.{Seen, Kept, joined, seen, behind_record}
use Rattle.sa_check_moment.specs.Reading.{ReadsPush, ReadsList, begun_by, pending_after, ready_after}

-- the parts but for the lives
abbrev rest : WorkloadView → ℕ → ProcNo → Readings → Record → LivesView → Readings
rest w e p r x lives =
    joined r.number (changed w p r.state x) (noted e p r.last x (board_of r)) lives (pending_after (begun_by w r x) e x (pending_of r))
    (ready_after (first_list (life_on r p) p) x r.ready) (Some x) (moved_after r.moved x)

parts : (w : WorkloadView) (e : ℕ) (p : ProcNo) (r : Readings) (x : Record) (for_push : Bool) → ReadsPush r p x for_push
    → after_record w e p r x ≡ rest w e p r x (recorded (roused_by w r.state x) for_push p x (read_of r))
parts w e p r (Take s l t) for_push is = ap (rest w e p r (Take s l t)) (records-read w e p r (Take s l t) for_push is)
parts w e p r (Told (Add q)) for_push is = refl
parts w e p r _ for_push is = refl

-- a moment of these parts
abbrev whole : RulesName → WorkloadView → ℕ → State → BoardView → LivesView → PendingView → List (List Listed) → Option Record → Option SpaceNo → Seen
whole rules w number state board lives pending ready last moved =
    record { rules = rules; workload = w; readings = joined number state board lives pending ready last moved }

-- is seen as another, where it was put together from the same
pub seen-as : (n : Kept) (rules : RulesName) (w : WorkloadView) (number : ℕ) (state : State) (board : BoardView) (lives : LivesView) (pending : PendingView)
    (ready : List (List Listed)) (last : Option Record) (moved : Option SpaceNo)
    → n.rules ≡ rules → n.workload ≡ w → n.number ≡ number → n.state ≡ state → n.board ≡ board → lives_of n.lives ≡ lives → n.pending ≡ pending → n.ready ≡ ready → n.last ≡ last
    → n.moved ≡ moved
    → seen n ≡ whole rules w number state board lives pending ready last moved
unfolding seen
seen-as n rules w number state board lives pending ready last moved of a b c d f g h i j =
    ap (λ x. whole x n.workload n.number n.state n.board (lives_of n.lives) n.pending n.ready n.last n.moved) of
    ∙ ap (λ x. whole rules x n.number n.state n.board (lives_of n.lives) n.pending n.ready n.last n.moved) a
    ∙ ap (λ x. whole rules w x n.state n.board (lives_of n.lives) n.pending n.ready n.last n.moved) b
    ∙ ap (λ x. whole rules w number x n.board (lives_of n.lives) n.pending n.ready n.last n.moved) c
    ∙ ap (λ x. whole rules w number state x (lives_of n.lives) n.pending n.ready n.last n.moved) d
    ∙ ap (λ x. whole rules w number state board x n.pending n.ready n.last n.moved) f
    ∙ ap (λ x. whole rules w number state board lives x n.ready n.last n.moved) g
    ∙ ap (λ x. whole rules w number state board lives pending x n.last n.moved) h
    ∙ ap (λ x. whole rules w number state board lives pending ready x n.moved) i
    ∙ ap (λ x. whole rules w number state board lives pending ready last x) j

-- the list matters at a ready alone
listed-as : (r : Readings) (p : ProcNo) (x : Record) (list : ProcNo) (ready : List (List Listed)) → ReadsList r p x list
    → ready_after list x ready ≡ ready_after (first_list (life_on r p) p) x ready
listed-as r p (Ready s t) list ready is = ap (λ (to : ProcNo). with_ready ready s t to) is
listed-as r p _ list ready is = refl

-- what a record's parts are read with: for a take, for a block or a fetch, for a ready
pub record IsReadWith (m : Kept) (p : ProcNo) (x : Record) (for_push : Bool) (new_io : Option Blocking) (list : ProcNo) : Type 0 where
  pub push : ReadsPush (seen m).readings p x for_push
  pub begins : new_io ≡ begun_by (seen m).workload (seen m).readings x
  pub listed : ReadsList (seen m).readings p x list

pub read-whole : (m n : Kept) (e : ℕ) (p : ProcNo) (x : Record) (for_push : Bool) (new_io : Option Blocking) (list : ProcNo) (roused : List ThreadNo)
    → IsReadWith m p x for_push new_io list → n.rules ≡ m.rules → n.workload ≡ m.workload → n.number ≡ m.number → n.state ≡ changed m.workload p m.state x
    → roused ≡ roused_by m.workload m.state x → n.board ≡ noted e p m.last x m.board
    → lives_of n.lives ≡ recorded roused for_push p x (lives_of m.lives) → n.pending ≡ pending_after new_io e x m.pending
    → n.ready ≡ ready_after list x m.ready → n.last ≡ Some x → n.moved ≡ moved_after m.moved x → seen n ≡ behind_record e p x (seen m)
unfolding seen
read-whole m n e p x for_push new_io list roused is of workload number state woken board lives pending ready last moved =
    let r = (seen m).readings in
    seen-as n m.rules m.workload r.number (changed m.workload p r.state x) (noted e p r.last x (board_of r))
    (recorded (roused_by m.workload r.state x) for_push p x (read_of r))
    (pending_after (begun_by m.workload r x) e x (pending_of r)) (ready_after (first_list (life_on r p) p) x r.ready) (Some x) (moved_after r.moved x)
    of workload number state board (lives ∙ ap (λ (threads : List ThreadNo). recorded threads for_push p x (lives_of m.lives)) woken)
    (pending ∙ ap (λ (b : Option Blocking). pending_after b e x m.pending) is.begins)
    (ready ∙ listed-as r p x list m.ready is.listed) last moved
    ∙ ap (λ (s : Readings). let whole : Seen = record { rules = m.rules; workload = m.workload; readings = s } in whole) (sym (parts m.workload e p r x for_push is.push))
