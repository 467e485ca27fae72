-- A move under the lock, and what the keeper is told of it.
use Rattle.std.proofs.Common.{◌≡◌, ◌≢◌, ℕ, zero, suc, ◌+◌, ◌<◌, ◌≤◌, ◌++◌, ◌==◌, if◌then◌else◌, inl, inr, Option, Some, None, IfSome, List, [], ◌∷◌, replicate, refl, sym, ap, subst, ◌∙◌, arith}
use Rattle.std.specs.Prelude.{Contains}
use Rattle.std.proofs.lemmas.Bool.{cases_eq}
use Rattle.std.proofs.lemmas.Bool.Decides.{nat_tests}
use Rattle.std.proofs.lemmas.List.{length-replicate}
use Rattle.atomic_table.specs.Seated.{TableId}
use Rattle.sa_base.specs.declared.number.ProcNo.{ProcNo}
use Rattle.sa_base.specs.declared.record.End.{End}
use Rattle.sa_base.specs.declared.limits.TheConstants.{MAX_EVENTS}
use Rattle.sa_spaces.specs.Workload.{WorkloadView, IsWorkload}
use Rattle.sa_lemmas.proofs.ListReads.{all-same}
use Rattle.sa_abstract.specs.Calls.{Calls}
use Rattle.sa_abstract.specs.Keeps.{Standing, Keeps}
use Rattle.sa_assign.specs.Reaim.{proc_no, line_at}
use Rattle.sa_kernel_model.specs.State.{line_of}
use Rattle.sa_core_model.specs.Machine.{Machine}
use Rattle.sa_core_model.specs.End.{end_of, local_on}
use Rattle.sa_abstract.specs.declared.answer.SeatState.{SeatState}
use Rattle.sa_core_model.specs.Run.{opening, AreNextLocal, Move, IsMove}
use Rattle.sa_core_model.specs.Run.Move.{turn, commit}
use Rattle.sa_core.specs.View.{CoreView, machine}
use Rattle.sa_lines.specs.declared.credit.Account.{Account}
use Rattle.sa_lines.specs.declared.credit.Credit.TheVariants.{Turns, End as EndCredit}
use Rattle.sa_lines.specs.declared.view.Lane.{Lane}
use Rattle.sa_lines.specs.Credit.{MayCredit}
use Rattle.sa_lines.specs.Words.{lane_at, fresh_lane, changed}
use Rattle.sa_lines.specs.Seen.{KeeperSeen, line_value, credited_lane, credited_at, fresh_keeper}
use Rattle.sa_lines.proofs.Steps.{lane_here, lane_else, length_changed}
use Rattle.sa_seat.specs.Chain.{IsChain, turns_in, turns_of, line_item}
use Rattle.sa_seat.specs.Lock.{IsLane, IsLocked}
use Rattle.sa_seat.specs.Follow.{AreEvents, MayFollow, HasFollowed}
use Rattle.sa_core.proofs.CoreLemmas.{goes-on}
use Rattle.sa_seat.specs.Seat.{SeatView, IsPlace, CanMove}
use Rattle.sa_seat.specs.Enter.{IsTurned, IsCommitted, IsEvents}
use Rattle.sa_seat.proofs.Chains.{move-next, commits, turns-more, leads-more, size, AreSaid, Moves, moves-by, Reached, reached, place-of}

-- the turns of a move are those of its processor

pub turns-here : (p : ProcNo) (n : ℕ) → (if p.0 == p.0 then n else 0) ≡ n
turns-here p n = grind (arith, nat_tests)

pub turns-else : (p : ProcNo) (q n : ℕ) → q ≢ p.0 → (if p.0 == q then n else 0) ≡ 0
turns-else p q n apart = (let z : p.0 ≢ q = λ e. apart (sym e) in grind (arith, nat_tests, z))

pub if-some : {A : Type 0} (P : A → Type 0) (o : Option A) → ((x : A) → o ≡ Some x → P x) → IfSome o P
if-some P None h = tt
if-some P (Some x) h = h x refl

module _ {U C : Type 0} (f : Calls U C) (stands : Standing U C) (keep : Keeps f stands) where
  are-events : (m : Machine U C) (budget : ℕ) → AreSaid m → m.event ≤ budget → budget ≤ MAX_EVENTS → AreEvents m.kernel
  are-events m budget said within few p =
      if-some (λ (e : ℕ). e ≤ MAX_EVENTS) (line_of m.kernel (proc_no p)) (λ k at. (let h = (said p k at).0 in omega (arith, h, within, few)))

  -- the opening

  no-line : (w : WorkloadView) (p : ℕ) → line_at (replicate w.processors None) p ≡ None
  no-line w p = all-same w.processors p None

  fresh-at : (n p : ℕ) → lane_at (replicate n fresh_lane) p ≡ fresh_lane
  fresh-at (suc n) (suc p) = fresh-at n p
  fresh-at _ _ = refl

  pub follows-opening : (w : WorkloadView) (table : TableId) (budget places : ℕ) (m : Machine U C) → IsWorkload w → m ≡ opening f w → budget ≤ MAX_EVENTS
      → MayFollow m (replicate places None) (fresh_keeper table w.processors)
  follows-opening w table budget places m ok is few =
      let r : Reached f stands keep w [] (opening f w) = reached f stands keep w budget (opening f w) [] ok refl in
      subst (λ (z : Machine U C). MayFollow z (replicate places None) (fresh_keeper table w.processors)) (sym is) record {
        lanes = length-replicate w.processors fresh_lane;
        few = ok.few_processors;
        stored = λ p lt. ap (λ (l : Lane). l.line) (fresh-at w.processors p) ∙ sym (ap line_value (all-same places p None));
        events = are-events (opening f w) budget r.said (omega arith) few;
      }

  pub locked-opening : (w : WorkloadView) (table : TableId) (budget : ℕ) (core : CoreView U C) (keeper : KeeperSeen) (lines : List (Option ℕ)) → IsWorkload w
      → machine core ≡ opening f w
      → core.budget ≡ budget → budget ≤ MAX_EVENTS
      → HasFollowed (machine core).kernel (machine core).workload.processors (fresh_keeper table w.processors) keeper lines
      → IsLocked f budget w table core lines keeper
  locked-opening w table budget core keeper lines ok is same few follows =
      let r : Reached f stands keep w [] (opening f w) = reached f stands keep w budget (opening f w) [] ok refl in
      let said : AreSaid (machine core) = subst (λ (z : Machine U C). AreSaid z) (sym is) r.said in
      let procs : (machine core).workload.processors ≡ w.processors = ap (λ (z : Machine U C). z.workload.processors) is in
      record {
        workload = ok;
        few = few;
        budget_is = same;
        table_is = follows.table_is;
        within = (let e : (machine core).event ≡ 0 = ap (λ (z : Machine U C). z.event) is in omega (arith, e));
        moves = [];
        chain = is;
        kept = record {
          size = follows.size ∙ length-replicate w.processors fresh_lane;
          each = λ p lt.
              let h = follows.followed p (omega (arith, lt, procs)) in
              let fresh = fresh-at w.processors p in record {
                count = ap (λ (a : Account). a.count) h.account ∙ ap (λ (l : Lane). l.account.count) fresh;
                line = h.line_is;
                raised = λ e has. elim (h.raised e has) [
                  | inl was ↦ absurd (let z : Contains [] e = subst (λ (l : Lane). Contains l.raised e) fresh was in let lt0 = z.1 in omega (arith, lt0))
                  | inr new ↦ (said p e new).1
                ];
                end = inl (ap (λ (a : Account). a.end) h.account ∙ ap (λ (l : Lane). l.account.end) fresh);
              };
          stored = λ p lt. follows.lines_are p (omega (arith, lt, procs));
        };
      }

  -- what holds while the lock is free

  module _ (w : WorkloadView) (table : TableId) (budget : ℕ) (core : CoreView U C) (lines : List (Option ℕ)) (keeper : KeeperSeen)
      (locked : IsLocked f budget w table core lines keeper) where
    pub standing : Reached f stands keep w locked.moves (machine core)
    standing = reached f stands keep w budget (machine core) locked.moves locked.workload locked.chain

    pub processor-in : (p : ℕ) → p < w.processors → p < (machine core).workload.processors
    processor-in p lt = (let e = ap (λ (v : WorkloadView). v.processors) standing.workload in omega (arith, e, lt))

    pub place-in : (p : ProcNo) (x : SeatState) → x ≡ local_on f (machine core) p → IsPlace w x
    place-in p x is = subst (λ (y : SeatState). IsPlace w y) (sym is)
        (subst (λ (v : WorkloadView). IsPlace v (local_on f (machine core) p)) standing.workload
        (place-of f stands keep (machine core) p standing.between))

  -- a move

  module _ (w : WorkloadView) (table : TableId) (budget : ℕ) (core new : CoreView U C) (lines : List (Option ℕ)) (keeper : KeeperSeen)
      (locked : IsLocked f budget w table core lines keeper)
      (none : end_of f budget (machine core) ≡ None) (move : Move) (made : IsMove f (machine core) move (machine new))
      (within : (machine new).event ≤ budget) where
    abbrev pub after : List Move
    after = locked.moves ++ move ∷ []

    chain-after : IsChain f budget w after (machine new)
    chain-after = leads-more f budget (opening f w) (machine core) (machine new) locked.moves move locked.chain none made

    pub before : Reached f stands keep w locked.moves (machine core)
    before = reached f stands keep w budget (machine core) locked.moves locked.workload locked.chain

    pub behind : Reached f stands keep w after (machine new)
    behind = reached f stands keep w budget (machine new) after locked.workload chain-after

    pub moves : Moves (machine core) (size move) (machine new)
    moves = moves-by f stands keep (machine core) (machine new) move before.between made

    procs : (machine new).workload.processors ≡ w.processors
    procs = ap (λ (v : WorkloadView). v.processors) behind.workload

    pub may-follow : MayFollow (machine new) lines keeper
    may-follow = record {
      lanes = locked.kept.size ∙ sym procs;
      few = (let z = locked.workload.few_processors in omega (arith, z, procs));
      stored = λ p lt.
          let inside : p < w.processors = (let z = locked.kept.size in omega (arith, lt, z)) in
          (locked.kept.each p inside).line ∙ ap line_value (sym (locked.kept.stored p inside));
      events = are-events (machine new) budget behind.said within locked.few;
    }

    module _ (next : KeeperSeen) (stored : List (Option ℕ))
        (follows : HasFollowed (machine new).kernel (machine new).workload.processors keeper next stored) where
      pub may-count : (p : ProcNo) (n : ℕ) → p.0 < w.processors → turns_in p.0 move ≡ n → 0 < n → MayCredit (lane_at next.lanes p.0).account (Turns n)
      may-count p n lt is some =
          let same : (lane_at next.lanes p.0).account.count ≡ turns_of p.0 locked.moves =
          ap (λ (a : Account). a.count) (follows.followed p.0 (omega (arith, lt, procs))).account ∙ (locked.kept.each p.0 lt).count in
          let all = behind.count p.0 in
          let one = turns-more p.0 locked.moves move in
          (some, (let few = locked.few in omega (arith, same, all, one, is, within, few)))

      lane-after : (q : ℕ) (lane : Lane) (c : ℕ) → q < w.processors → turns_in q move ≡ c → lane.account.count ≡ (lane_at next.lanes q).account.count + c
          → lane.account.end ≡ (lane_at next.lanes q).account.end → lane.line ≡ (lane_at next.lanes q).line → lane.raised ≡ (lane_at next.lanes q).raised
          → IsLane f budget after (machine new) q lane
      lane-after q lane c lt is count end line raised =
          let old = locked.kept.each q lt in
          let h = follows.followed q (omega (arith, lt, procs)) in
          let open_still : (lane_at keeper.lanes q).account.end ≡ None = elim old.end [ inl e ↦ e | inr e ↦ e ∙ none ] in record {
            count =
                (let a : (lane_at next.lanes q).account.count ≡ turns_of q locked.moves = ap (λ (x : Account). x.count) h.account ∙ old.count in
                let b = turns-more q locked.moves move in omega (arith, a, b, count, is));
            line = line ∙ h.line_is;
            raised = λ e has. elim (h.raised e (subst (λ (es : List ℕ). Contains es e) raised has)) [
              | inl was ↦ let z = old.raised e was in (z.0, moves.kept (line_item e z.0 q) z.1)
              | inr now ↦ (behind.said q e now).1
            ];
            end = inl (end ∙ ap (λ (x : Account). x.end) h.account ∙ open_still);
          }

      pub locked-after : (p : ProcNo) (n : ℕ) → p.0 < w.processors → turns_in p.0 move ≡ n → ((q : ℕ) → q ≢ p.0 → turns_in q move ≡ 0)
          → new.budget ≡ core.budget
          → IsLocked f budget w table new stored (credited_at p.0 (Turns n) next)
      locked-after p n lt is others same = record {
        workload = locked.workload;
        few = locked.few;
        budget_is = same ∙ locked.budget_is;
        table_is = follows.table_is ∙ locked.table_is;
        within = within;
        moves = after;
        chain = chain-after;
        kept = record {
          size = length_changed p.0 (credited_lane (Turns n)) next.lanes ∙ follows.size ∙ locked.kept.size;
          each = λ q inside. elim (cases_eq q p.0) [
            | inl here ↦ subst (λ (i : ℕ). IsLane f budget after (machine new) i (lane_at (changed p.0 (credited_lane (Turns n)) next.lanes) i)) (sym here)
                (subst (λ (l : Lane). IsLane f budget after (machine new) p.0 l)
                (sym (lane_here p.0 (credited_lane (Turns n)) next.lanes (let a = follows.size in let b = locked.kept.size in omega (arith, a, b, lt))))
                (lane-after p.0 (credited_lane (Turns n) (lane_at next.lanes p.0)) n lt is refl refl refl refl))
            | inr apart ↦ subst (λ (l : Lane). IsLane f budget after (machine new) q l) (sym (lane_else p.0 q (credited_lane (Turns n)) next.lanes apart))
                (lane-after q (lane_at next.lanes q) 0 inside (others q apart) (omega arith) refl refl refl)
          ];
          stored = λ q inside. follows.lines_are q (omega (arith, inside, procs));
        };
      }

  -- the end is told

  module _ (w : WorkloadView) (table : TableId) (budget : ℕ) (core : CoreView U C) (lines : List (Option ℕ)) (keeper : KeeperSeen)
      (locked : IsLocked f budget w table core lines keeper)
      (x : End) (ends : end_of f budget (machine core) ≡ Some x) (p : ProcNo) (lt : p.0 < w.processors) where
    pub may-end : MayCredit (lane_at keeper.lanes p.0).account (EndCredit x)
    may-end = elim (locked.kept.each p.0 lt).end [ inl e ↦ inl e | inr e ↦ inr (e ∙ ends) ]

    pub locked-ended : (told : KeeperSeen) → told ≡ credited_at p.0 (EndCredit x) keeper → IsLocked f budget w table core lines told
    locked-ended told is = subst (λ (z : KeeperSeen). IsLocked f budget w table core lines z) (sym is) record {
      workload = locked.workload;
      few = locked.few;
      budget_is = locked.budget_is;
      table_is = locked.table_is;
      within = locked.within;
      moves = locked.moves;
      chain = locked.chain;
      kept = record {
        size = length_changed p.0 (credited_lane (EndCredit x)) keeper.lanes ∙ locked.kept.size;
        each = λ q inside. elim (cases_eq q p.0) [
          | inl here ↦ subst (λ (i : ℕ). IsLane f budget locked.moves (machine core) i
              (lane_at (changed p.0 (credited_lane (EndCredit x)) keeper.lanes) i)) (sym here)
              (subst (λ (l : Lane). IsLane f budget locked.moves (machine core) p.0 l)
              (sym (lane_here p.0 (credited_lane (EndCredit x)) keeper.lanes (let a = locked.kept.size in omega (arith, a, lt))))
              (let old = locked.kept.each p.0 lt in record { count = old.count; line = old.line; raised = old.raised; end = inr (sym ends) }))
          | inr apart ↦ subst (λ (l : Lane). IsLane f budget locked.moves (machine core) q l)
              (sym (lane_else p.0 q (credited_lane (EndCredit x)) keeper.lanes apart)) (locked.kept.each q inside)
        ];
        stored = locked.kept.stored;
      };
    }

  -- what the core makes of an entry is a move

  pub record Done (budget : ℕ) (m after : Machine U C) (p : ProcNo) (n : ℕ) : Type 0 where
    pub move : Move
    pub made : IsMove f m move after
    pub within : after.event ≤ budget
    pub some : 0 < n
    pub here : turns_in p.0 move ≡ n
    pub elsewhere : (q : ℕ) → q ≢ p.0 → turns_in q move ≡ 0

  module _ (w : WorkloadView) (table : TableId) (budget : ℕ) (core new : CoreView U C) (lines : List (Option ℕ)) (keeper : KeeperSeen)
      (s : SeatView) (n : ℕ) (locked : IsLocked f budget w table core lines keeper)
      (within : s.poller.proc.0 < w.processors) (can : CanMove w s.pending s.start) where
    stood : Reached f stands keep w locked.moves (machine core)
    stood = standing w table budget core lines keeper locked

    turn-done : IsTurned f budget (machine core) s n (machine new) → Done budget (machine core) (machine new) s.poller.proc n
    turn-done is =
        let left = goes-on f budget (machine core) is.not_ended locked.within in
        let procs = ap (λ (v : WorkloadView). v.processors) stood.workload in
        let few = locked.few in
        let made : IsMove f (machine core) (turn s.poller.proc) (machine new) = (record { within = omega (arith, within, procs); event = omega (arith, left, few) }, is.turn) in
        let moved = moves-by f stands keep (machine core) (machine new) (turn s.poller.proc) stood.between made in
        let one = is.one in record {
          move = turn s.poller.proc;
          made = made;
          within = (let e = moved.event in omega (arith, e, left));
          some = omega (arith, one);
          here = turns-here s.poller.proc 1 ∙ sym one;
          elsewhere = λ q apart. turns-else s.poller.proc q 1 apart;
        }

    commit-done : 0 < s.pending → IsCommitted f budget (machine core) s n (machine new) → Done budget (machine core) (machine new) s.poller.proc n
    commit-done some is =
        let left = goes-on f budget (machine core) is.not_ended locked.within in
        let next : AreNextLocal (machine core).workload s.pending (local_on f (machine core) s.poller.proc) =
        subst (λ (v : WorkloadView). AreNextLocal v s.pending (local_on f (machine core) s.poller.proc)) (sym stood.workload)
        (subst (λ (x : SeatState). AreNextLocal w s.pending x) (sym is.start) (move-next w s.pending s.start some can)) in
        let c = commits f (machine core) s.poller.proc s.pending budget n is.made is.some left locked.few is.low next in
        let moved = moves-by f stands keep (machine core) (machine new) (commit s.poller.proc n) stood.between (c.can, is.is) in record {
          move = commit s.poller.proc n;
          made = (c.can, is.is);
          within = (let a = moved.event in let b = c.within in omega (arith, a, b));
          some = is.some;
          here = turns-here s.poller.proc n;
          elsewhere = λ q apart. turns-else s.poller.proc q n apart;
        }

    pub events-done : IsEvents f budget (machine core) s s.pending n (machine new) → Done budget (machine core) (machine new) s.poller.proc n
    events-done is = go s.pending refl is
      where
        go : (i : ℕ) → i ≡ s.pending → IsEvents f budget (machine core) s i n (machine new) → Done budget (machine core) (machine new) s.poller.proc n
        go zero e made = turn-done made
        go (suc i) e made = commit-done (omega (arith, e)) made

  -- an entry, from what the core made of it

  module _ (w : WorkloadView) (table : TableId) (budget : ℕ) (core new : CoreView U C) (lines : List (Option ℕ)) (keeper : KeeperSeen)
      (s : SeatView) (n : ℕ) (locked : IsLocked f budget w table core lines keeper) (none : end_of f budget (machine core) ≡ None)
      (within : s.poller.proc.0 < w.processors) (can : CanMove w s.pending s.start)
      (events : IsEvents f budget (machine core) s s.pending n (machine new)) where
    done : Done budget (machine core) (machine new) s.poller.proc n
    done = events-done w table budget core new lines keeper s n locked within can events

    pub entry-follows : MayFollow (machine new) lines keeper
    entry-follows = may-follow w table budget core new lines keeper locked none done.move done.made done.within

    module _ (next : KeeperSeen) (stored : List (Option ℕ))
        (follows : HasFollowed (machine new).kernel (machine new).workload.processors keeper next stored) where
      pub entry-counts : (i : ℕ) → i ≡ n → MayCredit (lane_at next.lanes s.poller.proc.0).account (Turns i)
      entry-counts i is = subst (λ (k : ℕ). MayCredit (lane_at next.lanes s.poller.proc.0).account (Turns k)) (sym is) (may-count w table budget core new lines keeper locked none done.move done.made done.within next stored follows
          s.poller.proc n within done.here done.some)

      pub entry-locked : new.budget ≡ core.budget → (i : ℕ) → i ≡ n → (told : KeeperSeen) → told ≡ credited_at s.poller.proc.0 (Turns i) next
          → IsLocked f budget w table new stored told
      entry-locked same i is told so = subst (λ (z : KeeperSeen). IsLocked f budget w table new stored z)
          (sym (so ∙ ap (λ (k : ℕ). credited_at s.poller.proc.0 (Turns k) next) is)) (locked-after w table budget core new lines keeper locked none done.move done.made done.within next stored follows
          s.poller.proc n within done.here done.elsewhere same)
