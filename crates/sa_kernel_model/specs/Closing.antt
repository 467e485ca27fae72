-- The closing of an event: spaces that must be told get a processor, the aims follow the shares, and lines are raised.
use Rattle.std.specs.Prelude.{◌≡◌, ℕ, zero, suc, ◌+◌, ◌/◌, ◌%◌, ◌==◌, min, Bool, true, false, ◌&&◌, not, if◌then◌else◌, List, [], ◌∷◌, ◌++◌, length, Option, Some, None, is_some, is_none, slice_index}
use Rattle.std.specs.List.{list_any}
use Rattle.sa_base.specs.declared.number.ProcNo.{ProcNo}
use Rattle.sa_base.specs.declared.context.Stopped.{Stopped}
use Rattle.sa_base.specs.declared.record.Note.{Note}
use Rattle.sa_base.specs.declared.record.Note.TheVariants.{Add, Preempted, Blocked, Unblocked}
use Rattle.sa_base.specs.declared.record.Record.TheVariants.{Want}
use Rattle.sa_base.specs.Items.{items_at}
use Rattle.sa_share.specs.declared.Claim.{Claim}
use Rattle.sa_share.specs.Rounds.{shares_of}
use Rattle.sa_acts.specs.Table.{held_of}
use Rattle.sa_assign.specs.Aims.{aimed, is_aim, least_below}
use Rattle.sa_assign.specs.Reaim.{proc_no, reaimed, reaim_records}
use Rattle.sa_batch.specs.Notices.{has_untold}
use Rattle.sa_kernel_model.specs.State.{KernelState, Scene, owner_of, aim_of, line_of, demand_of, untold_of, is_fetching, says}
use Rattle.sa_kernel_model.specs.Parts.{with_demand, raised}

module _ {C : Type 0} where
  -- for n spaces from s on, in the order of their numbers
  abbrev pub for_spaces : (ℕ → Scene C → Scene C) → ℕ → ℕ → Scene C → Scene C
  for_spaces f s zero x = x
  for_spaces f s (suc n) x = for_spaces f (s + 1) n (f s x)

  abbrev pub spaces : KernelState C → ℕ
  spaces k = length k.demands

  -- the held context was idle
  abbrev pub was_idle : Option (Stopped C) → Bool
  was_idle None = false
  was_idle (Some held) = held.idle

  -- a space must be told this even where it wants no processor: a context has come back, or one was stopped at work
  abbrev pub calls_for : KernelState C → Note → Bool
  calls_for k (Add p) = false
  calls_for k (Preempted a) = not (was_idle (held_of (k.acts a.0)))
  calls_for k (Blocked a) = false
  calls_for k (Unblocked a) = true

  -- first, such a space wants one processor
  abbrev pub must_want : KernelState C → ℕ → Bool
  must_want k s = demand_of k s == 0 && list_any (calls_for k) (untold_of k s)

  abbrev pub want_one : ℕ → ProcNo → Bool → ℕ → Scene C → Scene C
  want_one e p false s x = x
  want_one e p true s x = says e p (Want (record { 0 = s }) 1) (record x { state = with_demand s 1 x.state })

  abbrev pub want_for : ℕ → ProcNo → ℕ → Scene C → Scene C
  want_for e p s x = want_one e p (must_want x.state s) s x

  abbrev pub wants : ℕ → ProcNo → Scene C → Scene C
  wants e p x = for_spaces (want_for e p) 0 (spaces x.state) x

  -- second, the aims: what a space claims is its demand, and while its upcall page is fetched no more than it is aimed at
  abbrev pub claim_of : KernelState C → ℕ → Claim
  claim_of k s = record {
    priority = slice_index k.fixed.priorities s;
    want = if is_fetching k s then min (demand_of k s) (aimed s k.assign.aims) else demand_of k s;
  }

  abbrev pub claims_from : KernelState C → ℕ → ℕ → List Claim
  claims_from k s zero = []
  claims_from k s (suc n) = claim_of k s ∷ claims_from k (s + 1) n

  abbrev pub claims : KernelState C → List Claim
  claims k = claims_from k 0 (spaces k)

  -- the space whose turn it is to be served first
  abbrev pub first_space : KernelState C → ℕ → ℕ
  first_space k e = if k.fixed.slice == 0 then 0 else e / k.fixed.slice % spaces k

  abbrev pub shares : KernelState C → ℕ → List ℕ
  shares k e = shares_of (length k.assign.owners) (first_space k e) (claims k)

  abbrev pub aims : ℕ → ProcNo → Scene C → Scene C
  aims e p x = record {
    state = record x.state { assign = reaimed e (spaces x.state) (shares x.state e) x.state.assign };
    items = x.items ++ (items_at e p (reaim_records e (spaces x.state) (shares x.state e) x.state.assign));
  }

  -- third, a space that has something to be told and would not be told it: no processor of its own, with a raised line,
  -- is aimed at it
  abbrev pub is_told_by : KernelState C → ℕ → ℕ → Bool
  is_told_by k s q = is_aim s (owner_of k (proc_no q)) && is_aim s (aim_of k (proc_no q)) && is_some (line_of k (proc_no q))

  abbrev pub has_low_line : KernelState C → ℕ → ℕ → Bool
  has_low_line k s q = is_aim s (owner_of k (proc_no q)) && is_none (line_of k (proc_no q))

  abbrev pub must_interrupt : KernelState C → ℕ → Bool
  must_interrupt k s =
      has_untold (untold_of k s) && not (is_fetching k s) && is_none (least_below (length k.lives) (is_told_by k s))

  -- A space has its lowest-numbered processor with a low line interrupted, if there is one.
  abbrev pub interrupt : ℕ → ProcNo → Option ℕ → Scene C → Scene C
  interrupt e p None x = x
  interrupt e p (Some q) x = raised e p (proc_no q) x

  abbrev pub interrupt_one : ℕ → ProcNo → Bool → ℕ → Scene C → Scene C
  interrupt_one e p false s x = x
  interrupt_one e p true s x = interrupt e p (least_below (length x.state.lives) (has_low_line x.state s)) x

  abbrev pub interrupt_for : ℕ → ProcNo → ℕ → Scene C → Scene C
  interrupt_for e p s x = interrupt_one e p (must_interrupt x.state s) s x

  abbrev pub lines : ℕ → ProcNo → Scene C → Scene C
  lines e p x = for_spaces (interrupt_for e p) 0 (spaces x.state) x

  abbrev pub closed : ℕ → ProcNo → Scene C → Scene C
  closed e p x = lines e p (aims e p (wants e p x))

  -- no line is due: a space that has something to be told and would not be told it owns no processor with a low line
  abbrev pub NoLineIsDue : KernelState C → Type 0
  NoLineIsDue k = (s : ℕ) → must_interrupt k s ≡ true → least_below (length k.lives) (has_low_line k s) ≡ None
