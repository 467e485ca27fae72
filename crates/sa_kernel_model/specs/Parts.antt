-- What entries are made of. Each part takes the event and the processor on which it happens.
use Rattle.std.specs.Prelude.{ℕ, ◌+◌, Bool, true, false, not, List, [], ◌∷◌, ◌++◌, map, Option, Some, None, slice_set}
use Rattle.sa_base.specs.declared.number.ProcNo.{ProcNo}
use Rattle.sa_base.specs.declared.number.SpaceNo.{SpaceNo}
use Rattle.sa_base.specs.declared.number.ActNo.{ActNo}
use Rattle.sa_base.specs.declared.context.Stopped.{Stopped}
use Rattle.sa_base.specs.declared.record.Note.{Note}
use Rattle.sa_base.specs.declared.record.Record.TheVariants.{Up, Told, Move, Aim, Fetch, Line}
use Rattle.sa_base.specs.Items.{items_at}
use Rattle.sa_lemmas.specs.Function.{put}
use Rattle.sa_acts.specs.Table.{holding, runs_in}
use Rattle.sa_assign.specs.Aims.{is_aim}
use Rattle.sa_batch.specs.Notices.{notes_told}
use Rattle.sa_devices.specs.declared.kind.IoKind.{IoKind}
use Rattle.sa_devices.specs.declared.kind.IoKind.TheVariants.{Upcall}
use Rattle.sa_kernel_model.specs.State.{KernelState, Scene, owner_of, untold_of, can_upcall, is_fetching, says}

module _ {C : Type 0} where
  abbrev pub with_owner : ProcNo → Option SpaceNo → KernelState C → KernelState C
  with_owner p s k = record k { assign = record k.assign { owners = slice_set k.assign.owners p.0 s } }

  abbrev pub without_aim : ProcNo → KernelState C → KernelState C
  without_aim p k = record k { assign = record k.assign { aims = slice_set k.assign.aims p.0 None } }

  abbrev pub with_line : ProcNo → Option ℕ → KernelState C → KernelState C
  with_line p event k = record k { assign = record k.assign { lines = slice_set k.assign.lines p.0 event } }

  abbrev pub with_mark : ProcNo → Bool → KernelState C → KernelState C
  with_mark p idle k = record k { assign = record k.assign { marks = slice_set k.assign.marks p.0 idle } }

  abbrev pub with_life : ProcNo → Option ActNo → KernelState C → KernelState C
  with_life p a k = record k { lives = slice_set k.lives p.0 a }

  abbrev pub with_demand : ℕ → ℕ → KernelState C → KernelState C
  with_demand s n k = record k { demands = slice_set k.demands s n }

  -- a notice for a space, after those that it was not told
  abbrev pub noted : SpaceNo → Note → KernelState C → KernelState C
  noted s note k = record k { untold = slice_set k.untold s.0 (untold_of k s.0 ++ note ∷ []) }

  -- the context of an activation is held
  abbrev pub with_held : ActNo → Stopped C → KernelState C → KernelState C
  with_held a held k = record k { acts = put k.acts a.0 (holding held (k.acts a.0)) }

  -- an I/O has begun, which ends at this event
  abbrev pub with_io : IoKind → ℕ → KernelState C → KernelState C
  with_io kind ends k = record k {
    io_count = k.io_count + 1;
    under_way = k.under_way ++ record { number = k.io_count; ends = ends; kind = kind } ∷ [];
  }

  -- the context that runs on a processor is no longer there: it is held, and its space is to be told
  abbrev pub put_aside : ProcNo → SpaceNo → ActNo → Note → Stopped C → KernelState C → KernelState C
  put_aside p s a note held k = noted s note (with_held a held (with_life p None k))

  abbrev pub run_in : ProcNo → SpaceNo → ActNo → List Note → KernelState C → KernelState C
  run_in p s a notes k = with_mark p false (with_life p (Some a) (record k {
    acts = put k.acts a.0 (Some (runs_in s));
    untold = slice_set k.untold s.0 [];
    telling = notes;
  }))

  abbrev pub say_told : ℕ → ProcNo → List Note → Scene C → Scene C
  say_told e p notes x = record x { items = x.items ++ items_at e p (map Told notes) }

  -- an upcall in a fresh activation; `added` says that the space has just become the owner
  abbrev pub upcall : ℕ → ProcNo → SpaceNo → ActNo → Bool → Scene C → Scene C
  upcall e p s a added x =
      let notes = notes_told added p (untold_of x.state s.0) in
      say_told e p notes (says e p (Up s a) (record x { state = run_in p s a notes x.state }))

  -- a processor is left for want of the upcall page of a space, which is fetched
  abbrev pub fetch_page : ℕ → ProcNo → SpaceNo → Bool → Scene C → Scene C
  fetch_page e p s true x = x
  fetch_page e p s false x =
      says e p (Fetch s) (record x { state = with_io (Upcall s) (e + x.state.fixed.fetch) x.state })

  abbrev pub leave : ℕ → ProcNo → SpaceNo → Scene C → Scene C
  leave e p s x =
      let owner = owner_of x.state p in
      let left = says e p (Aim p None) (says e p (Move owner None)
      (record x { state = without_aim p (with_owner p None x.state) })) in
      fetch_page e p s (is_fetching left.state s.0) left

  abbrev pub moved : ℕ → ProcNo → SpaceNo → Bool → Scene C → Scene C
  moved e p s true x = x
  moved e p s false x = says e p (Move (owner_of x.state p) (Some s)) (record x { state = with_owner p (Some s) x.state })

  abbrev pub go_to_by : ℕ → ProcNo → SpaceNo → ActNo → Bool → Bool → Scene C → Scene C
  go_to_by e p s a owned false x = leave e p s x
  go_to_by e p s a owned true x = upcall e p s a (not owned) (moved e p s owned x)

  -- the processor goes to a space: by an upcall where its page is resident, else it is left
  abbrev pub go_to : ℕ → ProcNo → SpaceNo → ActNo → Scene C → Scene C
  go_to e p s a x = go_to_by e p s a (is_aim s.0 (owner_of x.state p)) (can_upcall x.state s) x

  -- the line of processor q is raised
  abbrev pub raised : ℕ → ProcNo → ProcNo → Scene C → Scene C
  raised e p q x = says e p (Line q) (record x { state = with_line q (Some e) x.state })
