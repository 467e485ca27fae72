-- The worked rows of the handler, computed by the definitions: two holders of locks that were stopped, in one batch; and
-- the same handler stopped after its first step, and told to a new one.
use Rattle.std.proofs.Common.{◌≡◌, ℕ, zero, suc, ◌++◌, List, [], ◌∷◌, Some, None, true, false, replicate, refl}
use Rattle.sa_base.specs.declared.number.SpaceNo.{SpaceNo}
use Rattle.sa_base.specs.declared.context.Seen.{Seen}
use Rattle.sa_base.specs.declared.context.Stopped.{Stopped}
use Rattle.sa_base.specs.declared.record.Note.TheVariants.{Add, Preempted}
use Rattle.sa_base.specs.declared.record.Record.{Record}
use Rattle.sa_base.specs.declared.record.Record.TheVariants.{Cont, Ready as ReadyOf, Free, Back, Take}
use Rattle.sa_spaces.specs.Space.{SpaceView}
use Rattle.sa_instr.specs.declared.instr.Instr.TheVariants.{End}
use Rattle.sa_lists.specs.ReadyView.{thread, processor}
use Rattle.sa_copies.specs.Copies.{package_ops}
use Rattle.sa_sync.specs.Sync.{opening}
use Rattle.sa_fast.specs.declared.threads.KeptPlace.TheVariants.{Running, Waiting}
use Rattle.sa_fast.specs.Threads.{at_start}
use Rattle.sa_package_model.specs.declared.context.Context.{Context}
use Rattle.sa_package_model.specs.declared.context.ContextState.TheVariants.{Code}
use Rattle.sa_package_model.specs.declared.package.Package.{Package}
use Rattle.sa_package_model.specs.Rules.{Pair, pair}
use Rattle.sa_package_model.specs.Context.{fresh}
use Rattle.sa_package_model.specs.Step.{told, answered, stepped}

-- what a handler on processor 0 sees
abbrev seen_at : ℕ → Seen
seen_at event = record { proc = processor 0; event = event; demand = 2; pages = 65535; taken = 0; low = 0 }

-- the records of n steps, one after another
abbrev says_of : ℕ → Pair → List Record
says_of zero p = []
says_of (suc n) p =
    let s = stepped p.user (seen_at 0) p.ctx in s.says ++ says_of n (pair s.user s.ctx)

-- the package and the context after n steps
abbrev behind : ℕ → Pair → Pair
behind zero p = p
behind (suc n) p = let s = stepped p.user (seen_at 0) p.ctx in behind n (pair s.user s.ctx)

abbrev space : SpaceView
space = record { priority = 0; mutexes = 0; sems = []; cells = 0; absent = []; programs = (End ∷ []) ∷ []; patience = 1 }

-- threads 1 and 2 run, and are about to push threads 3 and 4 on lists 0 and 1, whose locks they hold
abbrev two_holders : Package
two_holders = record {
  def = space;
  processors = 2;
  fetch = 10;
  shared = record {
    state = record {
      space = record { 0 = 0 };
      lists = record { lists = [] ∷ [] ∷ []; locked = true ∷ true ∷ []; made = 5; threads = 5; ranks = [] };
      holders = Some (thread 1) ∷ Some (thread 2) ∷ [];
      code = package_ops;
    };
    sync = opening space;
    threads = at_start 0 Waiting ∷ at_start 0 Running ∷ at_start 0 Running ∷ at_start 0 Waiting ∷ at_start 0 Waiting ∷ [];
    works = replicate 5 [];
  };
}

abbrev holder : ℕ → ℕ → ℕ → Context
holder t l pushes = record {
  state = Code (record { pc = 1; list = Some (processor l); own = true; pushed = Some (thread pushes); thread = Some (thread t) });
  sections = [];
  work = None;
}

abbrev stopped : Context → ℕ → Stopped Context
stopped c t = record { ctx = c; thread = Some (thread t); idle = false }

abbrev of : Package × Context → Pair
of p = pair p.0 p.1

-- the handler that was told of both
abbrev handler : Pair
handler =
    let first = of (told two_holders fresh (Add (processor 0)) None) in
    let second = of (told first.user first.ctx (Preempted (record { 0 = 1 })) (Some (stopped (holder 1 0 3) 1))) in
    let third = of (told second.user second.ctx (Preempted (record { 0 = 2 })) (Some (stopped (holder 2 1 4) 2))) in
    of (answered third.user (seen_at 0) third.ctx)

abbrev s : SpaceNo
s = record { 0 = 0 }

abbrev fourteen : List Record
fourteen =
    Cont s (Some (thread 1)) ∷ ReadyOf s (thread 3) ∷ Free s (processor 0) (Some (thread 1)) ∷ Back s (Some (thread 1))
    ∷ Cont s (Some (thread 2)) ∷ ReadyOf s (thread 4) ∷ Free s (processor 1) (Some (thread 2)) ∷ Back s (Some (thread 2))
    ∷ Take s (processor 0) None ∷ ReadyOf s (thread 1) ∷ Free s (processor 0) None
    ∷ Take s (processor 0) None ∷ ReadyOf s (thread 2) ∷ Free s (processor 0) None ∷ []

-- two stopped holders in one batch
pub two_stopped_holders : says_of 14 handler ≡ fourteen
two_stopped_holders = refl

-- a handler stopped while it continues a section
abbrev again : Pair
again =
    let first = behind 1 handler in
    let second = of (told first.user fresh (Preempted (record { 0 = 3 })) (Some (stopped first.ctx 1))) in
    of (answered second.user (seen_at 0) second.ctx)

pub a_stopped_handler : says_of 14 again ≡ fourteen
a_stopped_handler = refl
